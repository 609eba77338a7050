use Rattle.std.proofs.Common.{◌≡◌, ◌<◌, ◌∙◌, true, length, refl, sym, ap, arith}
use Rattle.std.proofs.lemmas.List.{length-set, length-take-le}
use Rattle.duplex_pair.proofs.Fronts.{one_more, all_marked}
use Rattle.event_notes.proofs.Loosely.{none_behind}
use Rattle.duplex_pair.proofs.marks.StaleMarks.mark_all.Goals as goal

pub loop-t-init : goal.loop-t-init
loop-t-init c = record {
  tracks = refl;
  size = c.self.invariant.1;
  front = λ q lt. absurd (omega (arith, lt));
  behind = c.self.invariant.2;
}

pub loop-t-preserved : goal.loop-t-preserved
loop-t-preserved c =
    let i = c.loop-t.invariant in
    let n = c.loop-t.self-inside.tracks in
    let marks = c.loop-t.self-inside.marks in
    let here : c.track.result < n = omega (arith, c.loop-t-test.true, c.loop-t.auto.t-end, i.tracks, c.track.ensures) in record {
      tracks = i.tracks;
      size = ap length c.set.ensures.marks ∙ length-set marks c.track.result true ∙ i.size;
      front = one_more marks c.set.new.self c.loop-t.t c.track.result c.track.ensures i.front c.set.ensures.each;
      behind = none_behind marks c.set.new.self n c.track.result true here i.behind c.set.ensures.each;
    }

pub returns : goal.returns
returns c =
    let i = c.loop-t.invariant in
    let n = c.loop-t.self-inside.tracks in
    let tracks : length c.args.self.now ≡ n = ap length (sym c.self.view_is)
    ∙ length-take-le c.self.inside.tracks c.self.inside.marks (omega (arith, c.self.invariant.0, c.self.invariant.1))
    ∙ sym i.tracks in
    rw tracks (all_marked n c.loop-t.self-inside.marks (omega (arith, i.tracks, c.self.invariant.0)) i.size
    (λ q lt. i.front q (omega (arith, lt, c.loop-t-test.false, c.loop-t.auto.t-end, i.tracks))))
