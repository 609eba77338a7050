use Rattle.std.proofs.Common.{◌∙◌, refl, None, map}
use Rattle.deck_run.specs.Opening.{HasTracks, HoldsFirst}
use Rattle.deck_run.proofs.Lines.{open_at}
use Rattle.deck_run.proofs.NewVolumes.{one_made}
use Rattle.image_runner.specs.Racks.{firsts_by}
use Rattle.image_runner.proofs.Begun.{at_most, holds_first}
use Rattle.image_runner.proofs.running.open_volumes.Goals as goal

pub loop-i-init : goal.loop-i-init
loop-i-init g c = record {
  same = refl;
  tracks = rw c.new-volumes.ensures.items tt;
  hold = λ h is. rw c.new-volumes.ensures.items tt;
  count = c.device_count-i-end.ensures;
}

pub add_volume-requires : goal.add_volume-requires
add_volume-requires g c =
    at_most c.device_at-line.result
    (open_at c.args.deck.now.devices c.loop-i.i None c.device_at-line.result (rw c.loop-i.invariant.count at c.loop-i-test.true) c.device_at-line.ensures
    c.requires)

pub loop-i-preserved : goal.loop-i-preserved
loop-i-preserved g c =
    let ds = c.args.deck.now.devices in
    let i = c.loop-i.i in
    let d = c.device_at-line.result in
    let names = map (λ w. w.now) c.args.words.now in
    let olds = c.loop-i.volumes.items in
    let news = c.add_volume.new.volumes.items in
    let inside = rw c.loop-i.invariant.count at c.loop-i-test.true in
    let added = c.in-Ok.ensures.added in
    record {
      same = c.in-Ok.ensures.same ∙ c.loop-i.invariant.same;
      tracks = one_made HasTracks g.V.Volume.view ds i d olds news added.0 inside c.device_at-line.ensures added.1 c.loop-i.invariant.tracks added.2;
      hold = λ h is.
          one_made (HoldsFirst (firsts_by h names) c.args.deck.now) g.V.Volume.view ds i d olds news added.0 inside c.device_at-line.ensures added.1
          (c.loop-i.invariant.hold h is)
          (holds_first (g.R.Rack.holds c.loop-i.rack) h names c.args.deck.now d (g.V.Volume.view added.0) (c.loop-i.invariant.same ∙ is) added.3);
      count = c.loop-i.invariant.count;
    }
