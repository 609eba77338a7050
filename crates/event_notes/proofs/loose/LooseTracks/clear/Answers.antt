use Rattle.std.proofs.Common.{◌≡◌, false, List, Bool, replicate, length, sym, ap, ◌∙◌, arith}
use Rattle.std.proofs.lemmas.List.{length-replicate, length-take-le, take-replicate}
use Rattle.track_table.specs.Bits.{is_marked}
use Rattle.track_table.specs.Tracks.{count_below}
use Rattle.track_table.proofs.Places.{empty_places}
use Rattle.event_notes.proofs.Counted.{count_none}
use Rattle.event_notes.proofs.Loosely.{counted}
use Rattle.event_notes.proofs.loose.LooseTracks.clear.Goals as goal

none : (marks : List Bool) → marks ≡ replicate 65535 false → count_below 65535 (is_marked marks) ≡ 0
none marks e = count_none 65535 (is_marked marks) (λ t. rw e (empty_places 65535 t false))

pub invariant_of-self : goal.invariant_of-self
invariant_of-self c =
    let i = c.self.invariant in
    let no_more = none c.clear.new.self c.clear.ensures in (
      i.0,
      ap length c.clear.ensures ∙ length-replicate 65535 false,
      λ t behind. rw c.clear.ensures (empty_places 65535 t false),
      omega (arith, no_more, i.3),
    )

pub returns-clause-loose : goal.returns-clause-loose
returns-clause-loose c =
    let n = c.self.inside.tracks in
    let marks = c.self.inside.marks in
    let tracks : length c.args.self.now.loose ≡ n = ap (λ v. length v.loose) (sym c.self.view_is)
    ∙ length-take-le n marks (omega (arith, c.self.invariant.0, c.self.invariant.1)) in
    rw (c.clear.ensures, tracks) (take-replicate n 65535 false c.self.invariant.0)

pub returns-clause-weight : goal.returns-clause-weight
returns-clause-weight c =
    let i = c.self.invariant in
    let no_more = none c.clear.new.self c.clear.ensures in
    let now = counted c.clear.new.self c.self.inside.tracks (λ t behind. rw c.clear.ensures (empty_places 65535 t false)) in
    omega (arith, no_more, now, ap (λ v. length v.acts) c.self.view_is)
