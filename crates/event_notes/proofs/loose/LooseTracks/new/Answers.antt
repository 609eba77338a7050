use Rattle.std.proofs.Common.{◌≡◌, ◌*◌, ◌≤◌, false, length, refl, ap, ◌∙◌, arith}
use Rattle.std.proofs.lemmas.List.{length-replicate, take-replicate}
use Rattle.track_table.specs.Bits.{is_marked}
use Rattle.track_table.specs.Tracks.{count_below}
use Rattle.track_table.proofs.Places.{empty_places}
use Rattle.event_notes.proofs.Counted.{count_none}
use Rattle.event_notes.proofs.loose.LooseTracks.new.Goals as goal

pub invariant_of-result : goal.invariant_of-result
invariant_of-result c =
    let tracks : c.from.result * c.from-2.result ≡ c.args.cylinders * 15 = rw (c.from.ensures, c.from-2.ensures) refl in
    let none : count_below 65535 (is_marked c.in_ok-new.field-0) ≡ 0 = count_none 65535 (is_marked c.in_ok-new.field-0) (λ t. rw c.in_ok-new.ensures (empty_places 65535 t false)) in (
      omega (arith, tracks, c.requires),
      ap length c.in_ok-new.ensures ∙ length-replicate 65535 false,
      λ t behind. rw c.in_ok-new.ensures (empty_places 65535 t false),
      rw none (omega (arith, c.new-2.ensures.len)),
    )

pub returns-clause-loose : goal.returns-clause-loose
returns-clause-loose c =
    let few : c.args.cylinders * 15 ≤ 65535 = omega (arith, c.requires) in
    rw (c.from.ensures, c.from-2.ensures, c.in_ok-new.ensures) (take-replicate (c.args.cylinders * 15) 65535 false few)
