use Rattle.std.proofs.Common.{◌≡◌, ◌∙◌, false, length, ap, sym}
use Rattle.std.specs.Prelude.{replicate}
use Rattle.std.proofs.lemmas.List.{length-replicate}
use Rattle.track_table.specs.Bits.{is_marked}
use Rattle.track_table.proofs.Counts.{no_mark}
use Rattle.track_table.proofs.Places.{empty_places}
use Rattle.track_table.proofs.counted.CountedBits.new.Goals as goal

pub invariant_of-result : goal.invariant_of-result
invariant_of-result c =
    let none : c.in_ok-new.field-0 ≡ replicate 65535 false = c.in_ok-new.ensures in (
      sym (no_mark 65535 (is_marked c.in_ok-new.field-0) (λ t. rw none (empty_places 65535 t false))),
      ap length none ∙ length-replicate 65535 false,
    )
