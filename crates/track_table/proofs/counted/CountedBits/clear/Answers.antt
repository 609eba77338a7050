use Rattle.std.proofs.Common.{◌∙◌, false, length, ap, sym}
use Rattle.std.proofs.lemmas.List.{length-replicate}
use Rattle.track_table.specs.Bits.{is_marked}
use Rattle.track_table.proofs.Counts.{no_mark}
use Rattle.track_table.proofs.Places.{empty_places}
use Rattle.track_table.proofs.counted.CountedBits.clear.Goals as goal

pub invariant_of-self : goal.invariant_of-self
invariant_of-self c = (
  sym (no_mark 65535 (is_marked c.clear.new.self) (λ t. rw c.clear.ensures (empty_places 65535 t false))),
  ap length c.clear.ensures ∙ length-replicate 65535 false,
)
