use Rattle.std.proofs.Common.{refl, sym, ◌∙◌}
use Rattle.device_outside.specs.Outside.{done}
use Rattle.device_outside.proofs.Runs.{asks}
use Rattle.device_defs.specs.Contents.{contents}
use Rattle.device_defs.specs.Writing.{slot_freed}
use Rattle.device_store.specs.State.{state_of}
use Rattle.device_store.proofs.Moves.{from_equal}
use Rattle.device_store.proofs.Writes.{slot_is}
use Rattle.device_store.proofs.store.DeviceStore.free_patch.Goals as goal

pub returns-in-None-clause-run : goal.returns-in-None-clause-run
returns-in-None-clause-run g c =
    λ k. from_equal (slot_freed contents (state_of c.args.self.now) c.args.t) (c.in-None.ensures ∙ sym (slot_is _)) refl done

pub returns-in-Some-clause-run : goal.returns-in-Some-clause-run
returns-in-Some-clause-run g c =
    λ k. from_equal (slot_freed contents (state_of c.args.self.now) c.args.t) (c.in-Some.ensures ∙ sym (slot_is _)) refl
    (asks c.free_slot.ensures (rw c.set.ensures done))
