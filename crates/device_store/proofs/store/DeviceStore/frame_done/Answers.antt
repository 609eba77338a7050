use Rattle.std.proofs.Common.{refl}
use Rattle.device_outside.proofs.Runs.{asks}
use Rattle.device_defs.specs.Writing.{write_done}
use Rattle.device_store.specs.State.{state_of}
use Rattle.device_store.proofs.Moves.{from_equal}
use Rattle.device_store.proofs.Writes.{clean_is}
use Rattle.device_store.proofs.store.DeviceStore.frame_done.Goals as goal

pub returns-clause-run : goal.returns-clause-run
unfolding write_done
returns-clause-run g c =
    let s = state_of c.args.self.now in
    λ k. rw c.requires.framed (asks c.set_clean.ensures (from_equal (λ z. z) refl refl
    (rw (c.mark.ensures, clean_is s c.args.t _ c.requires.framed) at (c.free_patch.ensures.run k))))
