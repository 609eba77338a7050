use Rattle.std.proofs.Common.{refl, sym}
use Rattle.device_outside.specs.Outside.{done}
use Rattle.device_defs.specs.Contents.{contents}
use Rattle.device_store.specs.State.{state_of}
use Rattle.device_store.proofs.Moves.{from_equal}
use Rattle.device_store.proofs.Telling.{nothing_told}
use Rattle.device_store.proofs.store.DeviceStore.tell_all.Goals as goal

pub returns-then-are_paid-clause-run : goal.returns-then-are_paid-clause-run
returns-then-are_paid-clause-run g c =
    λ k. from_equal (λ i. i) (sym (nothing_told contents _ (state_of c.args.self.now) (c.are_paid.ensures c.if-are_paid.true))) refl done
