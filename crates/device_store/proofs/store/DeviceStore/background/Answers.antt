use Rattle.std.proofs.Common.{refl, sym}
use Rattle.device_store.specs.State.{state_of}
use Rattle.device_store.proofs.Moves.{from_equal}
use Rattle.device_store.proofs.Writes.{work_recovers, work_copies}
use Rattle.device_store.proofs.store.DeviceStore.background.Goals as goal

pub returns-in-Some-clause-run : goal.returns-in-Some-clause-run
returns-in-Some-clause-run g c =
    from_equal (λ i. i) (sym (work_recovers (state_of c.args.self.now) c.in-Some.t (sym c.in-Some.ensures.least))) refl c.recover.ensures.run

pub returns-in-None-clause-run : goal.returns-in-None-clause-run
returns-in-None-clause-run g c =
    from_equal (λ i. i) (sym (work_copies (state_of c.args.self.now) (sym c.in-None.ensures.least))) refl c.copy_or_stage.ensures.run
