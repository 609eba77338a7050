use Rattle.std.proofs.Common.{refl}
use Rattle.device_defs.specs.Background.{copy_first}
use Rattle.device_defs.specs.Contents.{contents}
use Rattle.device_store.specs.State.{state_of}
use Rattle.device_store.proofs.Moves.{from_equal}
use Rattle.device_store.proofs.store.DeviceStore.copy_or_stage.Goals as goal

pub returns-in-Some-clause-run : goal.returns-in-Some-clause-run
returns-in-Some-clause-run g c =
    from_equal (copy_first contents (state_of c.args.self.now)) c.in-Some.ensures.least refl (c.copy_one.ensures.run _)

pub returns-in-None-clause-run : goal.returns-in-None-clause-run
returns-in-None-clause-run g c =
    from_equal (copy_first contents (state_of c.args.self.now)) c.in-None.ensures.least refl c.stage_or_destage.ensures.run
