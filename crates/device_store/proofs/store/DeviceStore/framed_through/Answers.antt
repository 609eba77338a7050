use Rattle.std.proofs.Common.{true, false}
use Rattle.device_outside.specs.Outside.{done}
use Rattle.device_outside.proofs.Runs.{tries, joined}
use Rattle.device_defs.specs.Contents.{contents}
use Rattle.device_defs.specs.Editing.{write, write_chosen}
use Rattle.device_store.specs.Looks.{frame_in}
use Rattle.device_store.specs.State.{state_of}
use Rattle.device_store.proofs.Moves.{had_ok, weaker}
use Rattle.device_store.proofs.store.DeviceStore.framed_through.Goals as goal

pub returns-in-Err-clause-run : goal.returns-in-Err-clause-run
unfolding write
returns-in-Err-clause-run g c = λ p same chosen. rw same (tries false tt done)

pub returns-in-Ok-clause-run : goal.returns-in-Ok-clause-run
unfolding write
returns-in-Ok-clause-run g c = λ p same chosen.
    tries true (had_ok c.through_image.result)
    (joined (write_chosen contents c.args.usage.now c.args.first c.args.t (frame_in (state_of c.args.self.now) c.args.t) c.args.edit)
    (weaker c.through_image.result chosen) c.through_image.ensures.run)
