use Rattle.std.proofs.Common.{true}
use Rattle.device_outside.proofs.Runs.{tries, joined}
use Rattle.device_defs.specs.Contents.{contents}
use Rattle.device_defs.specs.Editing.{write, write_chosen}
use Rattle.device_store.specs.Looks.{frame_in}
use Rattle.device_store.specs.State.{state_of}
use Rattle.device_store.proofs.Moves.{had_ok, weaker}
use Rattle.device_store.proofs.store.DeviceStore.chosen_framed.Goals as goal

pub returns-in-Provisional-clause-run : goal.returns-in-Provisional-clause-run
unfolding write
returns-in-Provisional-clause-run g c =
    tries true (had_ok c.framed_loose.result)
    (joined (write_chosen contents c.args.usage.now c.args.first c.args.t (frame_in (state_of c.args.self.now) c.args.t) c.args.edit)
    (weaker c.framed_loose.result (c.choose-choice.ensures.run _))
    (rw c.in-Provisional.is (c.framed_loose.ensures.run c.args.usage.now c.args.first)))

pub returns-in-Fast-clause-run : goal.returns-in-Fast-clause-run
unfolding write
returns-in-Fast-clause-run g c =
    tries true (had_ok c.framed_fast.result)
    (joined (write_chosen contents c.args.usage.now c.args.first c.args.t (frame_in (state_of c.args.self.now) c.args.t) c.args.edit)
    (weaker c.framed_fast.result (c.choose-choice.ensures.run _))
    (rw c.in-Fast.is (c.framed_fast.ensures.run c.args.usage.now c.args.first)))

pub returns-in-Through-clause-run : goal.returns-in-Through-clause-run
returns-in-Through-clause-run g c =
    c.framed_through.ensures.run _ (c.choose-choice.ensures.same c.in-Through.is) (rw c.in-Through.is at (c.choose-choice.ensures.run c.args.keep.now))
