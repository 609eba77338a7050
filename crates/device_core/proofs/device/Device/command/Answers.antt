use Rattle.device_store.proofs.Moves.{heard_alone}
use Rattle.device_laws.proofs.counted.Calls.{ends_as_seen}
use Rattle.device_core.specs.State.{device_of}
use Rattle.device_core.proofs.FastWrites.{fast_writes_none}
use Rattle.device_core.proofs.Promising.{command_ends}
use Rattle.device_core.proofs.device.Device.command.Goals as goal

pub returns-clause-run : goal.returns-clause-run
returns-clause-run g c = λ k. heard_alone c.command_with.ensures.run

pub returns-clause-ends_as_seen : goal.returns-clause-ends_as_seen
returns-clause-ends_as_seen g c = λ k. ends_as_seen _ _ _ (returns-clause-run g c k)

pub returns-clause-ends : goal.returns-clause-ends
returns-clause-ends g c past first stands k =
    command_ends c.args.self.now c.args.self.now c.requires.running c.requires.whole c.recall_chain.ensures (returns-clause-ends_as_seen g c k) past first stands

pub returns-clause-fast_writes_none : goal.returns-clause-fast_writes_none
returns-clause-fast_writes_none g c past first stands k = fast_writes_none (device_of c.args.self.now) (returns-clause-ends g c past first stands k)
