use Rattle.std.proofs.Common.{◌∙◌, sym}
use Rattle.device_store.specs.State.{state_of}
use Rattle.device_store.proofs.Settling.{goes, stands}
use Rattle.device_store.proofs.store.DeviceStore.settle.Goals as goal

pub returns-then-stands-clause-state : goal.returns-then-stands-clause-state
returns-then-stands-clause-state g c = sym (stands (state_of c.args.self.now) c.args.t (sym c.stands.ensures ∙ c.if-stands.true))

pub returns-clause-state : goal.returns-clause-state
returns-clause-state g c = c.keep_or_lose.ensures.state ∙ sym (goes (state_of c.args.self.now) c.args.t (sym c.stands.ensures ∙ c.if-stands.false))
