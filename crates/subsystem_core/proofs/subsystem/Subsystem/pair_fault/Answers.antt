use Rattle.std.proofs.Common.{sym}
use Rattle.subsystem_core.proofs.subsystem.Subsystem.pair_fault.Goals as goal

pub returns : goal.returns
returns g c = rw (c.device-first.ensures, c.device-second.ensures) (sym c.pair_fault.ensures)
