use Rattle.std.proofs.Common.{◌≡◌, drop}
use Rattle.subsystem_core.specs.Devices.{numbers_of}
use Rattle.subsystem_core.specs.Places.{may_all_come}
use Rattle.subsystem_core.proofs.subsystem.Subsystem.may_all_come.Given as goal

abbrev pub invariant-loop-e : goal.invariant-loop-e
invariant-loop-e g l =
    may_all_come (numbers_of l.self.devices.items) (drop l.e-index l.events) ≡ may_all_come (numbers_of l.self.devices.items) l.events
