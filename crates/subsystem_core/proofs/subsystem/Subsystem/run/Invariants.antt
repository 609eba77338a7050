use Rattle.std.proofs.Common.{◌≡◌, ◌≤◌, ◌+◌, length, take}
use Rattle.subsystem_core.specs.Devices.{numbers_of}
use Rattle.subsystem_core.specs.Runs.{Runs}
use Rattle.subsystem_core.specs.Standing.{StayStanding}
use Rattle.subsystem_core.proofs.subsystem.Subsystem.run.Given as goal

abbrev pub invariant-loop-e : goal.invariant-loop-e
invariant-loop-e g l = record {
  numbers : numbers_of l.self.devices.items ≡ numbers_of l.fn.self.devices.items;
  stands : StayStanding l.fn.self.devices.items l.self.devices.items;
  room : length l.events ≤ l.ends.spare + l.e-index;
  ran : Runs (take l.e-index l.events) l.fn.self l.ends.items l.self;
}
