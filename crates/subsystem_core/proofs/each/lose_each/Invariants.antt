use Rattle.std.proofs.Common.{◌≡◌, take, drop}
use Rattle.device_outside.specs.Keeper.{Heard}
use Rattle.device_defs.specs.Contents.{contents}
use Rattle.device_defs.specs.Events.{lose}
use Rattle.subsystem_core.specs.Comes.{SweptKept}
use Rattle.subsystem_core.specs.Keepers.{spans_of}
use Rattle.subsystem_core.specs.Seats.{seats_of}
use Rattle.subsystem_core.specs.Standing.{StayStanding}
use Rattle.subsystem_core.proofs.each.lose_each.Given as goal

abbrev pub invariant-loop-i : goal.invariant-loop-i
invariant-loop-i g l = record {
  seats : seats_of l.devices ≡ seats_of l.fn.devices;
  spans : spans_of l.devices ≡ spans_of l.fn.devices;
  stands : StayStanding l.fn.devices l.devices;
  rest : drop l.i l.devices ≡ drop l.i l.fn.devices;
  each : SweptKept (Heard g.K.Keep.hears g.K.Keep.takes) (λ x. lose contents x l.loss) l.fn.pool l.fn.keep (take l.i l.fn.devices) (take l.i l.devices)
      l.pool l.keep;
}
