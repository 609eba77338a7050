use Rattle.subsystem_core.specs.Seats.{seat_of}
use Rattle.subsystem_core.proofs.Seating.{alone_alike}
use Rattle.run_trials.proofs.subsystem.subsystem.Goals as goal

pub new-requires-2-clause-alike : goal.new-requires-2-clause-alike
new-requires-2-clause-alike c =
    rw (c.in_ok-push.ensures.items, c.new-devices.ensures.items) (alone_alike (seat_of c.in_ok-device.field-0))
