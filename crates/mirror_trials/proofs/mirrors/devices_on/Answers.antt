use Rattle.subsystem_core.specs.Seats.{seat_of}
use Rattle.subsystem_core.proofs.Seating.{alone_alike}
use Rattle.mirror_trials.proofs.mirrors.devices_on.Goals as goal

pub new-requires-3-clause-alike : goal.new-requires-3-clause-alike
new-requires-3-clause-alike c = rw (c.in_ok-push-3.ensures.items, c.new-all.ensures.items) (alone_alike (seat_of c.in-Ok.device))
