use Rattle.std.proofs.Common.{◌≡◌, drop}
use Rattle.deck_audit.specs.Place.{in_power}
use Rattle.deck_audit.proofs.place.in_power.Given as goal

-- the devices so far are passed over
abbrev pub invariant-loop-a : goal.invariant-loop-a
invariant-loop-a l = in_power l.line (drop l.a-index l.devices) ≡ in_power l.line l.devices
