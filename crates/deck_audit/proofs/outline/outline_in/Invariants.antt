use Rattle.std.proofs.Common.{◌≡◌, drop}
use Rattle.deck_audit.specs.Place.{outline_in}
use Rattle.deck_audit.proofs.outline.outline_in.Given as goal

-- the device isn't among those so far
abbrev pub invariant-loop-a : goal.invariant-loop-a
invariant-loop-a l = outline_in (drop l.a-index l.devices) l.d ≡ outline_in l.devices l.d
