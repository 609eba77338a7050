use Rattle.std.proofs.Common.{◌≡◌, drop}
use Rattle.plain_defs.specs.Loose.{is_loose_in}
use Rattle.plain_device.specs.Volume.{loose_of}
use Rattle.plain_device.proofs.loose.is_among.Given as goal

-- it isn't one of those so far
abbrev pub invariant-loop-l : goal.invariant-loop-l
invariant-loop-l l = is_loose_in (loose_of (drop l.l-index l.loose)) l.t ≡ is_loose_in (loose_of l.loose) l.t
