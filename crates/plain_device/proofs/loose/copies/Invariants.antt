use Rattle.std.proofs.Common.{◌≡◌, take}
use Rattle.plain_device.proofs.loose.copies.Given as goal

abbrev pub invariant-loop-l : goal.invariant-loop-l
invariant-loop-l l = l.made.items ≡ take l.l-index l.loose
