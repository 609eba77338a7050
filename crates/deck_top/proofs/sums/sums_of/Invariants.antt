use Rattle.std.proofs.Common.{◌≡◌, take}
use Rattle.deck_top.specs.Summing.{sums_of}
use Rattle.deck_top.proofs.sums.sums_of.Given as goal

-- those so far
abbrev pub invariant-loop-device : goal.invariant-loop-device
invariant-loop-device g l = l.sums ≡ sums_of (take l.device-index l.devices)
