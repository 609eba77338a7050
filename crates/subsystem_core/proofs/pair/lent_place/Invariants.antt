use Rattle.subsystem_core.specs.Pairs.{AreElsewhere}
use Rattle.subsystem_core.proofs.pair.lent_place.Given as goal

abbrev pub invariant-loop-i : goal.invariant-loop-i
invariant-loop-i g l = AreElsewhere l.a l.devices l.i
