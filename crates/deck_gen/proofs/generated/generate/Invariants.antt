use Rattle.deck_gen.proofs.Lists.{IsMade}
use Rattle.deck_gen.proofs.generated.generate.Given as goal

abbrev pub invariant-loop-n : goal.invariant-loop-n
invariant-loop-n l = IsMade l.fn.seed l.programs l.n l.x l.deck
