use Rattle.std.proofs.Common.{◌≡◌}
use Rattle.ckd_rules.specs.Searches.{key_from}
use Rattle.ckd_search.proofs.candidate.key_from.Given as goal

abbrev pub invariant-loop-k : goal.invariant-loop-k
invariant-loop-k l = key_from l.image.track.records l.k ≡ key_from l.image.track.records l.fn.i
