use Rattle.std.proofs.Common.{◌≡◌, drop, map}
use Rattle.image_runner.specs.Words.{path_for}
use Rattle.image_runner.proofs.words.path_for.Given as goal

abbrev pub invariant-loop-word : goal.invariant-loop-word
invariant-loop-word l = path_for (map (λ w. w.now) (drop l.word-index l.words)) l.d ≡ path_for (map (λ w. w.now) l.words) l.d
