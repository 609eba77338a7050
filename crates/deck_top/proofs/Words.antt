-- Two words name no task.
use Rattle.std.proofs.Common.{◌≡◌, ℕ, List, [], ◌∷◌, length, None, refl, arith}
use Rattle.deck_top.specs.Answers as A
use Rattle.deck_top.specs.Answers.{task_of}

pub two_words : (words : List (List ℕ)) → length words ≡ 2 → task_of words ≡ None
unfolding A.task_of
two_words [] two = absurd (omega (arith, two))
two_words (word ∷ []) two = absurd (omega (arith, two))
two_words (word ∷ other ∷ []) two = refl
two_words (word ∷ other ∷ third ∷ words) two = absurd (omega (arith, two))
