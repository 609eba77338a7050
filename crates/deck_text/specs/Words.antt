-- The words of a line, between one or more spaces.
use Rattle.std.specs.Prelude.{ℕ, ◌==◌, List, [], ◌∷◌, slice_index_or, Option, Some, None, if◌then◌else◌}
use Rattle.deck_text.specs.Lines.{onto_first}

-- behind the last byte stands a space, as it were
abbrev pub words_of : List ℕ → List (List ℕ)
words_of [] = []
words_of (b ∷ bytes) =
    if b == 32 then words_of bytes
    else if slice_index_or bytes 0 32 == 32 then (b ∷ []) ∷ words_of bytes
    else onto_first b (words_of bytes)

-- a word before others; an empty one says that there are none
abbrev pub word_and : List ℕ → List (List ℕ) → List (List ℕ)
word_and [] words = []
word_and (b ∷ word) words = (b ∷ word) ∷ words

-- exactly so many words
abbrev pub one_word : List (List ℕ) → Option (List ℕ)
one_word [] = None
one_word (a ∷ []) = Some a
one_word (a ∷ b ∷ words) = None

abbrev pub two_words : List (List ℕ) → Option (List ℕ × List ℕ)
two_words [] = None
two_words (a ∷ []) = None
two_words (a ∷ b ∷ []) = Some (a, b)
two_words (a ∷ b ∷ c ∷ words) = None

abbrev pub three_words : List (List ℕ) → Option (List ℕ × List ℕ × List ℕ)
three_words [] = None
three_words (a ∷ []) = None
three_words (a ∷ b ∷ []) = None
three_words (a ∷ b ∷ c ∷ []) = Some (a, b, c)
three_words (a ∷ b ∷ c ∷ d ∷ words) = None
