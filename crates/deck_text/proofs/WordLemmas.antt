-- Where the first word of a line ends.
use Rattle.std.proofs.Common.{◌≡◌, ◌≢◌, ◌<◌, ◌∷◌, [], ℕ, zero, suc, List, length, get_or, take, drop, refl, arith, ap, ◌∙◌, ◌≤◌, inl, inr, drop_of_length-le}
use Rattle.std.proofs.lemmas.Bool.{cases_lt}
use Rattle.std.proofs.lemmas.List.{take_all}
use Rattle.std.proofs.lemmas.Bool.Decides.{nat_tests}
use Rattle.deck_text.specs.Lines.{onto_first}
use Rattle.deck_text.specs.Words.{words_of, word_and}

-- a letter before a space, and before another letter
last_letter : (b c : ℕ) (bytes : List ℕ) → b ≢ 32 → c ≡ 32 → words_of (b ∷ c ∷ bytes) ≡ (b ∷ []) ∷ words_of (c ∷ bytes)
last_letter b c bytes ne is = grind (arith, nat_tests)

only_letter : (b : ℕ) → b ≢ 32 → words_of (b ∷ []) ≡ (b ∷ []) ∷ []
only_letter b ne = grind (arith, nat_tests)

more_letters : (b c : ℕ) (bytes : List ℕ) → b ≢ 32 → c ≢ 32 → words_of (b ∷ c ∷ bytes) ≡ onto_first b (words_of (c ∷ bytes))
more_letters b c bytes ne nc = grind (arith, nat_tests)

cut_at : (line : List ℕ) (i : ℕ) → ((k : ℕ) → k < suc i → get_or line k 0 ≢ 32) → suc i < length line → get_or line (suc i) 0 ≡ 32
    → words_of line ≡ take (suc i) line ∷ words_of (drop (suc i) line)
cut_at [] i none lt is = absurd (omega arith)
cut_at (b ∷ []) i none lt is = absurd (omega arith)
cut_at (b ∷ c ∷ bytes) zero none lt is = last_letter b c bytes (none 0 (omega arith)) is
cut_at (b ∷ c ∷ bytes) (suc i) none lt is =
    more_letters b c bytes (none 0 (omega arith)) (none 1 (omega arith))
    ∙ ap (λ (l : List (List ℕ)). onto_first b l) (cut_at (c ∷ bytes) i (λ k h. none (suc k) (omega arith)) (omega arith) is)

word_cut : (line : List ℕ) (i : ℕ) → ((k : ℕ) → k < i → get_or line k 0 ≢ 32) → i < length line → get_or line i 0 ≡ 32 → get_or line 0 0 ≢ 32
    → words_of line ≡ word_and (take i line) (words_of (drop i line))
word_cut [] i none lt is first = absurd (omega arith)
word_cut (b ∷ bytes) zero none lt is first = absurd (first is)
word_cut (b ∷ bytes) (suc i) none lt is first = cut_at (b ∷ bytes) i none lt is

one_only : (b : ℕ) (bytes : List ℕ) → ((k : ℕ) → k < suc (length bytes) → get_or (b ∷ bytes) k 0 ≢ 32) → words_of (b ∷ bytes) ≡ (b ∷ bytes) ∷ []
one_only b [] none = only_letter b (none 0 (omega arith))
one_only b (c ∷ bytes) none =
    more_letters b c bytes (none 0 (omega arith)) (none 1 (omega arith))
    ∙ ap (λ (l : List (List ℕ)). onto_first b l) (one_only c bytes (λ k h. none (suc k) (omega arith)))

word_only : (line : List ℕ) → ((k : ℕ) → k < length line → get_or line k 0 ≢ 32) → words_of line ≡ word_and line []
word_only [] none = refl
word_only (b ∷ bytes) none = one_only b bytes (λ k h. none k (omega arith))

-- the word up to the first space, or to the end
pub word_first : (line : List ℕ) (i : ℕ) → i ≤ length line → ((k : ℕ) → k < i → get_or line k 0 ≢ 32) → (i < length line → get_or line i 0 ≡ 32)
    → get_or line 0 0 ≢ 32 → words_of line ≡ word_and (take i line) (words_of (drop i line))
word_first line i most none stands first = elim (cases_lt i (length line)) [
  | inl lt ↦ word_cut line i none lt (stands lt) first
  | inr ge ↦ rw (take_all i line ge, drop_of_length-le line ge) (word_only line (λ k h. none k (omega (arith, ge))))
]
