-- The words of a text are its first word and those behind the space that ends it; and words found at places.
use Rattle.std.proofs.Common.{[], ◌≡◌, ◌<◌, ◌≤◌, ◌+◌, ◌-◌, ◌==◌, ◌∷◌, ◌++◌, ℕ, zero, suc, List, Bool, true, false}
use Rattle.std.proofs.Common.{Option, length, take, drop, set, map, refl, sym, ap, ◌∙◌, arith, append_assoc}
use Rattle.std.specs.Prelude.{slice_index}
use Rattle.std.specs.List.{slice_split, onto_first}
use Rattle.std.proofs.lemmas.List.Splits.{slice_split-cons_no, slice_split-cons_yes}
use Rattle.std.proofs.lemmas.List.{take_all, take_rest, map-append}
use Rattle.std.proofs.lemmas.Grind.{take-set_at}
use Rattle.report_reading.specs.Places.{cut_words, words_left}

abbrev space : ℕ → Bool
space b = b == 32

is_other : (b : Bool) → ¬ (b ≡ true) → b ≡ false
is_other true h = absurd (h refl)
is_other false h = refl

one_word : (text : List ℕ) → ((k : ℕ) → k < length text → ¬ (space (slice_index text k) ≡ true)) → slice_split space text ≡ text ∷ []
one_word [] h = refl
one_word (b ∷ text) h =
    slice_split-cons_no space b text (is_other (space b) (h zero (omega arith)))
    ∙ ap (onto_first b) (one_word text (λ k inside is. h (suc k) (omega (arith, inside)) is))

word_first : (text : List ℕ) (k : ℕ) → k < length text → ((j : ℕ) → j < k → ¬ (space (slice_index text j) ≡ true)) → space (slice_index text k) ≡ true
    → slice_split space text ≡ take k text ∷ slice_split space (drop (suc k) text)
word_first [] k inside before is = absurd (omega (arith, inside))
word_first (b ∷ text) zero inside before is = slice_split-cons_yes space b text is
word_first (b ∷ text) (suc k) inside before is =
    slice_split-cons_no space b text (is_other (space b) (before zero (omega arith)))
    ∙ ap (onto_first b) (word_first text k (omega (arith, inside)) (λ j low is. before (suc j) (omega (arith, low)) is) is)

pub no_space : (text : List ℕ) → ((k : ℕ) → k < length text → ¬ (space (slice_index text k) ≡ true)) → cut_words text ≡ text ∷ []
unfolding cut_words
no_space text h = one_word text h

pub at_space : (text : List ℕ) (k : ℕ) → k < length text → ((j : ℕ) → j < k → ¬ (space (slice_index text j) ≡ true)) → space (slice_index text k) ≡ true
    → cut_words text ≡ take k text ∷ cut_words (take (length text - (k + 1)) (drop (k + 1) text))
unfolding cut_words
at_space text k inside before is =
    let e : suc k ≡ k + 1 = omega arith in
    word_first text k inside before is
    ∙ ap (λ (n : ℕ). take k text ∷ slice_split space (drop n text)) e
    ∙ ap (λ (l : List ℕ). take k text ∷ slice_split space l) (sym (take_rest text (k + 1)))

-- the words in the first places of a list, and those of what is left; one place more
module _ {X : Type 0} (view : X → List ℕ) where
  pub one_more : (first : List X) (n : ℕ) (w : X) (text left : List ℕ) (more : Option (List ℕ)) → n < length first
      → cut_words text ≡ map view (take n first) ++ cut_words left
      → cut_words left ≡ view w ∷ words_left more
      → cut_words text ≡ map view (take (n + 1) (set first n w)) ++ words_left more
  one_more first n w text left more inside before next =
      let e : map view (take (n + 1) (set first n w)) ≡ map view (take n first) ++ view w ∷ [] =
      ap (map view) (take-set_at first n (n + 1) w refl inside) ∙ map-append view (take n first) (w ∷ []) in
      before
      ∙ ap (λ (l : List (List ℕ)). map view (take n first) ++ l) next
      ∙ sym (append_assoc (map view (take n first)) (view w ∷ []) (words_left more))
      ∙ ap (λ (l : List (List ℕ)). l ++ words_left more) (sym e)

  pub every_place : (first : List X) (n : ℕ) (text left : List ℕ) → 8 ≤ n → length first ≡ 8
      → cut_words text ≡ map view (take n first) ++ cut_words left
      → map view (take 8 first) ++ cut_words left ≡ cut_words text
  every_place first n text left past count is =
      let e : take 8 first ≡ take n first =
      take_all 8 first (omega (arith, count)) ∙ sym (take_all n first (omega (arith, count, past))) in
      ap (λ (l : List X). map view l ++ cut_words left) e ∙ sym is
