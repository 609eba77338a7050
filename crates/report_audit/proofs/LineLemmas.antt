-- Where the first line of a report ends.
use Rattle.std.proofs.Common.{[], ◌≡◌, ◌≢◌, ◌<◌, ◌+◌, ◌-◌, length-drop, ◌∷◌, ℕ, suc, List, length, get_or, take, drop, arith, sym, ap, ◌∙◌}
use Rattle.std.proofs.lemmas.Bool.Decides.{nat_tests}
use Rattle.std.proofs.lemmas.List.{take_all}
use Rattle.deck_text.specs.Lines.{onto_first}
use Rattle.deck_audit.specs.Verdict.{cut_lines}

goes_onto : (b : ℕ) (bytes : List ℕ) → b ≢ 10 → cut_lines (b ∷ bytes) ≡ onto_first b (cut_lines bytes)
goes_onto b bytes ne = grind (arith, nat_tests)

pub no_split : (text : List ℕ) → ((k : ℕ) → k < length text → get_or text k 0 ≢ 10) → 0 < length text → cut_lines text ≡ text ∷ []
no_split [] none some = absurd (omega arith)
no_split (b ∷ []) none some = goes_onto b [] (none 0 (omega arith))
no_split (b ∷ c ∷ bytes) none some =
    goes_onto b (c ∷ bytes) (none 0 (omega arith))
    ∙ ap (λ (l : List (List ℕ)). onto_first b l) (no_split (c ∷ bytes) (λ k h. none (suc k) (omega (arith, h))) (omega arith))

-- what is left from a place on
pub rest_from : (text : List ℕ) (i : ℕ) → take (length text - i) (drop i text) ≡ drop i text
rest_from text i = take_all (length text - i) (drop i text) (omega (arith, length-drop i text))

pub whole_rest : (text : List ℕ) (i : ℕ) → drop (suc i) text ≡ take (length text - (i + 1)) (drop (i + 1) text)
whole_rest text i = ap (λ (k : ℕ). drop k text) (let e : suc i ≡ i + 1 = omega arith in e) ∙ sym (rest_from text (i + 1))
