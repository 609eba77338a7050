-- Lists of notes that are empty.
use Rattle.std.proofs.Common.{[], ◌≡◌, ◌<◌, ℕ, zero, suc, ◌+◌, List, ◌∷◌, ◌++◌, length, get_or, refl, ap, ◌∙◌, arith}
use Rattle.std.specs.Prelude.{replicate}

one_more : (n : ℕ) → replicate n [] ++ [] ∷ [] ≡ replicate {A = List ℕ} (suc n) []
one_more zero = refl
one_more (suc n) = ap (λ (l : List (List ℕ)). [] ∷ l) (one_more n)

pub pushed : (xs ys : List (List ℕ)) → xs ≡ replicate (length xs) [] → ys ≡ xs ++ [] ∷ [] → length ys ≡ length xs + 1 → ys ≡ replicate (length ys) []
pushed xs ys e f g =
    f ∙ ap (λ (l : List (List ℕ)). l ++ [] ∷ []) e ∙ one_more (length xs) ∙ ap (λ (n : ℕ). replicate n [])
    (let h : suc (length xs) ≡ length ys = omega (arith, g) in h)

pub all_empty : (n : ℕ) (xs : List (List ℕ)) → length xs ≡ n → ((i : ℕ) → i < n → get_or xs i [] ≡ []) → xs ≡ replicate n []
all_empty zero [] e f = refl
all_empty zero (x ∷ xs) e f = absurd (omega (arith, e))
all_empty (suc n) [] e f = absurd (omega (arith, e))
all_empty (suc n) (x ∷ xs) e f =
    ap (λ (l : List ℕ). l ∷ xs) (f zero (omega arith)) ∙ ap (λ (l : List (List ℕ)). [] ∷ l)
    (all_empty n xs (omega (arith, e)) (λ i lt. f (suc i) (omega (arith, lt))))
