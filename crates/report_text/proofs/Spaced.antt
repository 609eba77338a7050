-- Texts of a list behind those of another.
use Rattle.std.proofs.Common.{◌≡◌, ◌∷◌, [], ◌++◌, ℕ, List, refl, sym, ap, ◌∙◌, append_assoc, Option, Result}
use Rattle.std.specs.Prelude.{decimal, map}
use Rattle.std.specs.List.{flat_map}
use Rattle.ckd_outside.specs.Texts.{Moves, Stops, Puts}
use Rattle.ckd_outside.proofs.Lines.{stops_longer, puts_then}
use Rattle.report_text.specs.Words.{all_spaced, spaced}

pub flat_both : {X : Type 0} (f : X → List ℕ) (xs ys : List X) → flat_map f (xs ++ ys) ≡ flat_map f xs ++ flat_map f ys
flat_both f [] ys = refl
flat_both f (x ∷ xs) ys = ap (λ (l : List ℕ). f x ++ l) (flat_both f xs ys) ∙ sym (append_assoc (f x) (flat_map f xs) (flat_map f ys))

pub numbers_spaced : (ns : List ℕ) → flat_map (λ n. spaced (decimal n)) ns ≡ all_spaced (map decimal ns)
numbers_spaced [] = refl
numbers_spaced (n ∷ ns) = ap (λ (l : List ℕ). spaced (decimal n) ++ l) (numbers_spaced ns)

-- some texts, and then a fault in them or others behind them
module _ {X : Type 0} (f : X → List ℕ) (o m n : Option (List ℕ)) (w x y : List ℕ) (xs ys : List X) where
  pub flat_longer : Stops o w n y (flat_map f xs) → Stops o w n y (flat_map f (xs ++ ys))
  flat_longer s = rw (flat_both f xs ys) (stops_longer o n w y (flat_map f xs) (flat_map f ys) s)

  pub flat_then : {T E : Type 0} (r : Result T E) → Moves o w m x (flat_map f xs) → Puts m x n y r (flat_map f ys) → Puts o w n y r (flat_map f (xs ++ ys))
  flat_then r first second = rw (flat_both f xs ys) (puts_then o m n w x y (flat_map f xs) (flat_map f ys) r first second)

-- the same of words
module _ (o m n : Option (List ℕ)) (w x y : List ℕ) (xs ys : List (List ℕ)) where
  pub spaced_longer : Stops o w n y (all_spaced xs) → Stops o w n y (all_spaced (xs ++ ys))
  spaced_longer s = flat_longer spaced o m n w x y xs ys s

  pub spaced_then : {T E : Type 0} (r : Result T E) → Moves o w m x (all_spaced xs) → Puts m x n y r (all_spaced ys) → Puts o w n y r (all_spaced (xs ++ ys))
  spaced_then r first second = flat_then spaced o m n w x y xs ys r first second
