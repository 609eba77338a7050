-- Lists of numbers.
use Rattle.std.specs.Prelude.{ℕ, ◌==◌, Bool, true, false, List, [], ◌∷◌, if◌then◌else◌, nat_lt}

unfoldable pub is_in : ℕ → List ℕ → Bool
is_in x [] = false
is_in x (y ∷ ys) = if x == y then true else is_in x ys

-- a number at its place in a rising list
unfoldable pub with_number : ℕ → List ℕ → List ℕ
with_number x [] = x ∷ []
with_number x (y ∷ ys) = if nat_lt y x then y ∷ with_number x ys else x ∷ y ∷ ys

-- without the first x
unfoldable pub less_one : ℕ → List ℕ → List ℕ
less_one x [] = []
less_one x (y ∷ ys) = if x == y then ys else y ∷ less_one x ys

-- without any x
unfoldable pub less_all : ℕ → List ℕ → List ℕ
less_all x [] = []
less_all x (y ∷ ys) = if x == y then less_all x ys else y ∷ less_all x ys
