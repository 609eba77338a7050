-- What is drawn of a list, item by item, by what was drawn before.
use Rattle.std.specs.Prelude.{ℕ, ◌+◌, min, List, [], ◌∷◌, ◌++◌}

-- the next number, of 64 bits
abbrev pub following : ℕ → ℕ
following i = min (i + 1) 18446744073709551615

-- the text of all items, numbered from i
abbrev pub drawn : {S T : Type 0} → (S → ℕ → T → List ℕ) → (S → ℕ → T → S) → S → ℕ → List T → List ℕ
drawn text next s i [] = []
drawn text next s i (x ∷ xs) = text s i x ++ drawn text next (next s i x) (following i) xs

-- what stands after them
abbrev pub drawn_to : {S T : Type 0} → (S → ℕ → T → S) → S → ℕ → List T → S
drawn_to next s i [] = s
drawn_to next s i (x ∷ xs) = drawn_to next (next s i x) (following i) xs
