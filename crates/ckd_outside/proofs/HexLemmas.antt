-- The hex text of some bytes in two parts, and of none.
use Rattle.std.proofs.Common.{◌≡◌, ◌∷◌, [], ◌++◌, ℕ, List, refl, ap, ◌∙◌}
use Rattle.hex.specs.Hex.{encode_upper, encode_with}

pub hex_end : encode_upper [] ≡ []
unfolding encode_with
hex_end = refl

pub hex_both : (xs ys : List ℕ) → encode_upper (xs ++ ys) ≡ encode_upper xs ++ encode_upper ys
unfolding encode_with
hex_both [] ys = refl
hex_both (x ∷ xs) ys = rw (hex_both xs ys) refl

pub hex_parts : (xs front back : List ℕ) → xs ≡ front ++ back → encode_upper xs ≡ encode_upper front ++ encode_upper back
hex_parts xs front back is = ap encode_upper is ∙ hex_both front back

pub hex_none : (xs : List ℕ) → xs ≡ [] → encode_upper xs ≡ []
hex_none xs is = ap encode_upper is ∙ hex_end
