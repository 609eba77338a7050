-- The rows of the tracks so far, and one more.
use Rattle.std.proofs.Common.{◌≡◌, ℕ, ◌+◌, List, [], ◌∷◌, ◌++◌, length, ap, arith}
use Rattle.track_image.specs.Image.{Image}
use Rattle.volume_texts.specs.declared.listing.Row.{Row}
use Rattle.volume_texts.specs.List.{row_of, rows_from}

pub rows_push : (t n : ℕ) (images : List Image) (i : Image) → n ≡ t + length images
    → rows_from t (images ++ i ∷ []) ≡ rows_from t images ++ row_of n i ∷ []
rows_push t n [] i is = ap (λ (x : ℕ). row_of x i ∷ []) (omega (arith, is))
rows_push t n (j ∷ images) i is = ap (λ (l : List Row). row_of t j ∷ l) (rows_push (t + 1) n images i (omega (arith, is)))
