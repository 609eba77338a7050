-- A table that has a place without an entry has fewer entries than places.
use Rattle.std.proofs.Common.{◌≡◌, ℕ, zero, suc, ◌<◌, ◌≤◌, List, ◌∷◌, length, get_or, sym, ap, ◌∙◌, arith}
use Rattle.std.specs.List.{IsDistinct}
use Rattle.std.specs.Prelude.{eqb}
use Rattle.std.proofs.lemmas.Bool.{eqb-true}
use Rattle.std.proofs.lemmas.Bool.Decides.{Decides-eqb}
use Rattle.std.proofs.lemmas.List.{get_or_default}
use Rattle.std.proofs.lemmas.List.Folds.{Any-from_list_any}
use Rattle.std.proofs.lemmas.Map.Made.{IsDistinct-from_AllPairs}
use Rattle.std.proofs.lemmas.Map.Steps.{length-le_from_distinct_below}
use Rattle.track_table.specs.Sparse.{IsSparse}
use Rattle.track_table.proofs.SparsePlaces.{numbered_inside}

-- where something leads from each number of a list back to its place, no two are the same
all_apart : (back : ℕ → ℕ) (xs : List ℕ) → ((i : ℕ) → i < length xs → back (get_or xs i 0) ≡ i) → IsDistinct eqb xs
all_apart back xs leads = IsDistinct-from_AllPairs Decides-eqb xs (λ i j d before below same. (
    let one : get_or xs i d ≡ get_or xs i 0 = get_or_default xs i d 0 (omega (arith, before, below)) in
    let two : get_or xs j d ≡ get_or xs j 0 = get_or_default xs j d 0 below in
    let e : i ≡ j = sym (leads i (omega (arith, before, below))) ∙ ap back (sym one ∙ same ∙ two) ∙ leads j below in
    omega (arith, e, before)))

few_numbers : (back : ℕ → ℕ) (xs : List ℕ) (n : ℕ) → ((i : ℕ) → i < length xs → back (get_or xs i 0) ≡ i) → ((i : ℕ) → i < length xs → get_or xs i 0 < n) → length xs ≤ n
few_numbers back xs n leads below = length-le_from_distinct_below xs n (all_apart back xs leads) (λ q there.
    let (k, x, inside, is, same) = Any-from_list_any (eqb q) xs there in
    let e : q ≡ get_or xs k 0 = eqb-true q x same ∙ sym is ∙ get_or_default xs k x 0 inside in
    omega (arith, e, below k inside))

-- the track without an entry, and those of the entries
pub few_entries : (count : ℕ) (index tracks : List ℕ) (t : ℕ) → IsSparse count index tracks → t < length index → get_or index t 0 ≡ 0 → count < length index
few_entries count index tracks t sparse inside none =
    let few = few_numbers (λ q. get_or index q 0) (t ∷ tracks) (length index) leads below in
    omega (arith, few, sparse.whole)
  where
    leads : (i : ℕ) → i < length (t ∷ tracks) → get_or index (get_or (t ∷ tracks) i 0) 0 ≡ i
    leads zero _ = none
    leads (suc i) less = sparse.back i (omega (arith, less, sparse.whole))

    below : (i : ℕ) → i < length (t ∷ tracks) → get_or (t ∷ tracks) i 0 < length index
    below zero _ = inside
    below (suc i) less = numbered_inside index (get_or tracks i 0) i (sparse.back i (omega (arith, less, sparse.whole)))
