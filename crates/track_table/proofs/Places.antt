-- Lists with a place for each track.
use Rattle.std.proofs.Common.{◌≡◌, ℕ, ◌+◌, ◌-◌, ◌<◌, ◌==◌, inl, inr, Bool, cond, List, [], ◌∷◌, ◌++◌, length, get_or, refl, sym, ap, ◌∙◌, append_assoc, arith}
use Rattle.std.specs.Prelude.{replicate}
use Rattle.std.proofs.Math.ListN.{set}
use Rattle.std.proofs.lemmas.Bool.{cases_eq, cases_lt, eq-eqb, ne_eqb}
use Rattle.std.proofs.lemmas.List.{
  replicate-append-replicate,
  length-replicate,
  get_or-replicate,
  get_or_past,
  get_or_append_left,
  get_or-append_right,
  get_or-set_same,
  get_or-set_other,
  set-set,
  set-get_or,
}

pub one_more_place : {X : Type 0} (xs : List X) (n : ℕ) (x : X) → (xs ++ replicate n x) ++ x ∷ [] ≡ xs ++ replicate (n + 1) x
one_more_place xs n x = append_assoc xs (replicate n x) (x ∷ []) ∙ ap (λ ys. xs ++ ys) (replicate-append-replicate n 1 x)

-- places that have nothing
pub empty_places : {X : Type 0} (n q : ℕ) (d : X) → get_or (replicate n d) q d ≡ d
empty_places n q d = elim (cases_lt q n) [
  | inl below ↦ get_or-replicate n q d d below
  | inr past ↦ get_or_past
      (replicate n d) q d (omega (arith, length-replicate n d))
]

pub more_places : {X : Type 0} (xs : List X) (n q : ℕ) (d : X) → get_or (xs ++ replicate n d) q d ≡ get_or xs q d
more_places xs n q d = elim (cases_lt q (length xs)) [
  | inl front ↦ get_or_append_left xs (replicate n d) d q front
  | inr behind ↦ get_or-append_right xs (replicate n d) (length xs) q d refl behind ∙ empty_places n (q - length xs) d ∙ sym (get_or_past xs q d behind)
]

-- a test of each place, after one was changed
pub place_set : {X : Type 0} (p : X → Bool) (xs : List X) (t q : ℕ) (x d : X) → t < length xs →
    p (get_or (set xs t x) q d) ≡ cond (q == t) (p x) (p (get_or xs q d))
place_set p xs t q x d there = elim (cases_eq q t) [
  | inl e ↦ rw (e, get_or-set_same xs t x d there, eq-eqb t t refl) refl
  | inr other ↦ rw (get_or-set_other xs t q x d other, ne_eqb q t other) refl
]

-- of two changes of one place the second stays
pub set_again : {X : Type 0} (xs : List X) (i : ℕ) (x y : X) → set (set xs i x) i y ≡ set xs i y
set_again xs i x y = set-set xs i x y

-- a place that is what it is to become
pub set_same : {X : Type 0} (xs : List X) (i : ℕ) (x : X) → get_or xs i x ≡ x → xs ≡ set xs i x
set_same xs i x e = sym (set-get_or xs i x) ∙ ap (λ y. set xs i y) e
