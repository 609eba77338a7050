-- The first of some seats, and the others.
use Rattle.std.proofs.Common.{◌≡◌, ◌<◌, List, [], ◌∷◌, ◌++◌, length, drop, get_or, set, refl, sym, subst, arith}
use Rattle.std.specs.List.{AllZip}

module _ {A B : Type 0} (R : A → B → Type 0) where
  -- what all keep the first does, and so do the others
  pub zip_apart : (xs : List A) (ys first others : List B) (x : A) (y : B) → AllZip R xs ys → ys ≡ first ++ others → length first ≡ 1 → 0 < length xs →
      R (get_or xs 0 x) (get_or first 0 y) × AllZip R (drop 1 xs) others
  zip_apart [] ys first others x y h is one some = absurd (omega (arith, some))
  zip_apart (w ∷ xs) ys [] others x y h is one some = absurd (omega (arith, one))
  zip_apart (w ∷ xs) ys (z ∷ []) others x y h is one some = subst (λ (l : List B). AllZip R (w ∷ xs) l) is h
  zip_apart (w ∷ xs) ys (z ∷ v ∷ first) others x y h is one some = absurd (omega (arith, one))

  pub zip_first : (xs : List A) (ys first others : List B) (x : A) (y : B) → AllZip R xs ys → ys ≡ first ++ others → length first ≡ 1 → 0 < length xs →
      x ≡ get_or xs 0 x → R x (get_or first 0 y)
  zip_first xs ys first others x y h is one some x_is =
      subst (λ (a : A). R a (get_or first 0 y)) (sym x_is) (zip_apart xs ys first others x y h is one some).0

  -- the first was changed, and the others were
  pub zip_together : (ys first others : List A) (new behind : List B) (y : A) (z : B) → ys ≡ first ++ others → length first ≡ 1 → R (get_or first 0 y) z →
      new ≡ z ∷ [] → AllZip R others behind → AllZip R ys (new ++ behind)
  zip_together ys [] others new behind y z is one r new_is h = absurd (omega (arith, one))
  zip_together ys (x ∷ []) others new behind y z is one r new_is h =
      subst (λ (l : List A). AllZip R l (new ++ behind)) (sym is)
      (subst (λ (l : List B). AllZip R (x ∷ others) (l ++ behind)) (sym new_is) (r, h))
  zip_together ys (x ∷ v ∷ first) others new behind y z is one r new_is h = absurd (omega (arith, one))

-- the only one was changed
pub one_set : {A : Type 0} (first : List A) (x d : A) → length first ≡ 1 → get_or (set first 0 x) 0 d ≡ x
one_set [] x d one = absurd (omega (arith, one))
one_set (y ∷ first) x d one = refl

pub only_set : {A : Type 0} (first : List A) (x : A) → length first ≡ 1 → set first 0 x ≡ x ∷ []
only_set [] x one = absurd (omega (arith, one))
only_set (y ∷ []) x one = refl
only_set (y ∷ z ∷ first) x one = absurd (omega (arith, one))
