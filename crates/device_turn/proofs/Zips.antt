-- Two lists that agree place by place.
use Rattle.std.proofs.Common.{◌≡◌, ◌<◌, zero, suc, ℕ, List, [], ◌∷◌, ◌++◌, Option, Some, length, get_or, set, arith, sym, ap, subst, ◌∙◌}
use Rattle.std.specs.Prelude.{option_to_list}
use Rattle.std.specs.List.{AllZip}

module _ {A B : Type 0} (R : A → B → Type 0) where
  pub zip_at : (xs : List A) (ys : List B) (i : ℕ) (d : A) (e : B) → AllZip R xs ys → i < length xs → R (get_or xs i d) (get_or ys i e)
  zip_at [] [] i d e h low = absurd (omega (arith, low))
  zip_at [] (y ∷ ys) i d e h low = absurd h
  zip_at (x ∷ xs) [] i d e h low = absurd h
  zip_at (x ∷ xs) (y ∷ ys) zero d e h low = h.0
  zip_at (x ∷ xs) (y ∷ ys) (suc i) d e h low = zip_at xs ys i d e h.1 (omega (arith, low))

  pub zip_set : (xs : List A) (ys : List B) (i : ℕ) (d : A) (y : B) → AllZip R xs ys → R (get_or xs i d) y → AllZip R xs (set ys i y)
  zip_set [] [] i d y h r = tt
  zip_set [] (z ∷ ys) i d y h r = absurd h
  zip_set (x ∷ xs) [] i d y h r = absurd h
  zip_set (x ∷ xs) (z ∷ ys) zero d y h r = (r, h.1)
  zip_set (x ∷ xs) (z ∷ ys) (suc i) d y h r = (h.0, zip_set xs ys i d y h.1 r)

  pub zip_snoc : (xs : List A) (ys : List B) (x : A) (y : B) → AllZip R xs ys → R x y → AllZip R (xs ++ x ∷ []) (ys ++ y ∷ [])
  zip_snoc [] [] x y h r = (r, tt)
  zip_snoc [] (z ∷ ys) x y h r = absurd h
  zip_snoc (w ∷ xs) [] x y h r = absurd h
  zip_snoc (w ∷ xs) (z ∷ ys) x y h r = (h.0, zip_snoc xs ys x y h.1 r)

  none_left : (ys : List B) (y : B) → AllZip R [] (ys ++ y ∷ []) → ⊥
  none_left [] y h = h
  none_left (z ∷ ys) y h = h

  none_right : (xs : List A) (x : A) → AllZip R (xs ++ x ∷ []) [] → ⊥
  none_right [] x h = h
  none_right (w ∷ xs) x h = h

  pub zip_last : (xs : List A) (ys : List B) (x : A) (y : B) → AllZip R (xs ++ x ∷ []) (ys ++ y ∷ []) → AllZip R xs ys × R x y
  zip_last [] [] x y h = (tt, h.0)
  zip_last [] (z ∷ ys) x y h = absurd (none_left ys y h.1)
  zip_last (w ∷ xs) [] x y h = absurd (none_right xs x h.1)
  zip_last (w ∷ xs) (z ∷ ys) x y h = let l = zip_last xs ys x y h.1 in ((h.0, l.0), l.1)

  -- one more of both
  pub zip_pushed : (xs new : List A) (ys more : List B) (x : A) (y : B) → AllZip R xs ys → R x y → new ≡ xs ++ x ∷ [] → more ≡ ys ++ y ∷ [] → AllZip R new more
  zip_pushed xs new ys more x y h r e f =
      subst (λ (a : List A). AllZip R a more) (sym e) (subst (λ (b : List B). AllZip R (xs ++ x ∷ []) b) (sym f) (zip_snoc xs ys x y h r))

  -- the last of both
  pub zip_popped : (xs old : List A) (ys before : List B) (o : Option A) (p : Option B) (x : A) (y : B) → AllZip R old before →
      old ≡ xs ++ option_to_list o → o ≡ Some x → before ≡ ys ++ option_to_list p → p ≡ Some y → AllZip R xs ys × R x y
  zip_popped xs old ys before o p x y h e i f j =
      zip_last xs ys x y
      (subst (λ (a : List A). AllZip R a (ys ++ y ∷ [])) (e ∙ ap (λ (o : Option A). xs ++ option_to_list o) i)
      (subst (λ (b : List B). AllZip R old b) (f ∙ ap (λ (o : Option B). ys ++ option_to_list o) j) h))
