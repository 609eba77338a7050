-- Places of frames and patches, some of which are empty.
use Rattle.std.proofs.Common.{◌≡◌, zero, suc, ℕ, Bool, true, false, List, [], ◌∷◌, Option, Some, None, is_some, set, get_or, refl, ◌⊎◌, inl, inr}

pub some_still : {X : Type 0} (l : List (Option X)) (t q : ℕ) (x : X) → is_some (get_or l q None) ≡ true → is_some (get_or (set l t (Some x)) q None) ≡ true
some_still [] t q x e = absurd (cc)
some_still (y ∷ l) zero zero x e = refl
some_still (y ∷ l) zero (suc q) x e = e
some_still (y ∷ l) (suc t) zero x e = e
some_still (y ∷ l) (suc t) (suc q) x e = some_still l t q x e

pub no_more : {X : Type 0} (l : List (Option X)) (t q : ℕ) → is_some (get_or (set l t None) q None) ≡ true → is_some (get_or l q None) ≡ true
no_more [] t q e = absurd (cc)
no_more (y ∷ l) zero zero e = absurd (cc)
no_more (y ∷ l) zero (suc q) e = e
no_more (y ∷ l) (suc t) zero e = e
no_more (y ∷ l) (suc t) (suc q) e = no_more l t q e

pub none_at : {X : Type 0} (l : List (Option X)) (t : ℕ) → get_or (set l t None) t None ≡ None
none_at [] t = refl
none_at (y ∷ l) zero = refl
none_at (y ∷ l) (suc t) = none_at l t

pub put_at : {X : Type 0} (l : List (Option X)) (t : ℕ) (x : X) → (get_or (set l t (Some x)) t None ≡ Some x) ⊎ (get_or (set l t (Some x)) t None ≡ None)
put_at [] t x = inr refl
put_at (y ∷ l) zero x = inl refl
put_at (y ∷ l) (suc t) x = put_at l t x

pub none_still : {X : Type 0} (l : List (Option X)) (t q : ℕ) → is_some (get_or l q None) ≡ false → is_some (get_or (set l t None) q None) ≡ false
none_still [] t q e = refl
none_still (y ∷ l) zero zero e = refl
none_still (y ∷ l) zero (suc q) e = e
none_still (y ∷ l) (suc t) zero e = e
none_still (y ∷ l) (suc t) (suc q) e = none_still l t q e

pub never : {X : Type 0} (b : Bool) → b ≡ true → b ≡ false → X
never true e f = absurd (cc)
never false e f = absurd (cc)
