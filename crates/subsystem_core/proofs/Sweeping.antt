-- Devices that are swept, one after another.
use Rattle.std.proofs.lemmas.List.{take_all}
use Rattle.std.proofs.Common.{◌≡◌, ◌<◌, ◌≤◌, ℕ, zero, suc, List, [], ◌∷◌, length, get_or, set, take, drop, arith, ◌∙◌, subst}
use Rattle.device_outside.specs.declared.volume.Volume.{Ghosts}
use Rattle.device_core.specs.declared.device.Device.{Device}
use Rattle.subsystem_core.specs.Comes.{SweptBy, over, next}

first_same : {X : Type 0} {x y : X} {xs ys : List X} → x ∷ xs ≡ y ∷ ys → x ≡ y
first_same e = cc

others_same : {X : Type 0} {x y : X} {xs ys : List X} → x ∷ xs ≡ y ∷ ys → xs ≡ ys
others_same e = cc

module _ {V : Type 0} {G : Ghosts V} {S : Type 0} (how : S → Device V G → Device V G → S → Type 0) where
  one_first : {p q : S} (r : S) (x y : Device V G) → how q x y r → SweptBy how p [] [] q →
      SweptBy how p (x ∷ []) (y ∷ []) r
  one_first r x y asked over = next asked over

  -- one device more
  pub swept_more : {p q r : S} (i : ℕ) (xs ys : List (Device V G)) (x y : Device V G) → i < length ys → drop i ys ≡ drop i xs → x ≡ get_or ys i x →
      SweptBy how p (take i xs) (take i ys) q → how q x y r → SweptBy how p (take (suc i) xs) (take (suc i) (set ys i y)) r
  swept_more i xs [] x y within rest read each asked = absurd (omega arith)
  swept_more zero [] (b ∷ bs) x y within rest read each asked = absurd (cc)
  swept_more {p} {q} {r} zero (a ∷ others) (b ∷ bs) x y within rest read each asked =
      let same : b ≡ a = first_same rest in
      let it : x ≡ a = read ∙ same in
      subst (λ (z : Device V G). SweptBy how p (z ∷ []) (y ∷ []) r) it (one_first r x y asked each)
  swept_more (suc i) [] (b ∷ bs) x y within rest read each asked = absurd (elim each [ ])
  swept_more {p} {q} {r} (suc i) (a ∷ others) (b ∷ bs) x y within rest read (next {behind = behind} first each) asked =
      next first (swept_more {p = behind} i others bs x y (omega arith) rest read each asked)

  pub rest_more : (i : ℕ) (xs ys : List (Device V G)) (y : Device V G) → i < length xs → i < length ys → drop i ys ≡ drop i xs →
      drop (suc i) (set ys i y) ≡ drop (suc i) xs
  rest_more i [] ys y here there rest = absurd (omega arith)
  rest_more i (a ∷ others) [] y here there rest = absurd (omega arith)
  rest_more zero (a ∷ others) (b ∷ bs) y here there rest = others_same rest
  rest_more (suc i) (a ∷ others) (b ∷ bs) y here there rest = rest_more i others bs y (omega arith) (omega arith) rest

  pub swept_all : {p q : S} (i : ℕ) (xs ys : List (Device V G)) → length xs ≤ i → length ys ≤ i → SweptBy how p (take i xs) (take i ys) q →
      SweptBy how p xs ys q
  swept_all {p} {q} i xs ys here there each =
      subst (λ zs. SweptBy how p xs zs q) (take_all i ys there) (subst (λ zs. SweptBy how p zs (take i ys) q) (take_all i xs here) each)
