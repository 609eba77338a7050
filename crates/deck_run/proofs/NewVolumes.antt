-- A new volume of empty tracks, for the device that gets it; and the volumes of the devices of a deck, one device after another.
use Rattle.std.proofs.Common.{◌≡◌, ◌<◌, ◌≤◌, ◌+◌, ◌*◌, ◌++◌, ℕ, List, [], ◌∷◌, Option, Some, length, map, take, drop, get_or, sym, ap, subst, ◌∙◌, arith}
use Rattle.std.specs.Prelude.{IfSome, remove, slice_index_or}
use Rattle.std.specs.List.{AllZip}
use Rattle.std.proofs.lemmas.List.{at_drop_more, take_all, take_more}
use Rattle.std.proofs.lemmas.List.FromFn.{length-map-range_with_len}
use Rattle.device_outside.specs.declared.volume.Volume.{Ghosts}
use Rattle.device_outside.specs.Both.{SideIs}
use Rattle.device_outside.specs.Disk.{empty_bytes, empty_contents}
use Rattle.device_outside.specs.Volume.{VolumeView}
use Rattle.device_defs.specs.Store.{tracks_of}
use Rattle.device_core.specs.declared.device.Device.{Device}
use Rattle.device_core.specs.State.{device_of}
use Rattle.subsystem_defs.specs.Subsystem.{unfailing}
use Rattle.deck_run.proofs.Lines.{mapped_more}

pub empty_long : (n : ℕ) → length (empty_contents (n * 15)) ≡ n * 15
empty_long n = length-map-range_with_len empty_bytes 0 (n * 15)

module _ {V : Type 0} {G : Ghosts V} (v : VolumeView (List ℕ)) (o : Option (Device V G)) (x : Device V G) (is : o ≡ Some x) where
  -- it is one for the device that was found, where it has so many cylinders
  pub empty_for : (n : ℕ) → n ≡ x.store.cylinders → SideIs v (empty_contents (n * 15)) unfailing →
      IfSome o (λ y. SideIs v (empty_contents ((device_of y).store.cylinders * 15)) unfailing)
  empty_for n many told =
      subst (λ (p : Option (Device V G)). IfSome p (λ y. SideIs v (empty_contents ((device_of y).store.cylinders * 15)) unfailing)) (sym is)
      (subst (λ (k : ℕ). SideIs v (empty_contents (k * 15)) unfailing) many told)

  pub tracks_for : (n : ℕ) → n ≡ x.store.cylinders → v.tracks ≡ n * 15 → IfSome o (λ y. v.tracks ≡ tracks_of (device_of y).store)
  tracks_for n many tracks =
      subst (λ (p : Option (Device V G)). IfSome p (λ y. v.tracks ≡ tracks_of (device_of y).store)) (sym is)
      (subst (λ (k : ℕ). v.tracks ≡ k * 15) many tracks)

  -- and so it is told
  pub told_for : IfSome o (λ y. SideIs v (empty_contents ((device_of y).store.cylinders * 15)) unfailing) →
      SideIs v (empty_contents (x.store.cylinders * 15)) unfailing
  told_for told =
      subst (λ (p : Option (Device V G)). IfSome p (λ y. SideIs v (empty_contents ((device_of y).store.cylinders * 15)) unfailing)) is told

-- Lists that agree place by place: those that are left from a place on, and those up to it

module _ {A B C : Type 0} (R : A → C → Type 0) (f : B → C) where
  at_next : (xs : List A) (i : ℕ) (x : A) (zs : List C) → i < length xs → x ≡ get_or xs i x → AllZip R (drop i xs) zs → AllZip R (x ∷ drop (i + 1) xs) zs
  at_next xs i x zs inside is all =
      subst (λ (l : List A). AllZip R l zs)
      (at_drop_more (λ (l : List A). l) xs i x inside ∙ ap (λ (y : A). y ∷ drop (i + 1) xs) (sym is)) all

  some_by : (x : A) (xs : List A) (ys : List B) → AllZip R (x ∷ xs) (map f ys) → 0 < length ys
  some_by x xs [] all = absurd all
  some_by x xs (y ∷ ys) all = omega arith

  here_by : (x : A) (xs : List A) (ys : List B) (y : B) → y ≡ slice_index_or ys 0 y → AllZip R (x ∷ xs) (map f ys) → R x (f y)
  here_by x xs [] y at all = absurd all
  here_by x xs (z ∷ ys) y at all = subst (λ (b : B). R x (f b)) (sym at) all.0

  rest_by : (x : A) (xs : List A) (ys more : List B) → more ≡ remove ys 0 → AllZip R (x ∷ xs) (map f ys) → AllZip R xs (map f more)
  rest_by x xs [] more is all = absurd all
  rest_by x xs (y ∷ ys) more is all = subst (λ (l : List B). AllZip R xs (map f l)) (sym is) all.1

  module _ (xs : List A) (i : ℕ) (x : A) (ys : List B) (inside : i < length xs) (is : x ≡ get_or xs i x) (all : AllZip R (drop i xs) (map f ys)) where
    pub some_left : 0 < length ys
    some_left = some_by x (drop (i + 1) xs) ys (at_next xs i x (map f ys) inside is all)

    pub first_left : (y : B) → y ≡ slice_index_or ys 0 y → R x (f y)
    first_left y at = here_by x (drop (i + 1) xs) ys y at (at_next xs i x (map f ys) inside is all)

    pub rest_left : (more : List B) → more ≡ remove ys 0 → AllZip R (drop (i + 1) xs) (map f more)
    rest_left more behind = rest_by x (drop (i + 1) xs) ys more behind (at_next xs i x (map f ys) inside is all)

  snoc : (xs : List A) (zs : List C) (x : A) (z : C) → AllZip R xs zs → R x z → AllZip R (xs ++ x ∷ []) (zs ++ z ∷ [])
  snoc [] [] x z all r = (r, tt)
  snoc [] (w ∷ zs) x z all r = absurd all
  snoc (w ∷ xs) [] x z all r = absurd all
  snoc (w ∷ xs) (v ∷ zs) x z all r = (all.0, snoc xs zs x z all.1 r)

  -- one more
  pub one_made : (xs : List A) (i : ℕ) (x : A) (ys more : List B) (y : B) → i < length xs → x ≡ get_or xs i x → more ≡ ys ++ y ∷ [] →
      AllZip R (take i xs) (map f ys) → R x (f y) → AllZip R (take (i + 1) xs) (map f more)
  one_made xs i x ys more y inside is behind all r =
      subst (λ (l : List A). AllZip R l (map f more)) (ap (λ (z : A). take i xs ++ z ∷ []) is ∙ sym (take_more xs i x inside))
      (subst (λ (l : List C). AllZip R (take i xs ++ x ∷ []) l) (sym (ap (map f) behind ∙ mapped_more f ys y))
      (snoc (take i xs) (map f ys) x (f y) all r))

  -- and all
  pub all_made : (xs : List A) (i : ℕ) (ys : List B) → length xs ≤ i → AllZip R (take i xs) (map f ys) → AllZip R xs (map f ys)
  all_made xs i ys past all = subst (λ (l : List A). AllZip R l (map f ys)) (take_all i xs past) all
