-- A pair is taken apart.
use Rattle.std.proofs.Common.{
  ◌≡◌,
  ◌∙◌,
  ◌<◌,
  ◌+◌,
  ◌⊎◌,
  inl,
  inr,
  length,
  ◌==◌,
  ◌*◌,
  ℕ,
  zero,
  suc,
  Bool,
  true,
  false,
  List,
  [],
  ◌∷◌,
  Option,
  Some,
  None,
  arith,
  get_or,
  is_some,
  set,
  refl,
  sym,
  ap,
  subst,
}
use Rattle.std.specs.Prelude.{OnErr, OnOk, Result, Ok, Err, if◌then◌else◌, slice_get}
use Rattle.std.proofs.lemmas.Bool.{eqb-true}
use Rattle.std.proofs.lemmas.Option.{get_or_from_slice_get, slice_get_within}
use Rattle.std.proofs.Math.Seq.{map-set_same}
use Rattle.device_outside.specs.declared.volume.Volume.{Ghosts}
use Rattle.device_defs.specs.Orders.{restore}
use Rattle.device_store.specs.declared.store.DeviceStore.{DeviceStore}
use Rattle.device_store.specs.State.{on_a, on_b}
use Rattle.device_core.specs.declared.device.Device.{Device}
use Rattle.device_core.specs.State.{DefinedDevice, device_of}
use Rattle.subsystem_defs.specs.Happening.{is_lent_to}
use Rattle.subsystem_core.specs.Comes.{AreStill, Changes, IsRestored, IsSplit, Parts, Restored, none_was_lent, this_was_lent, another_was_lent}
use Rattle.subsystem_core.specs.Devices.{device_at, put_at}
use Rattle.subsystem_core.specs.Pairs.{AreElsewhere, IsFirstLent, IsOfSize}
use Rattle.subsystem_core.specs.Seats.{seats_of, AreAlike}
use Rattle.subsystem_core.proofs.Found.{some_same}
use Rattle.subsystem_core.proofs.Numbers.{lt_or_eq}
use Rattle.subsystem_core.proofs.Seating.{alike_kept, alike_restored, cylinders_found, seat_there, sits_by}

pub lent_is : (o : Option ℕ) (n : ℕ) → is_lent_to o n ≡ true → o ≡ Some n
lent_is None n is = absurd (cc)
lent_is (Some to) n is = ap Some (eqb-true to n is)

module _ {V : Type 0} {G : Ghosts V} where
  -- The one that was lent

  none_restored : (n : ℕ) (volume : V) (ds : List (Device V G)) → ((j : ℕ) (x : Device V G) → slice_get ds j ≡ Some x →
      is_lent_to x.store.pair.lent n ≡ false) → Restored n volume ds ds
  none_restored n volume [] others = none_was_lent
  none_restored n volume (d ∷ ds) others = another_was_lent (others 0 d refl) (none_restored n volume ds (λ j x is. others (suc j) x is))

  pub first_restored : (n i : ℕ) (volume : V) (ds : List (Device V G)) (x y : Device V G) → slice_get ds i ≡ Some x →
      is_lent_to x.store.pair.lent n ≡ true → AreElsewhere n ds i → IsRestored volume x y → Restored n volume ds (set ds i y)
  first_restored n i volume [] x y is lent others so = absurd (cc)
  first_restored n zero volume (d ∷ ds) x y is lent others so =
      let same : x ≡ d = some_same (sym is) in
      this_was_lent (subst (λ (z : Device V G). is_lent_to z.store.pair.lent n ≡ true) same lent) (subst (λ (z : Device V G). IsRestored volume z y) same so)
  first_restored n (suc i) volume (d ∷ ds) x y is lent others so =
      another_was_lent (others 0 d (omega arith) refl)
      (first_restored n i volume ds x y is lent (λ j z below at. others (suc j) z (omega (arith, below)) at) so)

  -- it is as large as the one to which it was
  pub restored_size : (n i : ℕ) (volume : V) (ds : List (Device V G)) (x : Device V G) → slice_get ds i ≡ Some x → is_lent_to x.store.pair.lent n ≡ true →
      AreAlike (seats_of ds) → IsOfSize volume (device_at ds n) → (G.view volume).tracks ≡ x.store.cylinders * 15
  restored_size n i volume ds x is lent alike size = by_found (device_at ds n) refl size
    where
      by_found : (o : Option (Device V G)) → device_at ds n ≡ o → IsOfSize volume o → (G.view volume).tracks ≡ x.store.cylinders * 15
      by_found (Some y) at large =
          large ∙ ap (λ (k : ℕ). k * 15) (alike i n y.store.cylinders _ (seat_there ds i x is) (lent_is x.store.pair.lent n lent) (cylinders_found ds n y at))
      by_found None at large = absurd large

  -- it is there
  pub stands_at : (ds : List (Device V G)) (i : ℕ) (x d : Device V G) → x ≡ get_or ds i x → slice_get ds i ≡ Some d → x ≡ d
  stands_at ds i x d read is = read ∙ get_or_from_slice_get ds i d x is

  pub place_of : (n : ℕ) (ds : List (Device V G)) (i : ℕ) → IsFirstLent n ds (Some i) → i < length ds
  place_of n ds i first = slice_get_within ds i first.0.device first.0.stands

  pub record StandsThere (n : ℕ) (ds : List (Device V G)) (i : ℕ) (x : Device V G) : Type 0 where
    pub stands : slice_get ds i ≡ Some x
    pub lent : is_lent_to x.store.pair.lent n ≡ true

  pub stands_there : (n : ℕ) (ds : List (Device V G)) (i : ℕ) (x : Device V G) → IsFirstLent n ds (Some i) → x ≡ get_or ds i x → StandsThere n ds i x
  stands_there n ds i x first read =
      let same : x ≡ first.0.device = stands_at ds i x first.0.device read first.0.stands in
      record {
        stands = first.0.stands ∙ ap Some (sym same);
        lent = subst (λ (z : Device V G). is_lent_to z.store.pair.lent n ≡ true) (sym same) first.0.lent;
      }

  -- one place more
  pub else_more : (n : ℕ) (ds : List (Device V G)) (i : ℕ) (x : Device V G) → i < length ds → x ≡ get_or ds i x → is_lent_to x.store.pair.lent n ≡ false →
      AreElsewhere n ds i → (j : ℕ) (z : Device V G) → j < i + 1 → slice_get ds j ≡ Some z → is_lent_to z.store.pair.lent n ≡ false
  else_more n ds i x within read off others j z below at = by_place (lt_or_eq j i below)
    where
      by_place : (j < i) ⊎ (j ≡ i) → is_lent_to z.store.pair.lent n ≡ false
      by_place (inl less) = others j z less at
      by_place (inr same) =
          let here : slice_get ds i ≡ Some z = subst (λ (k : ℕ). slice_get ds k ≡ Some z) same at in
          let it : x ≡ z = stands_at ds i x z read here in
          subst (λ (w : Device V G). is_lent_to w.store.pair.lent n ≡ false) it off

  pub restored_nowhere : (n : ℕ) (volume : V) (ds : List (Device V G)) → AreElsewhere n ds (length ds) → Restored n volume ds ds
  restored_nowhere n volume ds others = none_restored n volume ds (λ j x is. others j x (slice_get_within ds j x is) is)

  module _ (x y : Device V G) where
    abbrev pub Again : {E : Type 0} → Result (Unit {0}) E → Type 0
    Again r = OnOk r (device_of y ≡ restore (device_of x))

    abbrev pub Still : {E : Type 0} → Result (Unit {0}) E → Type 0
    Still r = OnErr r ((device_of y ≡ device_of x) × (y.store ≡ x.store))

    pub restored_number : {E : Type 0} (r : Result (Unit {0}) E) → Again r → Still r → y.store.number ≡ x.store.number
    restored_number (Ok u) again still = ap (λ (d : DefinedDevice). d.store.device) again
    restored_number (Err e) again still = ap (λ (d : DefinedDevice). d.store.device) still.0

    module _ (ds : List (Device V G)) (i : ℕ) (read : x ≡ get_or ds i x) (is : slice_get ds i ≡ Some x) where
      pub restored_alike : {E : Type 0} (r : Result (Unit {0}) E) → Again r → Still r → AreAlike (seats_of ds) → AreAlike (seats_of (set ds i y))
      restored_alike (Ok u) again still alike =
          alike_restored ds i x y is (ap (λ (d : DefinedDevice). d.store.device) again) (ap (λ (d : DefinedDevice). d.store.cylinders) again)
          (ap (λ (d : DefinedDevice). d.store.lent) again) alike
      restored_alike (Err e) again still alike = alike_kept ds i x y read (sits_by x y _ still.0 refl refl refl) alike

      pub all_restored : {E : Type 0} (r : Result (Unit {0}) E) (n : ℕ) (volume : V) → Again r → OnOk r (on_a y.store ≡ Some volume) →
          on_b y.store ≡ on_b x.store → is_lent_to x.store.pair.lent n ≡ true → AreElsewhere n ds i → OnOk r (Restored n volume ds (set ds i y))
      all_restored (Ok u) n volume again a b lent others =
          first_restored n i volume ds x y is lent others (record { device = again; a = a; b = b })
      all_restored (Err e) n volume again a b lent others = tt

      pub all_still : {E : Type 0} (r : Result (Unit {0}) E) → Still r → OnErr r (AreStill ds (set ds i y))
      all_still (Ok u) still = tt
      all_still (Err e) still = (
        map-set_same device_of ds i y x (still.0 ∙ ap device_of read),
        map-set_same (λ (d : Device V G). d.store.pair.volumes) ds i y x (ap (λ (s : DeviceStore V G). s.pair.volumes) still.1
            ∙ ap (λ (d : Device V G). d.store.pair.volumes) read),
      )

  -- Both

  -- the device that parts is lent to none
  pub not_lent : (x : Device V G) (n : ℕ) → x.store.pair.a.up ≡ true → is_lent_to x.store.pair.lent n ≡ false
  not_lent x n up = by_lent x.store.pair.lent refl
    where
      by_lent : (o : Option ℕ) → x.store.pair.lent ≡ o → is_lent_to o n ≡ false
      by_lent None is = refl
      by_lent (Some to) is = let down = x.store.pair.away (ap is_some is) in let h : true ≡ false = sym up ∙ down.0 in absurd (cc)

  restored_here : {volume : V} {x y : Device V G} → IsRestored volume x y → y.store.number ≡ x.store.number
  restored_here so = ap (λ (d : DefinedDevice). d.store.device) so.device

  no_other : (n : ℕ) (x d : Device V G) → is_lent_to x.store.pair.lent n ≡ false → is_lent_to d.store.pair.lent n ≡ true → d ≡ x → ⊥
  no_other n x d off lent same =
      let h : true ≡ false = sym lent ∙ ap (λ (w : Device V G). is_lent_to w.store.pair.lent n) same ∙ off in absurd (cc)

  other_here : (n m : ℕ) (volume : V) (x d z : Device V G) (ds : List (Device V G)) → is_lent_to x.store.pair.lent n ≡ false →
      is_lent_to d.store.pair.lent n ≡ true → IsRestored volume d z → (b : Bool) → (d.store.number == m) ≡ b →
      (if b then Some d else device_at ds m) ≡ Some x → device_at (z ∷ ds) m ≡ Some x
  other_here n m volume x d z ds off lent so true e there = absurd (no_other n x d off lent (some_same there))
  other_here n m volume x d z ds off lent so false e there = rw (restored_here so, e) there

  other_behind : (m : ℕ) (x d : Device V G) (ds zs : List (Device V G)) → (device_at ds m ≡ Some x → device_at zs m ≡ Some x) → (b : Bool) →
      (d.store.number == m) ≡ b → (if b then Some d else device_at ds m) ≡ Some x → device_at (d ∷ zs) m ≡ Some x
  other_behind m x d ds zs rest true e there = rw e there
  other_behind m x d ds zs rest false e there = rw e (rest there)

  -- it stays where it was
  restored_other : (n m : ℕ) (volume : V) (x : Device V G) {olds mids : List (Device V G)} → is_lent_to x.store.pair.lent n ≡ false →
      Restored n volume olds mids → device_at olds m ≡ Some x → device_at mids m ≡ Some x
  restored_other n m volume x off none_was_lent is = is
  restored_other n m volume x off (this_was_lent {x = d} {y = z} {xs = ds} lent so) is =
      other_here n m volume x d z ds off lent so (d.store.number == m) refl is
  restored_other n m volume x off (another_was_lent {x = d} {xs = ds} {ys = zs} else_lent rest) is =
      other_behind m x d ds zs (λ there. restored_other n m volume x off rest there) (d.store.number == m) refl is

  put_here : (n m : ℕ) (volume : V) (x y d z : Device V G) (ds : List (Device V G)) → is_lent_to x.store.pair.lent n ≡ false →
      is_lent_to d.store.pair.lent n ≡ true → IsRestored volume d z → (b : Bool) → (d.store.number == m) ≡ b →
      (if b then Some d else device_at ds m) ≡ Some x → Restored n volume (if b then y ∷ ds else d ∷ put_at ds m y) (put_at (z ∷ ds) m y)
  put_here n m volume x y d z ds off lent so true e there = absurd (no_other n x d off lent (some_same there))
  put_here n m volume x y d z ds off lent so false e there =
      let apart : (z.store.number == m) ≡ false = ap (λ (k : ℕ). k == m) (restored_here so) ∙ e in rw apart (this_was_lent lent so)

  put_behind : (n m : ℕ) (volume : V) (x y d : Device V G) (ds zs : List (Device V G)) → is_lent_to y.store.pair.lent n ≡ false →
      is_lent_to d.store.pair.lent n ≡ false → Restored n volume ds zs →
      (device_at ds m ≡ Some x → Restored n volume (put_at ds m y) (put_at zs m y)) → (b : Bool) →
      (if b then Some d else device_at ds m) ≡ Some x →
      Restored n volume (if b then y ∷ ds else d ∷ put_at ds m y) (if b then y ∷ zs else d ∷ put_at zs m y)
  put_behind n m volume x y d ds zs stays else_lent each rest true there = another_was_lent stays each
  put_behind n m volume x y d ds zs stays else_lent each rest false there = another_was_lent else_lent (rest there)

  -- and so another one in its place
  restored_put : (n m : ℕ) (volume : V) (x y : Device V G) {olds mids : List (Device V G)} → is_lent_to x.store.pair.lent n ≡ false →
      is_lent_to y.store.pair.lent n ≡ false → Restored n volume olds mids → device_at olds m ≡ Some x →
      Restored n volume (put_at olds m y) (put_at mids m y)
  restored_put n m volume x y off stays none_was_lent is = none_was_lent
  restored_put n m volume x y off stays (this_was_lent {x = d} {y = z} {xs = ds} lent so) is =
      put_here n m volume x y d z ds off lent so (d.store.number == m) refl is
  restored_put n m volume x y off stays (another_was_lent {x = d} {xs = ds} {ys = zs} else_lent rest) is =
      put_behind n m volume x y d ds zs stays else_lent rest (λ there. restored_put n m volume x y off stays rest there) (d.store.number == m) is

  pub parts : (n : ℕ) (volume : V) (olds mids news : List (Device V G)) (x : Device V G) → device_at olds n ≡ Some x → x.store.pair.a.up ≡ true →
      Restored n volume olds mids → Changes n IsSplit mids news → Parts n volume olds news
  parts n volume olds mids news x stood up restored ch =
      let off : is_lent_to x.store.pair.lent n ≡ false = not_lent x n up in
      let there : device_at mids n ≡ Some x = restored_other n n volume x off restored stood in
      let same : ch.before ≡ x = some_same (sym ch.stood ∙ there) in
      let so : IsSplit x ch.behind = subst (λ (z : Device V G). IsSplit z ch.behind) same ch.is_so in
      let lent : ch.behind.store.pair.lent ≡ x.store.pair.lent = ap (λ (d : DefinedDevice). d.store.lent) so.device in
      let stays : is_lent_to ch.behind.store.pair.lent n ≡ false = ap (λ (o : Option ℕ). is_lent_to o n) lent ∙ off in
      record {
        between = put_at olds n ch.behind;
        split = record { before = x; behind = ch.behind; stood = stood; stands = refl; is_so = so };
        restored = subst (λ (ds : List (Device V G)). Restored n volume (put_at olds n ch.behind) ds) (sym ch.stands)
            (restored_put n n volume x ch.behind off stays restored stood);
      }
