-- What each event keeps of where the volumes stand.
use Rattle.std.proofs.Common.{
  ◌≡◌,
  ◌∙◌,
  ◌+◌,
  ◌++◌,
  ℕ,
  zero,
  suc,
  Bool,
  true,
  false,
  List,
  [],
  ◌∷◌,
  length,
  Option,
  Some,
  None,
  is_some,
  arith,
  refl,
  sym,
  ap,
  subst,
}
use Rattle.std.specs.Prelude.{◌==◌, ◌&&◌, option_map, slice_get, if◌then◌else◌}
use Rattle.ckd_types.specs.declared.paths.Side.{Side}
use Rattle.ckd_types.specs.declared.paths.Side.TheVariants.{A, B}
use Rattle.device_outside.specs.declared.volume.Volume.{Ghosts}
use Rattle.device_outside.specs.Interaction.{Interaction}
use Rattle.device_outside.specs.Keeper.{Hearing}
use Rattle.device_outside.specs.Outside.{Outside, Ran, done, tried, asked, read, wrote, told, view_of, with_view}
use Rattle.device_outside.specs.Volume.{VolumeView}
use Rattle.device_store.specs.State.{on_a, on_b}
use Rattle.device_core.specs.declared.device.Device.{Device}
use Rattle.subsystem_defs.specs.Happening.{is_lent_to}
use Rattle.subsystem_core.specs.Devices.{device_at, put_at}
use Rattle.subsystem_core.specs.Seats.{Seat, seats_of, AreAlike}
use Rattle.deck_run.specs.Sides.{AllFresh, AreAccounted, IsFresh, Sides, all_sides, away_here, lent_here, one_if, paired_here, sides_of, total, volumes_here}

some_same : {X : Type 0} {x y : X} → Some x ≡ Some y → x ≡ y
some_same e = cc

-- A volume stands behind what is asked where one stood before

side_there : {R K : Type 0} (w : Outside R K) (side : Side) (v u : VolumeView R) → view_of w side ≡ Some v →
    (is_some (with_view w side u).a ≡ is_some w.a) × (is_some (with_view w side u).b ≡ is_some w.b)
side_there w A v u is = (sym (ap (λ (o : Option _). is_some o) is), refl)
side_there w B v u is = (refl, sym (ap (λ (o : Option _). is_some o) is))

pub ran_there : {R I K S X : Type 0} {had : Bool → Type 0} {hears : Hearing I K} {i : Interaction R I S X} {w z : Outside R K} {s : S} {a : X} →
    Ran had hears i w s a z → (is_some z.a ≡ is_some w.a) × (is_some z.b ≡ is_some w.b)
ran_there done = (refl, refl)
ran_there (tried ok h r) = ran_there r
ran_there (asked y r) = ran_there r
ran_there (read {side = side} {v = v} {u = u} {w = w} is y r) =
    let k = side_there w side v u is in let l = ran_there r in (l.0 ∙ k.0, l.1 ∙ k.1)
ran_there (wrote {side = side} {v = v} {u = u} {w = w} is y r) =
    let k = side_there w side v u is in let l = ran_there r in (l.0 ∙ k.0, l.1 ∙ k.1)
ran_there (told r y h k) = ran_there k

pub map_some : {X Y : Type 0} (f : X → Y) (o : Option X) → is_some (option_map f o) ≡ is_some o
map_some f None = refl
map_some f (Some x) = refl

and_false : (b : Bool) → (b && false) ≡ false
and_false true = refl
and_false false = refl

-- Sums

pub none_more : (n : ℕ) → 0 + n ≡ n
none_more n = omega arith

one_more : (n : ℕ) → 1 + n ≡ suc n
one_more n = omega arith

moved : (a b c d e : ℕ) → a + b ≡ c + d → (e + a) + b ≡ (e + c) + d
moved a b c d e is = omega (arith, is)

swapped : (x y r : ℕ) → (y + r) + x ≡ (x + r) + y
swapped x y r = omega arith

module _ {V : Type 0} {G : Ghosts V} where
  pub same_sides : (x y : Device V G) → y.store.number ≡ x.store.number → y.store.pair.lent ≡ x.store.pair.lent →
      is_some (on_a y.store) ≡ is_some (on_a x.store) → is_some (on_b y.store) ≡ is_some (on_b x.store) → sides_of y ≡ sides_of x
  same_sides x y number lent a b =
      ap (λ (n : ℕ). record { number = n; lent = y.store.pair.lent; a = is_some (on_a y.store); b = is_some (on_b y.store) }) number
      ∙ ap (λ (o : Option ℕ). record { number = x.store.number; lent = o; a = is_some (on_a y.store); b = is_some (on_b y.store) }) lent
      ∙ ap (λ (t : Bool). record { number = x.store.number; lent = x.store.pair.lent; a = t; b = is_some (on_b y.store) }) a
      ∙ ap (λ (t : Bool). record { number = x.store.number; lent = x.store.pair.lent; a = is_some (on_a x.store); b = t }) b

  -- by what its sides tell
  pub asked_sides : (x y : Device V G) → y.store.number ≡ x.store.number → y.store.pair.lent ≡ x.store.pair.lent →
      (is_some (option_map G.view (on_a y.store)) ≡ is_some (option_map G.view (on_a x.store)))
      × (is_some (option_map G.view (on_b y.store)) ≡ is_some (option_map G.view (on_b x.store))) → sides_of y ≡ sides_of x
  asked_sides x y number lent there =
      same_sides x y number lent (sym (map_some G.view (on_a y.store)) ∙ there.0 ∙ map_some G.view (on_a x.store))
      (sym (map_some G.view (on_b y.store)) ∙ there.1 ∙ map_some G.view (on_b x.store))

  put_by : (x y d : Device V G) (ds : List (Device V G)) (n : ℕ) (b : Bool) → sides_of y ≡ sides_of x →
      (device_at ds n ≡ Some x → all_sides (put_at ds n y) ≡ all_sides ds) → (if b then Some d else device_at ds n) ≡ Some x →
      all_sides (if b then y ∷ ds else d ∷ put_at ds n y) ≡ all_sides (d ∷ ds)
  put_by x y d ds n true is rest at =
      ap (λ (s : Sides). s ∷ all_sides ds) (is ∙ ap (λ (z : Device V G). sides_of z) (sym (some_same at)))
  put_by x y d ds n false is rest at = ap (λ (l : List Sides). sides_of d ∷ l) (rest at)

  pub put_sides : (xs : List (Device V G)) (n : ℕ) (x y : Device V G) → sides_of y ≡ sides_of x → device_at xs n ≡ Some x →
      all_sides (put_at xs n y) ≡ all_sides xs
  put_sides [] n x y is at = refl
  put_sides (d ∷ ds) n x y is at = put_by x y d ds n (d.store.number == n) is (put_sides ds n x y is) at

  -- what a sum is behind a change of one device
  sum_by : (f : Sides → ℕ) (x y d : Device V G) (ds : List (Device V G)) (n : ℕ) (b : Bool) →
      (device_at ds n ≡ Some x → total f (all_sides (put_at ds n y)) + f (sides_of x) ≡ total f (all_sides ds) + f (sides_of y)) →
      (if b then Some d else device_at ds n) ≡ Some x →
      total f (all_sides (if b then y ∷ ds else d ∷ put_at ds n y)) + f (sides_of x) ≡ total f (all_sides (d ∷ ds)) + f (sides_of y)
  sum_by f x y d ds n true rest at =
      swapped (f (sides_of x)) (f (sides_of y)) (total f (all_sides ds))
      ∙ ap (λ (z : Device V G). (f (sides_of z) + total f (all_sides ds)) + f (sides_of y)) (sym (some_same at))
  sum_by f x y d ds n false rest at =
      moved (total f (all_sides (put_at ds n y))) (f (sides_of x)) (total f (all_sides ds)) (f (sides_of y)) (f (sides_of d)) (rest at)

  pub put_sum : (f : Sides → ℕ) (xs : List (Device V G)) (n : ℕ) (x y : Device V G) → device_at xs n ≡ Some x →
      total f (all_sides (put_at xs n y)) + f (sides_of x) ≡ total f (all_sides xs) + f (sides_of y)
  put_sum f [] n x y at = absurd (cc)
  put_sum f (d ∷ ds) n x y at = sum_by f x y d ds n (d.store.number == n) (put_sum f ds n x y) at

  long_by : (y d : Device V G) (ds : List (Device V G)) (n : ℕ) (b : Bool) → length (all_sides (put_at ds n y)) ≡ length (all_sides ds) →
      length (all_sides (if b then y ∷ ds else d ∷ put_at ds n y)) ≡ length (all_sides (d ∷ ds))
  long_by y d ds n true rest = refl
  long_by y d ds n false rest = ap (λ (k : ℕ). suc k) rest

  pub put_long : (xs : List (Device V G)) (n : ℕ) (y : Device V G) → length (all_sides (put_at xs n y)) ≡ length (all_sides xs)
  put_long [] n y = refl
  put_long (d ∷ ds) n y = long_by y d ds n (d.store.number == n) (put_long ds n y)

  -- New devices

  none_lent : (n : ℕ) (x : Device V G) → IsFresh x → lent_here n (sides_of x) ≡ 0
  none_lent n x f = ap (λ (o : Option ℕ). one_if (is_lent_to o n)) f.lent

  none_paired : (n : ℕ) (x : Device V G) → IsFresh x → paired_here n (sides_of x) ≡ 0
  none_paired n x f =
      ap (λ (b : Bool). one_if ((x.store.number == n) && b)) f.b ∙ ap one_if (and_false (x.store.number == n))

  one_volume : (x : Device V G) → IsFresh x → volumes_here (sides_of x) ≡ 1
  one_volume x f = ap (λ (b : Bool). one_if b + one_if (is_some (on_b x.store))) f.a ∙ ap (λ (b : Bool). 1 + one_if b) f.b

  away_by : (xs : List (Device V G)) → AllFresh xs → total away_here (all_sides xs) ≡ 0
  away_by [] all = refl
  away_by (x ∷ xs) all =
      ap (λ (o : Option ℕ). one_if (is_some o && is_some (on_a x.store)) + total away_here (all_sides xs)) all.0.lent
      ∙ none_more (total away_here (all_sides xs)) ∙ away_by xs all.1

  mates_by : (n : ℕ) (xs : List (Device V G)) → AllFresh xs → total (lent_here n) (all_sides xs) ≡ total (paired_here n) (all_sides xs)
  mates_by n [] all = refl
  mates_by n (x ∷ xs) all =
      ap (λ (k : ℕ). k + total (lent_here n) (all_sides xs)) (none_lent n x all.0 ∙ sym (none_paired n x all.0))
      ∙ ap (λ (k : ℕ). paired_here n (sides_of x) + k) (mates_by n xs all.1)

  volumes_by : (xs : List (Device V G)) → AllFresh xs → total volumes_here (all_sides xs) ≡ length (all_sides xs)
  volumes_by [] all = refl
  volumes_by (x ∷ xs) all =
      ap (λ (k : ℕ). k + total volumes_here (all_sides xs)) (one_volume x all.0) ∙ ap (λ (k : ℕ). 1 + k) (volumes_by xs all.1)
      ∙ one_more (length (all_sides xs))

  pub fresh_accounted : (xs : List (Device V G)) → AllFresh xs → AreAccounted (all_sides xs)
  fresh_accounted xs all = record { away = away_by xs all; mates = λ n. mates_by n xs all; volumes = volumes_by xs all }

  pub fresh_append : (xs ys : List (Device V G)) (x : Device V G) → ys ≡ xs ++ x ∷ [] → AllFresh xs → IsFresh x → AllFresh ys
  fresh_append xs ys x are all is = subst AllFresh (sym are) (go xs all)
    where
      go : (zs : List (Device V G)) → AllFresh zs → AllFresh (zs ++ x ∷ [])
      go [] h = (is, tt)
      go (z ∷ zs) h = (h.0, go zs h.1)

  -- none of them is lent
  seat_free : (xs : List (Device V G)) (i : ℕ) (s : Seat) → AllFresh xs → slice_get (seats_of xs) i ≡ Some s → s.lent ≡ None
  seat_free [] i s all at = absurd (cc)
  seat_free (x ∷ xs) zero s all at = ap (λ (t : Seat). t.lent) (sym (some_same at)) ∙ all.0.lent
  seat_free (x ∷ xs) (suc i) s all at = seat_free xs i s all.1 at

  pub fresh_alike : (xs : List (Device V G)) → AllFresh xs → AreAlike (seats_of xs)
  fresh_alike xs all i n m s at lent here = absurd (let free = seat_free xs i s all at in cc)
