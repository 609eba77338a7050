-- A device by its place, and by its number.
use Rattle.std.proofs.Common.{
  ◌≡◌,
  ◌<◌,
  ◌≤◌,
  ◌++◌,
  take,
  drop,
  ℕ,
  zero,
  suc,
  Bool,
  true,
  false,
  List,
  [],
  ◌∷◌,
  length,
  get_or,
  set,
  arith,
  refl,
  ap,
  sym,
  subst,
  ◌∙◌,
  Some,
  None,
  Option,
}
use Rattle.std.specs.Prelude.{◌==◌, slice_get, option_map, if◌then◌else◌, IfSome}
use Rattle.device_core.specs.declared.device.Device.{Device}
use Rattle.device_core.specs.State.{DefinedDevice, device_of}
use Rattle.device_outside.specs.declared.volume.Volume.{Ghosts}
use Rattle.subsystem_defs.specs.Deeds.{device_in}
use Rattle.subsystem_core.specs.Places.{are_rising}
use Rattle.subsystem_core.specs.Comes.{Changes}
use Rattle.subsystem_core.specs.Devices.{number_of, numbers_of, devices_of, device_at, put_at}
use Rattle.std.proofs.lemmas.Bool.{eqb-true}
use Rattle.std.proofs.lemmas.Option.{slice_get-map, slice_get_past, slice_get_within, get_or_from_slice_get, slice_get-get_or}
use Rattle.std.proofs.lemmas.List.{get_or-map, length-map, append-nil, drop_all, take_all}
use Rattle.std.proofs.Math.Seq.{map-set_same}
use Rattle.subsystem_core.proofs.Numbers.{first_is_least, rest_rises}

pub some_same : {X : Type 0} {x y : X} → Some x ≡ Some y → x ≡ y
some_same e = cc

pub eq_self : (n : ℕ) → (n == n) ≡ true
eq_self n = grind arith

not_eq : (m n : ℕ) → m < n → (m == n) ≡ false
not_eq m n h = grind arith

-- what a test chooses, of any things

if_this : {X : Type 0} (x y : X) (b : Bool) → b ≡ true → (if b then x else y) ≡ x
if_this x y true is = refl
if_this x y false is = absurd (cc)

if_other : {X : Type 0} (x y z : X) (b : Bool) → b ≡ false → y ≡ z → (if b then x else y) ≡ z
if_other x y z true is same = absurd (cc)
if_other x y z false is same = same

module _ {V : Type 0} {G : Ghosts V} where
  -- a device behind the first one has another number
  pub below_others : (d : Device V G) (ds : List (Device V G)) → are_rising (numbers_of (d ∷ ds)) ≡ true → (i : ℕ) (x : Device V G) →
      slice_get ds i ≡ Some x → d.store.number < x.store.number
  below_others d ds up i x is =
      let within = slice_get_within ds i x is in
      let there : i < length (numbers_of ds) = rw length-map within in
      let number : get_or (numbers_of ds) i 0 ≡ x.store.number = get_or_from_slice_get (numbers_of ds) i x.store.number 0
      (slice_get-map number_of ds i ∙ ap (option_map number_of) is) in
      rw number at (first_is_least d.store.number (numbers_of ds) up i there)

  same_numbers : (d x : Device V G) → d ≡ x → (d.store.number == x.store.number) ≡ true
  same_numbers d x same = ap (λ (z : Device V G). z.store.number == x.store.number) same ∙ eq_self x.store.number

  pub device_at_place : (ds : List (Device V G)) → are_rising (numbers_of ds) ≡ true → (i : ℕ) (x : Device V G) → slice_get ds i ≡ Some x →
      device_at ds x.store.number ≡ Some x
  device_at_place [] up i x is = absurd (cc)
  device_at_place (d ∷ ds) up zero x is =
      if_this (Some d) (device_at ds x.store.number) (d.store.number == x.store.number) (same_numbers d x (some_same is)) ∙ is
  device_at_place (d ∷ ds) up (suc i) x is =
      if_other (Some d) (device_at ds x.store.number) (Some x) (d.store.number == x.store.number)
      (not_eq d.store.number x.store.number (below_others d ds up i x is)) (device_at_place ds (rest_rises d.store.number (numbers_of ds) up) i x is)

  pub put_at_place : (ds : List (Device V G)) → are_rising (numbers_of ds) ≡ true → (i : ℕ) (x y : Device V G) → slice_get ds i ≡ Some x →
      put_at ds x.store.number y ≡ set ds i y
  put_at_place [] up i x y is = absurd (cc)
  put_at_place (d ∷ ds) up zero x y is =
      if_this (y ∷ ds) (d ∷ put_at ds x.store.number y) (d.store.number == x.store.number) (same_numbers d x (some_same is))
  put_at_place (d ∷ ds) up (suc i) x y is =
      if_other (y ∷ ds) (d ∷ put_at ds x.store.number y) (d ∷ set ds i y) (d.store.number == x.store.number)
      (not_eq d.store.number x.store.number (below_others d ds up i x is))
      (ap (λ (zs : List (Device V G)). d ∷ zs) (put_at_place ds (rest_rises d.store.number (numbers_of ds) up) i x y is))

  -- a device that was found by its place
  pub record IsAt (ds : List (Device V G)) (n i : ℕ) (x : Device V G) : Type 0 where
    pub stands : slice_get ds i ≡ Some x
    pub number : x.store.number ≡ n

  -- the one that is read at the place of a number
  pub is_at : (ds : List (Device V G)) (n i : ℕ) (x : Device V G) → i < length ds → slice_get (numbers_of ds) i ≡ Some n → x ≡ get_or ds i x → IsAt ds n i x
  is_at ds n i x within is read =
      let stands : slice_get ds i ≡ Some x = slice_get-get_or ds i x within ∙ ap Some (sym read) in
      let number : Some x.store.number ≡ Some n = sym (slice_get-map number_of ds i ∙ ap (option_map number_of) stands) ∙ is in
      record { stands = stands; number = cc }

  pub found : (ds : List (Device V G)) (n i : ℕ) (x : Device V G) → are_rising (numbers_of ds) ≡ true → IsAt ds n i x → device_at ds n ≡ Some x
  found ds n i x up at = subst (λ m. device_at ds m ≡ Some x) at.number (device_at_place ds up i x at.stands)

  pub put : (ds : List (Device V G)) (n i : ℕ) (x y : Device V G) → are_rising (numbers_of ds) ≡ true → IsAt ds n i x → set ds i y ≡ put_at ds n y
  put ds n i x y up at = sym (subst (λ m. put_at ds m y ≡ set ds i y) at.number (put_at_place ds up i x y at.stands))

  pub numbers_kept : (ds : List (Device V G)) (i : ℕ) (x y : Device V G) → x ≡ get_or ds i x → y.store.number ≡ x.store.number →
      numbers_of (set ds i y) ≡ numbers_of ds
  numbers_kept ds i x y read same = map-set_same number_of ds i y x (same ∙ ap number_of read)

  pub number_at : (ds : List (Device V G)) (i : ℕ) (x : Device V G) → i < length ds → x ≡ get_or ds i x → get_or (numbers_of ds) i 0 ≡ x.store.number
  number_at ds i x within read = get_or-map number_of ds i x 0 within ∙ ap number_of (sym read)

  pub count_of : (ds : List (Device V G)) → length (numbers_of ds) ≡ length ds
  count_of ds = length-map ds number_of

  pub number_there : (ds : List (Device V G)) (i : ℕ) (x : Device V G) → i < length ds → x ≡ get_or ds i x →
      slice_get (numbers_of ds) i ≡ Some x.store.number
  number_there ds i x within read = slice_get-map number_of ds i ∙ ap (option_map number_of) (slice_get-get_or ds i x within ∙ ap Some (sym read))

  pub number_nowhere : (ds : List (Device V G)) (i : ℕ) → length ds ≤ i → slice_get (numbers_of ds) i ≡ None
  number_nowhere ds i past = slice_get-map number_of ds i ∙ ap (option_map number_of) (slice_get_past ds i past)

  other_by : (d y : Device V G) (ds puts : List (Device V G)) (n m : ℕ) → y.store.number ≡ n → (n == m) ≡ false → device_at puts m ≡ device_at ds m →
      (b : Bool) → (d.store.number == n) ≡ b → device_at (if b then y ∷ ds else d ∷ puts) m ≡ device_at (d ∷ ds) m
  other_by d y ds puts n m is off rest true e = rw (is, eqb-true d.store.number n e, off) refl
  other_by d y ds puts n m is off rest false e = ap (λ (o : Option (Device V G)). if d.store.number == m then Some d else o) rest

  -- another one's place changes nothing of this one
  pub at_other : (ds : List (Device V G)) (n m : ℕ) (y : Device V G) → y.store.number ≡ n → (n == m) ≡ false →
      device_at (put_at ds n y) m ≡ device_at ds m
  at_other [] n m y is off = refl
  at_other (d ∷ ds) n m y is off = other_by d y ds (put_at ds n y) n m is off (at_other ds n m y is off) (d.store.number == n) refl

  -- Changes

  -- the device at the place of a number is another now
  pub changed : (ds : List (Device V G)) (n i : ℕ) (x y : Device V G) (how : Device V G → Device V G → Type 0) → are_rising (numbers_of ds) ≡ true →
      i < length ds → slice_get (numbers_of ds) i ≡ Some n → x ≡ get_or ds i x → how x y → Changes n how ds (set ds i y)
  changed ds n i x y how up within is read so =
      let at = is_at ds n i x within is read in
      record { before = x; behind = y; stood = found ds n i x up at; stands = put ds n i x y up at; is_so = so }

  -- a test of the device of a number is one of this device
  pub held : (ds : List (Device V G)) (n i : ℕ) (x : Device V G) (q : Device V G → Type 0) → are_rising (numbers_of ds) ≡ true →
      i < length ds → slice_get (numbers_of ds) i ≡ Some n → x ≡ get_or ds i x → IfSome (device_at ds n) q → q x
  held ds n i x q up within is read so = subst (λ o. IfSome o q) (found ds n i x up (is_at ds n i x within is read)) so

  -- what changed, said in another way of the device that was found
  pub changed_into : {n : ℕ} {olds news : List (Device V G)} {x : Device V G} (how less : Device V G → Device V G → Type 0) → device_at olds n ≡ Some x →
      ((y : Device V G) → how x y → less x y) → Changes n how olds news → Changes n less olds news
  changed_into {x = x} how less is f ch =
      let same : ch.before ≡ x = some_same (sym ch.stood ∙ is) in
      record { before = x; behind = ch.behind; stood = is; stands = ch.stands; is_so = f ch.behind (subst (λ z. how z ch.behind) same ch.is_so) }

  -- The device of a number

  number_by : (d : Device V G) (ds : List (Device V G)) (n : ℕ) (x : Device V G) → (device_at ds n ≡ Some x → x.store.number ≡ n) → (b : Bool) →
      (d.store.number == n) ≡ b → device_at (d ∷ ds) n ≡ Some x → x.store.number ≡ n
  number_by d ds n x rest true test is = let same : d ≡ x = some_same (rw test at is) in subst (λ (y : Device V G). y.store.number ≡ n) same
      (eqb-true d.store.number n test)
  number_by d ds n x rest false test is = rest (rw test at is)

  pub number_found : (ds : List (Device V G)) (n : ℕ) (x : Device V G) → device_at ds n ≡ Some x → x.store.number ≡ n
  number_found [] n x is = absurd (cc)
  number_found (d ∷ ds) n x is = number_by d ds n x (number_found ds n x) (d.store.number == n) refl is

  defined_by : (d : Device V G) (o : Option (Device V G)) (p : Option DefinedDevice) (b : Bool) → p ≡ option_map device_of o →
      (if b then Some (device_of d) else p) ≡ option_map device_of (if b then Some d else o)
  defined_by d o p true same = refl
  defined_by d o p false same = same

  in_defs : (ds : List (Device V G)) (n : ℕ) → device_in (devices_of ds) n ≡ option_map device_of (device_at ds n)
  in_defs [] n = refl
  in_defs (d ∷ ds) n = defined_by d (device_at ds n) (device_in (devices_of ds) n) (d.store.number == n) (in_defs ds n)

  -- the device of a number is so in the definitions
  pub found_in : (ds : List (Device V G)) (n : ℕ) (x : Device V G) → device_at ds n ≡ Some x → device_in (devices_of ds) n ≡ Some (device_of x)
  found_in ds n x is = in_defs ds n ∙ ap (option_map device_of) is

pub read_again : {X : Type 0} (xs : List X) (i : ℕ) (d : X) → i < length xs → get_or xs i d ≡ get_or xs i (get_or xs i d)
read_again xs i d within = sym (get_or_from_slice_get xs i (get_or xs i d) (get_or xs i d) (slice_get-get_or xs i d within))

-- a list that was written as a whole, in room for as many
pub all_written : {X : Type 0} (n : ℕ) (olds news : List X) → length olds ≤ n → length news ≡ length olds →
    take n (news ++ drop (length news) olds) ≡ news
all_written n olds news room same =
    let rest : drop (length news) olds ≡ [] = drop_all (length news) olds (omega arith) in
    rw (rest, append-nil) (take_all n news (omega arith))
