-- To whom devices are lent, and how large they are, behind an event.
use Rattle.std.proofs.Common.{◌≡◌, ◌∙◌, ◌⊎◌, inl, inr, ℕ, zero, suc, Bool, true, false, List, [], ◌∷◌, Option, Some, None, get_or, set, refl, sym, ap, subst}
use Rattle.std.specs.Prelude.{◌==◌, IsSome, slice_get, option_map, if◌then◌else◌}
use Rattle.std.proofs.lemmas.Option.{slice_get-map}
use Rattle.std.proofs.Math.Seq.{map-set_same}
use Rattle.std.proofs.lemmas.List.{map-set}
use Rattle.ckd_types.specs.declared.paths.Side.{Side}
use Rattle.ckd_types.specs.declared.paths.Side.TheVariants.{A, B}
use Rattle.track_image.specs.Image.{Image}
use Rattle.device_outside.specs.declared.volume.Volume.{Ghosts}
use Rattle.device_outside.specs.Interaction.{Interaction, Done}
use Rattle.device_outside.specs.Keeper.{Hearing}
use Rattle.device_outside.specs.Outside.{Outside, Ran, done, tried, asked, read, wrote, told}
use Rattle.device_outside.specs.Pool.{Call}
use Rattle.device_defs.specs.Contents.{contents}
use Rattle.device_defs.specs.Device.{event_begun}
use Rattle.device_defs.specs.declared.answers.SecondEnd.{SecondEnd}
use Rattle.device_defs.specs.Events.{second}
use Rattle.device_defs.specs.Losses.{over}
use Rattle.device_defs.specs.Orders as O
use Rattle.device_defs.specs.Orders.{with_tracks, given_up, lend, lent_to, replace}
use Rattle.device_defs.specs.Store.{tracks_of}
use Rattle.device_laws.proofs.Based.{Base, Any, Based, kept, based_done, based_try, based_ask, based_read, based_write, based_tell}
use Rattle.device_laws.proofs.BasedEvents.{base_in, quiet_based, second_based}
use Rattle.device_store.specs.declared.store.DeviceStore.{DeviceStore}
use Rattle.device_core.specs.declared.device.Device.{Device}
use Rattle.device_core.specs.State.{DefinedDevice, device_of}
use Rattle.subsystem_core.specs.Devices.{device_at}
use Rattle.subsystem_core.specs.Seats.{Seat, seat_of, seats_of, cylinders_at, AreAlike}
use Rattle.subsystem_core.proofs.Found.{some_same}

-- Behind what a device ran

-- it is lent as it was
pub ran_lent : {R K S X : Type 0} {had : Bool → Type 0} {hears : Hearing Image K} {base : S → Base} {may : Call → Type 0} {b : Base}
    {i : Interaction R Image S X} {u z : Outside R K} {s : S} {a : X} → Based base may b i → Ran had hears i u s a z → (base s).lent ≡ b.lent
ran_lent (based_done e) done = ap (λ (x : Base). x.lent) e
ran_lent (based_try x) (tried ok m r) = ran_lent (x ok) r
ran_lent (based_ask m x) (asked {a = a} says r) = ran_lent (x a) r
ran_lent (based_read x) (read {got = got} seen of r) = ran_lent (x got) r
ran_lent (based_write x) (wrote {ok = ok} seen of r) = ran_lent (x ok) r
ran_lent (based_tell x) (told q hears had r) = ran_lent (x q) r

-- or it has lent its volume
pub lend_based : (d : DefinedDevice) (to : ℕ) →
    Based base_in Any (kept (lent_to (over (tracks_of d.store) (given_up contents) (event_begun d).store) to)) (lend contents d to)
unfolding O.lend
lend_based d to =
    quiet_based contents d (kept (lent_to (over (tracks_of d.store) (given_up contents) (event_begun d).store) to))
    (λ z. Done (with_tracks z (lent_to (over (tracks_of z.store) (given_up contents) z.store) to)) tt) (based_done refl)

-- Seats in a list

alone_by : (x : Seat) (m : ℕ) (b : Bool) → (if b then Some x.cylinders else None) ≡ Some m → m ≡ x.cylinders
alone_by x m true is = sym (some_same is)
alone_by x m false is = absurd (cc)

-- one alone is as large as itself
pub alone_alike : (x : Seat) (i n m : ℕ) (w : Seat) → slice_get (x ∷ []) i ≡ Some w → w.lent ≡ Some n → cylinders_at (x ∷ []) n ≡ Some m →
    m ≡ w.cylinders
alone_alike x zero n m w at lent large =
    let same : x ≡ w = some_same at in alone_by x m (x.number == n) large ∙ ap (λ (z : Seat). z.cylinders) same
alone_alike x (suc i) n m w at lent large = absurd (cc)

at_set : (xs : List Seat) (i j : ℕ) (y w : Seat) → slice_get (set xs i y) j ≡ Some w → (w ≡ y) ⊎ (slice_get xs j ≡ Some w)
at_set [] i j y w is = inr is
at_set (z ∷ zs) zero zero y w is = inl (sym (some_same is))
at_set (z ∷ zs) zero (suc j) y w is = inr is
at_set (z ∷ zs) (suc i) zero y w is = inr is
at_set (z ∷ zs) (suc i) (suc j) y w is = at_set zs i j y w is

same_cylinders : (xs : List Seat) (i : ℕ) (x y : Seat) → slice_get xs i ≡ Some x → y.number ≡ x.number → y.cylinders ≡ x.cylinders → (n : ℕ) →
    cylinders_at (set xs i y) n ≡ cylinders_at xs n
same_cylinders [] i x y is number cylinders n = absurd (cc)
same_cylinders (z ∷ zs) zero x y is number cylinders n =
    let same : z ≡ x = some_same is in rw (number, cylinders, same) refl
same_cylinders (z ∷ zs) (suc i) x y is number cylinders n =
    ap (λ (o : Option ℕ). if z.number == n then Some z.cylinders else o) (same_cylinders zs i x y is number cylinders n)

-- another one sits there, which is as large as the device to which it is lent
pub alike_behind : (xs : List Seat) (i : ℕ) (x y : Seat) → slice_get xs i ≡ Some x → y.number ≡ x.number → y.cylinders ≡ x.cylinders →
    ((n m : ℕ) → y.lent ≡ Some n → cylinders_at xs n ≡ Some m → m ≡ y.cylinders) → AreAlike xs → (j n m : ℕ) (w : Seat) →
    slice_get (set xs i y) j ≡ Some w → w.lent ≡ Some n → cylinders_at (set xs i y) n ≡ Some m → m ≡ w.cylinders
alike_behind xs i x y is number cylinders lent alike j n m w at to large = by_place (at_set xs i j y w at)
  where
    before : cylinders_at xs n ≡ Some m
    before = sym (same_cylinders xs i x y is number cylinders n) ∙ large

    by_place : (w ≡ y) ⊎ (slice_get xs j ≡ Some w) → m ≡ w.cylinders
    by_place (inl same) =
        let there : y.lent ≡ Some n = ap (λ (z : Seat). z.lent) (sym same) ∙ to in
        lent n m there before ∙ ap (λ (z : Seat). z.cylinders) (sym same)
    by_place (inr old) = alike j n m w old to before

module _ {V : Type 0} {G : Ghosts V} where
  -- a device is as large, and lent as it was
  pub record SitsAs (before behind : Device V G) : Type 0 where
    pub number : behind.store.number ≡ before.store.number
    pub cylinders : behind.store.cylinders ≡ before.store.cylinders
    pub lent : behind.store.pair.lent ≡ before.store.pair.lent

  same_seat : (x y : Device V G) → SitsAs x y → seat_of y ≡ seat_of x
  same_seat x y s = rw (s.number, s.cylinders, s.lent) refl

  -- as the definitions have it
  pub sits_by : (x y : Device V G) (d : DefinedDevice) → device_of y ≡ d → d.store.device ≡ x.store.number → d.store.cylinders ≡ x.store.cylinders →
      d.store.lent ≡ x.store.pair.lent → SitsAs x y
  sits_by x y d is number cylinders lent = record {
    number = ap (λ (z : DefinedDevice). z.store.device) is ∙ number;
    cylinders = ap (λ (z : DefinedDevice). z.store.cylinders) is ∙ cylinders;
    lent = ap (λ (z : DefinedDevice). z.store.lent) is ∙ lent;
  }

  pub sits_store : (x y : Device V G) → y.store ≡ x.store → SitsAs x y
  sits_store x y same = record {
    number = ap (λ (s : DeviceStore V G). s.number) same;
    cylinders = ap (λ (s : DeviceStore V G). s.cylinders) same;
    lent = ap (λ (s : DeviceStore V G). s.pair.lent) same;
  }

  pub sits_replaced : (x y : Device V G) (side : Side) → device_of y ≡ replace (device_of x) side → SitsAs x y
  sits_replaced x y A is = sits_by x y _ is refl refl refl
  sits_replaced x y B is = sits_by x y _ is refl refl refl

  -- behind a second part that has an end
  pub second_lent : {K : Type 0} {had : Bool → Type 0} {hears : Hearing Image K} (o : Option SecondEnd) (x y : Device V G) (u z : Outside (List ℕ) K) →
      IsSome o → ((e : SecondEnd) → o ≡ Some e → Ran had hears (second contents (device_of x)) u (device_of y) e z) →
      y.store.pair.lent ≡ x.store.pair.lent
  second_lent None x y u z is ran = absurd (cc)
  second_lent (Some e) x y u z is ran = ran_lent (second_based contents (device_of x)) (ran e refl)

  -- All of them

  pub seats_kept : (ds : List (Device V G)) (i : ℕ) (x y : Device V G) → x ≡ get_or ds i x → SitsAs x y → seats_of (set ds i y) ≡ seats_of ds
  seats_kept ds i x y here s = map-set_same seat_of ds i y x (same_seat x y s ∙ ap seat_of here)

  pub alike_kept : (ds : List (Device V G)) (i : ℕ) (x y : Device V G) → x ≡ get_or ds i x → SitsAs x y → AreAlike (seats_of ds) →
      AreAlike (seats_of (set ds i y))
  alike_kept ds i x y here s alike = subst (λ (xs : List Seat). AreAlike xs) (sym (seats_kept ds i x y here s)) alike

  pub seat_there : (ds : List (Device V G)) (i : ℕ) (x : Device V G) → slice_get ds i ≡ Some x → slice_get (seats_of ds) i ≡ Some (seat_of x)
  seat_there ds i x is = slice_get-map seat_of ds i ∙ ap (option_map seat_of) is

  cylinders_by : (x d : Device V G) (o : Option (Device V G)) (p : Option ℕ) (b : Bool) → (o ≡ Some x → p ≡ Some x.store.cylinders) →
      (if b then Some d else o) ≡ Some x → (if b then Some d.store.cylinders else p) ≡ Some x.store.cylinders
  cylinders_by x d o p true rest is = ap (λ (z : Device V G). Some z.store.cylinders) (some_same is)
  cylinders_by x d o p false rest is = rest is

  pub cylinders_found : (ds : List (Device V G)) (n : ℕ) (x : Device V G) → device_at ds n ≡ Some x → cylinders_at (seats_of ds) n ≡ Some x.store.cylinders
  cylinders_found [] n x is = absurd (cc)
  cylinders_found (d ∷ ds) n x is =
      cylinders_by x d (device_at ds n) (cylinders_at (seats_of ds) n) (d.store.number == n) (cylinders_found ds n x) is

  -- one has lent its volume to a device that is as large
  pub alike_lent : (ds : List (Device V G)) (i to : ℕ) (x y z : Device V G) → slice_get ds i ≡ Some x → y.store.number ≡ x.store.number →
      y.store.cylinders ≡ x.store.cylinders → y.store.pair.lent ≡ Some to → device_at ds to ≡ Some z → z.store.cylinders ≡ x.store.cylinders →
      AreAlike (seats_of ds) → AreAlike (seats_of (set ds i y))
  alike_lent ds i to x y z is number cylinders lent found large alike =
      subst (λ (xs : List Seat). AreAlike xs) (sym (map-set seat_of ds i y))
      (alike_behind (seats_of ds) i (seat_of x) (seat_of y) (seat_there ds i x is) number cylinders by_lent alike)
    where
      by_lent : (n m : ℕ) → y.store.pair.lent ≡ Some n → cylinders_at (seats_of ds) n ≡ Some m → m ≡ y.store.cylinders
      by_lent n m at has =
          let same : to ≡ n = some_same (sym lent ∙ at) in
          let size : cylinders_at (seats_of ds) n ≡ Some z.store.cylinders = subst (λ (k : ℕ). cylinders_at (seats_of ds) k ≡ Some z.store.cylinders) same
          (cylinders_found ds to z found) in
          some_same (sym has ∙ size) ∙ large ∙ sym cylinders

  -- one isn't lent any more
  pub alike_restored : (ds : List (Device V G)) (i : ℕ) (x y : Device V G) → slice_get ds i ≡ Some x → y.store.number ≡ x.store.number →
      y.store.cylinders ≡ x.store.cylinders → y.store.pair.lent ≡ None → AreAlike (seats_of ds) → AreAlike (seats_of (set ds i y))
  alike_restored ds i x y is number cylinders lent alike =
      subst (λ (xs : List Seat). AreAlike xs) (sym (map-set seat_of ds i y))
      (alike_behind (seats_of ds) i (seat_of x) (seat_of y) (seat_there ds i x is) number cylinders
      (λ n m at has. let none : None ≡ Some n = sym lent ∙ at in absurd (cc)) alike)
