-- What a run has mounted for a device that stands there: its model and size, a firm volume of that size, and no other of its number.
use Rattle.std.proofs.Common.{◌≡◌, ◌∙◌, ◌==◌, ◌≤◌, ◌<◌, ℕ, Bool, true, false, List, [], ◌∷◌, Option, Some, None, not, is_some, refl, sym, ap, subst, arith}
use Rattle.std.specs.Prelude.{if◌then◌else◌, nat_lt}
use Rattle.std.proofs.lemmas.Bool.{eqb-true, ltb-true}
use Rattle.ckd_types.specs.declared.record.Track.{Track}
use Rattle.ckd_types.specs.Volume.{IsVolume}
use Rattle.device_outside.specs.declared.volume.Volume.{Ghosts}
use Rattle.device_outside.specs.Lists.{is_in}
use Rattle.device_core.specs.declared.device.Device.{Device}
use Rattle.device_laws.specs.Agrees.{Held}
use Rattle.device_laws.specs.Lent.{Stands, in_order, is_away}
use Rattle.device_laws.specs.Whole.{WholeDevice}
use Rattle.subsystem_core.specs.declared.subsystem.Subsystem.{Subsystem}
use Rattle.subsystem_core.specs.Devices.{device_at, numbers_of}
use Rattle.subsystem_core.specs.Places.{are_rising}
use Rattle.subsystem_core.proofs.Numbers.{both, rest_rises}
use Rattle.subsystem_defs.specs.Subsystem as runs
use Rattle.subsystem_defs.specs.Subsystem.{Mounted, mounted_in, number_of}
use Rattle.subsystem_laws.specs.WholeStood.{IsMounted, Stood, is_mounted}
use Rattle.subsystem_laws.proofs.WholeFinding.{Found, both_found, find, none_found}
use Rattle.keeper_laws.specs.Firmness.{has_one}
use Rattle.deck_run.specs.Standing.{StandsAs, all_stood, stood_of}
use Rattle.deck_run.proofs.Events as events
use Rattle.deck_run.proofs.Found.{stood_found}
use Rattle.deck_run.proofs.Telling.{AreKnown, all_known}
use Rattle.remote_copy.proofs.Seats.{Sits}

some_same : {X : Type 0} {x y : X} → Some x ≡ Some y → x ≡ y
some_same e = cc

-- Of one device

pub record IsFirmly (x : Stood) (m : Mounted) : Type 0 where
  pub geometry : m.device.store.geometry ≡ x.device.store.geometry
  pub cylinders : m.device.store.cylinders ≡ x.device.store.cylinders
  pub lent : m.device.store.lent ≡ x.device.store.lent
  pub firm : IsVolume m.device.store.geometry m.device.store.cylinders m.device.store.firm

firm_volume : (v w : List Track) (d : WholeDevice) (h : Held) → Stands v w d h → IsVolume d.store.geometry d.store.cylinders w
firm_volume v w d h (in_order i) = i.agrees.ground.firm
firm_volume v w d h (is_away i) = i.store.ground.firm

firmly : {mine : List ℕ} {x : Stood} {m : Mounted} → IsMounted mine x m → IsFirmly x m
firmly (is_mounted d v w h on_a on_b a b stands slots told_a told_b) =
    record { geometry = refl; cylinders = refl; lent = refl; firm = firm_volume v w d h stands }

module _ {V : Type 0} {G : Ghosts V} (sub : Subsystem V G) (run : runs.Subsystem) (n : ℕ) (y : Device V G) (m : Mounted) (stands : StandsAs sub run)
    (at : device_at sub.devices.items n ≡ Some y) (there : mounted_in run.mounted n ≡ Some m) where
  by_found : Found sub.pool.pool.used [] (all_stood sub.devices.items) run.mounted n → IsFirmly (stood_of y) m
  by_found (none_found s e) = absurd (let no : None ≡ Some m = sym e ∙ there in cc)
  by_found (both_found x k mine others s e is shared number put) =
      subst (λ (u : Mounted). IsFirmly (stood_of y) u) (some_same (sym e ∙ there))
      (subst (λ (z : Stood). IsFirmly z k) (some_same (sym s ∙ stood_found sub.devices.items n y at)) (firmly is))

  pub mounted_firmly : IsFirmly (stood_of y) m
  mounted_firmly = by_found (find sub.pool.pool.used [] (all_stood sub.devices.items) run.mounted n stands.mounted)

-- No other of its number

not_over : (m n : ℕ) → n < m → (m == n) ≡ false
not_over m n lt = grind arith

module _ {V : Type 0} {G : Ghosts V} where
  later_none : (n k : ℕ) (xs : List (Device V G)) (ms : List Mounted) → n ≤ k → are_rising (k ∷ numbers_of xs) ≡ true → AreKnown (all_stood xs) ms →
      mounted_in ms n ≡ None
  later_none n k [] [] le up all = refl
  later_none n k [] (m ∷ ms) le up all = absurd all
  later_none n k (y ∷ ys) [] le up all = absurd all
  later_none n k (y ∷ ys) (m ∷ ms) le up all =
      let rise = both (nat_lt k y.store.number) (are_rising (y.store.number ∷ numbers_of ys)) up in
      let above : k < y.store.number = ltb-true k y.store.number rise.0 in
      ap (λ (b : Bool). if b then Some m else mounted_in ms n)
      (ap (λ (j : ℕ). j == n) all.0.number ∙ not_over y.store.number n (omega (arith, le, above)))
      ∙ later_none n y.store.number ys ms (omega (arith, le, above)) rise.1 all.1

  one_by : (n : ℕ) (x y : Device V G) (xs : List (Device V G)) (m : Mounted) (ms : List Mounted) → number_of m ≡ x.store.number → (b : Bool) →
      (x.store.number == n) ≡ b → (n ≡ x.store.number → mounted_in ms n ≡ None) → (device_at xs n ≡ Some y → has_one n ms ≡ true) →
      (if b then Some x else device_at xs n) ≡ Some y → has_one n (m ∷ ms) ≡ true
  one_by n x y xs m ms same true e none more at =
      ap (λ (b : Bool). if b then not (is_some (mounted_in ms n)) else has_one n ms) (ap (λ (j : ℕ). j == n) same ∙ e)
      ∙ ap (λ (o : Option Mounted). not (is_some o)) (none (sym (eqb-true x.store.number n e)))
  one_by n x y xs m ms same false e none more at =
      ap (λ (b : Bool). if b then not (is_some (mounted_in ms n)) else has_one n ms) (ap (λ (j : ℕ). j == n) same ∙ e) ∙ more at

  one_there : (n : ℕ) (xs : List (Device V G)) (ms : List Mounted) (y : Device V G) → are_rising (numbers_of xs) ≡ true → AreKnown (all_stood xs) ms →
      device_at xs n ≡ Some y → has_one n ms ≡ true
  one_there n [] ms y up all at = absurd (cc)
  one_there n (x ∷ xs) [] y up all at = absurd all
  one_there n (x ∷ xs) (m ∷ ms) y up all at =
      one_by n x y xs m ms all.0.number (x.store.number == n) refl (λ e. later_none n x.store.number xs ms (omega (arith, e)) up all.1)
      (λ rest. one_there n xs ms y (rest_rises x.store.number (numbers_of xs) up) all.1 rest) at

  pub one_mounted : (sub : Subsystem V G) (run : runs.Subsystem) (n : ℕ) → is_in n (numbers_of sub.devices.items) ≡ true → StandsAs sub run →
      has_one n run.mounted ≡ true
  one_mounted sub run n here stands =
      let one = events.has_one sub.devices.items n here in
      one_there n sub.devices.items run.mounted one.device sub.rising (all_known (all_stood sub.devices.items) run.mounted stands.mounted) one.found

  -- a device that wasn't lent isn't
  pub home_so : (old new : Subsystem V G) (run next : runs.Subsystem) (n : ℕ) (m k : Mounted) → is_in n (numbers_of old.devices.items) ≡ true →
      StandsAs old run → mounted_in run.mounted n ≡ Some m → m.device.store.lent ≡ None → StandsAs new next → mounted_in next.mounted n ≡ Some k →
      ((x : Device V G) → device_at old.devices.items n ≡ Some x → Sits n new.devices.items x) → k.device.store.lent ≡ None
  home_so old new run next n m k here stands there home behind now sits =
      let one = events.has_one old.devices.items n here in
      let s = sits one.device one.found in
      let was = mounted_firmly old run n one.device m stands one.found there in
      let is = mounted_firmly new next n s.device k behind s.found now in
      is.lent ∙ s.seat.home (sym was.lent ∙ home)
