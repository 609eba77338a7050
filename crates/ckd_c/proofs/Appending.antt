-- A device more, behind those that are there.
use Rattle.std.proofs.Common.{◌≡◌, ◌∙◌, ◌<◌, ◌≤◌, ◌+◌, ℕ, zero, suc, Bool, true, false, List, [], ◌∷◌, ◌++◌, length, get_or, set, map, Option, Some, None, arith, refl, sym, ap, subst}
use Rattle.std.proofs.lemmas.Bool.{lt-ltb}
use Rattle.std.proofs.lemmas.List.{get_or_append_left, length-append, map-append}
use Rattle.std.proofs.lemmas.Option.{slice_get-get_or}
use Rattle.std.proofs.Math.Seq.{get_or-append_seam}
use Rattle.std.specs.Prelude.{◌&&◌, nat_lt, slice_get, IfErr, OnErr, OnOk, Result, Ok, Err}
use Rattle.ckd_types.specs.declared.geometry.Geometry.{Geometry}
use Rattle.deck_plan.specs.Plans.{no_plans}
use Rattle.device_outside.specs.Disk.{new_disk}
use Rattle.device_core.specs.State.{device_of, opened_device, volume_a, volume_b}
use Rattle.subsystem_core.specs.Devices.{devices_of, number_of, numbers_of, volumes_of}
use Rattle.subsystem_core.specs.Places.{IsTable, are_rising, is_before}
use Rattle.subsystem_core.specs.Seats.{AreAlike, Seat, seat_of, seats_of}
use Rattle.subsystem_core.proofs.Found.{count_of}
use Rattle.subsystem_core.proofs.Numbers.{both, table_more}
use Rattle.ckd_c.specs.declared.code.Code.{Code}
use Rattle.ckd_c.specs.declared.opened.Opened.{Opened}
use Rattle.ckd_c.specs.declared.volume.HostVolume.{HostVolume}
use Rattle.ckd_c.specs.declared.volume.HostVolume.TheVariants.{Memory}
use Rattle.ckd_c.specs.Codes.{IsRefusal}
use Rattle.ckd_c.specs.Calls.{AddsImage, AddsMemory, Device, Has, IsAdded, IsSame, StandsBehind, Subsystem, TriesTo, geometry_of}

some_same : {X : Type 0} {a b : X} → Some a ≡ Some b → a ≡ b
some_same e = cc

-- Numbers

both_true : (a b : Bool) → a ≡ true → b ≡ true → (a && b) ≡ true
both_true a b first second = rw (first, second) refl

rising_more : (ns : List ℕ) (n : ℕ) → are_rising ns ≡ true → ((i : ℕ) → i < length ns → get_or ns i 0 < n) → are_rising (ns ++ n ∷ []) ≡ true
rising_more [] n up below = refl
rising_more (m ∷ []) n up below = both_true (nat_lt m n) true (lt-ltb m n (below 0 (omega arith))) refl
rising_more (m ∷ k ∷ ks) n up below =
    let parts = both (nat_lt m k) (are_rising (k ∷ ks)) up in
    both_true (nat_lt m k) (are_rising ((k ∷ ks) ++ n ∷ [])) parts.0 (rising_more (k ∷ ks) n parts.1 (λ i within. below (suc i) (omega (arith, within))))

table_of_more : (places ns : List ℕ) (n i : ℕ) → are_rising (ns ++ n ∷ []) ≡ true → n < length places → i ≡ length ns → IsTable places ns →
    IsTable (set places n i) (ns ++ n ∷ [])
table_of_more places ns n i up there at table j within =
    let long : length (ns ++ n ∷ []) ≡ length ns + 1 = length-append ns (n ∷ []) in
    table_more places (ns ++ n ∷ []) i n up (omega (arith, long, at)) (rw at (get_or-append_seam ns n [] 0)) there
    (λ k below. let inside : k < length ns = omega (arith, below, at) in
    ap (λ (m : ℕ). get_or places m 0) (get_or_append_left ns (n ∷ []) 0 k inside) ∙ table k inside) j (omega (arith, within, long, at))

numbers_below : (ds : List Device) (n : ℕ) → ((i : ℕ) (d : Device) → slice_get ds i ≡ Some d → number_of d < n) → (i : ℕ) → i < length (numbers_of ds) →
    get_or (numbers_of ds) i 0 < n
numbers_below [] n below i within = absurd (omega (arith, within))
numbers_below (d ∷ ds) n below zero within = below 0 d refl
numbers_below (d ∷ ds) n below (suc i) within = numbers_below ds n (λ j x is. below (suc j) x is) i (omega (arith, within))

-- Seats

none_lent_more : (ds : List Device) (x : Device) → ((i : ℕ) (d : Device) → slice_get ds i ≡ Some d → (device_of d).store.lent ≡ None) →
    (device_of x).store.lent ≡ None → (i : ℕ) (d : Device) → slice_get (ds ++ x ∷ []) i ≡ Some d → (device_of d).store.lent ≡ None
none_lent_more [] x none here zero d is = ap (λ (y : Device). (device_of y).store.lent) (sym (some_same is)) ∙ here
none_lent_more [] x none here (suc i) d is = absurd (cc)
none_lent_more (y ∷ ys) x none here zero d is = none 0 d is
none_lent_more (y ∷ ys) x none here (suc i) d is = none_lent_more ys x (λ j z at. none (suc j) z at) here i d is

seats_lent : (ds : List Device) → ((i : ℕ) (d : Device) → slice_get ds i ≡ Some d → (device_of d).store.lent ≡ None) → (i : ℕ) (s : Seat) →
    slice_get (seats_of ds) i ≡ Some s → s.lent ≡ None
seats_lent [] none i s is = absurd (cc)
seats_lent (d ∷ ds) none zero s is = ap (λ (z : Seat). z.lent) (sym (some_same is)) ∙ none 0 d refl
seats_lent (d ∷ ds) none (suc i) s is = seats_lent ds (λ j z at. none (suc j) z at) i s is

alike_where_none_lent : (ds : List Device) → ((i : ℕ) (d : Device) → slice_get ds i ≡ Some d → (device_of d).store.lent ≡ None) → AreAlike (seats_of ds)
alike_where_none_lent ds none i n m s at to large = let gone : None ≡ Some n = sym (seats_lent ds none i s at) ∙ to in absurd (cc)

-- What holds of the subsystem behind it

module _ (ds : List Device) (x : Device) (stands : StandsBehind ds (number_of x)) where
  numbers_are : numbers_of (ds ++ x ∷ []) ≡ numbers_of ds ++ number_of x ∷ []
  numbers_are = map-append number_of ds (x ∷ [])

  numbers_rise : are_rising (numbers_of ds) ≡ true → are_rising (numbers_of ds ++ number_of x ∷ []) ≡ true
  numbers_rise up = rising_more (numbers_of ds) (number_of x) up (numbers_below ds (number_of x) (λ i d is. (stands i d is).0))

  pub pushed_rise : (new : List Device) → new ≡ ds ++ x ∷ [] → are_rising (numbers_of ds) ≡ true → are_rising (numbers_of new) ≡ true
  pushed_rise new is up = rw (is, numbers_are) (numbers_rise up)

  pub pushed_table : (new : List Device) (places : List ℕ) (n i : ℕ) → new ≡ ds ++ x ∷ [] → n ≡ number_of x → i ≡ length ds → n < length places →
      are_rising (numbers_of ds) ≡ true → IsTable places (numbers_of ds) → IsTable (set places n i) (numbers_of new)
  pushed_table new places n i is number at there up table =
      subst (λ (xs : List Device). IsTable (set places n i) (numbers_of xs)) (sym is)
      (subst (λ (ns : List ℕ). IsTable (set places n i) ns) (sym numbers_are)
      (subst (λ (m : ℕ). IsTable (set places m i) (numbers_of ds ++ number_of x ∷ [])) (sym number)
      (table_of_more places (numbers_of ds) (number_of x) i (numbers_rise up) (subst (λ (m : ℕ). m < length places) number there)
      (at ∙ sym (count_of ds)) table)))

  pub pushed_alike : (new : List Device) → new ≡ ds ++ x ∷ [] → (device_of x).store.lent ≡ None → AreAlike (seats_of new)
  pushed_alike new is here =
      subst (λ (xs : List Device). AreAlike (seats_of xs)) (sym is) (alike_where_none_lent (ds ++ x ∷ []) (none_lent_more ds x (λ i d at. (stands i d at).1) here))

-- What adding comes to

module _ (n : ℕ) (geometry : Geometry) (cylinders : ℕ) (volume : HostVolume) where
  pub is_pushed : (r : Result (Unit {0}) Code) (x y : Opened) (d : Device) → device_of d ≡ opened_device n geometry cylinders no_plans →
      (volume_a d ≡ Some volume) × (volume_b d ≡ None) → y.subsystem.pool ≡ x.subsystem.pool → OnOk r (y.subsystem.devices.items ≡ x.subsystem.devices.items ++ d ∷ []) →
      OnErr r (y.subsystem.devices.items ≡ x.subsystem.devices.items) → IfErr r IsRefusal → TriesTo (IsAdded n geometry cylinders volume) r x y
  is_pushed (Ok u) x y d is volumes pool pushed same why = record { device = d; is = is; volumes = volumes; devices = pushed; pool = pool }
  is_pushed (Err e) x y d is volumes pool pushed same why = (why, (pool, rw same (refl, refl)))

  -- behind a volume that was mounted
  pub added_behind : (x m y : Opened) → m.subsystem ≡ x.subsystem → IsAdded n geometry cylinders volume m y → AddsImage n x y
  added_behind x m y same a =
      record {
        geometry = geometry;
        cylinders = cylinders;
        volume = volume;
        added = record {
          device = a.device;
          is = a.is;
          volumes = a.volumes;
          devices = a.devices ∙ ap (λ (s : Subsystem). s.devices.items ++ a.device ∷ []) same;
          pool = a.pool ∙ ap (λ (s : Subsystem). s.pool) same;
        };
      }

-- on a volume in memory
pub adds_memory : (n m kind cylinders : ℕ) (g : Geometry) (reads writes : List ℕ) (volume : HostVolume) (r : Result (Unit {0}) Code) (x y : Opened) →
    m ≡ n → geometry_of kind ≡ Some g → volume ≡ Memory (new_disk cylinders reads writes) → TriesTo (IsAdded m g cylinders volume) r x y →
    TriesTo (AddsMemory n kind cylinders reads writes) r x y
adds_memory n m kind cylinders g reads writes volume (Ok u) x y number is on added =
    subst (λ (o : Option Geometry). Has (λ (h : Geometry). IsAdded n h cylinders (Memory (new_disk cylinders reads writes)) x y) o) (sym is)
    (subst (λ (v : HostVolume). IsAdded n g cylinders v x y) on (subst (λ (k : ℕ). IsAdded k g cylinders volume x y) number added))
adds_memory n m kind cylinders g reads writes volume (Err e) x y number is on added = added

pub same_behind : (x m y : Opened) → m.subsystem ≡ x.subsystem → IsSame m y → IsSame x y
same_behind x m y same s = (
  s.0 ∙ ap (λ (s : Subsystem). s.pool) same,
  (s.1.0 ∙ ap (λ (s : Subsystem). devices_of s.devices.items) same, s.1.1 ∙ ap (λ (s : Subsystem). volumes_of s.devices.items) same),
)
