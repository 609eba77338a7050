-- What is so of the device of a number is so behind each deed of a run, where the deed leaves it so.
use Rattle.std.proofs.Common.{◌≡◌, ◌==◌, ℕ, Bool, true, false, List, [], ◌∷◌, Option, Some, None, refl, sym, ap, subst, ◌∙◌}
use Rattle.std.specs.Prelude.{if◌then◌else◌}
use Rattle.std.proofs.lemmas.Bool.{eqb-true, eq-eqb}
use Rattle.ckd_types.specs.declared.paths.Side.{Side}
use Rattle.ckd_types.specs.declared.paths.Side.TheVariants.{A, B}
use Rattle.device_outside.specs.Pool.{Pool}
use Rattle.device_outside.specs.Told.{Calls, Told, hold}
use Rattle.device_defs.specs.Contents.{by_plain}
use Rattle.device_defs.specs.Marks.{MarksDevice}
use Rattle.device_defs.specs.Orders.{join, split, restore, replace, lend}
use Rattle.device_defs.specs.Peek.{peek}
use Rattle.subsystem_defs.specs.declared.end.EventEnd.{EventEnd}
use Rattle.subsystem_defs.specs.declared.end.OrderFault.{OrderFault}
use Rattle.subsystem_defs.specs.Deeds.{Ends, Becomes, Asks, Each, Repairs, Lends}
use Rattle.subsystem_defs.specs.Happening as H
use Rattle.subsystem_defs.specs.Happening.{
  MarksDeed,
  Talk,
  told_to,
  held_with,
  mounted_behind,
  behind_outcome,
  asks,
  becomes,
  sweep,
  joined,
  lends,
  happens_by,
  replaced_by,
  replaced_at,
  replaced,
  is_lent_to,
  restored_in,
  unpaired_by,
  unpaired_at,
  unpaired,
}
use Rattle.subsystem_defs.specs.Looks as L
use Rattle.subsystem_defs.specs.Looks.{looked_at, looked}
use Rattle.subsystem_defs.specs.Refusals.{replace_fault, unpair_fault}
use Rattle.subsystem_defs.specs.Subsystem.{Mounted, Subsystem, number_of, mounted_in, put_in, with_calls}
use Rattle.subsystem_laws.proofs.Walks.{mounted_number}
use Rattle.keeper_laws.proofs.Sizes.{IsSized, peek_sized, lend_sized}

some_is : {X : Type 0} {x y : X} → Some x ≡ Some y → x ≡ y
some_is e = cc

not_of : (k a b : ℕ) (y : Mounted) (o : Option Mounted) → k ≡ b → (b == a) ≡ false → (if k == a then Some y else o) ≡ o
not_of k a b y o e other = ap (λ (x : ℕ). if x == a then Some y else o) e ∙ ap (λ (t : Bool). if t then Some y else o) other

other_if : (t : Bool) (k y : Mounted) (ms : List Mounted) (a b : ℕ) → (number_of k == b) ≡ t → number_of y ≡ b → (b == a) ≡ false →
    mounted_in (put_in ms b y) a ≡ mounted_in ms a → mounted_in (if t then y ∷ ms else k ∷ put_in ms b y) a ≡ mounted_in (k ∷ ms) a
other_if true k y ms a b is number other more =
    not_of (number_of y) a b y (mounted_in ms a) number other ∙ sym (not_of (number_of k) a b k (mounted_in ms a) (eqb-true (number_of k) b is) other)
other_if false k y ms a b is number other more = ap (λ (o : Option Mounted). if number_of k == a then Some k else o) more

-- the others stay as they are
put_other : (ms : List Mounted) (a b : ℕ) (y : Mounted) → number_of y ≡ b → (b == a) ≡ false → mounted_in (put_in ms b y) a ≡ mounted_in ms a
put_other [] a b y number other = refl
put_other (k ∷ ms) a b y number other = other_if (number_of k == b) k y ms a b refl number other (put_other ms a b y number other)

module _ (n : ℕ) (R : MarksDevice → Type 0) where
  -- it is so of the device that is mounted there
  pub record IsAt (ms : List Mounted) : Type 0 where
    pub mounted : Mounted
    pub there : mounted_in ms n ≡ Some mounted
    pub is_so : R mounted.device

  found_so : (ms : List Mounted) (x : IsAt ms) (k : ℕ) (m : Mounted) → mounted_in ms k ≡ Some m → k ≡ n → R m.device
  found_so ms x k m at same =
      subst (λ (y : Mounted). R y.device) (some_is (sym x.there ∙ sym (ap (mounted_in ms) same) ∙ at)) x.is_so

  -- Another one in a place

  pub first_at : (x : Mounted) (ms : List Mounted) → number_of x ≡ n → R x.device → IsAt (x ∷ ms)
  first_at x ms is new = record {
    mounted = x;
    there = ap (λ (b : Bool). if b then Some x else mounted_in ms n) (eq-eqb (number_of x) n is);
    is_so = new;
  }

  pub later_at : (x : Mounted) (ms : List Mounted) → (number_of x == n) ≡ false → IsAt ms → IsAt (x ∷ ms)
  later_at x ms off rest = record {
    mounted = rest.mounted;
    there = ap (λ (b : Bool). if b then Some x else mounted_in ms n) off ∙ rest.there;
    is_so = rest.is_so;
  }

  pub rest_of : (x m : Mounted) (ms : List Mounted) → (number_of x == n) ≡ false → mounted_in (x ∷ ms) n ≡ Some m → mounted_in ms n ≡ Some m
  rest_of x m ms off at = sym (ap (λ (b : Bool). if b then Some x else mounted_in ms n) off) ∙ at

  pub first_of : (x m : Mounted) (ms : List Mounted) → (number_of x == n) ≡ true → mounted_in (x ∷ ms) n ≡ Some m → x ≡ m
  first_of x m ms on at = some_is (sym (ap (λ (b : Bool). if b then Some x else mounted_in ms n) on) ∙ at)

  pub put_here : (ms : List Mounted) (m y : Mounted) → mounted_in ms n ≡ Some m → number_of y ≡ n → R y.device → IsAt (put_in ms n y)
  put_here [] m y at is new = absurd (cc)
  put_here (x ∷ ms) m y at is new = by_test (number_of x == n) refl (λ off. put_here ms m y (rest_of x m ms off at) is new) where
    by_test : (b : Bool) → (number_of x == n) ≡ b → ((number_of x == n) ≡ false → IsAt (put_in ms n y)) → IsAt (if b then y ∷ ms else x ∷ put_in ms n y)
    by_test true on later = first_at y ms is new
    by_test false off later = later_at x (put_in ms n y) off (later off)

  pub put_at : (ms : List Mounted) (k : ℕ) (y : Mounted) → IsAt ms → number_of y ≡ k → (k ≡ n → R y.device) → IsAt (put_in ms k y)
  put_at ms k y x number new = by_test (k == n) refl where
    by_test : (b : Bool) → (k == n) ≡ b → IsAt (put_in ms k y)
    by_test true e =
        let same : k ≡ n = eqb-true k n e in
        subst (λ (j : ℕ). IsAt (put_in ms j y)) (sym same) (put_here ms x.mounted y x.there (number ∙ same) (new same))
    by_test false e = record { mounted = x.mounted; there = put_other ms n k y number e ∙ x.there; is_so = x.is_so }

  -- Each device

  swept_at : (f : MarksDevice → Talk (Unit {0})) → ((d : MarksDevice) (t : Told) → IsSized d (hold true (f d) t).state) → (ms : List Mounted) (pool : Pool)
      (m : Mounted) → mounted_in ms n ≡ Some m → ((t : Told) → R (hold true (f m.device) t).state) → IsAt (sweep f ms pool).mounted
  unfolding H.sweep
  swept_at f sized [] pool m at new = absurd (cc)
  swept_at f sized (x ∷ ms) pool m at new = by_test (number_of x == n) refl (swept_at f sized ms)
    where
      o : Mounted
      o = mounted_behind (held_with pool x (f x.device))

      by_test : (b : Bool) → (number_of x == n) ≡ b →
          ((p : Pool) (y : Mounted) → mounted_in ms n ≡ Some y → ((t : Told) → R (hold true (f y.device) t).state) → IsAt (sweep f ms p).mounted) →
          IsAt (mounted_behind (held_with pool x (f x.device)) ∷ (sweep f ms (held_with pool x (f x.device)).told.pool).mounted)
      by_test true on later =
          first_at (mounted_behind (held_with pool x (f x.device))) _
          ((sized x.device (told_to pool x)).device ∙ eqb-true (number_of x) n on)
          (subst (λ (y : Mounted). R (hold true (f y.device) (told_to pool x)).state) (sym (first_of x m ms on at)) (new (told_to pool x)))
      by_test false off later =
          later_at (mounted_behind (held_with pool x (f x.device))) _
          (ap (λ (k : ℕ). k == n) (sized x.device (told_to pool x)).device ∙ off)
          (later (held_with pool x (f x.device)).told.pool m (rest_of x m ms off at) new)

  -- Deeds

  module _ (s : Subsystem) (m : Mounted) (there : mounted_in s.mounted n ≡ Some m) (now : R m.device) where
    pub place : IsAt s.mounted
    place = record { mounted = m; there = there; is_so = now }

    -- what a deed leaves, where it is one of that device
    abbrev pub Leaves : MarksDeed → Type 0
    Leaves (Ends end) = Unit {0}
    Leaves (Becomes d end) = d.store.device ≡ n → R d
    Leaves (Asks d talk) =
        (k : Mounted) → mounted_in s.mounted d.store.device ≡ Some k →
        ((held_with s.pool k talk).state.store.device ≡ d.store.device) × (d.store.device ≡ n → R (held_with s.pool k talk).state)
    Leaves (Each pool f) =
        ((d : MarksDevice) (t : Told) → IsSized d (hold true (f d) t).state) × ((t : Told) → R (hold true (f m.device) t).state)
    Leaves (Repairs pool) = Unit {0}
    Leaves (Lends a b) =
        ((t : Told) → R (hold true (lend by_plain m.device a.store.device) t).state) × ((d : MarksDevice) → R d → R (join d))

    asked_at : (k : ℕ) (talk : Talk (Option EventEnd)) (o : Option Mounted) → mounted_in s.mounted k ≡ o →
        ((y : Mounted) → mounted_in s.mounted k ≡ Some y →
        ((held_with s.pool y talk).state.store.device ≡ k) × (k ≡ n → R (held_with s.pool y talk).state)) →
        IsAt (asks s k o talk).behind.mounted
    asked_at k talk None is h = place
    asked_at k talk (Some y) is h = put_at s.mounted k (mounted_behind (held_with s.pool y talk)) place (h y is).0 (h y is).1

    becomes_at : (d : MarksDevice) (o : Option Mounted) → (d.store.device ≡ n → R d) → IsAt (becomes s d.store.device o d).mounted
    becomes_at d None h = place
    becomes_at d (Some y) h = put_at s.mounted d.store.device (record y { device = d }) place refl h

    joined_at : (z : Subsystem) (k : ℕ) (volume : Calls) (o : Option Mounted) → mounted_in z.mounted k ≡ o → IsAt z.mounted →
        ((d : MarksDevice) → R d → R (join d)) → IsAt (joined z k volume o).mounted
    joined_at z k volume None is x h = x
    joined_at z k volume (Some y) is x h =
        put_at z.mounted k (record y { device = join y.device; b = volume }) x (mounted_number z.mounted k y is)
        (λ same. h y.device (found_so z.mounted x k y is same))

    lends_at : (a b : ℕ) (o : Option Mounted) → mounted_in s.mounted b ≡ o → ((t : Told) → R (hold true (lend by_plain m.device a) t).state) →
        ((d : MarksDevice) → R d → R (join d)) → IsAt (lends s a b o).mounted
    lends_at a b None is new joins = place
    lends_at a b (Some y) is new joins =
        let o = held_with s.pool y (lend by_plain y.device a) in
        let z = behind_outcome s b o in
        joined_at z a o.told.a (mounted_in z.mounted a) refl
        (put_at s.mounted b (mounted_behind o) place ((lend_sized y.device a (told_to s.pool y)).device ∙ mounted_number s.mounted b y is)
        (λ same.
        subst (λ (x : Mounted). R (hold true (lend by_plain x.device a) (told_to s.pool y)).state)
        (some_is (sym there ∙ sym (ap (mounted_in s.mounted) same) ∙ is)) (new (told_to s.pool y))))
        joins

    pub deed_at : (x : MarksDeed) → Leaves x → IsAt (happens_by s x).behind.mounted
    deed_at (Ends end) h = place
    deed_at (Becomes d end) h = becomes_at d (mounted_in s.mounted d.store.device) h
    deed_at (Asks d talk) h = asked_at d.store.device talk (mounted_in s.mounted d.store.device) refl h
    deed_at (Each pool f) h = swept_at f h.0 s.mounted pool m there h.1
    deed_at (Repairs pool) h = place
    deed_at (Lends a b) h = lends_at a.store.device b.store.device (mounted_in s.mounted b.store.device) refl h.0 h.1

    -- Looks, and the orders for which a volume is handed in

    look_at : (k q : ℕ) (o : Option Mounted) → mounted_in s.mounted k ≡ o → ((t : Told) → R (hold true (peek by_plain m.device q) t).state) →
        IsAt (looked_at s k q o).behind.mounted
    look_at k q None is new = place
    look_at k q (Some y) is new =
        put_at s.mounted k (mounted_behind (held_with s.pool y (peek by_plain y.device q))) place
        ((peek_sized y.device q (told_to s.pool y)).device ∙ mounted_number s.mounted k y is)
        (λ same.
        subst (λ (x : Mounted). R (hold true (peek by_plain x.device q) (told_to s.pool y)).state)
        (some_is (sym there ∙ sym (ap (mounted_in s.mounted) same) ∙ is)) (new (told_to s.pool y)))

    pub looked_there : (k q : ℕ) → ((t : Told) → R (hold true (peek by_plain m.device q) t).state) → IsAt (looked s k q).behind.mounted
    unfolding L.looked
    looked_there k q new = look_at k q (mounted_in s.mounted k) refl new

    replaces_at : (k : ℕ) (side : Side) (volume : Calls) (y : Mounted) (f : Option OrderFault) → mounted_in s.mounted k ≡ Some y →
        R (replace m.device side) → IsAt (replaced_by s k side volume y f).behind.mounted
    replaces_at k side volume y (Some f) is new = place
    replaces_at k A volume y None is new =
        put_at s.mounted k (with_calls (record y { device = replace y.device A }) A volume) place (mounted_number s.mounted k y is)
        (λ same. subst (λ (x : Mounted). R (replace x.device A)) (some_is (sym there ∙ sym (ap (mounted_in s.mounted) same) ∙ is)) new)
    replaces_at k B volume y None is new =
        put_at s.mounted k (with_calls (record y { device = replace y.device B }) B volume) place (mounted_number s.mounted k y is)
        (λ same. subst (λ (x : Mounted). R (replace x.device B)) (some_is (sym there ∙ sym (ap (mounted_in s.mounted) same) ∙ is)) new)

    replaced_by_found : (k : ℕ) (side : Side) (volume : Calls) (o : Option Mounted) → mounted_in s.mounted k ≡ o → R (replace m.device side) →
        IsAt (replaced_at s k side volume o).behind.mounted
    replaced_by_found k side volume None is new = place
    replaced_by_found k side volume (Some y) is new = replaces_at k side volume y (replace_fault y.device side) is new

    pub replaced_there : (k : ℕ) (side : Side) (volume : Calls) → R (replace m.device side) → IsAt (replaced s k side volume).behind.mounted
    unfolding H.replaced
    replaced_there k side volume new = replaced_by_found k side volume (mounted_in s.mounted k) refl new

  -- one that was lent gets a volume

  restored_at : (ms : List Mounted) (k : ℕ) (volume : Calls) (x : IsAt ms) →
      (is_lent_to x.mounted.device.store.lent k ≡ true → R (restore x.mounted.device)) → IsAt (restored_in ms k volume)
  restored_at [] k volume x new = x
  restored_at (y ∷ ms) k volume x new = by_test (number_of y == n) refl (is_lent_to y.device.store.lent k) refl (restored_at ms k volume)
    where
      by_test : (b : Bool) → (number_of y == n) ≡ b → (c : Bool) → is_lent_to y.device.store.lent k ≡ c →
          ((z : IsAt ms) → (is_lent_to z.mounted.device.store.lent k ≡ true → R (restore z.mounted.device)) → IsAt (restored_in ms k volume)) →
          IsAt (if c then record y { device = restore y.device; a = volume } ∷ ms else y ∷ restored_in ms k volume)
      by_test true on true lent later =
          let same : y ≡ x.mounted = first_of y x.mounted ms on x.there in
          first_at (record y { device = restore y.device; a = volume }) ms (eqb-true (number_of y) n on)
          (subst (λ (z : Mounted). R (restore z.device)) (sym same) (new (ap (λ (z : Mounted). is_lent_to z.device.store.lent k) (sym same) ∙ lent)))
      by_test true on false lent later =
          let same : y ≡ x.mounted = first_of y x.mounted ms on x.there in
          first_at y (restored_in ms k volume) (eqb-true (number_of y) n on) (subst (λ (z : Mounted). R z.device) (sym same) x.is_so)
      by_test false off true lent later =
          later_at (record y { device = restore y.device; a = volume }) ms off
          (record { mounted = x.mounted; there = rest_of y x.mounted ms off x.there; is_so = x.is_so })
      by_test false off false lent later =
          later_at y (restored_in ms k volume) off
          (later (record { mounted = x.mounted; there = rest_of y x.mounted ms off x.there; is_so = x.is_so }) new)

  module _ (s : Subsystem) (m : Mounted) (there : mounted_in s.mounted n ≡ Some m) (now : R m.device) (splits : (d : MarksDevice) → R d → R (split d))
      (k : ℕ) (volume : Calls) (restores : (d : MarksDevice) → R d → is_lent_to d.store.lent k ≡ true → R (restore d)) where
    unpairs_at : (y : Mounted) (f : Option OrderFault) → mounted_in s.mounted k ≡ Some y → IsAt (unpaired_by s k volume y f).behind.mounted
    unpairs_at y (Some f) is = place s m there now
    unpairs_at y None is =
        let z = put_at s.mounted k (record y { device = split y.device }) (place s m there now) (mounted_number s.mounted k y is)
        (λ same. splits y.device (found_so s.mounted (place s m there now) k y is same)) in
        restored_at (put_in s.mounted k (record y { device = split y.device })) k volume z (λ lent. restores z.mounted.device z.is_so lent)

    unpaired_by_found : (o : Option Mounted) → mounted_in s.mounted k ≡ o → IsAt (unpaired_at s k volume o).behind.mounted
    unpaired_by_found None is = place s m there now
    unpaired_by_found (Some y) is = unpairs_at y (unpair_fault y.device) is

    pub unpaired_there : IsAt (unpaired s k volume).behind.mounted
    unfolding H.unpaired
    unpaired_there = unpaired_by_found (mounted_in s.mounted k) refl
