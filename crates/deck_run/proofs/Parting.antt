-- A pair is taken apart: what it comes to in a run, and what is told of it.
use Rattle.std.proofs.Common.{
  ◌≡◌,
  ◌∙◌,
  ◌+◌,
  ◌*◌,
  ◌≤◌,
  ℕ,
  zero,
  suc,
  Bool,
  true,
  false,
  List,
  [],
  ◌∷◌,
  length,
  Option,
  Some,
  None,
  is_some,
  arith,
  refl,
  sym,
  ap,
  subst,
}
use Rattle.std.specs.Prelude.{◌==◌, ◌&&◌, not, option_map, slice_get, if◌then◌else◌}
use Rattle.std.proofs.lemmas.Bool.{eqb-true}
use Rattle.track_table.specs.Tracks.{count_below}
use Rattle.plain_defs.specs.History.{History, OpenEntry}
use Rattle.device_outside.specs.declared.volume.Volume.{Ghosts}
use Rattle.device_outside.specs.Both.{SideIs}
use Rattle.device_outside.specs.Disk.{empty_contents}
use Rattle.device_outside.specs.Pool as pools
use Rattle.device_store.specs.State.{on_a, on_b}
use Rattle.device_defs.specs.Orders.{restore, split}
use Rattle.device_defs.specs.Store.{HalfWrite, SideMarks, stale_at}
use Rattle.device_core.specs.declared.device.Device.{Device}
use Rattle.device_core.specs.State.{DefinedDevice, device_of}
use Rattle.report_text.specs.declared.order.Order.TheVariants as orders
use Rattle.subsystem_core.specs.declared.end.EventEnd.{EventEnd}
use Rattle.subsystem_core.specs.declared.subsystem.Subsystem.{Subsystem}
use Rattle.subsystem_core.specs.Comes.{IsRestored, IsSplit, Parts, Restored, none_was_lent, this_was_lent, another_was_lent, Unpaired, UnpairedBy}
use Rattle.subsystem_core.specs.Devices.{device_at, put_at}
use Rattle.subsystem_core.specs.Seats.{Seat, cylinders_at, seat_of, seats_of}
use Rattle.subsystem_core.proofs.Found.{number_found}
use Rattle.subsystem_defs.specs.declared.end.EventEnd as ends
use Rattle.subsystem_defs.specs.declared.end.EventEnd.TheVariants as answers
use Rattle.subsystem_defs.specs.declared.end.OrderFault.{OrderFault}
use Rattle.subsystem_defs.specs.declared.end.OrderFault.TheVariants as faults
use Rattle.subsystem_defs.specs.Happening as H
use Rattle.subsystem_defs.specs.Happening.{EventHappened, is_lent_to, quietly, unpaired, unpaired_at, unpaired_by}
use Rattle.subsystem_defs.specs.Lines.{Unpair, logged}
use Rattle.subsystem_defs.specs.Refusals as R
use Rattle.subsystem_defs.specs.Refusals.{active_by, first_cause, not_level_by, unpair_fault, where_so}
use Rattle.subsystem_defs.specs.Subsystem as runs
use Rattle.subsystem_defs.specs.Subsystem.{Mounted, mounted_in, unfailing}
use Rattle.subsystem_laws.specs.WholeComes.{subsystem_of, IsWhatCame}
use Rattle.subsystem_laws.specs.WholeStood as laws
use Rattle.subsystem_laws.specs.WholeStood.{Stood, lent_in, restored_at}
use Rattle.subsystem_laws.proofs.WholeUnpairs.{may_part, unpaired_so}
use Rattle.deck_run.specs.Ordered.{IsOrdered}
use Rattle.deck_run.specs.Owning.{AllOwn, AreOwn, IsOwn}
use Rattle.deck_run.specs.Sides.{AreAccounted, Sides, all_sides, away_here, lent_here, one_if, paired_here, sides_of, total, volumes_here}
use Rattle.deck_run.specs.Standing.{StandsAs, all_stood, stood_of}
use Rattle.deck_run.specs.Sweeping.{order_end}
use Rattle.deck_run.proofs.Accounted.{none_more, put_long, put_sum}
use Rattle.deck_run.proofs.Acting.{NothingCame, came_fresh, came_none}
use Rattle.deck_run.proofs.Found.{own_at, own_put, put_stood, stood_found}
use Rattle.deck_run.proofs.Ordered.{IsQuiet, ordered_tells, stands_by}
use Rattle.deck_run.proofs.Pairing.{and_so}
use Rattle.deck_run.proofs.Sweeping.{blank, order_seen}
use Rattle.deck_run.proofs.Telling.{AreKnown, HavePasts, IsKnown, all_known, known_at, no_pasts, past_too, put_then, same_pasts}

some_same : {X : Type 0} {x y : X} → Some x ≡ Some y → x ≡ y
some_same e = cc

-- A run refuses the order where the code does

half_is : {X Y : Type 0} (f : X → Y) (o : Option X) → is_some (option_map f o) ≡ is_some o
half_is f None = refl
half_is f (Some x) = refl

abbrev cause : Bool → Option OpenEntry → Bool → Bool → ℕ → SideMarks → Option OrderFault
cause paired running half up cylinders a =
    first_cause (where_so (not paired) faults.Unpaired ∷ active_by running ∷ where_so half faults.Half ∷ where_so (not up) faults.Down
    ∷ not_level_by (count_below (cylinders * 15) (stale_at a)) ∷ [])

fault_known : (x : Stood) (m : Mounted) → IsKnown x m → unpair_fault m.device ≡ unpair_fault x.device
unfolding R.unpair_fault
fault_known x m is =
    let s = m.device.store in
    let z = x.device.store in
    ap (λ (b : Bool). cause b m.device.history.running (is_some s.half) s.a.up s.cylinders s.a) is.paired
    ∙ ap (λ (h : History). cause z.paired h.running (is_some s.half) s.a.up s.cylinders s.a) is.history
    ∙ ap (λ (b : Bool). cause z.paired x.device.history.running b s.a.up s.cylinders s.a)
    (ap (λ (o : Option (HalfWrite (Unit {0}))). is_some o) is.half ∙ half_is _ z.half)
    ∙ ap (λ (n : ℕ). cause z.paired x.device.history.running (is_some z.half) s.a.up n s.a) is.cylinders
    ∙ ap (λ (a : SideMarks). cause z.paired x.device.history.running (is_some z.half) a.up z.cylinders a) is.side_a

-- No volume is called

quiet_by : (s : runs.Subsystem) (n : ℕ) (m : Mounted) (f : Option OrderFault) → IsQuiet s (unpaired_by s n unfailing m f)
quiet_by s n m None = (refl, (refl, refl))
quiet_by s n m (Some f) = (refl, (refl, refl))

quiet_at : (s : runs.Subsystem) (n : ℕ) (o : Option Mounted) → IsQuiet s (unpaired_at s n unfailing o)
quiet_at s n None = (refl, (refl, refl))
quiet_at s n (Some m) = quiet_by s n m (unpair_fault m.device)

quiet_so : (s : runs.Subsystem) (n : ℕ) → IsQuiet s (unpaired s n unfailing)
unfolding H.unpaired
quiet_so s n = quiet_at s n (mounted_in s.mounted n)

-- Chains stay their own

split_own : (d : DefinedDevice) → IsOwn d → IsOwn (split d)
split_own d own = record { plans = own.plans; chain = own.chain }

restore_own : (d : DefinedDevice) → IsOwn d → IsOwn (restore d)
restore_own d own = record { plans = own.plans; chain = own.chain }

lent_is : (o : Option ℕ) (n : ℕ) → is_lent_to o n ≡ true → o ≡ Some n
lent_is None n e = absurd (cc)
lent_is (Some to) n e = ap (λ (k : ℕ). Some k) (eqb-true to n e)

-- Sums

one_away : (f g h i l k q : ℕ) → k + f ≡ l + g → q + h ≡ k + i → f ≡ g + 1 → i ≡ h + 1 → q ≡ l
one_away f g h i l k q e o gone came = omega (arith, e, o, gone, came)

swapped : (x y r : ℕ) → (y + r) + x ≡ (x + r) + y
swapped x y r = omega arith

further : (a b c d e : ℕ) → a + b ≡ c + d → (e + a) + b ≡ (e + c) + d
further a b c d e is = omega (arith, is)

no_mate : (f g l k p q : ℕ) → k + f ≡ l + g → f ≡ g + 1 → p ≡ l → q ≡ 0 → q ≡ p → ⊥
no_mate f g l k p q e more same none is = omega (arith, e, more, same, none, is)

as_many : (l k p q one : ℕ) → p + one ≡ l → q + one ≡ k → l ≡ k → p ≡ q
as_many l k p q one e f same = omega (arith, e, f, same)

module _ {V : Type 0} {G : Ghosts V} where
  -- The device that had lent its volume

  -- none was lent to this one, or one was
  data Mate (n : ℕ) (volume : V) (xs ys : List (Device V G)) : Type 0 where
    no_mate_here : total (lent_here n) (all_sides xs) ≡ 0 → Mate n volume xs ys
    a_mate : (x y : Device V G) → is_lent_to x.store.pair.lent n ≡ true → IsRestored volume x y →
        ((f : Sides → ℕ) → total f (all_sides ys) + f (sides_of x) ≡ total f (all_sides xs) + f (sides_of y)) →
        length (all_sides ys) ≡ length (all_sides xs) → Mate n volume xs ys

  more_mate : (n : ℕ) (volume : V) (x : Device V G) (xs ys : List (Device V G)) → is_lent_to x.store.pair.lent n ≡ false → Mate n volume xs ys →
      Mate n volume (x ∷ xs) (x ∷ ys)
  more_mate n volume x xs ys off (no_mate_here none) =
      no_mate_here (ap (λ (b : Bool). one_if b + total (lent_here n) (all_sides xs)) off ∙ none_more (total (lent_here n) (all_sides xs)) ∙ none)
  more_mate n volume x xs ys off (a_mate u v lent is sums long) =
      a_mate u v lent is
      (λ f. further (total f (all_sides ys)) (f (sides_of u)) (total f (all_sides xs)) (f (sides_of v)) (f (sides_of x)) (sums f))
      (ap (λ (k : ℕ). suc k) long)

  mate : (n : ℕ) (volume : V) (xs ys : List (Device V G)) → Restored n volume xs ys → Mate n volume xs ys
  mate n volume [] [] none_was_lent = no_mate_here refl
  mate n volume (x ∷ xs) (y ∷ ys) (this_was_lent lent is) =
      a_mate x y lent is (λ f. swapped (f (sides_of x)) (f (sides_of y)) (total f (all_sides xs))) refl
  mate n volume (x ∷ xs) (y ∷ ys) (another_was_lent off rest) = more_mate n volume x xs ys off (mate n volume xs ys rest)
  mate n volume [] (y ∷ ys) r = elim r [ ]
  mate n volume (x ∷ xs) [] r = elim r [ ]

  own_restored : (n : ℕ) (volume : V) (xs ys : List (Device V G)) → Restored n volume xs ys → AllOwn xs → AllOwn ys
  own_restored n volume [] [] none_was_lent own = tt
  own_restored n volume (x ∷ xs) (y ∷ ys) (this_was_lent lent is) own = (subst IsOwn (sym is.device) (restore_own (device_of x) own.0), own.1)
  own_restored n volume (x ∷ xs) (y ∷ ys) (another_was_lent off rest) own = (own.0, own_restored n volume xs ys rest own.1)
  own_restored n volume [] (y ∷ ys) r own = elim r [ ]
  own_restored n volume (x ∷ xs) [] r own = elim r [ ]

  pasts_restored : (n : ℕ) (volume : V) (xs ys : List (Device V G)) → Restored n volume xs ys → HavePasts xs ys
  pasts_restored n volume [] [] none_was_lent = no_pasts
  pasts_restored n volume (x ∷ xs) (y ∷ ys) (this_was_lent lent is) =
      past_too (subst (λ (d : DefinedDevice). NothingCame (device_of x).history d.history) (sym is.device) (came_fresh (device_of x).history)) (same_pasts xs)
  pasts_restored n volume (x ∷ xs) (y ∷ ys) (another_was_lent off rest) =
      past_too (came_none (device_of x).history (device_of x).history refl) (pasts_restored n volume xs ys rest)
  pasts_restored n volume [] (y ∷ ys) r = elim r [ ]
  pasts_restored n volume (x ∷ xs) [] r = elim r [ ]

  restored_is : (volume : V) (x y : Device V G) → IsRestored volume x y → stood_of y
      ≡ record (stood_of x) { device = restore (device_of x); a = Some (G.view volume) }
  restored_is volume x y r =
      ap (λ (e : DefinedDevice). record { device = e; a = option_map G.view (on_a y.store); b = option_map G.view (on_b y.store) }) r.device
      ∙ ap (λ (o : Option V). record { device = restore (device_of x); a = option_map G.view o; b = option_map G.view (on_b y.store) }) r.a
      ∙ ap (λ (o : Option V). record { device = restore (device_of x); a = Some (G.view volume); b = option_map G.view o }) r.b

  stood_restored : (n : ℕ) (volume : V) (xs ys : List (Device V G)) → Restored n volume xs ys →
      all_stood ys ≡ restored_at (all_stood xs) n (G.view volume)
  stood_restored n volume [] [] none_was_lent = refl
  stood_restored n volume (x ∷ xs) (y ∷ ys) (this_was_lent lent is) =
      ap (λ (s : Stood). s ∷ all_stood xs) (restored_is volume x y is)
      ∙ ap (λ (b : Bool). if b then record (stood_of x) { device = restore (device_of x); a = Some (G.view volume) } ∷ all_stood xs
      else stood_of x ∷ restored_at (all_stood xs) n (G.view volume)) (sym lent)
  stood_restored n volume (x ∷ xs) (y ∷ ys) (another_was_lent off rest) =
      ap (λ (l : List Stood). stood_of x ∷ l) (stood_restored n volume xs ys rest)
      ∙ ap (λ (b : Bool). if b then record (stood_of x) { device = restore (device_of x); a = Some (G.view volume) } ∷ all_stood xs
      else stood_of x ∷ restored_at (all_stood xs) n (G.view volume)) (sym off)
  stood_restored n volume [] (y ∷ ys) r = elim r [ ]
  stood_restored n volume (x ∷ xs) [] r = elim r [ ]

  -- How large it is

  record LentOne (zs : List (Device V G)) (n : ℕ) (y : Stood) : Type 0 where
    pub device : Device V G
    pub place : ℕ
    pub there : slice_get (seats_of zs) place ≡ Some (seat_of device)
    pub lent : device.store.pair.lent ≡ Some n
    pub is : stood_of device ≡ y

  next_one : (z : Device V G) (zs : List (Device V G)) (n : ℕ) (y : Stood) → LentOne zs n y → LentOne (z ∷ zs) n y
  next_one z zs n y l = record { device = l.device; place = suc l.place; there = l.there; lent = l.lent; is = l.is }

  lent_by_test : (z : Device V G) (zs : List (Device V G)) (n : ℕ) (y : Stood) (b : Bool) → is_lent_to z.store.pair.lent n ≡ b →
      (lent_in (all_stood zs) n ≡ Some y → LentOne zs n y) → (if b then Some (stood_of z) else lent_in (all_stood zs) n) ≡ Some y → LentOne (z ∷ zs) n y
  lent_by_test z zs n y true e rest at =
      record { device = z; place = zero; there = refl; lent = lent_is z.store.pair.lent n e; is = some_same at }
  lent_by_test z zs n y false e rest at = next_one z zs n y (rest at)

  lent_one : (zs : List (Device V G)) (n : ℕ) (y : Stood) → lent_in (all_stood zs) n ≡ Some y → LentOne zs n y
  lent_one [] n y at = absurd (cc)
  lent_one (z ∷ zs) n y at = lent_by_test z zs n y (is_lent_to z.store.pair.lent n) refl (lent_one zs n y) at

  size_by : (d x : Device V G) (n : ℕ) (o : Option ℕ) (p : Option (Device V G)) (b : Bool) → (p ≡ Some x → o ≡ Some x.store.cylinders) →
      (if b then Some d else p) ≡ Some x → (if b then Some d.store.cylinders else o) ≡ Some x.store.cylinders
  size_by d x n o p true rest at = ap (λ (z : Device V G). Some z.store.cylinders) (some_same at)
  size_by d x n o p false rest at = rest at

  size_at : (xs : List (Device V G)) (n : ℕ) (x : Device V G) → device_at xs n ≡ Some x → cylinders_at (seats_of xs) n ≡ Some x.store.cylinders
  size_at [] n x at = absurd (cc)
  size_at (d ∷ ds) n x at = size_by d x n (cylinders_at (seats_of ds) n) (device_at ds n) (d.store.number == n) (size_at ds n x) at

  seats_by : (x y d : Device V G) (ds : List (Device V G)) (n : ℕ) (b : Bool) → seat_of y ≡ seat_of x →
      (device_at ds n ≡ Some x → seats_of (put_at ds n y) ≡ seats_of ds) → (if b then Some d else device_at ds n) ≡ Some x →
      seats_of (if b then y ∷ ds else d ∷ put_at ds n y) ≡ seats_of (d ∷ ds)
  seats_by x y d ds n true is rest at = ap (λ (s : Seat). s ∷ seats_of ds) (is ∙ ap (λ (z : Device V G). seat_of z) (sym (some_same at)))
  seats_by x y d ds n false is rest at = ap (λ (l : List Seat). seat_of d ∷ l) (rest at)

  put_seats : (xs : List (Device V G)) (n : ℕ) (x y : Device V G) → seat_of y ≡ seat_of x → device_at xs n ≡ Some x → seats_of (put_at xs n y) ≡ seats_of xs
  put_seats [] n x y is at = refl
  put_seats (d ∷ ds) n x y is at = seats_by x y d ds n (d.store.number == n) is (put_seats ds n x y is) at

  module _ (n : ℕ) (volume : V) (x : Device V G) (old new : Subsystem V G) (a : EventEnd) (at : device_at old.devices.items n ≡ Some x)
      (own : AreOwn old.devices.items) where
    module _ (parts : Parts n volume old.devices.items new.devices.items) (free : unpair_fault (device_of x) ≡ None) where
      abbrev y : Device V G
      y = parts.split.behind

      before_is : parts.split.before ≡ x
      before_is = some_same (sym parts.split.stood ∙ at)

      is : IsSplit x y
      is = subst (λ (z : Device V G). IsSplit z y) before_is parts.split.is_so

      between_is : parts.between ≡ put_at old.devices.items n y
      between_is = parts.split.stands

      restored : Restored n volume (put_at old.devices.items n y) new.devices.items
      restored = subst (λ (l : List (Device V G)). Restored n volume l new.devices.items) between_is parts.restored

      part_each : AllOwn new.devices.items
      part_each =
          own_restored n volume (put_at old.devices.items n y) new.devices.items restored
          (own_put old.devices.items n y own.each (subst IsOwn (sym is.device) (split_own (device_of x) (own_at old.devices.items n x own.each at))))

      part_pasts : HavePasts old.devices.items new.devices.items
      part_pasts =
          put_then old.devices.items new.devices.items n x y (ap (λ (d : DefinedDevice). d.history) is.device) at
          (pasts_restored n volume (put_at old.devices.items n y) new.devices.items restored)

      -- where the volumes stand

      b_before : is_some (on_b x.store) ≡ true
      b_before = (may_part (device_of x) free).paired

      b_behind : is_some (on_b y.store) ≡ false
      b_behind = ap (λ (o : Option V). is_some o) is.b

      one_put : (f : Sides → ℕ) → total f (all_sides (put_at old.devices.items n y)) + f (sides_of x) ≡ total f (all_sides old.devices.items) + f (sides_of y)
      one_put f = put_sum f old.devices.items n x y at

      lent_same : (i : ℕ) → lent_here i (sides_of x) ≡ lent_here i (sides_of y)
      lent_same i = ap (λ (d : DefinedDevice). one_if (is_lent_to d.store.lent i)) (sym is.device)

      away_same : away_here (sides_of x) ≡ away_here (sides_of y)
      away_same =
          ap (λ (d : DefinedDevice). one_if (is_some d.store.lent && is_some (on_a x.store))) (sym is.device)
          ∙ ap (λ (o : Option V). one_if (is_some y.store.pair.lent && is_some o)) (sym is.a)

      test_same : (n == n) ≡ true
      test_same = eq_self n
        where
          eq_self : (k : ℕ) → (k == k) ≡ true
          eq_self k = grind arith

      pair_gone : (i : ℕ) → paired_here i (sides_of x) ≡ paired_here i (sides_of y) + one_if (n == i)
      pair_gone i =
          ap one_if (and_so (x.store.number == i) _ b_before) ∙ ap (λ (k : ℕ). one_if (k == i)) (number_found old.devices.items n x at)
          ∙ sym (ap (λ (b : Bool). one_if ((y.store.number == i) && b) + one_if (n == i)) b_behind ∙ none_and (y.store.number == i) (one_if (n == i)))
        where
          none_and : (b : Bool) (k : ℕ) → one_if (b && false) + k ≡ k
          none_and true k = none_more k
          none_and false k = none_more k

      volume_gone : volumes_here (sides_of x) ≡ volumes_here (sides_of y) + 1
      volume_gone = by_parts (is_some (on_a x.store)) (is_some (on_b x.store)) (is_some (on_a y.store)) (is_some (on_b y.store))
          (ap (λ (o : Option V). is_some o) is.a) b_before b_behind
        where
          by_parts : (a b c d : Bool) → c ≡ a → b ≡ true → d ≡ false → one_if a + one_if b ≡ (one_if c + one_if d) + 1
          by_parts true true true false e f g = refl
          by_parts false true false false e f g = refl
          by_parts true true false d e f g = absurd (cc)
          by_parts false true true d e f g = absurd (cc)
          by_parts a false c d e f g = absurd (cc)
          by_parts a true c true e f g = absurd (cc)

      part_accounted : Mate n volume (put_at old.devices.items n y) new.devices.items → AreAccounted (all_sides new.devices.items)
      part_accounted (no_mate_here none) =
          absurd (no_mate (paired_here n (sides_of x)) (paired_here n (sides_of y)) (total (paired_here n) (all_sides old.devices.items))
          (total (paired_here n) (all_sides (put_at old.devices.items n y))) (total (lent_here n) (all_sides old.devices.items)) 0 (one_put (paired_here n))
          (pair_gone n ∙ ap (λ (b : Bool). paired_here n (sides_of y) + one_if b) test_same) (own.accounted.mates n) refl
          (sym none ∙ same_sum (lent_here n (sides_of x)) (lent_here n (sides_of y)) _ _ (one_put (lent_here n)) (lent_same n)))
        where
          same_sum : (f g l k : ℕ) → k + f ≡ l + g → f ≡ g → k ≡ l
          same_sum f g l k e s = omega (arith, e, s)
      part_accounted (a_mate u v lent r sums long) =
          let to : u.store.pair.lent ≡ Some n = lent_is u.store.pair.lent n lent in
          let lent_gone : (i : ℕ) → lent_here i (sides_of u) ≡ one_if (n == i) = λ i. ap (λ (o : Option ℕ). one_if (is_lent_to o i)) to in
          let lent_none : (i : ℕ) → lent_here i (sides_of v) ≡ 0 = λ i. ap (λ (d : DefinedDevice). one_if (is_lent_to d.store.lent i)) r.device in
          let pairs : (i : ℕ) → paired_here i (sides_of u) ≡ paired_here i (sides_of v) =
          λ i. ap (λ (k : ℕ). one_if ((k == i) && is_some (on_b u.store))) (ap (λ (d : DefinedDevice). d.store.device) (sym r.device))
          ∙ ap (λ (o : Option V). one_if ((v.store.number == i) && is_some o)) (sym r.b) in
          let none_away : total away_here (all_sides (put_at old.devices.items n y)) ≡ 0 =
          same_none (away_here (sides_of x)) (away_here (sides_of y)) _ _ (one_put away_here) away_same own.accounted.away in
          let none_back : away_here (sides_of v) ≡ 0 =
          ap (λ (d : DefinedDevice). one_if (is_some d.store.lent && is_some (on_a v.store))) r.device in
          let away : is_some (on_a u.store) ≡ false =
          if_none (is_some (on_a u.store))
          (sym (ap (λ (o : Option ℕ). one_if (is_some o && is_some (on_a u.store))) to)
          ∙ gone_none (away_here (sides_of u)) (away_here (sides_of v)) _ _ (sums away_here) none_back none_away) in
          record {
            away = left_none (away_here (sides_of u)) (away_here (sides_of v)) _ _ (sums away_here) none_back none_away;
            mates = λ i.
                as_many (total (lent_here i) (all_sides old.devices.items)) (total (paired_here i) (all_sides old.devices.items))
                (total (lent_here i) (all_sides new.devices.items)) (total (paired_here i) (all_sides new.devices.items)) (one_if (n == i))
                (fewer (lent_here i (sides_of x)) (lent_here i (sides_of y)) (lent_here i (sides_of u)) (lent_here i (sides_of v)) _ _ _ _
                (one_put (lent_here i)) (sums (lent_here i)) (lent_same i) (lent_gone i) (lent_none i))
                (fewer_pairs (paired_here i (sides_of x)) (paired_here i (sides_of y)) (paired_here i (sides_of u)) (paired_here i (sides_of v)) _ _ _ _
                (one_put (paired_here i)) (sums (paired_here i)) (pair_gone i) (pairs i)) (own.accounted.mates i);
            volumes = one_away (volumes_here (sides_of x)) (volumes_here (sides_of y)) (volumes_here (sides_of u)) (volumes_here (sides_of v)) _ _ _
                (one_put volumes_here) (sums volumes_here) volume_gone
                (volume_came (is_some (on_a u.store)) (is_some (on_b u.store)) (is_some (on_a v.store)) (is_some (on_b v.store)) away
                (ap (λ (o : Option V). is_some o) r.a) (ap (λ (o : Option V). is_some o) r.b))
                ∙ own.accounted.volumes ∙ sym (put_long old.devices.items n y) ∙ sym long;
          }
        where
          same_none : (f g l k : ℕ) → k + f ≡ l + g → f ≡ g → l ≡ 0 → k ≡ 0
          same_none f g l k e s none = omega (arith, e, s, none)

          gone_none : (f g l q : ℕ) → q + f ≡ l + g → g ≡ 0 → l ≡ 0 → f ≡ 0
          gone_none f g l q e back none = omega (arith, e, back, none)

          left_none : (f g l q : ℕ) → q + f ≡ l + g → g ≡ 0 → l ≡ 0 → q ≡ 0
          left_none f g l q e back none = omega (arith, e, back, none)

          if_none : (b : Bool) → one_if b ≡ 0 → b ≡ false
          if_none true e = absurd (omega (arith, e))
          if_none false e = refl

          fewer : (f g h i l k q one : ℕ) → k + f ≡ l + g → q + h ≡ k + i → f ≡ g → h ≡ one → i ≡ 0 → q + one ≡ l
          fewer f g h i l k q one e o same gone none = omega (arith, e, o, same, gone, none)

          fewer_pairs : (f g h i l k q one : ℕ) → k + f ≡ l + g → q + h ≡ k + i → f ≡ g + one → h ≡ i → q + one ≡ l
          fewer_pairs f g h i l k q one e o gone same = omega (arith, e, o, gone, same)

          volume_came : (a b c d : Bool) → a ≡ false → c ≡ true → d ≡ b → one_if c + one_if d ≡ (one_if a + one_if b) + 1
          volume_came false true true true e f g = refl
          volume_came false false true false e f g = refl
          volume_came true b c d e f g = absurd (cc)
          volume_came false b false d e f g = absurd (cc)
          volume_came false true true false e f g = absurd (cc)
          volume_came false false true true e f g = absurd (cc)

      part_own : AreOwn new.devices.items
      part_own = record { each = part_each; accounted = part_accounted (mate n volume (put_at old.devices.items n y) new.devices.items restored) }

      -- what the laws call it

      abbrev parted : Stood
      parted = record { device = split (device_of x); a = option_map G.view (on_a x.store); b = None }

      split_is : stood_of y ≡ parted
      split_is =
          ap (λ (e : DefinedDevice). record { device = e; a = option_map G.view (on_a y.store); b = option_map G.view (on_b y.store) }) is.device
          ∙ ap (λ (o : Option V). record { device = split (device_of x); a = option_map G.view o; b = option_map G.view (on_b y.store) }) is.a
          ∙ ap (λ (o : Option V). record { device = split (device_of x); a = option_map G.view (on_a x.store); b = option_map G.view o }) is.b

      put_is : laws.put_at (all_stood old.devices.items) n parted ≡ all_stood (put_at old.devices.items n y)
      put_is = ap (λ (s : Stood). laws.put_at (all_stood old.devices.items) n s) (sym split_is) ∙ sym (put_stood old.devices.items n y)

      behind_is : restored_at (laws.put_at (all_stood old.devices.items) n parted) n (G.view volume) ≡ all_stood new.devices.items
      behind_is =
          ap (λ (l : List Stood). restored_at l n (G.view volume)) put_is
          ∙ sym (stood_restored n volume (put_at old.devices.items n y) new.devices.items restored)

      seat_same : seat_of y ≡ seat_of x
      seat_same = ap (λ (d : DefinedDevice). record { number = d.store.device; cylinders = d.store.cylinders; lent = d.store.lent }) is.device

      gets : SideIs (G.view volume) (empty_contents (x.store.cylinders * 15)) unfailing → (z : Stood) →
          lent_in (laws.put_at (all_stood old.devices.items) n parted) n ≡ Some z →
          (z.device.store.cylinders ≤ 4369) × SideIs (G.view volume) (empty_contents (z.device.store.cylinders * 15)) unfailing
      gets told z found =
          let one = lent_one (put_at old.devices.items n y) n z (ap (λ (l : List Stood). lent_in l n) (sym put_is) ∙ found) in
          let size : x.store.cylinders ≡ one.device.store.cylinders =
          old.alike one.place n x.store.cylinders (seat_of one.device)
          (ap (λ (l : List Seat). slice_get l one.place) (sym (put_seats old.devices.items n x y seat_same at)) ∙ one.there) one.lent
          (size_at old.devices.items n x at) in
          subst (λ (w : Stood). (w.device.store.cylinders ≤ 4369) × SideIs (G.view volume) (empty_contents (w.device.store.cylinders * 15)) unfailing) one.is
          (one.device.store.most, subst (λ (k : ℕ). SideIs (G.view volume) (empty_contents (k * 15)) unfailing) size told)

    own_by : (f : Option OrderFault) → unpair_fault (device_of x) ≡ f → UnpairedBy n volume f old a new → AreOwn new.devices.items
    own_by (Some f) free came = subst AreOwn (sym came.1.1) own
    own_by None free came = part_own came.2 free

    pub unpaired_own : Unpaired n volume (Some x) old a new → AreOwn new.devices.items
    unpaired_own came = own_by (unpair_fault (device_of x)) refl came

    module _ (run : runs.Subsystem) (all : StandsAs old run) (told : SideIs (G.view volume) (empty_contents (x.store.cylinders * 15)) unfailing) where
      abbrev known : AreKnown (all_stood old.devices.items) run.mounted
      known = all_known (all_stood old.devices.items) run.mounted all.mounted

      abbrev what : EventHappened
      what = unpaired run n unfailing

      ordered : (end : ends.EventEnd) → what.end ≡ end → HavePasts old.devices.items new.devices.items →
          AreKnown (all_stood new.devices.items) what.behind.mounted → order_end a ≡ end → StandsAs new what.behind →
          IsOrdered (logged (Unpair n) what) (orders.Unpair n) (order_end a) new
      ordered end ended pasts now seen stands = record {
        stands = stands;
        lines = ordered_tells (Unpair n) what run (orders.Unpair n) (order_end a) old.devices.items new.devices.items (quiet_so run n) (ended ∙ sym seen)
            (λ e ds es. refl) pasts known now;
      }

      same_what : (f : OrderFault) → unpair_fault (device_of x) ≡ Some f → what ≡ quietly run run (answers.Refused f)
      unfolding H.unpaired
      same_what f free =
          let m = known_at old.devices.items run.mounted n x known at in
          ap (λ (o : Option Mounted). unpaired_at run n unfailing o) m.there
          ∙ ap (λ (o : Option OrderFault). unpaired_by run n unfailing m.mounted o) (fault_known (stood_of x) m.mounted m.is ∙ free)

      part_by : (f : Option OrderFault) → unpair_fault (device_of x) ≡ f → UnpairedBy n volume f old a new →
          IsOrdered (logged (Unpair n) what) (orders.Unpair n) (order_end a) new
      part_by (Some f) free came =
          let is = same_what f free in
          let left : what.behind ≡ run = ap (λ (h : EventHappened). h.behind) is in
          let stands : StandsAs new what.behind = subst (λ (s : runs.Subsystem). StandsAs new s) (sym left)
          (stands_by new run old.pool (all_stood old.devices.items) all.pool all.mounted came.1.0 (ap all_stood came.1.1)) in
          ordered (answers.Refused f) (ap (λ (h : EventHappened). h.end) is)
          (subst (λ (l : List (Device V G)). HavePasts old.devices.items l) (sym came.1.1) (same_pasts old.devices.items))
          (all_known (all_stood new.devices.items) what.behind.mounted stands.mounted) (order_seen a (answers.Refused f) tt (came.0 blank)) stands
      part_by None free came =
          let p = old.pool.pool in
          let xs = all_stood old.devices.items in
          let same : run ≡ subsystem_of p run.mounted = ap (λ (q : pools.Pool). record { pool = q; mounted = run.mounted }) all.pool in
          let w : IsWhatCame what answers.Done p (all_stood new.devices.items) =
          subst (λ (s : runs.Subsystem). IsWhatCame (unpaired s n unfailing) answers.Done p (all_stood new.devices.items)) (sym same)
          (subst (λ (l : List Stood). IsWhatCame (unpaired (subsystem_of p run.mounted) n unfailing) answers.Done p l) (behind_is came.2 free)
          (unpaired_so p xs run.mounted n unfailing (G.view volume) (stood_of x) all.mounted (stood_found old.devices.items n x at) free
          (gets came.2 free told))) in
          let stands = stands_by new what.behind old.pool (all_stood new.devices.items) w.left w.mounted came.1 refl in
          ordered answers.Done w.ended (part_pasts came.2 free) (all_known (all_stood new.devices.items) what.behind.mounted w.mounted)
          (order_seen a answers.Done tt (came.0 blank)) stands

      pub unpaired_ordered : Unpaired n volume (Some x) old a new → IsOrdered (logged (Unpair n) what) (orders.Unpair n) (order_end a) new
      unpaired_ordered came = part_by (unpair_fault (device_of x)) refl came
