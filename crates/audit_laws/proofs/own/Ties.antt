-- In a run each device keeps its number, and to a pair one device is lent, to any other none.
use Rattle.std.proofs.Common.{
  ◌≡◌,
  ◌≤◌,
  ◌+◌,
  ◌==◌,
  ℕ,
  Bool,
  true,
  false,
  List,
  [],
  ◌∷◌,
  map,
  Option,
  Some,
  None,
  refl,
  sym,
  ap,
  subst,
  ◌∙◌,
  arith,
}
use Rattle.std.specs.Prelude.{if◌then◌else◌}
use Rattle.std.proofs.lemmas.Bool.{eqb-false, eqb-true, ne_eqb}
use Rattle.std.proofs.lemmas.List.Elements.{All-head}
use Rattle.ckd_types.specs.declared.paths.Side.{Side}
use Rattle.loss_model.specs.declared.Loss.{Loss}
use Rattle.loss_model.specs.declared.Loss.TheVariants as losses
use Rattle.deck_text.specs.declared.line.DeviceLine.{DeviceLine}
use Rattle.deck_text.specs.DeckLines.{DeckLines}
use Rattle.track_image.specs.Image.{Image}
use Rattle.device_outside.specs.Interaction.{Interaction, Done, and_then}
use Rattle.device_outside.specs.Pool.{Pool}
use Rattle.device_outside.specs.Told as T
use Rattle.device_outside.specs.Told.{Calls, Told}
use Rattle.device_defs.specs.Command.{command}
use Rattle.device_defs.specs.Contents.{by_plain}
use Rattle.device_defs.specs.Cutting.{power, reset}
use Rattle.device_defs.specs.Events.{background, lose, second}
use Rattle.device_defs.specs.Marks.{MarksDevice}
use Rattle.device_defs.specs.Orders.{hold_side, join, lend, resume, split}
use Rattle.device_defs.specs.Start as S
use Rattle.device_defs.specs.Start.{start}
use Rattle.device_laws.proofs.Always.{Always}
use Rattle.device_laws.proofs.Based.{Any, Base, Based, based_any, kept}
use Rattle.device_laws.proofs.BasedEvents.{background_based, base_in, command_based, lose_based, power_based, reset_body, second_based, with_one_loss}
use Rattle.device_laws.proofs.Had.{held}
use Rattle.subsystem_defs.specs.declared.end.EventEnd.{EventEnd}
use Rattle.subsystem_defs.specs.declared.end.EventEnd.TheVariants as ends
use Rattle.subsystem_defs.specs.declared.event.Event.{Event}
use Rattle.subsystem_defs.specs.Decks as D
use Rattle.subsystem_defs.specs.Decks.{opened, opened_device, run_of}
use Rattle.subsystem_defs.specs.Deeds.{Asks, Becomes, Each, Ends, Lends, Repairs, deed, end_of, ends_done}
use Rattle.subsystem_defs.specs.Happening as H
use Rattle.subsystem_defs.specs.Happening.{MarksDeed, Talk, asks, becomes, behind_outcome, happens, happens_by, held_with, is_lent_to, joined, lends, mounted_behind, replaced, replaced_at, replaced_by, restored_in, sweep, told_to, unpaired, unpaired_at, unpaired_by}
use Rattle.subsystem_defs.specs.Lines.{Asked, Logged, asked_by, last_behind, line_logged, run_lines}
use Rattle.subsystem_defs.specs.Refusals as R
use Rattle.subsystem_defs.specs.Refusals.{pair_fault, replace_fault, unpair_fault}
use Rattle.subsystem_defs.specs.Subsystem.{Mounted, Subsystem, devices_of, mounted_in, number_of, put_in, unfailing}
use Rattle.subsystem_defs.proofs.Unrefused.{first_none, where_none}
use Rattle.subsystem_laws.proofs.DeedWalk.{IsDeedwise, IsSeat, Stands, deed_is, seat_of}
use Rattle.subsystem_laws.proofs.StoreFacts.{Bears, Facts, facts_of, fallen, background_leaves, command_leaves, lose_leaves, power_leaves, reset_leaves, second_leaves}
use Rattle.subsystem_laws.proofs.FoundDevices.{number_found}
use Rattle.subsystem_laws.proofs.LendBase.{at, stays_still}
use Rattle.subsystem_laws.proofs.RunLines.{AnyEvent, Goes, MayAsk, all_asked, line_goes, lines_keep, logs_end, Logs}
use Rattle.subsystem_laws.proofs.Walks.{hold_answer, mounted_number}
use Rattle.audit_laws.proofs.own.Found.{mounted_too}
use Rattle.audit_laws.proofs.own.LentDevices.{IsLent, lend_makes}

-- What is kept of a device

pub record Tie : Type 0 where
  pub number : ℕ
  pub lent : Option ℕ
  pub paired : Bool

abbrev pub tie : MarksDevice → Tie
tie d = record { number = d.store.device; lent = d.store.lent; paired = d.store.paired }

abbrev pub ties : List Mounted → List Tie
ties ms = map (λ (m : Mounted). tie m.device) ms

abbrev pub one_if : Bool → ℕ
one_if b = if b then 1 else 0

-- how many are lent to it, and how many may be
abbrev pub lent_count : ℕ → List Tie → ℕ
lent_count a [] = 0
lent_count a (t ∷ ts) = one_if (is_lent_to t.lent a) + lent_count a ts

abbrev pub pair_count : ℕ → List Tie → ℕ
pair_count a [] = 0
pair_count a (t ∷ ts) = if t.number == a then one_if t.paired else pair_count a ts

pub record Tied (numbers : List ℕ) (ts : List Tie) : Type 0 where
  pub numbers_are : map (λ (t : Tie). t.number) ts ≡ numbers
  pub single : (a : ℕ) → lent_count a ts ≤ pair_count a ts

-- Another one in the place of one

abbrev tie_at : ℕ → List Tie → Option Tie
tie_at n [] = None
tie_at n (t ∷ ts) = if t.number == n then Some t else tie_at n ts

abbrev put_tie : ℕ → Tie → List Tie → List Tie
put_tie n x [] = []
put_tie n x (t ∷ ts) = if t.number == n then x ∷ ts else t ∷ put_tie n x ts

ties_put : (ms : List Mounted) (n : ℕ) (x : Mounted) → ties (put_in ms n x) ≡ put_tie n (tie x.device) (ties ms)
ties_put [] n x = refl
ties_put (m ∷ ms) n x = grind (arith, ties_put ms n x)

tie_found : (ms : List Mounted) (n : ℕ) (m : Mounted) → mounted_in ms n ≡ Some m → tie_at n (ties ms) ≡ Some (tie m.device)
tie_found [] n m is = absurd (cc)
tie_found (k ∷ ms) n m is = grind (arith, tie_found ms n m)

module _ (n : ℕ) (x : Tie) (same : x.number ≡ n) where
  put_own : (ts : List Tie) (o : Tie) → tie_at n ts ≡ Some o → x ≡ o → put_tie n x ts ≡ ts
  put_own [] o is e = absurd (cc)
  put_own (t ∷ ts) o is e = grind (arith, put_own ts o)

  numbers_put : (ts : List Tie) → map (λ (t : Tie). t.number) (put_tie n x ts) ≡ map (λ (t : Tie). t.number) ts
  numbers_put [] = refl
  numbers_put (t ∷ ts) = grind (arith, numbers_put ts)

  lent_put : (a : ℕ) (ts : List Tie) (o : Tie) → tie_at n ts ≡ Some o →
      lent_count a (put_tie n x ts) + one_if (is_lent_to o.lent a) ≡ lent_count a ts + one_if (is_lent_to x.lent a)
  lent_put a [] o is = absurd (cc)
  lent_put a (t ∷ ts) o is = grind (arith, lent_put a ts o)

  pair_here : (ts : List Tie) (o : Tie) → tie_at n ts ≡ Some o → pair_count n (put_tie n x ts) ≡ one_if x.paired
  pair_here [] o is = absurd (cc)
  pair_here (t ∷ ts) o is = grind (arith, pair_here ts o)

  pair_other : (a : ℕ) → (n == a) ≡ false → (ts : List Tie) → pair_count a (put_tie n x ts) ≡ pair_count a ts
  pair_other a far [] = refl
  pair_other a far (t ∷ ts) = grind (arith, pair_other a far ts, eqb-true)

  tie_other : (a : ℕ) → (n == a) ≡ false → (ts : List Tie) → tie_at a (put_tie n x ts) ≡ tie_at a ts
  tie_other a far [] = refl
  tie_other a far (t ∷ ts) = grind (arith, tie_other a far ts, eqb-true)

pair_at : (n : ℕ) (ts : List Tie) (o : Tie) → tie_at n ts ≡ Some o → pair_count n ts ≡ one_if o.paired
pair_at n [] o is = absurd (cc)
pair_at n (t ∷ ts) o is = grind (arith, pair_at n ts o)

pub pair_most : (a : ℕ) (ts : List Tie) → pair_count a ts ≤ 1
pair_most a [] = omega arith
pair_most a (t ∷ ts) = grind (arith, pair_most a ts)

-- Two devices become a pair

paired_tied : (ns : List ℕ) (ts : List Tie) (a b : ℕ) (x y o u : Tie) → tie_at a ts ≡ Some o → o.lent ≡ None → o.paired ≡ false → tie_at b ts ≡ Some u →
    u.lent ≡ None → u.paired ≡ false → y.number ≡ b → y.lent ≡ Some a → y.paired ≡ false → x.number ≡ a → x.lent ≡ None → (b == a) ≡ false →
    Tied ns ts → x.paired ≡ true → Tied ns (put_tie a x (put_tie b y ts))
paired_tied ns ts a b x y o u here free single there home alone number lent none own held far t pair = record {
  numbers_are = numbers_put a x own (put_tie b y ts) ∙ numbers_put b y number ts ∙ t.numbers_are;
  single = λ k. by_test k (a == k) refl;
} where
  here_still : tie_at a (put_tie b y ts) ≡ Some o
  here_still = tie_other b y number a far ts ∙ here

  counts : (k : ℕ) → lent_count k (put_tie a x (put_tie b y ts)) ≡ lent_count k ts + one_if (a == k)
  counts k = grind (arith, lent_put a x own k (put_tie b y ts) o here_still, lent_put b y number k ts u there)

  by_other : (k : ℕ) → pair_count k (put_tie b y ts) ≡ pair_count k ts
  by_other k = grind (arith, eqb-true b k, pair_here b y number ts u there, pair_at b ts u there, pair_other b y number k)

  by_test : (k : ℕ) (c : Bool) → (a == k) ≡ c → lent_count k (put_tie a x (put_tie b y ts)) ≤ pair_count k (put_tie a x (put_tie b y ts))
  by_test k true is =
      grind (arith, eqb-true a k is, counts k, t.single k, pair_at a ts o here, pair_here a x own (put_tie b y ts) o here_still)
  by_test k false is = grind (arith, counts k, t.single k, pair_other a x own k is (put_tie b y ts), by_other k)

-- A pair parts: the first device that was lent to it comes back

abbrev restored_tie : ℕ → List Tie → List Tie
restored_tie a [] = []
restored_tie a (t ∷ ts) = if is_lent_to t.lent a then record t { lent = None } ∷ ts else t ∷ restored_tie a ts

ties_restored : (ms : List Mounted) (a : ℕ) (volume : Calls) → ties (restored_in ms a volume) ≡ restored_tie a (ties ms)
ties_restored [] a volume = refl
ties_restored (m ∷ ms) a volume = grind (arith, ties_restored ms a volume)

numbers_restored : (a : ℕ) (ts : List Tie) → map (λ (t : Tie). t.number) (restored_tie a ts) ≡ map (λ (t : Tie). t.number) ts
numbers_restored a [] = refl
numbers_restored a (t ∷ ts) = grind (arith, numbers_restored a ts)

pairs_restored : (a k : ℕ) (ts : List Tie) → pair_count k (restored_tie a ts) ≡ pair_count k ts
pairs_restored a k [] = refl
pairs_restored a k (t ∷ ts) = grind (arith, pairs_restored a k ts)

fewer_restored : (a k : ℕ) (ts : List Tie) → lent_count k (restored_tie a ts) ≤ lent_count k ts
fewer_restored a k [] = omega arith
fewer_restored a k (t ∷ ts) = grind (arith, fewer_restored a k ts)

none_restored : (a : ℕ) (ts : List Tie) → lent_count a ts ≤ 1 → lent_count a (restored_tie a ts) ≡ 0
none_restored a [] most = refl
none_restored a (t ∷ ts) most = grind (arith, none_restored a ts)

parted_tied : (ns : List ℕ) (ts : List Tie) (a : ℕ) (x o : Tie) → tie_at a ts ≡ Some o → x.number ≡ a → x.lent ≡ o.lent → x.paired ≡ false →
    Tied ns ts → Tied ns (restored_tie a (put_tie a x ts))
parted_tied ns ts a x o here own lent single t = record {
  numbers_are = numbers_restored a (put_tie a x ts) ∙ numbers_put a x own ts ∙ t.numbers_are;
  single = λ k. by_test k (a == k) refl;
} where
  counts : (k : ℕ) → lent_count k (put_tie a x ts) ≡ lent_count k ts
  counts k =
      let one = lent_put a x own k ts o here in
      let same : one_if (is_lent_to x.lent k) ≡ one_if (is_lent_to o.lent k) = ap (λ (l : Option ℕ). one_if (is_lent_to l k)) lent in
      omega (arith, one, same)

  by_test : (k : ℕ) (c : Bool) → (a == k) ≡ c → lent_count k (restored_tie a (put_tie a x ts)) ≤ pair_count k (restored_tie a (put_tie a x ts))
  by_test k true is =
      rw (← (eqb-true a k is))
      (
      let many = counts a in
      let before = t.single a in
      let most = pair_most a ts in
      let none = none_restored a (put_tie a x ts) (omega (arith, many, before, most)) in
      omega (arith, none)
      )
  by_test k false is =
      let fewer = fewer_restored a k (put_tie a x ts) in
      let many = counts k in
      let before = t.single k in
      let now = pairs_restored a k (put_tie a x ts) in
      let other = pair_other a x own k is ts in
      omega (arith, fewer, many, before, now, other)

-- What a device's own events keep

abbrev IsPaired : Bool → Facts → Type 0
IsPaired b x = x.paired ≡ b

fallen_pair : (b : Bool) (x : Facts) (side : Side) → IsPaired b x → IsPaired b (fallen side x)
fallen_pair b x side is = grind arith

pair_bears : (b : Bool) → Bears (IsPaired b)
pair_bears b = search arith

kept_tie : {X : Type 0} (d : MarksDevice) (talk : Interaction Bool Image MarksDevice X) (b : Base) → b.device ≡ d.store.device →
    b.lent ≡ d.store.lent → Based base_in Any b talk → Always talk (λ y (_ : X). IsPaired d.store.paired (facts_of y.store)) → (t : Told) →
    tie (T.hold true talk t).state ≡ tie d
kept_tie d talk b number lent based pair t = grind (arith, at, stays_still)

module _ (d : MarksDevice) where
  abbrev q : Facts → Type 0
  q = IsPaired d.store.paired

  abbrev IsTied : {A : Type 0} → Talk A → Type 0
  IsTied talk = (t : Told) → tie (T.hold true talk t).state ≡ tie d

  its_tie : {X : Type 0} (talk : Talk X) → Based base_in Any (kept d.store) talk → Always talk (λ y (_ : X). q (facts_of y.store)) → IsTied talk
  its_tie talk based pair = kept_tie d talk (kept d.store) refl refl based pair

  lost_tie : (loss : Loss) → Always (lose by_plain d loss) (λ y (_ : Unit {0}). q (facts_of y.store)) → IsTied (lose by_plain d loss)
  lost_tie loss pair = kept_tie d (lose by_plain d loss) (with_one_loss loss (kept d.store)) refl refl (lose_based by_plain d loss) pair

  start_tie : (path : ℕ) → tie (start d path) ≡ tie d
  unfolding S.start
  start_tie path = refl

-- Deeds

-- another one's place
pub others_stay : (ms : List Mounted) (a b : ℕ) (y : Mounted) → number_of y ≡ b → (b == a) ≡ false → mounted_in (put_in ms b y) a ≡ mounted_in ms a
others_stay [] a b y number other = refl
others_stay (k ∷ ms) a b y number other = grind (arith, others_stay ms a b y number other, eqb-true)

-- so many are lent to each where the same is
pub lent_stays : (ms : List Mounted) (n : ℕ) (x m : Mounted) → mounted_in ms n ≡ Some m → number_of x ≡ n →
    x.device.store.lent ≡ m.device.store.lent → (k : ℕ) → lent_count k (ties (put_in ms n x)) ≡ lent_count k (ties ms)
lent_stays ms n x m there number lent k =
    omega (
      arith,
      lent_put n (tie x.device) number k (ties ms) (tie m.device) (tie_found ms n m there),
      (ap (λ (l : Option ℕ). one_if
          (is_lent_to l k)) lent),
      (ap (lent_count k) (ties_put ms n x)),
    )

swept_same : (f : MarksDevice → Talk (Unit {0})) → ((d : MarksDevice) (t : Told) → tie (T.hold true (f d) t).state ≡ tie d) → (ms : List Mounted)
    (pool : Pool) → ties (sweep f ms pool).mounted ≡ ties ms
unfolding H.sweep
swept_same f h [] pool = refl
swept_same f h (m ∷ ms) pool = grind (arith, swept_same f h ms)

-- what a pair's fault says where there is none
pub record MayPair (x y : MarksDevice) : Type 0 where
  pub other : (y.store.device == x.store.device) ≡ false
  pub free : x.store.lent ≡ None
  pub home : y.store.lent ≡ None
  pub single : x.store.paired ≡ false
  pub alone : y.store.paired ≡ false

pub turned : (a b : ℕ) → (a == b) ≡ false → (b == a) ≡ false
turned a b is = ne_eqb b a (λ e. eqb-false a b is (sym e))

pub may_pair : (x y : MarksDevice) → pair_fault x y ≡ None → MayPair x y
unfolding R.pair_fault
may_pair x y is = search (arith, first_none, turned, where_none)

abbrev KeepsTies : Subsystem → MarksDeed → Type 0
KeepsTies s (Ends end) = Unit {0}
KeepsTies s (Becomes d end) = (m : Mounted) → mounted_in s.mounted d.store.device ≡ Some m → tie d ≡ tie m.device
KeepsTies s (Asks d talk) = IsSeat s d × ((t : Told) → tie (T.hold true talk t).state ≡ tie d)
KeepsTies s (Each pool f) = (d : MarksDevice) (t : Told) → tie (T.hold true (f d) t).state ≡ tie d
KeepsTies s (Repairs pool) = Unit {0}
KeepsTies s (Lends a b) = (pair_fault a b ≡ None) × Stands s a × Stands s b

module _ (ns : List ℕ) where
  same_tied : (ts us : List Tie) → us ≡ ts → Tied ns ts → Tied ns us
  same_tied ts us is t = subst (Tied ns) (sym is) t

  becomes_tied : (s : Subsystem) (d : MarksDevice) → ((m : Mounted) → mounted_in s.mounted d.store.device ≡ Some m → tie d ≡ tie m.device) →
      (o : Option Mounted) → mounted_in s.mounted d.store.device ≡ o → Tied ns (ties s.mounted) →
      Tied ns (ties (becomes s d.store.device o d).mounted)
  becomes_tied s d same o there t = grind (arith, same_tied, mounted_number, ties_put, put_own, tie_found)

  asks_tied : (s : Subsystem) (d : MarksDevice) (talk : Talk (Option EventEnd)) → IsSeat s d → ((t : Told) → tie (T.hold true talk t).state ≡ tie d) →
      (o : Option Mounted) → mounted_in s.mounted d.store.device ≡ o → Tied ns (ties s.mounted) →
      Tied ns (ties (asks s d.store.device o talk).behind.mounted)
  asks_tied s d talk seat same o there t = grind (arith, same_tied, mounted_number, ties_put, put_own, tie_found)

  module _ (s : Subsystem) (x y : MarksDevice) (fault : pair_fault x y ≡ None) (stands_x : Stands s x) (stands_y : Stands s y) where
    abbrev a : ℕ
    a = x.store.device

    abbrev b : ℕ
    b = y.store.device

    found : (d : MarksDevice) → Stands s d → (m : Mounted) × (mounted_in s.mounted d.store.device ≡ Some m) × (m.device ≡ d)
    found d stands = grind (arith, mounted_too, number_found s.mounted stands.number d stands.found)

    joined_tied : (z : Subsystem) (volume : Calls) (m : Mounted) → mounted_in z.mounted x.store.device ≡ Some m → m.device ≡ x →
        (w : Mounted) → IsLent x.store.device y w.device → z.mounted ≡ put_in s.mounted y.store.device w → Tied ns (ties s.mounted) →
        Tied ns (ties (joined z x.store.device volume (Some m)).mounted)
    joined_tied z volume m there it_is w g are t =
        let may = may_pair x y fault in
        let fy = found y stands_y in
        let fx = found x stands_x in
        rw (ties_put z.mounted x.store.device (record m { device = join m.device; b = volume }) ∙ ap (λ (l : List Mounted). put_tie x.store.device (tie
        (join m.device)) (ties l)) are ∙ ap (put_tie x.store.device (tie (join m.device))) (ties_put s.mounted y.store.device w)) (paired_tied ns
        (ties s.mounted) x.store.device y.store.device (tie (join m.device)) (tie w.device) (tie x) (tie y) (tie_found s.mounted x.store.device fx.0 fx.1
        ∙ ap (λ (d : MarksDevice). Some (tie d)) fx.2) may.free may.single (tie_found s.mounted y.store.device fy.0 fy.1 ∙ ap (λ (d : MarksDevice). Some
        (tie d)) fy.2) may.home may.alone g.number g.lent (g.paired ∙ may.alone) (ap (λ (d : MarksDevice). d.store.device) it_is) (ap
        (λ (d : MarksDevice). d.store.lent) it_is ∙ may.free) may.other t refl)

    lent_tied : (z : Subsystem) (volume : Calls) (w : Mounted) → IsLent x.store.device y w.device → z.mounted ≡ put_in s.mounted y.store.device w →
        (o : Option Mounted) → mounted_in z.mounted x.store.device ≡ o → Tied ns (ties s.mounted) →
        Tied ns (ties (joined z x.store.device volume o).mounted)
    lent_tied z volume w g are o at_x t =
        let fx = found x stands_x in
        let still : mounted_in z.mounted x.store.device ≡ Some fx.0 =
        ap (λ (l : List Mounted). mounted_in l x.store.device) are
        ∙ others_stay s.mounted x.store.device y.store.device w g.number (may_pair x y fault).other ∙ fx.1 in
        subst (λ (k : Option Mounted). Tied ns (ties (joined z x.store.device volume k).mounted)) (sym still ∙ at_x)
        (joined_tied z volume fx.0 still fx.2 w g are t)

    lends_tied : (o : Option Mounted) → mounted_in s.mounted y.store.device ≡ o → Tied ns (ties s.mounted) →
        Tied ns (ties (lends s x.store.device y.store.device o).mounted)
    lends_tied None there t = t
    lends_tied (Some m) there t =
        let o = held_with s.pool m (lend by_plain m.device x.store.device) in
        let z = behind_outcome s y.store.device o in
        lent_tied z o.told.a (mounted_behind o) (rw (← (seat_of s y stands_y m there)) (held true (lend_makes m.device x.store.device)
        (told_to s.pool m))) refl (mounted_in z.mounted x.store.device) refl t

  happens_tied : (s : Subsystem) (x : MarksDeed) → KeepsTies s x → Tied ns (ties s.mounted) → Tied ns (ties (happens_by s x).behind.mounted)
  happens_tied s (Becomes d end) h t = becomes_tied s d h (mounted_in s.mounted d.store.device) refl t
  happens_tied s (Asks d talk) h t = asks_tied s d talk h.0 h.1 (mounted_in s.mounted d.store.device) refl t
  happens_tied s (Each pool f) h t = same_tied (ties s.mounted) _ (swept_same f h s.mounted pool) t
  happens_tied s (Lends a b) h t = lends_tied s a b h.0 h.1 h.2 (mounted_in s.mounted b.store.device) refl t
  happens_tied s x h t = t

-- an answer changes no device
answered : {X Y : Type 0} (d : MarksDevice) (talk : Talk X) (f : X → Y) → ((t : Told) → tie (T.hold true talk t).state ≡ tie d) →
    (t : Told) → tie (T.hold true (and_then talk (λ z a. Done z (f a))) t).state ≡ tie d
answered d talk f h t = ap tie (hold_answer talk f t) ∙ h t

becomes_so : (s : Subsystem) (d y : MarksDevice) → Stands s d → tie y ≡ tie d → (m : Mounted) → mounted_in s.mounted y.store.device ≡ Some m →
    tie y ≡ tie m.device
becomes_so s d y stands same m there = grind (arith, seat_of)

ties_keep : (s : Subsystem) → IsDeedwise s (KeepsTies s)
ties_keep s = record {
  ended = λ end. tt;
  started = λ d x path fault. becomes_so s d (start d path) x (start_tie d path);
  seconded = λ d x h is. (
    seat_of s d x,
    answered d (second by_plain d) (λ a. Some (ends.Second a))
        (its_tie d (second by_plain d) (second_based by_plain d) (second_leaves by_plain (q d) (pair_bears d.store.paired) d refl)),
  );
  commanded = λ d x whole o running. (
    seat_of s d x,
    answered d (command by_plain d) (end_of ends.Stepped)
        (its_tie d (command by_plain d) (command_based by_plain d) (command_leaves by_plain (q d) (pair_bears d.store.paired) d refl)),
  );
  worked = λ d x whole. (
    seat_of s d x,
    answered d (background by_plain d) (end_of ends.Back)
        (its_tie d (background by_plain d) (background_based by_plain d) (background_leaves by_plain (q d) (pair_bears d.store.paired) d refl)),
  );
  cut = λ d x path. (
    seat_of s d x,
    answered d (reset by_plain d path) (λ a. Some (ends_done a))
        (its_tie d (reset by_plain d path) (based_any (reset_body by_plain d path)) (reset_leaves by_plain (q d) (pair_bears d.store.paired) d path refl)),
  );
  lost_cache = λ d. lost_tie d losses.Cache (lose_leaves by_plain (q d) (pair_bears d.store.paired) d losses.Cache refl (λ x is. is));
  lost_store = λ d. lost_tie d losses.Store (lose_leaves by_plain (q d) (pair_bears d.store.paired) d losses.Store refl (λ x is. is));
  lost_side = λ d x side fault. (
    seat_of s d x,
    answered d (lose by_plain d (losses.Side side)) (λ a. Some (ends_done a)) (lost_tie d (losses.Side side)
        (lose_leaves by_plain (q d) (pair_bears d.store.paired) d (losses.Side side) refl (λ x is. fallen_pair d.store.paired x side is))),
  );
  lost_power = λ d. kept_tie d (power by_plain d) (with_one_loss losses.Cache (kept d.store)) refl refl (power_based by_plain d)
      (power_leaves by_plain (q d) (pair_bears d.store.paired) d refl);
  repaired_cache = tt;
  repaired_store = tt;
  lent = λ x y z w fault. (fault, z, w);
  held = λ d x fault. becomes_so s d (hold_side d) x refl;
  resumed = λ d x fault. becomes_so s d (resume d) x refl;
}

-- Lines

module _ (ns : List ℕ) where
  abbrev pub So : Subsystem → Type 0
  So s = Tied ns (ties s.mounted)

  -- of the one before each event too
  abbrev pub Shown : Subsystem → Logged → Type 0
  Shown s t = So s

  pub event_tied : (s : Subsystem) (e : Event) → So s → So (happens s e).behind
  unfolding H.happens
  event_tied s e t = happens_tied ns s (deed by_plain s.pool (devices_of s) e) (deed_is s (KeepsTies s) (ties_keep s) e) t

  pub replaced_tied : (s : Subsystem) (n : ℕ) (side : Side) (o : Option Mounted) → mounted_in s.mounted n ≡ o → So s →
      So (replaced_at s n side unfailing o).behind
  replaced_tied s n side o there t = grind (arith, same_tied, mounted_number, ties_put, put_own, tie_found)

  pub unpaired_tied : (s : Subsystem) (n : ℕ) (o : Option Mounted) → mounted_in s.mounted n ≡ o → So s → So (unpaired_at s n unfailing o).behind
  unpaired_tied s n None there t = t
  unpaired_tied s n (Some m) there t =
      grind (arith, ties_restored (put_in s.mounted n (record m { device = split m.device })) n unfailing, ties_put s.mounted n (record m { device = split m.device }), parted_tied ns (ties s.mounted) n (tie (split m.device)) (tie m.device) (tie_found s.mounted n m there) (mounted_number s.mounted n m there) refl refl t, tie_found s.mounted n m there, mounted_number s.mounted n m there)

  ties_go : Goes So Shown AnyEvent
  unfolding H.replaced H.unpaired
  ties_go = search (arith, event_tied, replaced_tied, unpaired_tied)

-- behind one line
pub line_tied : (ns : List ℕ) (s : Subsystem) (x : Asked) → Tied ns (ties s.mounted) → Tied ns (ties (last_behind s (line_logged s x)).mounted)
line_tied ns s x t =
    grind (arith, logs_end (So ns) (Shown ns) s (line_logged s x) (line_goes (So ns) (Shown ns) AnyEvent (ties_go ns) x s (All-head (MayAsk AnyEvent) x [] (all_asked (x ∷ []))) t), line_goes (So ns) (Shown ns) AnyEvent (ties_go ns) x s (All-head (MayAsk AnyEvent) x [] (all_asked (x ∷ []))) t, all_asked (x ∷ []))

-- Decks

abbrev pub numbers_in : DeckLines → List ℕ
numbers_in deck = map (λ (d : DeviceLine). d.number) deck.devices

opened_numbers : (deck : DeckLines) (ds : List DeviceLine) →
    map (λ (t : Tie). t.number) (ties (map (opened_device deck) ds)) ≡ map (λ (d : DeviceLine). d.number) ds
opened_numbers deck [] = refl
opened_numbers deck (d ∷ ds) = ap (λ (l : List ℕ). d.number ∷ l) (opened_numbers deck ds)

opened_alone : (deck : DeckLines) (ds : List DeviceLine) (a : ℕ) → lent_count a (ties (map (opened_device deck) ds)) ≡ 0
opened_alone deck [] a = refl
opened_alone deck (d ∷ ds) a = let rest = opened_alone deck ds a in omega (arith, rest)

pub opened_tied : (deck : DeckLines) → Tied (numbers_in deck) (ties (opened deck).mounted)
opened_tied deck = grind (arith, opened_numbers deck deck.devices, opened_alone)

pub run_tied : (deck : DeckLines) →
    Logs (So (numbers_in deck)) (Shown (numbers_in deck)) (opened deck) (run_lines (map asked_by deck.events) (opened deck))
run_tied deck = grind (arith, lines_keep, ties_go, opened_tied)

pub tied_behind : (deck : DeckLines) → Tied (numbers_in deck) (ties (run_of deck).behind.mounted)
unfolding D.run_asked_on
tied_behind deck = grind (arith, logs_end, run_tied)
