-- In the run of a deck that was read no count of a device's calls reaches the greatest number that is counted.
use Rattle.std.proofs.Common.{
  ◌≡◌,
  ◌<◌,
  ◌≤◌,
  ◌+◌,
  ◌*◌,
  ℕ,
  suc,
  Bool,
  true,
  false,
  not,
  List,
  [],
  ◌∷◌,
  length,
  map,
  Option,
  Some,
  None,
  is_some,
  min,
  refl,
  sym,
  ap,
  subst,
  ◌∙◌,
  arith,
}
use Rattle.std.proofs.lemmas.List.Elements.{All-nil, All-cons, All-head, All-tail}
use Rattle.std.specs.Prelude.{All, Ok}
use Rattle.ckd_types.specs.declared.paths.Side.{Side}
use Rattle.ckd_types.specs.declared.paths.Side.TheVariants as sides
use Rattle.deck_text.specs.declared.line.DeviceLine.{DeviceLine}
use Rattle.deck_text.specs.DeckLines.{DeckLines}
use Rattle.deck_text.specs.Parse.{parsed}
use Rattle.loss_model.specs.declared.Loss.{Loss}
use Rattle.loss_model.specs.declared.Loss.TheVariants as losses
use Rattle.track_image.specs.Image.{Image}
use Rattle.device_outside.specs.Interaction.{Interaction, Done}
use Rattle.device_outside.specs.Pool.{Call}
use Rattle.device_outside.specs.Volume as V
use Rattle.device_outside.specs.Volume.{counted, counted_if}
use Rattle.device_defs.specs.declared.counts.Counts as K
use Rattle.device_defs.specs.declared.counts.Losses.{Losses}
use Rattle.device_defs.specs.Command.{command}
use Rattle.device_defs.specs.Contents.{by_plain}
use Rattle.device_defs.specs.Cutting.{reset, power}
use Rattle.device_defs.specs.Device.{event_ended}
use Rattle.device_defs.specs.Events.{second, lose, background, one_loss_more}
use Rattle.device_defs.specs.Marks.{MarksDevice, no_counts}
use Rattle.device_defs.specs.Orders as O
use Rattle.device_defs.specs.Orders.{hold_side, resume, replace, lend}
use Rattle.device_defs.specs.Owed.{waiting_count}
use Rattle.device_defs.specs.Start as S
use Rattle.device_defs.specs.Start.{start, next_ordinal}
use Rattle.device_defs.specs.Store.{HalfWrite, tracks_of, takes_b}
use Rattle.device_defs.specs.Transfers.{both}
use Rattle.device_laws.proofs.Always as A
use Rattle.device_laws.proofs.Always.{Behind, Always}
use Rattle.device_laws.proofs.Based.{Base, Any, Based, kept, based_any, based_done, based_try, based_ask, based_read, based_write, based_tell}
use Rattle.device_laws.proofs.BasedEvents.{base_in, with_one_loss, command_based, second_based, background_based, lose_based, power_based, reset_body}
use Rattle.device_laws.proofs.Lucky.{top}
use Rattle.device_laws.proofs.QuietParts.{ended_quiet}
use Rattle.device_laws.specs.Moved.{half_writing, NoTransfers, SecondTransfers}
use Rattle.device_laws.proofs.counted.Counting.{Counts, counts_done, counts_try, counts_ask, counts_read, counts_write, counts_tell, counts_weaker, counts_past}
use Rattle.device_laws.proofs.counted.EventCounts.{command_counts, second_counts, background_counts, lose_counts, power_counts, reset_counts}
use Rattle.subsystem_defs.specs.declared.end.EventEnd.TheVariants as ends
use Rattle.subsystem_defs.specs.Decks as D
use Rattle.subsystem_defs.specs.Decks.{Firsts, opened_device_on, opened_on, run_on}
use Rattle.subsystem_defs.specs.Deeds.{ends_done, end_of}
use Rattle.subsystem_defs.specs.Lines.{Logged, asked_by, last_behind}
use Rattle.subsystem_defs.specs.Subsystem.{Mounted, Subsystem, devices_of}
use Rattle.subsystem_laws.specs.Causes.{EachPair}
use Rattle.subsystem_laws.specs.Came.{CameTo}
use Rattle.subsystem_laws.proofs.Came.{at}
use Rattle.subsystem_laws.proofs.CalmRuns.{AllSo}
use Rattle.subsystem_laws.proofs.DeedWalk.{seat_of, IsDeedwise}
use Rattle.subsystem_laws.proofs.LendBase.{stays_still, lent_store, lend_based, lend_lends, lent_counts}
use Rattle.subsystem_laws.proofs.Pairing.{KeepsDeed, deeds_of, IsPairwise, run_pairs, ends_made, becomes_so, started_number}
use Rattle.subsystem_laws.proofs.ReadDecks.{read_served, read_small}
use Rattle.subsystem_laws.proofs.RunLength.{read_run_has_few}
use Rattle.subsystem_laws.proofs.RunLinks.{Linked, lines_linked}

-- Behind an interaction no count of calls is higher by more than the calls that it made

one_read : (x n m r w : ℕ) → x ≤ n + 1 → n ≤ m + (r + w) → x ≤ m + (r + 1 + w)
one_read x n m r w few le = omega (arith, few, le)

one_write : (x n m r w : ℕ) → x ≤ n + 1 → n ≤ m + (r + w) → x ≤ m + (r + (w + 1))
one_write x n m r w few le = omega (arith, few, le)

at_end : (x m n r w : ℕ) → x ≤ m + (r + w) → r + w ≤ n → x ≤ m + n
at_end x m n r w le most = omega (arith, le, most)

least_of : (x y : ℕ) → min x y ≤ x
least_of x y = omega arith

pub if_few : (b : Bool) (n : ℕ) → counted_if b n ≤ n + 1
unfolding V.counted
if_few true n = least_of (n + 1) top
if_few false n = omega arith

pub one_few : (n : ℕ) → counted n ≤ n + 1
unfolding V.counted
one_few n = least_of (n + 1) top

pub none_few : (n : ℕ) → n ≤ n + 1
none_few n = omega arith

none_yet : (x m : ℕ) → x ≡ m → x ≤ m + (0 + 0)
none_yet x m e = omega (arith, e)

commanded_few : (a b : Bool) (n r w : ℕ) → r ≤ n * both a b → w ≤ both a b → r + w ≤ n * 2 + 4
commanded_few true true n r w reads writes = omega (arith, reads, writes)
commanded_few true false n r w reads writes = omega (arith, reads, writes)
commanded_few false true n r w reads writes = omega (arith, reads, writes)
commanded_few false false n r w reads writes = omega (arith, reads, writes)

worked_few : (a b : Bool) (n r w : ℕ) → r ≤ both a b → w ≤ both a b → r + w ≤ n * 2 + 4
worked_few true true n r w reads writes = omega (arith, reads, writes)
worked_few true false n r w reads writes = omega (arith, reads, writes)
worked_few false true n r w reads writes = omega (arith, reads, writes)
worked_few false false n r w reads writes = omega (arith, reads, writes)

no_call_few : (n r w : ℕ) → r ≡ 0 → w ≡ 0 → r + w ≤ n
no_call_few n r w reads writes = omega (arith, reads, writes)

half_few : (b : Bool) (n r w : ℕ) → r ≡ 0 → w ≡ both b false → r + w ≤ n * 2 + 4
half_few true n r w reads writes = omega (arith, reads, writes)
half_few false n r w reads writes = omega (arith, reads, writes)

-- what is told at an event's end makes none
over_calls : {X : Type 0} (d y : MarksDevice) (a : X) → Counts (λ r w (z : MarksDevice) (b : X). r + w ≤ 0) 0 0 (event_ended by_plain d y a)
over_calls d y a =
    counts_past (λ z _. Done (record y { store = z }) a) (ended_quiet by_plain (waiting_count by_plain d.store) y.store)
    (λ z _. counts_done (omega arith))

abbrev most_calls : MarksDevice → ℕ
most_calls d = tracks_of d.store * 2 + 4

as_before : (n : ℕ) → n ≤ n + 0
as_before n = omega arith

none_on : (x y z : ℕ) → y ≤ x + 0 → z ≤ y + 0 → z ≤ x + 0
none_on x y z f g = omega (arith, f, g)

any_more : (x y n : ℕ) → y ≤ x + 0 → y ≤ x + n
any_more x y n f = omega (arith, f)

still_small : (x y : ℕ) → y ≡ x → x ≤ 64 → y ≤ 64
still_small x y e le = omega (arith, e, le)

one_event : (n k x y : ℕ) → n ≤ 64 → x ≤ k → y ≤ x + (n * 15 * 2 + 4) → y ≤ k + 1924
one_event n k x y small most more = omega (arith, small, most, more)

pub below : (n k : ℕ) → n ≤ k → k < top → n < top
below n k le lt = omega (arith, le, lt)

abbrev IsSmall : DeviceLine → Type 0
IsSmall d = d.cylinders ≤ 64

room : (k n : ℕ) → k + suc n * 1924 < top → (k < top) × (k + 1924 + n * 1924 < top)
room k n lt = (omega (arith, lt), omega (arith, lt))

from_none : (n : ℕ) → n ≤ 536936448 → 0 + n * 1924 < top
from_none n le = omega (arith, le)

none_first : (n : ℕ) → n ≡ 0 → n ≤ 0
none_first n e = omega (arith, e)

no_events : (k : ℕ) → k ≡ k + 0 * 1924
no_events k = omega arith

one_event_more : (k n : ℕ) → k + 1924 + n * 1924 ≡ k + suc n * 1924
one_event_more k n = omega arith

at_most : (x k n : ℕ) → x ≤ k → k ≤ n → x ≤ n
at_most x k n a b = omega (arith, a, b)

all_few : (n : ℕ) → n ≤ 536936448 → 0 + n * 1924 ≤ 1033065725952
all_few n le = omega (arith, le)

-- A count of calls: none raises it by more than one, and no loss does
pub record IsCallCount (f : K.Counts → ℕ) : Type 0 where
  pub at_first : f no_counts ≡ 0
  pub on_read : (c : K.Counts) (ok : Bool) → f (record c { reads = counted c.reads; failed = counted_if (not ok) c.failed }) ≤ f c + 1
  pub on_write : (c : K.Counts) (ok : Bool) → f (record c { writes = counted c.writes; failed = counted_if (not ok) c.failed }) ≤ f c + 1
  pub no_loss : (c : K.Counts) (l : Losses) → f (record c { losses = l }) ≡ f c

module _ (count : K.Counts → ℕ) (c : IsCallCount count) where
  module _ {R S X : Type 0} {base : S → Base} {may : Call → Type 0} (m n : ℕ) where
    few : {b : Base} {r w : ℕ} {i : Interaction R Image S X} → Based base may b i → Counts (λ x y (s : S) (a : X). x + y ≤ n) r w i →
        count b.counts ≤ m + (r + w) → Behind i (λ s a. count (base s).counts ≤ m + n)
    unfolding A.Behind
    few {r = r} {w = w} (based_done {s = s} e) (counts_done y) le =
        subst (λ (x : Base). count x.counts ≤ m + n) (sym e) (at_end _ m n r w le y)
    few (based_try x) (counts_try y) le = λ ok. few (x ok) (y ok) le
    few (based_ask asked x) (counts_ask y) le = λ a. few (x a) (y a) le
    few {b = b} {r = r} {w = w} (based_read x) (counts_read y) le = λ got.
        few (x got) (y got) (one_read _ (count b.counts) m r w (c.on_read b.counts (is_some got)) le)
    few {b = b} {r = r} {w = w} (based_write x) (counts_write y) le = λ ok.
        few (x ok) (y ok) (one_write _ (count b.counts) m r w (c.on_write b.counts ok) le)
    few (based_tell x) (counts_tell y) le = λ a. few (x a) (y a) le

  -- it rises by at most n
  abbrev RisesBy : ℕ → MarksDevice → MarksDevice → Type 0
  RisesBy n x y = (y.store.cylinders ≡ x.store.cylinders) × (count y.store.counts ≤ count x.store.counts + n)

  module _ {X : Type 0} (n : ℕ) (d : MarksDevice) (b : Base) {talk : Interaction Bool Image MarksDevice X} (same : count b.counts ≡ count d.store.counts)
      (x : Based base_in Any b talk) (y : Counts (λ x y (z : MarksDevice) (a : X). x + y ≤ n) 0 0 talk) (t : CameTo talk) where
    calls_few : count t.state.store.counts ≤ count d.store.counts + n
    calls_few =
        let h : Always talk (λ z a. count (base_in z).counts ≤ count d.store.counts + n) =
        record { holds = few (count d.store.counts) n x y (none_yet (count b.counts) (count d.store.counts) same) } in
        at h t

    rises_by : b.cylinders ≡ d.store.cylinders → RisesBy n d t.state
    rises_by cylinders = ((at (stays_still x) t).1 ∙ cylinders, calls_few)

  abbrev RisesFew : MarksDevice → MarksDevice → Type 0
  RisesFew x y = RisesBy (most_calls x) x y

  module _ (d : MarksDevice) where
    command_few : (t : CameTo (command by_plain d)) → RisesFew d t.state
    command_few t =
        rises_by (most_calls d) d (kept d.store) refl (command_based by_plain d)
        (counts_weaker (command_counts by_plain d)
        (λ r w z a k. commanded_few d.store.a.up d.store.b.up (tracks_of d.store) r w k.most_reads k.most_writes)) t refl

    second_calls : (h : Option (HalfWrite (Unit {0}))) (r w : ℕ) → SecondTransfers (half_writing d.store h) r w → r + w ≤ most_calls d
    second_calls (Some h) r w k = half_few (takes_b d.store) (tracks_of d.store) r w k.0 k.1
    second_calls None r w k = no_call_few (most_calls d) r w k.0 k.1

    second_few : (t : CameTo (second by_plain d)) → RisesFew d t.state
    second_few t =
        rises_by (most_calls d) d (kept d.store) refl (second_based by_plain d)
        (counts_weaker (second_counts by_plain d) (λ r w z a k. second_calls d.store.half r w k)) t refl

    background_few : (t : CameTo (background by_plain d)) → RisesFew d t.state
    background_few t =
        rises_by (most_calls d) d (kept d.store) refl (background_based by_plain d)
        (counts_weaker (background_counts by_plain d)
        (λ r w z a k. worked_few d.store.a.up d.store.b.up (tracks_of d.store) r w k.most_reads k.most_writes)) t refl

    quiet_few : {X : Type 0} {talk : Interaction Bool Image MarksDevice X} (n : ℕ) → Counts (λ r w (z : MarksDevice) (a : X). NoTransfers r w) 0 0 talk →
        Counts (λ x y (z : MarksDevice) (a : X). x + y ≤ n) 0 0 talk
    quiet_few n h = counts_weaker h (λ r w z a k. no_call_few n r w k.0 k.1)

    lose_few : (loss : Loss) (t : CameTo (lose by_plain d loss)) → RisesFew d t.state
    lose_few loss t =
        rises_by (most_calls d) d (with_one_loss loss (kept d.store)) (c.no_loss d.store.counts (one_loss_more d.store.counts.losses loss))
        (lose_based by_plain d loss)
        (quiet_few (most_calls d) (lose_counts by_plain d loss)) t refl

    power_few : (t : CameTo (power by_plain d)) → RisesFew d t.state
    power_few t =
        rises_by (most_calls d) d (with_one_loss losses.Cache (kept d.store))
        (c.no_loss d.store.counts (one_loss_more d.store.counts.losses losses.Cache)) (power_based by_plain d)
        (quiet_few (most_calls d) (power_counts by_plain d)) t refl

    reset_few : (path : ℕ) (t : CameTo (reset by_plain d path)) → RisesFew d t.state
    reset_few path t =
        rises_by (most_calls d) d (kept d.store) refl (based_any (reset_body by_plain d path))
        (quiet_few (most_calls d) (reset_counts by_plain d path)) t refl

    lend_calls : (to : ℕ) → Counts (λ x y (z : MarksDevice) (a : Unit {0}). x + y ≤ 0) 0 0 (lend by_plain d to)
    unfolding O.lend
    lend_calls to = over_calls d _ tt

    lend_none : (to : ℕ) (t : CameTo (lend by_plain d to)) → RisesBy 0 d t.state
    lend_none to t = (
      (lend_lends d to t).cylinders,
      calls_few 0 d (kept (lent_store d to)) (ap count (lent_counts d to)) (lend_based d to) (lend_calls to) t,
    )

  -- All events

  abbrev RisesNone : MarksDevice → MarksDevice → Type 0
  RisesNone x y = RisesBy 0 x y

  start_none : (d : MarksDevice) (path : ℕ) → RisesNone d (start d path)
  unfolding S.start
  start_none d path = (refl, as_before (count d.store.counts))

  replace_none : (d : MarksDevice) (side : Side) → RisesNone d (replace d side)
  replace_none d sides.A = (refl, as_before (count d.store.counts))
  replace_none d sides.B = (refl, as_before (count d.store.counts))

  few_deeds : (s : Subsystem) → IsDeedwise s (KeepsDeed RisesNone RisesFew s)
  few_deeds s = record {
    ended = λ end. tt;
    started = λ d x path fault.
        becomes_so RisesNone RisesFew s d x (start d path) (started_number d path) (start_none d path) (ends.Started (next_ordinal d path));
    seconded = λ d x h is. (seat_of s d x, ends_made RisesNone RisesFew d (second by_plain d) (λ a. Some (ends.Second a)) (second_few d));
    commanded = λ d x whole o running. (seat_of s d x, ends_made RisesNone RisesFew d (command by_plain d) (end_of ends.Stepped) (command_few d));
    worked = λ d x whole. (seat_of s d x, ends_made RisesNone RisesFew d (background by_plain d) (end_of ends.Back) (background_few d));
    cut = λ d x path. (seat_of s d x, ends_made RisesNone RisesFew d (reset by_plain d path) (λ a. Some (ends_done a)) (reset_few d path));
    lost_cache = λ d t. lose_few d losses.Cache t;
    lost_store = λ d t. lose_few d losses.Store t;
    lost_side = λ d x side fault. (
      seat_of s d x,
      ends_made RisesNone RisesFew d (lose by_plain d (losses.Side side)) (λ a. Some (ends_done a)) (lose_few d (losses.Side side)),
    );
    lost_power = λ d t. power_few d t;
    repaired_cache = tt;
    repaired_store = tt;
    lent = λ x y z w fault. (seat_of s y w, lend_none y x.store.device);
    held = λ d x fault. becomes_so RisesNone RisesFew s d x (hold_side d) refl (refl, as_before (count d.store.counts)) ends.Done;
    resumed = λ d x fault. becomes_so RisesNone RisesFew s d x (resume d) refl (refl, as_before (count d.store.counts)) ends.Done;
  }

  few_pairwise : IsPairwise RisesNone (λ lossy alone. RisesFew)
  few_pairwise = record {
    own = λ d. (refl, as_before (count d.store.counts));
    on = λ x y z f g. (g.0 ∙ f.0, none_on (count x.store.counts) (count y.store.counts) (count z.store.counts) f.1 g.1);
    made = λ lossy alone x y f. (f.0, any_more (count x.store.counts) (count y.store.counts) (most_calls x) f.1);
    joins = λ d. (refl, as_before (count d.store.counts));
    splits = λ d fault. (refl, as_before (count d.store.counts));
    replaces = λ d side fault. replace_none d side;
    restores = λ d a is. (refl, as_before (count d.store.counts));
    deeds = λ s p. deeds_of RisesNone RisesFew s (few_deeds s);
  }

  -- A device of at most 64 cylinders: one event makes at most 1,924 calls

  pub record Fits (k : ℕ) (d : MarksDevice) : Type 0 where
    pub small : d.store.cylinders ≤ 64
    pub most : count d.store.counts ≤ k

  fits_on : (k : ℕ) (xs ys : List MarksDevice) → EachPair RisesFew xs ys → AllSo (Fits k) xs → AllSo (Fits (k + 1924)) ys
  fits_on k [] [] p f = tt
  fits_on k [] (y ∷ ys) p f = absurd p
  fits_on k (x ∷ xs) [] p f = absurd p
  fits_on k (x ∷ xs) (y ∷ ys) p f = (
    record {
      small = still_small x.store.cylinders y.store.cylinders p.0.0 f.0.small;
      most = one_event x.store.cylinders k (count x.store.counts) (count y.store.counts) f.0.small f.0.most p.0.1;
    },
    fits_on k xs ys p.1 f.1,
  )

  abbrev pub Fewer : MarksDevice → Type 0
  Fewer d = count d.store.counts < top

  abbrev pub AllFewer : Logged → Type 0
  AllFewer x = All Fewer (devices_of x.happened.before)

  all_counted : (k : ℕ) → k < top → (ds : List MarksDevice) → AllSo (Fits k) ds → All Fewer ds
  all_counted k lt [] f = All-nil Fewer
  all_counted k lt (d ∷ ds) f = All-cons Fewer d ds (below (count d.store.counts) k f.0.most lt) (all_counted k lt ds f.1)

  abbrev Shown : Logged → Type 0
  Shown x = EachPair RisesFew (devices_of x.happened.before) (devices_of x.happened.behind)

  counted_on : (ts : List Logged) (s : Subsystem) (k : ℕ) → Linked s ts → All Shown ts → k + length ts * 1924 < top → AllSo (Fits k) (devices_of s) →
      All AllFewer ts
  counted_on [] s k l p lt f = All-nil AllFewer
  counted_on (t ∷ ts) s k l p lt f =
      let r = room k (length ts) lt in
      let g = subst (λ (x : Subsystem). AllSo (Fits k) (devices_of x)) (sym l.0) f in
      All-cons AllFewer t ts (all_counted k r.0 (devices_of t.happened.before) g)
      (counted_on ts t.happened.behind (k + 1924) l.1 (All-tail Shown t ts p) r.1
      (fits_on k (devices_of t.happened.before) (devices_of t.happened.behind) (All-head Shown t ts p) g))

  opened_fits : (firsts : Firsts) (deck : DeckLines) (ds : List DeviceLine) → All IsSmall ds → AllSo (Fits 0) (map (λ (m : Mounted). m.device) (map (opened_device_on firsts deck) ds))
  opened_fits firsts deck [] h = tt
  opened_fits firsts deck (d ∷ ds) h = (
    record { small = All-head IsSmall d ds h; most = none_first (count no_counts) c.at_first },
    opened_fits firsts deck ds (All-tail IsSmall d ds h),
  )

  behind_on : (ts : List Logged) (s : Subsystem) (k : ℕ) → Linked s ts → All Shown ts → AllSo (Fits k) (devices_of s) →
      AllSo (Fits (k + length ts * 1924)) (devices_of (last_behind s ts))
  behind_on [] s k l p g = subst (λ (n : ℕ). AllSo (Fits n) (devices_of s)) (no_events k) g
  behind_on (t ∷ ts) s k l p g =
      let h = subst (λ (x : Subsystem). AllSo (Fits k) (devices_of x)) (sym l.0) g in
      subst (λ (n : ℕ). AllSo (Fits n) (devices_of (last_behind t.happened.behind ts))) (one_event_more k (length ts))
      (behind_on ts t.happened.behind (k + 1924) l.1 (All-tail Shown t ts p)
      (fits_on k (devices_of t.happened.before) (devices_of t.happened.behind) (All-head Shown t ts p) h))

  run_shown : (firsts : Firsts) (text : List ℕ) (deck : DeckLines) → parsed text ≡ Ok deck → All Shown (run_on firsts deck).events
  run_shown firsts text deck read = run_pairs RisesNone (λ lossy alone. RisesFew) few_pairwise firsts deck (read_served text deck read)

  -- in the run of a deck that was read it stays below the greatest number that is counted
  pub read_run_counts_all : (firsts : Firsts) (text : List ℕ) (deck : DeckLines) → parsed text ≡ Ok deck → All AllFewer (run_on firsts deck).events
  unfolding D.run_asked_on
  read_run_counts_all firsts text deck read =
      counted_on (run_on firsts deck).events (opened_on firsts deck) 0 (lines_linked (map asked_by deck.events) (opened_on firsts deck)) (run_shown firsts text deck read)
      (from_none (length (run_on firsts deck).events) (read_run_has_few firsts text deck read)) (opened_fits firsts deck deck.devices (read_small text deck read))

  less_so : (k n : ℕ) → k ≤ n → (ds : List MarksDevice) → AllSo (Fits k) ds → AllSo (λ (d : MarksDevice). count d.store.counts ≤ n) ds
  less_so k n le [] g = tt
  less_so k n le (d ∷ ds) g = (at_most (count d.store.counts) k n g.0.most le, less_so k n le ds g.1)

  -- and behind it, it is at most this
  pub read_run_counts_few : (firsts : Firsts) (text : List ℕ) (deck : DeckLines) → parsed text ≡ Ok deck →
      AllSo (λ (d : MarksDevice). count d.store.counts ≤ 1033065725952) (devices_of (run_on firsts deck).behind)
  unfolding D.run_asked_on
  read_run_counts_few firsts text deck read =
      less_so (0 + length (run_on firsts deck).events * 1924) 1033065725952 (all_few (length (run_on firsts deck).events) (read_run_has_few firsts text deck read))
      (devices_of (run_on firsts deck).behind)
      (behind_on (run_on firsts deck).events (opened_on firsts deck) 0 (lines_linked (map asked_by deck.events) (opened_on firsts deck)) (run_shown firsts text deck read)
      (opened_fits firsts deck deck.devices (read_small text deck read)))
