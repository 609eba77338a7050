-- In a run data of cache fast write of a device were lost at most as often as losses of its cache were counted.
use Rattle.std.proofs.Common.{◌≡◌, ◌≤◌, ◌<◌, ◌+◌, ◌^◌, ◌-◌, ℕ, List, [], ◌∷◌, map, Some, min, refl, sym, ap, subst, ◌∙◌, arith}
use Rattle.std.proofs.lemmas.List.Elements.{All-nil, All-cons, All-head, All-tail}
use Rattle.std.specs.Prelude.{All, length}
use Rattle.ckd_types.specs.declared.paths.Side.{Side}
use Rattle.ckd_types.specs.declared.paths.Side.TheVariants as sides
use Rattle.deck_text.specs.declared.line.DeviceLine.{DeviceLine}
use Rattle.deck_text.specs.DeckLines.{DeckLines}
use Rattle.loss_model.specs.declared.Loss.{Loss}
use Rattle.loss_model.specs.declared.Loss.TheVariants as losses
use Rattle.device_outside.specs.Volume as V
use Rattle.device_outside.specs.Volume.{counted}
use Rattle.device_defs.specs.declared.counts.Counts.{Counts}
use Rattle.device_defs.specs.declared.counts.Losses.{Losses}
use Rattle.device_defs.specs.Command.{command}
use Rattle.device_defs.specs.Contents.{by_plain}
use Rattle.device_defs.specs.Cutting.{reset, power}
use Rattle.device_defs.specs.Events.{second, lose, background}
use Rattle.device_defs.specs.Marks.{MarksDevice}
use Rattle.device_defs.specs.Orders.{join, split, restore, hold_side, resume, replace, lend}
use Rattle.device_defs.specs.Peek.{peek}
use Rattle.device_defs.specs.Start as S
use Rattle.device_defs.specs.Start.{start, next_ordinal}
use Rattle.device_laws.specs.Unharmed.{all_losses, running_losses, LossesAreCounted}
use Rattle.device_laws.proofs.BasedEvents.{command_based, second_based, background_based, lose_based, peek_based, power_based, reset_body}
use Rattle.device_laws.proofs.LooseLosses.{most_lost, command_has, second_has, background_has, lose_has, peek_has, reset_has, power_has}
use Rattle.device_laws.proofs.LossLaws.{counted_excuse}
use Rattle.device_laws.proofs.Lucky.{top, counted_rises}
use Rattle.subsystem_defs.specs.declared.end.EventEnd.TheVariants as ends
use Rattle.subsystem_defs.specs.Decks as D
use Rattle.subsystem_defs.specs.Decks.{Firsts, opened_device_on, opened_on, run_on}
use Rattle.subsystem_defs.specs.Deeds.{ends_done, end_of}
use Rattle.subsystem_defs.specs.Lines.{Logged, asked_by}
use Rattle.subsystem_defs.specs.Subsystem.{Mounted, Subsystem, devices_of}
use Rattle.subsystem_laws.specs.Causes.{EachPair}
use Rattle.subsystem_laws.specs.Excused.{HasCountedLosses, HaveCountedLosses}
use Rattle.subsystem_laws.specs.Served.{IsServedDeck}
use Rattle.subsystem_laws.specs.Came.{CameTo}
use Rattle.subsystem_laws.proofs.Came.{at}
use Rattle.subsystem_laws.proofs.CallCounts.{one_few, none_few, below}
use Rattle.subsystem_laws.proofs.CalmRuns.{AllSo, one_event, from_none}
use Rattle.subsystem_laws.proofs.DeedWalk.{seat_of, IsDeedwise}
use Rattle.subsystem_laws.proofs.LendBase.{stays_still, lend_based, lent_counts}
use Rattle.subsystem_laws.proofs.NothingChecked.{one_more_item, lend_past}
use Rattle.subsystem_laws.proofs.Pairing.{KeepsDeed, deeds_of, IsPairwise, run_pairs, ends_made, becomes_so, started_number}
use Rattle.subsystem_laws.proofs.RunLinks.{Linked, lines_linked}

abbrev losses_of_cache : MarksDevice → ℕ
losses_of_cache d = d.store.counts.losses.cache

-- orders count no loss, and add none to its history
pub record Still (x y : MarksDevice) : Type 0 where
  pub same : losses_of_cache y ≡ losses_of_cache x
  pub none : all_losses y.history ≤ all_losses x.history

-- an event counts one at most, and those of its history are counted
pub record Counted (x y : MarksDevice) : Type 0 where
  pub few : losses_of_cache y ≤ losses_of_cache x + 1
  pub all : losses_of_cache x < top → LossesAreCounted x → LossesAreCounted y
  pub less : losses_of_cache y < top → losses_of_cache x < top

less_top : (n : ℕ) → counted n < top → n < top
unfolding V.counted
less_top n lt = by_least n top lt where
  by_least : (n y : ℕ) → min (n + 1) y < y → n < y
  by_least n y lt = omega (arith, lt)

as_few : (n m : ℕ) → m ≡ n → m ≤ n + 1
as_few n m e = omega (arith, e)

own_le : (n : ℕ) → n ≤ n
own_le n = omega arith

as_le : (n m : ℕ) → m ≡ n → m ≤ n
as_le n m e = omega (arith, e)

on_le : (a b c : ℕ) → b ≤ a → c ≤ b → c ≤ a
on_le a b c f g = omega (arith, f, g)

pub still_counted : (x y : MarksDevice) → Still x y → Counted x y
still_counted x y s = record {
  few = as_few (losses_of_cache x) (losses_of_cache y) s.same;
  all = λ lt all. let same = s.same in let none = s.none in omega (arith, same, none, all);
  less = λ lt. let same = s.same in omega (arith, same, lt);
}

-- Events

none_counted : (x y : MarksDevice) → y.store.counts.losses ≡ x.store.counts.losses → all_losses y.history ≡ all_losses x.history → Counted x y
none_counted x y same all =
    still_counted x y (record {
      same = ap (λ (l : Losses). l.cache) same;
      none = as_le (all_losses x.history) (all_losses y.history) all;
    })

module _ (d : MarksDevice) where
  abbrev before : ℕ
  before = all_losses d.history

  pub command_counts : (t : CameTo (command by_plain d)) → Counted d t.state
  command_counts t = none_counted d _ (at (stays_still (command_based by_plain d)) t).3 (at (command_has by_plain before d refl) t)

  pub second_counts : (t : CameTo (second by_plain d)) → Counted d t.state
  second_counts t = none_counted d _ (at (stays_still (second_based by_plain d)) t).3 (at (second_has by_plain before d refl) t)

  pub background_counts : (t : CameTo (background by_plain d)) → Counted d t.state
  background_counts t = none_counted d _ (at (stays_still (background_based by_plain d)) t).3 (at (background_has by_plain before d refl) t)

  pub peek_counts : (n : ℕ) (t : CameTo (peek by_plain d n)) → Counted d t.state
  peek_counts n t = none_counted d _ (at (stays_still (peek_based by_plain d n)) t).3 (at (peek_has by_plain before d n refl) t)

  pub reset_counts : (path : ℕ) (t : CameTo (reset by_plain d path)) → Counted d t.state
  reset_counts path t = none_counted d _ (at (stays_still (reset_body by_plain d path)) t).3 (at (reset_has by_plain before d path refl) t)

  lost_by : (loss : Loss) (t : CameTo (lose by_plain d loss)) → all_losses t.state.history ≤ before + most_lost by_plain before loss
  lost_by loss t = at (lose_has by_plain before d loss refl) t

  pub loss_counts : (loss : Loss) (t : CameTo (lose by_plain d loss)) → Counted d t.state
  loss_counts losses.Cache t =
      let same = ap (λ (l : Losses). l.cache) (at (stays_still (lose_based by_plain d losses.Cache)) t).3 in
      let lost = lost_by losses.Cache t in
      let one = one_few (losses_of_cache d) in
      record {
        few = omega (arith, same, one);
        all = λ lt all. let rises = counted_rises (losses_of_cache d) lt in omega (arith, same, lost, rises, all);
        less = λ lt. less_top (losses_of_cache d) (subst (λ (n : ℕ). n < top) same lt);
      }
  loss_counts losses.Store t =
      let same = ap (λ (l : Losses). l.cache) (at (stays_still (lose_based by_plain d losses.Store)) t).3 in
      let lost = lost_by losses.Store t in
      still_counted d _ (record { same = same; none = omega (arith, lost) })
  loss_counts (losses.Side side) t =
      let same = ap (λ (l : Losses). l.cache) (at (stays_still (lose_based by_plain d (losses.Side side))) t).3 in
      let lost = lost_by (losses.Side side) t in
      still_counted d _ (record { same = same; none = omega (arith, lost) })

  pub power_counts : (t : CameTo (power by_plain d)) → Counted d t.state
  power_counts t =
      let same = ap (λ (l : Losses). l.cache) (at (stays_still (power_based by_plain d)) t).3 in
      let all_are = at (power_has by_plain before d refl) t in
      let one = one_few (losses_of_cache d) in
      record {
        few = omega (arith, same, one);
        all = λ lt all. let rises = counted_rises (losses_of_cache d) lt in omega (arith, same, all_are, rises, all);
        less = λ lt. less_top (losses_of_cache d) (subst (λ (n : ℕ). n < top) same lt);
      }

  -- Orders

  pub start_still : (path : ℕ) → Still d (start d path)
  unfolding S.start
  start_still path = record { same = refl; none = omega arith }

  replace_still : (side : Side) → Still d (replace d side)
  replace_still sides.A = record { same = refl; none = own_le before }
  replace_still sides.B = record { same = refl; none = own_le before }

  restore_still : Still d (restore d)
  restore_still = record {
    same = refl;
    none = as_le before (all_losses (restore d).history) (ap (λ (k : ℕ). k + running_losses d.history.running) (one_more_item d.history.items));
  }

  pub lend_still : (to : ℕ) (t : CameTo (lend by_plain d to)) → Still d t.state
  lend_still to t =
      let y = t.state in
      record {
        same = ap (λ (l : Losses). l.cache) (at (stays_still (lend_based d to)) t).3 ∙ ap (λ (c : Counts). c.losses.cache) (lent_counts d to);
        none = as_le before (all_losses y.history) (ap all_losses (at (lend_past d to) t));
      }

own_still : (d : MarksDevice) → Still d d
own_still d = record { same = refl; none = own_le (all_losses d.history) }

-- its counts and its history stay
pub kept_still : (d y : MarksDevice) → y.store.counts ≡ d.store.counts → y.history ≡ d.history → Still d y
kept_still d y counts history = record {
  same = ap (λ (c : Counts). c.losses.cache) counts;
  none = as_le (all_losses d.history) (all_losses y.history) (ap all_losses history);
}

-- All events

counted_deeds : (s : Subsystem) → IsDeedwise s (KeepsDeed Still Counted s)
counted_deeds s = record {
  ended = λ end. tt;
  started = λ d x path fault.
      becomes_so Still Counted s d x (start d path) (started_number d path) (start_still d path) (ends.Started (next_ordinal d path));
  seconded = λ d x h is. (seat_of s d x, ends_made Still Counted d (second by_plain d) (λ a. Some (ends.Second a)) (second_counts d));
  commanded = λ d x whole o running. (seat_of s d x, ends_made Still Counted d (command by_plain d) (end_of ends.Stepped) (command_counts d));
  worked = λ d x whole. (seat_of s d x, ends_made Still Counted d (background by_plain d) (end_of ends.Back) (background_counts d));
  cut = λ d x path. (seat_of s d x, ends_made Still Counted d (reset by_plain d path) (λ a. Some (ends_done a)) (reset_counts d path));
  lost_cache = λ d t. loss_counts d losses.Cache t;
  lost_store = λ d t. loss_counts d losses.Store t;
  lost_side = λ d x side fault. (
    seat_of s d x,
    ends_made Still Counted d (lose by_plain d (losses.Side side)) (λ a. Some (ends_done a)) (loss_counts d (losses.Side side)),
  );
  lost_power = λ d t. power_counts d t;
  repaired_cache = tt;
  repaired_store = tt;
  lent = λ x y z w fault. (seat_of s y w, lend_still y x.store.device);
  held = λ d x fault. becomes_so Still Counted s d x (hold_side d) refl (kept_still d (hold_side d) refl refl) ends.Done;
  resumed = λ d x fault. becomes_so Still Counted s d x (resume d) refl (kept_still d (resume d) refl refl) ends.Done;
}

pub counted_pairwise : IsPairwise Still (λ lossy alone. Counted)
counted_pairwise = record {
  own = own_still;
  on = λ x y z f g. record {
    same = g.same ∙ f.same;
    none = on_le (all_losses x.history) (all_losses y.history) (all_losses z.history) f.none g.none;
  };
  made = λ lossy alone. still_counted;
  joins = λ d. kept_still d (join d) refl refl;
  splits = λ d fault. kept_still d (split d) refl refl;
  replaces = λ d side fault. replace_still d side;
  restores = λ d a is. restore_still d;
  deeds = λ s p. deeds_of Still Counted s (counted_deeds s);
}

-- The run: behind so many events

record Fits (k : ℕ) (d : MarksDevice) : Type 0 where
  most : losses_of_cache d ≤ k
  all : LossesAreCounted d

one_behind : (x y k : ℕ) → y ≤ x + 1 → x ≤ k → y ≤ k + 1
one_behind x y k few most = omega (arith, few, most)

fits_on : (k : ℕ) → k < top → (xs ys : List MarksDevice) → EachPair Counted xs ys → AllSo (Fits k) xs → AllSo (Fits (k + 1)) ys
fits_on k lt [] [] p f = tt
fits_on k lt [] (y ∷ ys) p f = absurd p
fits_on k lt (x ∷ xs) [] p f = absurd p
fits_on k lt (x ∷ xs) (y ∷ ys) p f = (
  record {
    most = one_behind (losses_of_cache x) (losses_of_cache y) k p.0.few f.0.most;
    all = p.0.all (below (losses_of_cache x) k f.0.most lt) f.0.all;
  },
  fits_on k lt xs ys p.1 f.1,
)

all_counted : (k : ℕ) (ds : List MarksDevice) → AllSo (Fits k) ds → All HasCountedLosses ds
all_counted k [] f = All-nil HasCountedLosses
all_counted k (d ∷ ds) f = All-cons HasCountedLosses d ds (counted_excuse d f.0.all) (all_counted k ds f.1)

abbrev Shown : Logged → Type 0
Shown x = EachPair Counted (devices_of x.happened.before) (devices_of x.happened.behind)

counted_on : (ts : List Logged) (s : Subsystem) (k : ℕ) → Linked s ts → All Shown ts → k + length ts < top → AllSo (Fits k) (devices_of s) →
    All HaveCountedLosses ts
counted_on [] s k l p lt f = All-nil HaveCountedLosses
counted_on (t ∷ ts) s k l p lt f =
    let r = one_event k (length ts) lt in
    let g = fits_on k (below k (k + 1) (none_few k) r.0) (devices_of t.happened.before) (devices_of t.happened.behind) (All-head Shown t ts p)
    (subst (λ (x : Subsystem). AllSo (Fits k) (devices_of x)) (sym l.0) f) in
    All-cons HaveCountedLosses t ts (all_counted (k + 1) (devices_of t.happened.behind) g)
    (counted_on ts t.happened.behind (k + 1) l.1 (All-tail Shown t ts p) r.1 g)

opened_fits : (firsts : Firsts) (deck : DeckLines) (ds : List DeviceLine) → AllSo (Fits 0) (map (λ (m : Mounted). m.device) (map (opened_device_on firsts deck) ds))
opened_fits firsts deck [] = tt
opened_fits firsts deck (d ∷ ds) = (record { most = omega arith; all = omega arith }, opened_fits firsts deck ds)

pub run_counts_losses : (firsts : Firsts) (deck : DeckLines) → IsServedDeck deck → length (run_on firsts deck).events < 2 ^ 64 - 1 → All HaveCountedLosses (run_on firsts deck).events
unfolding D.run_asked_on
run_counts_losses firsts deck h few =
    counted_on (run_on firsts deck).events (opened_on firsts deck) 0 (lines_linked (map asked_by deck.events) (opened_on firsts deck))
    (run_pairs Still (λ lossy alone. Counted) counted_pairwise firsts deck h) (from_none (length (run_on firsts deck).events) few) (opened_fits firsts deck deck.devices)
