-- In a run no more checks of a device that was never lent are unexplained than calls of it failed.
use Rattle.std.proofs.Common.{
  ◌≡◌,
  ◌≤◌,
  ◌+◌,
  ◌-◌,
  ℕ,
  Bool,
  true,
  false,
  List,
  [],
  ◌∷◌,
  ◌++◌,
  map,
  Option,
  Some,
  is_some,
  get_or,
  refl,
  sym,
  ap,
  subst,
  ◌∙◌,
  arith,
}
use Rattle.std.proofs.lemmas.List.Elements.{All-nil, All-cons, All-head, All-tail}
use Rattle.std.specs.Prelude.{All}
use Rattle.ckd_types.specs.declared.geometry.Geometry.{Geometry}
use Rattle.ckd_types.specs.declared.paths.Side.{Side}
use Rattle.ckd_types.specs.declared.paths.Side.TheVariants as sides
use Rattle.ckd_types.specs.declared.record.Track.{Track}
use Rattle.ckd_types.specs.Volume.{empty_volume}
use Rattle.deck_text.specs.declared.line.DeviceLine.{DeviceLine}
use Rattle.deck_text.specs.DeckLines.{DeckLines}
use Rattle.loss_model.specs.declared.Loss.{Loss}
use Rattle.loss_model.specs.declared.Loss.TheVariants as losses
use Rattle.plain_defs.specs.declared.journal.Item.{Item}
use Rattle.plain_defs.specs.declared.journal.Item.TheVariants as items
use Rattle.plain_defs.specs.Journal.{Plans, replay, replay_item}
use Rattle.plain_defs.specs.PlainState.{PlainState, empty_state}
use Rattle.track_image.specs.Image.{Image}
use Rattle.device_outside.specs.Interaction.{Interaction}
use Rattle.device_outside.specs.Pool.{Call}
use Rattle.device_defs.specs.declared.counts.Counts.{Counts}
use Rattle.device_defs.specs.declared.counts.Losses.{Losses}
use Rattle.device_defs.specs.Command.{command}
use Rattle.device_defs.specs.Contents.{by_plain}
use Rattle.device_defs.specs.Cutting.{reset, power}
use Rattle.device_defs.specs.Events.{second, lose, background}
use Rattle.device_defs.specs.Excused.{unexplained_item, unexplained}
use Rattle.device_defs.specs.Marks.{MarksDevice}
use Rattle.device_defs.specs.Orders.{hold_side, resume, replace, restore, join, split, lend}
use Rattle.device_defs.specs.Peek.{peek}
use Rattle.device_defs.specs.Start as S
use Rattle.device_defs.specs.Start.{start, next_ordinal}
use Rattle.device_laws.specs.NewDevice.{first_state}
use Rattle.device_laws.proofs.Always as A
use Rattle.device_laws.proofs.Always.{Behind, Always}
use Rattle.device_laws.proofs.Based.{Base, Any, Based, kept, based_any, based_done, based_try, based_ask, based_read, based_write, based_tell}
use Rattle.device_laws.proofs.BasedEvents.{
  base_in,
  with_one_loss,
  command_based,
  second_based,
  background_based,
  lose_based,
  peek_based,
  power_based,
  reset_body,
}
use Rattle.device_laws.proofs.KeptEvents.{command_goes, second_goes, background_goes, lose_goes, peek_goes}
use Rattle.device_laws.proofs.LossLaws.{some_counted}
use Rattle.device_laws.proofs.Lucky.{top, never_falls}
use Rattle.subsystem_defs.specs.declared.end.EventEnd.TheVariants as ends
use Rattle.subsystem_defs.specs.Decks as D
use Rattle.subsystem_defs.specs.Decks.{empty_firsts, opened_device, opened, run_of}
use Rattle.subsystem_defs.specs.Deeds.{ends_done, end_of}
use Rattle.subsystem_defs.specs.Lines.{Logged, asked_by}
use Rattle.subsystem_defs.specs.Promised as P
use Rattle.subsystem_defs.specs.Promised.{empty_of, explained_first_by, explained_from, explained_on_by, all_explained_from, explained_in, are_explained, first_of}
use Rattle.subsystem_defs.specs.Subsystem.{Mounted, Subsystem, devices_of}
use Rattle.subsystem_laws.specs.Causes.{EachPair, CountFailures}
use Rattle.subsystem_laws.specs.Excused.{has_fresh, WasNeverLent, HasExcusedChecks, HasExcusedChecksOn, HaveExcusedChecks}
use Rattle.subsystem_laws.specs.Served.{IsServedDeck}
use Rattle.subsystem_laws.specs.Came.{CameTo}
use Rattle.subsystem_laws.proofs.Came.{at}
use Rattle.subsystem_laws.proofs.CalmRuns.{AllSo, all_so}
use Rattle.subsystem_laws.proofs.DeedWalk.{seat_of, IsDeedwise}
use Rattle.subsystem_laws.proofs.Excusing.{
  LosesMore,
  still_lost,
  Worse,
  all_fewer,
  unexplained_on,
  none_unexplained,
  NoProgram,
  entry_paid,
  both_true,
}
use Rattle.subsystem_laws.proofs.Explained.{its_own, new_are}
use Rattle.subsystem_laws.proofs.ExplainedRuns.{run_is_explained}
use Rattle.subsystem_laws.proofs.StoreFacts.{
  Facts,
  failed_more,
  fallen,
  Bears,
  command_leaves,
  second_leaves,
  background_leaves,
  lose_leaves,
  peek_leaves,
  power_leaves,
  reset_leaves,
}
use Rattle.subsystem_laws.proofs.LendBase.{stays_still, lend_lends}
use Rattle.subsystem_laws.proofs.Pairing.{KeepsDeed, deeds_of, IsPairwise, run_pairs, ends_made, becomes_so, started_number}
use Rattle.subsystem_laws.proofs.PaidSides.{fresh_last, never_before, PaidFor, paid_kept, opened_paid, paid_of}
use Rattle.subsystem_laws.proofs.RunLinks.{Linked, lines_linked}
use Rattle.subsystem_laws.proofs.Shapes.{
  FirstAlone,
  Shape,
  command_shape,
  second_shape,
  background_shape,
  lose_shape,
  peek_shape,
  reset_shape,
  power_shape,
}
use Rattle.subsystem_laws.proofs.TracksKept.{Fair, fair_kept, opened_fair}
use Rattle.subsystem_laws.proofs.Walks.{AreSo, run_keeps}

-- Lost tracks stay lost

abbrev LostSince : List Bool → Facts → Type 0
LostSince l x = LosesMore l x.lost

lost_bears : (l : List Bool) → Bears (LostSince l)
lost_bears l = record {
  loses = λ x t h q e. still_lost x.lost t q (h q e);
  fails = λ x h. h;
  falls = λ x side pair h. by_side x side h;
  queues = λ x room h. h;
  dequeues = λ x n less h. h;
}
  where
    by_side : (x : Facts) (side : Side) → LostSince l x → LostSince l (fallen side (failed_more x))
    by_side x sides.A h = h
    by_side x sides.B h = h

may_fall : (l : List Bool) (side : Side) (x : Facts) → LostSince l x → LostSince l (fallen side x)
may_fall l sides.A x h = h
may_fall l sides.B x h = h

-- What is so behind an event of a device that was never lent

pub record Since (x y : MarksDevice) : Type 0 where
  plans : y.plans ≡ x.plans
  empty : empty_of y ≡ empty_of x
  lent : y.store.lent ≡ x.store.lent
  pub worse : Worse x.store.lost x.store.counts y.store.lost y.store.counts
  shape : Shape x.history y.history

abbrev pub Made : MarksDevice → MarksDevice → Type 0
Made x y = Fair x → WasNeverLent y → Since x y

-- orders change nothing of it
pub record Same (x y : MarksDevice) : Type 0 where
  plans : y.plans ≡ x.plans
  empty : empty_of y ≡ empty_of x
  lent : y.store.lent ≡ x.store.lent
  lost : y.store.lost ≡ x.store.lost
  counts : y.store.counts ≡ x.store.counts
  items : y.history.items ≡ x.history.items

abbrev pub Still : MarksDevice → MarksDevice → Type 0
Still x y = WasNeverLent y → Same x y

never_same : (x y : MarksDevice) → Same x y → WasNeverLent y → WasNeverLent x
never_same x y s n = record {
  home = sym (ap (λ (o : Option ℕ). is_some o) s.lent) ∙ n.home;
  none = sym (ap has_fresh s.items) ∙ n.none;
}

still_on : (x y z : MarksDevice) → Still x y → Still y z → Still x z
still_on x y z f g n =
    let t = g n in
    let s = f (never_same y z t n) in
    record {
      plans = t.plans ∙ s.plans;
      empty = t.empty ∙ s.empty;
      lent = t.lent ∙ s.lent;
      lost = t.lost ∙ s.lost;
      counts = t.counts ∙ s.counts;
      items = t.items ∙ s.items;
    }

same_le : (n m : ℕ) → m ≡ n → n ≤ m
same_le n m e = omega (arith, e)

pub same_since : (x y : MarksDevice) → Same x y → Since x y
same_since x y s = record {
  plans = s.plans;
  empty = s.empty;
  lent = s.lent;
  worse = record {
    lost = λ t e. ap (λ (l : List Bool). get_or l t false) s.lost ∙ e;
    failed = same_le x.store.counts.failed y.store.counts.failed (ap (λ (c : Counts). c.failed) s.counts);
    sides = λ e. sym (ap (λ (c : Counts). c.losses.sides) s.counts) ∙ e;
  };
  shape = record { more = []; grown = s.items ∙ behind_none x.history.items; alone = tt; stays = refl };
}
  where
    behind_none : (xs : List Item) → xs ≡ xs ++ []
    behind_none [] = refl
    behind_none (x ∷ xs) = ap (λ (l : List Item). x ∷ l) (behind_none xs)

own_same : (d : MarksDevice) → Same d d
own_same d = record { plans = refl; empty = refl; lent = refl; lost = refl; counts = refl; items = refl }

pub same_but : (d y : MarksDevice) → y.plans ≡ d.plans → empty_of y ≡ empty_of d → y.store.lent ≡ d.store.lent → y.store.lost ≡ d.store.lost →
    y.store.counts ≡ d.store.counts → y.history.items ≡ d.history.items → Same d y
same_but d y plans empty lent lost counts items = record { plans = plans; empty = empty; lent = lent; lost = lost; counts = counts; items = items }

pub start_same : (d : MarksDevice) (path : ℕ) → Same d (start d path)
unfolding S.start
start_same d path = record { plans = refl; empty = refl; lent = refl; lost = refl; counts = refl; items = refl }

replace_same : (d : MarksDevice) (side : Side) → Same d (replace d side)
replace_same d sides.A = record { plans = refl; empty = refl; lent = refl; lost = refl; counts = refl; items = refl }
replace_same d sides.B = record { plans = refl; empty = refl; lent = refl; lost = refl; counts = refl; items = refl }

not_both : {X : Type 0} (b : Bool) → b ≡ true → b ≡ false → X
not_both true e f = absurd (cc)
not_both false e f = absurd (cc)

pub lend_still : (d : MarksDevice) (to : ℕ) (t : CameTo (lend by_plain d to)) → Still d t.state
lend_still d to t n =
    not_both (is_some t.state.store.lent) (ap (λ (o : Option ℕ). is_some o) (lend_lends d to t).lent) n.home

restore_still : (d : MarksDevice) → Still d (restore d)
restore_still d n = not_both (has_fresh (restore d).history.items) (fresh_last d.history.items) n.none

-- Events

geometry_behind : {R S X : Type 0} {base : S → Base} {may : Call → Type 0} {b : Base} {i : Interaction R Image S X} → Based base may b i →
    Behind i (λ s a. (base s).geometry ≡ b.geometry)
unfolding A.Behind
geometry_behind (based_done e) = ap (λ (x : Base). x.geometry) e
geometry_behind (based_try x) = λ ok. geometry_behind (x ok)
geometry_behind (based_ask m x) = λ a. geometry_behind (x a)
geometry_behind (based_read x) = λ got. geometry_behind (x got)
geometry_behind (based_write x) = λ ok. geometry_behind (x ok)
geometry_behind (based_tell x) = λ r. geometry_behind (x r)

stays_geometry : {R S X : Type 0} {base : S → Base} {may : Call → Type 0} {b : Base} {i : Interaction R Image S X} → Based base may b i →
    Always i (λ s a. (base s).geometry ≡ b.geometry)
stays_geometry x = record { holds = geometry_behind x }

-- what an event counts before it calls anything
record Begins (d : MarksDevice) (b : Base) : Type 0 where
  geometry : b.geometry ≡ d.store.geometry
  cylinders : b.cylinders ≡ d.store.cylinders
  lent : b.lent ≡ d.store.lent
  failed : b.counts.failed ≡ d.store.counts.failed
  sides : b.counts.losses.sides ≡ 0 → d.store.counts.losses.sides ≡ 0

own_begins : (d : MarksDevice) → Begins d (kept d.store)
own_begins d = record { geometry = refl; cylinders = refl; lent = refl; failed = refl; sides = λ e. e }

loss_begins : (d : MarksDevice) (loss : Loss) → Begins d (with_one_loss loss (kept d.store))
loss_begins d losses.Cache = record { geometry = refl; cylinders = refl; lent = refl; failed = refl; sides = λ e. e }
loss_begins d losses.Store = record { geometry = refl; cylinders = refl; lent = refl; failed = refl; sides = λ e. e }
loss_begins d (losses.Side side) = record {
  geometry = refl;
  cylinders = refl;
  lent = refl;
  failed = refl;
  sides = λ e. absurd (some_counted d.store.counts.losses.sides e);
}

from_top : (n m : ℕ) → m ≡ n → n ≤ top → m ≤ top
from_top n m e le = omega (arith, e, le)

less_of : (n m k : ℕ) → m ≡ n → m ≤ k → n ≤ k
less_of n m k e le = omega (arith, e, le)

event_since : {X : Type 0} (d : MarksDevice) (f : Fair d) (i : Interaction Bool Image MarksDevice X) (b : Base) → Begins d b → Based base_in Any b i →
    (t : CameTo i) → t.state.plans ≡ d.plans → LosesMore d.store.lost t.state.store.lost →
    Shape d.history t.state.history → Since d t.state
event_since d f i b begins x t plans lost shape =
    let y = t.state in
    let k = at (stays_still x) t in
    record {
      plans = plans;
      empty = ap (λ (g : Geometry). empty_state g y.store.cylinders) (at (stays_geometry x) t ∙ begins.geometry)
          ∙ ap (λ (n : ℕ). empty_state d.store.geometry n) (k.1 ∙ begins.cylinders);
      lent = k.2 ∙ begins.lent;
      worse = record {
        lost = lost;
        failed = less_of d.store.counts.failed b.counts.failed y.store.counts.failed begins.failed
            (at (never_falls x (from_top d.store.counts.failed b.counts.failed begins.failed f.most)) t);
        sides = λ e. begins.sides (sym (ap (λ (l : Losses). l.sides) k.3) ∙ e);
      };
      shape = shape;
    }

module _ (d : MarksDevice) where
  abbrev since : List Bool
  since = d.store.lost

  itself : LosesMore since since
  itself t e = e

  pub command_made : (t : CameTo (command by_plain d)) → Made d t.state
  command_made t f never =
      event_since d f (command by_plain d) (kept d.store) (own_begins d) (command_based by_plain d) t
      (at (command_goes by_plain d.plans d.history d (its_own d)) t).plans
      (at (command_leaves by_plain (LostSince since) (lost_bears since) d itself) t) (command_shape d t)

  pub second_made : (t : CameTo (second by_plain d)) → Made d t.state
  second_made t f never =
      event_since d f (second by_plain d) (kept d.store) (own_begins d) (second_based by_plain d) t
      (at (second_goes by_plain d.plans d.history d (its_own d)) t).plans
      (at (second_leaves by_plain (LostSince since) (lost_bears since) d itself) t) (second_shape d t)

  pub background_made : (t : CameTo (background by_plain d)) → Made d t.state
  background_made t f never =
      event_since d f (background by_plain d) (kept d.store) (own_begins d) (background_based by_plain d) t
      (at (background_goes by_plain d.plans d.history d (its_own d)) t).plans
      (at (background_leaves by_plain (LostSince since) (lost_bears since) d itself) t) (background_shape d t)

  pub peek_made : (n : ℕ) (t : CameTo (peek by_plain d n)) → Made d t.state
  peek_made n t f never =
      event_since d f (peek by_plain d n) (kept d.store) (own_begins d) (peek_based by_plain d n) t
      (at (peek_goes by_plain d.plans d.history d n (its_own d)) t).plans
      (at (peek_leaves by_plain (LostSince since) (lost_bears since) d n itself) t) (peek_shape d n t)

  lose_lost : (loss : Loss) (t : CameTo (lose by_plain d loss)) → LosesMore since t.state.store.lost
  lose_lost losses.Cache t = at (lose_leaves by_plain (LostSince since) (lost_bears since) d losses.Cache itself (λ x h. h)) t
  lose_lost losses.Store t = at (lose_leaves by_plain (LostSince since) (lost_bears since) d losses.Store itself (λ x h. h)) t
  lose_lost (losses.Side side) t =
      at (lose_leaves by_plain (LostSince since) (lost_bears since) d (losses.Side side) itself (may_fall since side)) t

  pub lose_made : (loss : Loss) (t : CameTo (lose by_plain d loss)) → Made d t.state
  lose_made loss t f never =
      event_since d f (lose by_plain d loss) (with_one_loss loss (kept d.store)) (loss_begins d loss) (lose_based by_plain d loss) t
      (at (lose_goes by_plain d.plans d.history d loss (its_own d)) t).plans (lose_lost loss t) (lose_shape d loss t)

  pub reset_made : (path : ℕ) (t : CameTo (reset by_plain d path)) → Made d t.state
  reset_made path t f never =
      event_since d f (reset by_plain d path) (kept d.store) (own_begins d) (based_any (reset_body by_plain d path)) t (reset_shape d path t).1
      (at (reset_leaves by_plain (LostSince since) (lost_bears since) d path itself) t) (reset_shape d path t).0

  pub power_made : (t : CameTo (power by_plain d)) → Made d t.state
  power_made t f never =
      event_since d f (power by_plain d) (with_one_loss losses.Cache (kept d.store)) (loss_begins d losses.Cache) (power_based by_plain d) t
      (power_shape d t).1 (at (power_leaves by_plain (LostSince since) (lost_bears since) d itself) t) (power_shape d t).0

-- All events

made_deeds : (s : Subsystem) → IsDeedwise s (KeepsDeed Still Made s)
made_deeds s = record {
  ended = λ end. tt;
  started = λ d x path fault.
      becomes_so Still Made s d x (start d path) (started_number d path) (λ n. start_same d path) (ends.Started (next_ordinal d path));
  seconded = λ d x h is. (seat_of s d x, ends_made Still Made d (second by_plain d) (λ a. Some (ends.Second a)) (second_made d));
  commanded = λ d x whole o running. (seat_of s d x, ends_made Still Made d (command by_plain d) (end_of ends.Stepped) (command_made d));
  worked = λ d x whole. (seat_of s d x, ends_made Still Made d (background by_plain d) (end_of ends.Back) (background_made d));
  cut = λ d x path. (seat_of s d x, ends_made Still Made d (reset by_plain d path) (λ a. Some (ends_done a)) (reset_made d path));
  lost_cache = λ d t. lose_made d losses.Cache t;
  lost_store = λ d t. lose_made d losses.Store t;
  lost_side = λ d x side fault. (
    seat_of s d x,
    ends_made Still Made d (lose by_plain d (losses.Side side)) (λ a. Some (ends_done a)) (lose_made d (losses.Side side)),
  );
  lost_power = λ d t. power_made d t;
  repaired_cache = tt;
  repaired_store = tt;
  lent = λ x y z w fault. (seat_of s y w, lend_still y x.store.device);
  held = λ d x fault. becomes_so Still Made s d x (hold_side d) refl (λ n. same_but d (hold_side d) refl refl refl refl refl refl) ends.Done;
  resumed = λ d x fault. becomes_so Still Made s d x (resume d) refl (λ n. same_but d (resume d) refl refl refl refl refl refl) ends.Done;
}

pub made_pairwise : IsPairwise Still (λ lossy alone. Made)
made_pairwise = record {
  own = λ d n. own_same d;
  on = still_on;
  made = λ lossy alone x y s. λ f n. same_since x y (s n);
  joins = λ d n. same_but d (join d) refl refl refl refl refl refl;
  splits = λ d fault. λ n. same_but d (split d) refl refl refl refl refl refl;
  replaces = λ d side fault. λ n. replace_same d side;
  restores = λ d a is. restore_still d;
  deeds = λ s p. deeds_of Still Made s (made_deeds s);
}

-- One event

with_none : (a b n : ℕ) → a ≤ n → b ≡ 0 → a + b ≤ n
with_none a b n le none = omega (arith, le, none)

none_at_all : (a b n : ℕ) → a ≡ 0 → b ≡ 0 → a + b ≤ n
none_at_all a b n none other = omega (arith, none, other)

none_paid : (first : ℕ → List Track) (x y : MarksDevice) (i : Item) (xs : List Item) → NoProgram xs →
    unexplained_item x.plans (replay x.plans (first_of first x) x.history.items) y.store.lost y.store.counts i ≡ 0 →
    unexplained x.plans (replay x.plans (first_of first x) x.history.items) y.store.lost y.store.counts (i ∷ xs) ≤ y.store.counts.failed - x.store.counts.failed
none_paid first x y i xs alone none =
    let state = replay x.plans (first_of first x) x.history.items in
    none_at_all (unexplained_item x.plans state y.store.lost y.store.counts i) _ (y.store.counts.failed - x.store.counts.failed) none
    (none_unexplained x.plans y.store.lost y.store.counts (replay_item x.plans state i) xs alone)

first_paid : (first : ℕ → List Track) (x y : MarksDevice) (e : Since x y) → WasNeverLent x → PaidFor x → (xs : List Item) → FirstAlone xs → explained_first_by first x y xs ≡ true →
    unexplained x.plans (replay x.plans (first_of first x) x.history.items) y.store.lost y.store.counts xs ≤ y.store.counts.failed - x.store.counts.failed
first_paid first x y e never paid [] alone is = omega arith
first_paid first x y e never paid (items.Program entry ∷ xs) alone is =
    let state = replay x.plans (first_of first x) x.history.items in
    with_none _ _ (y.store.counts.failed - x.store.counts.failed)
    (entry_paid x y e.worse (paid_of x paid never) x.plans state entry is)
    (none_unexplained x.plans y.store.lost y.store.counts _ xs alone)
first_paid first x y e never paid (items.Act act ∷ xs) alone is = none_paid first x y (items.Act act) xs alone refl
first_paid first x y e never paid (items.Reset path ∷ xs) alone is = none_paid first x y (items.Reset path) xs alone refl
first_paid first x y e never paid (items.Fresh ∷ xs) alone is = none_paid first x y items.Fresh xs alone refl
first_paid first x y e never paid (items.Power ∷ xs) alone is = none_paid first x y items.Power xs alone refl

in_all : (a b c e n : ℕ) → a ≡ b + c → b ≤ e → c ≤ n - e → e ≤ n → a ≤ n
in_all a b c e n is le more room = omega (arith, is, le, more, room)

on_less : (a b c : ℕ) → a ≤ b → b ≤ c → a ≤ c
on_less a b c le more = omega (arith, le, more)

pub excused_on : (first : ℕ → List Track) (x y : MarksDevice) → Made x y → Fair x → explained_on_by first x y ≡ true → PaidFor x →
    HasExcusedChecksOn first x → HasExcusedChecksOn first y
excused_on first x y made fair is paid excused never =
    let e = made fair never in
    let before = never_before x y e.lent e.shape never in
    let n = y.store.counts in
    let l = y.store.lost in
    let new = unexplained_on x.plans l n (first_of first x) x.history.items e.shape.more in
    let paid_first = first_paid first x y e before paid e.shape.more e.shape.alone
    (subst (λ (xs : List Item). explained_first_by first x y xs ≡ true) (new_are x y (record { more = e.shape.more; grown = e.shape.grown })) is) in
    subst (λ (plans : Plans). unexplained plans (first_of first y) l n y.history.items ≤ n.failed) (sym e.plans)
    (subst (λ (state : PlainState). unexplained x.plans state l n y.history.items ≤ n.failed) (sym (ap (λ (z : PlainState). first_state z.geometry z.cylinders (first z.cylinders)) e.empty))
    (subst (λ (xs : List Item). unexplained x.plans (first_of first x) l n xs ≤ n.failed) (sym e.shape.grown)
    (in_all _ _ _ x.store.counts.failed n.failed new
    (on_less _ _ x.store.counts.failed (all_fewer x.store.lost x.store.counts l n e.worse x.plans (first_of first x) x.history.items) (excused before)) paid_first
    e.worse.failed)))

-- The run

record Stands (d : MarksDevice) : Type 0 where
  fair : Fair d
  paid : PaidFor d
  excused : HasExcusedChecks d

all_excused : (xs ys : List MarksDevice) → EachPair Made xs ys → all_explained_from empty_firsts xs ys ≡ true → AllSo Stands xs → AllSo Fair ys → AllSo PaidFor ys →
    AllSo Stands ys
all_excused [] [] h is s f p = tt
all_excused [] (y ∷ ys) h is s f p = absurd h
all_excused (x ∷ xs) [] h is s f p = absurd h
all_excused (x ∷ xs) (y ∷ ys) h is s f p =
    let b = both_true (explained_from empty_firsts x y) (all_explained_from empty_firsts xs ys) is in (
      record { fair = f.0; paid = p.0; excused = excused_on empty_volume x y h.0 s.0.fair b.0 s.0.paid s.0.excused },
      all_excused xs ys h.1 b.1 s.1 f.1 p.1,
    )

excused_of : (ds : List MarksDevice) → AllSo Stands ds → All HasExcusedChecks ds
excused_of [] s = All-nil HasExcusedChecks
excused_of (d ∷ ds) s = All-cons HasExcusedChecks d ds s.0.excused (excused_of ds s.1)

abbrev PairsMade : Logged → Type 0
PairsMade x = EachPair Made (devices_of x.happened.before) (devices_of x.happened.behind)

abbrev AreBehind : (MarksDevice → Type 0) → Logged → Type 0
AreBehind P x = All P (devices_of x.happened.behind)

behind : (P : MarksDevice → Type 0) (t : Logged) (ts : List Logged) → All (AreBehind P) (t ∷ ts) → AllSo P (devices_of t.happened.behind)
behind P t ts h = all_so P (devices_of t.happened.behind) (All-head (AreBehind P) t ts h)

excused_from : (ts : List Logged) (s : Subsystem) → Linked s ts → All PairsMade ts → All (AreBehind Fair) ts → All (AreBehind PaidFor) ts →
    are_explained ts ≡ true → AllSo Stands (devices_of s) → All HaveExcusedChecks ts
unfolding P.are_explained_from
excused_from [] s l h f p is z = All-nil HaveExcusedChecks
excused_from (t ∷ ts) s l h f p is z =
    let b = both_true (explained_in empty_firsts t) (are_explained ts) is in
    let here = subst (λ (x : Subsystem). AllSo Stands (devices_of x)) (sym l.0) z in
    let next = all_excused (devices_of t.happened.before) (devices_of t.happened.behind) (All-head PairsMade t ts h) b.0 here (behind Fair t ts f)
    (behind PaidFor t ts p) in
    All-cons HaveExcusedChecks t ts (excused_of (devices_of t.happened.behind) next)
    (excused_from ts t.happened.behind l.1 (All-tail PairsMade t ts h) (All-tail (AreBehind Fair) t ts f) (All-tail (AreBehind PaidFor) t ts p) b.1 next)

-- new devices

opened_stand : (deck : DeckLines) (ds : List DeviceLine) → AreSo Fair (map (opened_device deck) ds) → AreSo PaidFor (map (opened_device deck) ds) →
    AllSo Stands (map (λ (m : Mounted). m.device) (map (opened_device deck) ds))
opened_stand deck [] f p = tt
opened_stand deck (d ∷ ds) f p = (record { fair = f.0; paid = p.0; excused = λ never. omega arith }, opened_stand deck ds f.1 p.1)

pub checks_are_excused : (deck : DeckLines) → IsServedDeck deck → All CountFailures (run_of deck).events → All HaveExcusedChecks (run_of deck).events
unfolding D.run_asked_on
checks_are_excused deck h n =
    let lines = map asked_by deck.events in
    let fair = opened_fair empty_firsts deck deck.devices h.devices in
    let paid = opened_paid empty_firsts deck deck.devices in
    excused_from (run_of deck).events (opened deck) (lines_linked lines (opened deck)) (run_pairs Still (λ lossy alone. Made) made_pairwise empty_firsts deck h)
    (run_keeps Fair fair_kept lines (opened deck) fair) (run_keeps PaidFor paid_kept lines (opened deck) paid) (run_is_explained deck h n)
    (opened_stand deck deck.devices fair paid)
