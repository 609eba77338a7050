-- However a device came about, whatever was answered, it is excused for all that it lost and checked: what is kept of it behind each event, look, order and
-- program that is planned.
use Rattle.std.proofs.Common.{◌≡◌, ◌≤◌, ◌<◌, ◌*◌, ◌-◌, ◌^◌, ℕ, List, [], length, false, is_some, refl, sym, subst, arith}
use Rattle.ckd_types.specs.declared.channel.Ccw.{Ccw}
use Rattle.ckd_types.specs.declared.geometry.Geometry.{Geometry}
use Rattle.ckd_types.specs.declared.record.Track.{Track}
use Rattle.loss_model.specs.declared.Loss.{Loss}
use Rattle.loss_model.specs.declared.Loss.TheVariants as losses
use Rattle.deck_plan.specs.Plans.{with_program}
use Rattle.plain_defs.specs.History.{IsPlain}
use Rattle.plain_defs.specs.Journal.{Plans}
use Rattle.plain_defs.specs.PlainState.{PlainState}
use Rattle.device_defs.specs.Contents.{by_plain}
use Rattle.device_defs.specs.Events.{lose}
use Rattle.device_defs.specs.Excused.{IsExcused}
use Rattle.device_defs.specs.Marks.{MarksDevice}
use Rattle.device_defs.specs.Orders.{hold_side, join, replace, restore, resume, split}
use Rattle.device_defs.specs.Peek.{peek}
use Rattle.device_defs.specs.Start.{start}
use Rattle.device_defs.specs.Store.{tracks_of}
use Rattle.device_laws.specs.NewDevice.{device_on}
use Rattle.device_laws.specs.Unharmed.{LossesAreCounted}
use Rattle.device_laws.proofs.invariants.LedSides.{peek_steers}
use Rattle.device_laws.proofs.LossLaws.{counted_excuse}
use Rattle.device_laws.proofs.Lucky.{top}
use Rattle.device_laws.proofs.MorePlans.{longer_follows, unexplained_same}
use Rattle.subsystem_defs.specs.declared.event.Event.{Event}
use Rattle.subsystem_defs.specs.Decks.{empty_firsts}
use Rattle.subsystem_defs.specs.Promised.{first_of}
use Rattle.subsystem_laws.specs.CameAbout as about
use Rattle.subsystem_laws.specs.CameAbout.{CameAboutOn, HasLost}
use Rattle.subsystem_laws.specs.Excused.{HasExcusedChecksOn, WasNeverLent}
use Rattle.subsystem_laws.specs.Planning.{with_planned}
use Rattle.subsystem_laws.specs.Served.{IsServedEvent}
use Rattle.subsystem_laws.proofs.Came.{at}
use Rattle.subsystem_laws.proofs.ExcusedRuns as X
use Rattle.subsystem_laws.proofs.ExcusedRuns.{Made, excused_on, made_pairwise, same_since}
use Rattle.subsystem_laws.proofs.Explained as E
use Rattle.subsystem_laws.proofs.Explained.{
  AddsNone,
  ExplainsOn,
  background_explained,
  command_grows,
  commands_explained,
  explained_pairwise,
  explained_same,
  lose_explained,
  peek_explained,
  power_explained,
  reset_explained,
  second_explained,
  second_grows,
}
use Rattle.subsystem_laws.proofs.FramesRuns.{Framed, excuses_tracks, framed_kept, new_framed, peek_framed}
use Rattle.subsystem_laws.proofs.GoodMarks.{peek_good}
use Rattle.subsystem_laws.proofs.LooseRuns as L
use Rattle.subsystem_laws.proofs.LooseRuns.{Counted, counted_pairwise, still_counted}
use Rattle.subsystem_laws.proofs.NothingMissed.{both_kept}
use Rattle.subsystem_laws.proofs.PaidSides.{PaidFor, new_paid, paid_kept, peek_paid}
use Rattle.subsystem_laws.proofs.PlainRuns.{PlainlyOn, first_plainly, follows_on, plain_kept_on}
use Rattle.subsystem_laws.proofs.PlannedPrograms.{with_program_longer}
use Rattle.subsystem_laws.proofs.RunLines.{AnyEvent}
use Rattle.subsystem_laws.proofs.SteeredRuns.{Steered, new_steered, steered_kept}
use Rattle.subsystem_laws.proofs.TracksKept.{new_fair, peek_fair}
use Rattle.subsystem_laws.proofs.turning.Wanting.{peek_stays}
use Rattle.subsystem_laws.proofs.Walks.{IsKept, LeavesSo}

-- what is kept of a device by itself
abbrev Kept : (ℕ → List Track) → MarksDevice → Type 0
Kept first d = (Framed d × (Steered d × PaidFor d)) × PlainlyOn first d

-- Its losses of data are counted, and its checks excused, while the counts aren't full
record IsExcusable (first : ℕ → List Track) (d : MarksDevice) : Type 0 where
  kept : Kept first d
  loose : d.store.counts.losses.cache < top → LossesAreCounted d
  checks : d.store.counts.failed < top → HasExcusedChecksOn first d

less_than : (n m : ℕ) → n ≤ m → m < top → n < top
less_than n m le lt = omega (arith, le, lt)

-- behind an event
next : {first : ℕ → List Track} (x y : MarksDevice) → IsExcusable first x → Kept first y → Counted x y → Made x y → ExplainsOn first x y → IsExcusable first y
next {first = first} x y e kept counted made explains = record {
  kept = kept;
  loose = λ lt. let less = counted.less lt in counted.all less (e.loose less);
  checks = λ lt never.
      let less = less_than x.store.counts.failed y.store.counts.failed (made e.kept.0.0.fair never).worse.failed lt in
      excused_on first x y made e.kept.0.0.fair (explains e.kept.1 e.kept.0.1.0 less) e.kept.0.1.1 (e.checks less) never;
}

-- and behind an order
ordered : {first : ℕ → List Track} (x y : MarksDevice) → IsExcusable first x → Kept first y → L.Still x y → X.Still x y → AddsNone x y →
    IsExcusable first y
ordered {first = first} x y e kept still same adds =
    next x y e kept (still_counted x y still) (λ f never. same_since x y (same never)) (λ p s lt. explained_same first x y adds.0 adds.1)

-- where not all events may come
may_kept : (May : Event → Type 0) (P : MarksDevice → Type 0) → IsKept P AnyEvent → IsKept P May
may_kept May P k = record {
  started = λ d path n may. k.started d path n tt;
  commanded = k.commanded;
  seconded = k.seconded;
  worked = k.worked;
  cut = k.cut;
  lost_cache = k.lost_cache;
  lost_store = k.lost_store;
  lost_side = k.lost_side;
  lost_power = k.lost_power;
  held = k.held;
  resumed = k.resumed;
  replaced = k.replaced;
  lent = k.lent;
  joins = k.joins;
  splits = k.splits;
  restored = k.restored;
}

abbrev Sides : MarksDevice → Type 0
Sides d = Framed d × (Steered d × PaidFor d)

all_kept : {first : ℕ → List Track} → IsKept (Kept first) IsServedEvent
all_kept {first = first} =
    both_kept Sides (PlainlyOn first)
    (may_kept IsServedEvent Sides (both_kept Framed (λ d. Steered d × PaidFor d) framed_kept (both_kept Steered PaidFor steered_kept paid_kept))) (plain_kept_on first)

-- New devices

new_excusable : (first : ℕ → List Track) (number : ℕ) (on : Geometry) (n : ℕ) (plans : Plans) → 1 ≤ n → length (first n) ≡ n * 15 →
    IsExcusable first (device_on number on n (first n) plans)
new_excusable first number on n plans some many = record {
  kept = (
    (
      new_framed number on n (first n) plans (new_fair number on n (first n) plans some),
      (new_steered number on n (first n) plans, new_paid number on n (first n) plans),
    ),
    first_plainly first number on n plans many some,
  );
  loose = λ lt. omega arith;
  checks = λ lt never. omega arith;
}

-- A program that is planned

module _ (first : ℕ → List Track) (d : MarksDevice) (path : ℕ) (program : List Ccw) where
  planned_kept : Kept first d → Kept first (with_planned d path program)
  planned_kept k =
      let f = k.0.0 in
      let g = f.fair.good in (
        (
          record {
            fair = record {
              good = record { some = g.some; chain = g.chain; well = g.well; gone = λ away. let x = g.gone away in record { store = x.store; idle = x.idle } };
              most = f.fair.most;
              un = f.fair.un;
            };
            un = f.un;
          },
          (k.0.1.0, λ never none. k.0.1.1 (record { home = never.home; none = never.none }) none),
        ),
        record {
          number = k.1.number;
          empty = k.1.empty;
          base = k.1.base;
          follows = longer_follows k.1.number k.1.empty d (with_program d.plans path program) (with_program_longer d.plans path program) k.1.follows;
        },
      )

  planned_excusable : IsExcusable first d → IsExcusable first (with_planned d path program)
  planned_excusable x =
      let follows = x.kept.1.follows in
      let plain = subst (λ (e : PlainState). IsPlain d.plans e d.history) x.kept.1.base follows.stands.plain in
      record {
        kept = planned_kept x.kept;
        loose = x.loose;
        checks = λ lt never.
            subst (λ (n : ℕ). n ≤ d.store.counts.failed)
            (sym (unexplained_same d.plans (with_program d.plans path program) (with_program_longer d.plans path program) d.store.lost d.store.counts
            (first_of first d) [] d.history.items plain.legal))
            (x.checks lt (record { home = never.home; none = never.none }));
      }

-- However it came about

lost_kept : {first : ℕ → List Track} (d : MarksDevice) (loss : Loss) → HasLost d loss → Kept first d → LeavesSo (Kept first) (lose by_plain d loss)
lost_kept d losses.Cache has k = all_kept.lost_cache d k
lost_kept d losses.Store has k = all_kept.lost_store d k
lost_kept d (losses.Side side) has k = all_kept.lost_side d side has k

looked_kept : (first : ℕ → List Track) (d : MarksDevice) (track : ℕ) → is_some d.store.lent ≡ false → track < tracks_of d.store → Kept first d → LeavesSo (Kept first) (peek by_plain d track)
looked_kept first d track home lt k t =
    let framed = k.0.0 in
    let fair = peek_fair d framed.fair track (peek_good d framed.fair.good home track lt) in (
      (peek_framed d framed track fair t, (at (peek_steers by_plain d track k.0.1.0) t, peek_paid d track t k.0.1.1)),
      follows_on d t.state k.1 (at (peek_stays k.1.number k.1.empty d k.1.follows track) t).follows,
    )

about_excusable : {first : ℕ → List Track} {d : MarksDevice} → CameAboutOn first d → IsExcusable first d
about_excusable {first = first} (about.opened number on n plans some many) = new_excusable first number on n plans some many
about_excusable (about.started {d = d} b path least most fault) =
    let x = about_excusable b in
    ordered d (start d path) x (all_kept.started d path d.store.device (least, most) fault x.kept) (L.start_still d path) (λ never. X.start_same d path)
    (E.start_adds d path)
about_excusable (about.commanded {d = d} b o running whole t) =
    let x = about_excusable b in
    next d t.state x (all_kept.commanded d o running whole x.kept t) (L.command_counts d t) (X.command_made d t)
    (λ p s lt. commands_explained d x.kept.0.0.fair p s lt o running whole t (command_grows d t))
about_excusable (about.seconded {d = d} b h half t) =
    let x = about_excusable b in
    next d t.state x (all_kept.seconded d h half x.kept t) (L.second_counts d t) (X.second_made d t)
    (λ p s lt. second_explained d x.kept.0.0.fair p s lt h half t (second_grows d t))
about_excusable {first = first} (about.worked {d = d} b whole t) =
    let x = about_excusable b in
    next d t.state x (all_kept.worked d whole x.kept t) (L.background_counts d t) (X.background_made d t) (λ p s lt. background_explained d first t)
about_excusable {first = first} (about.looked {d = d} b home track lt t) =
    let x = about_excusable b in
    next d t.state x (looked_kept first d track home lt x.kept t) (L.peek_counts d track t) (X.peek_made d track t) (λ p s lt. peek_explained d first track t)
about_excusable {first = first} (about.cut {d = d} b path t) =
    let x = about_excusable b in
    next d t.state x (all_kept.cut d path x.kept t) (L.reset_counts d path t) (X.reset_made d path t) (λ p s lt. reset_explained d first path t)
about_excusable {first = first} (about.lost {d = d} b loss has t) =
    let x = about_excusable b in
    next d t.state x (lost_kept d loss has x.kept t) (L.loss_counts d loss t) (X.lose_made d loss t) (λ p s lt. lose_explained d first loss t)
about_excusable {first = first} (about.lost_power {d = d} b t) =
    let x = about_excusable b in
    next d t.state x (all_kept.lost_power d x.kept t) (L.power_counts d t) (X.power_made d t) (λ p s lt. power_explained d first t)
about_excusable (about.held {d = d} b fault) =
    let x = about_excusable b in
    ordered d (hold_side d) x (all_kept.held d fault x.kept) (L.kept_still d (hold_side d) refl refl)
    (λ never. X.same_but d (hold_side d) refl refl refl refl refl refl) (E.same_grows d (hold_side d) refl)
about_excusable (about.resumed {d = d} b pair) =
    let x = about_excusable b in
    ordered d (resume d) x (all_kept.resumed d pair x.kept) (L.kept_still d (resume d) refl refl)
    (λ never. X.same_but d (resume d) refl refl refl refl refl refl) (E.same_grows d (resume d) refl)
about_excusable (about.replaced {d = d} b side fault) =
    let x = about_excusable b in
    ordered d (replace d side) x (all_kept.replaced d side fault x.kept) (counted_pairwise.replaces d side fault) (made_pairwise.replaces d side fault)
    ((explained_pairwise empty_firsts).replaces d side fault)
about_excusable (about.lent {x = x} {d = d} b c fault t) =
    let e = about_excusable c in
    ordered d t.state e (all_kept.lent x d fault (about_excusable b).kept e.kept t) (L.lend_still d x.store.device t) (X.lend_still d x.store.device t)
    (E.lend_adds d x.store.device t)
about_excusable (about.joined {d = d} b single home) =
    let x = about_excusable b in
    ordered d (join d) x (all_kept.joins d (single, home) x.kept) (counted_pairwise.joins d) (made_pairwise.joins d) ((explained_pairwise empty_firsts).joins d)
about_excusable (about.parted {d = d} b fault) =
    let x = about_excusable b in
    ordered d (split d) x (all_kept.splits d fault x.kept) (counted_pairwise.splits d fault) (made_pairwise.splits d fault)
    ((explained_pairwise empty_firsts).splits d fault)
about_excusable (about.restored {d = d} b to is) =
    let x = about_excusable b in
    ordered d (restore d) x (all_kept.restored d to is x.kept) (counted_pairwise.restores d to is) (made_pairwise.restores d to is)
    ((explained_pairwise empty_firsts).restores d to is)
about_excusable {first = first} (about.planned {d = d} b path program) = planned_excusable first d path program (about_excusable b)

-- So it is excused, where it was never lent

pub excused_of : {first : ℕ → List Track} (d : MarksDevice) → CameAboutOn first d → WasNeverLent d → d.store.counts.failed < 2 ^ 64 - 1 → d.store.counts.losses.cache < 2 ^ 64 - 1 →
    IsExcused d.plans (first_of first d) d.history.items d.store.lost d.store.counts
excused_of d about never failed cache =
    let x = about_excusable about in record {
      tracks = excuses_tracks d x.kept.0.0;
      loose = counted_excuse d (x.loose cache);
      checks = x.checks failed never;
    }
