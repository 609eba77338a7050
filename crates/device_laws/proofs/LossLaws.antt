-- Where a lost list grows, of each event's run; and a device to which nothing happened but losses of the cache and of power loses no track.
use Rattle.device_laws.proofs.UncheckedEvents.{equipment_checks, command_unchecked}
use Rattle.device_laws.proofs.LooseLosses.{most_lost, command_has, second_has, background_has, lose_has, reset_has, power_has}
use Rattle.device_laws.proofs.Always.{Always}
use Rattle.device_defs.specs.Excused.{loose_losses, count_lost}
use Rattle.std.proofs.Common.{
  ◌≡◌,
  ◌≤◌,
  ◌<◌,
  ◌+◌,
  ℕ,
  Bool,
  true,
  false,
  List,
  Option,
  Some,
  None,
  get_or,
  min,
  refl,
  sym,
  ap,
  subst,
  ◌∙◌,
  arith,
  inr,
  suc,
  [],
  ◌∷◌,
}
use Rattle.std.specs.List.{fold}
use Rattle.std.specs.Prelude.{◌*◌, if◌then◌else◌}
use Rattle.ckd_chain.specs.State.{ChainState}
use Rattle.ckd_types.specs.declared.geometry.Geometry.{Geometry}
use Rattle.ckd_types.specs.declared.paths.Side.{Side}
use Rattle.ckd_types.specs.declared.paths.Side.TheVariants as sides
use Rattle.ckd_types.specs.declared.record.Track.{Track}
use Rattle.loss_model.specs.declared.Loss.{Loss}
use Rattle.loss_model.specs.declared.Loss.TheVariants as losses
use Rattle.track_image.specs.Image.{Image}
use Rattle.track_table.proofs.Places.{empty_places}
use Rattle.device_outside.specs.Interaction.{Interaction}
use Rattle.device_outside.specs.Keeper.{Hearing}
use Rattle.device_outside.specs.Outside.{Outside, Ran}
use Rattle.device_outside.specs.Volume as V
use Rattle.device_outside.specs.Volume.{counted}
use Rattle.device_defs.specs.declared.answers.Did.{Did}
use Rattle.device_defs.specs.declared.answers.SecondEnd.{SecondEnd}
use Rattle.device_defs.specs.declared.answers.Stepped.{Stepped}
use Rattle.device_defs.specs.declared.counts.Losses.{Losses}
use Rattle.device_defs.specs.Command.{command}
use Rattle.device_defs.specs.Contents.{Contents, contents}
use Rattle.device_defs.specs.Cutting.{power, reset}
use Rattle.device_defs.specs.Device.{Device}
use Rattle.device_defs.specs.Events.{second, background, lose, one_loss_more}
use Rattle.device_defs.specs.Orders.{join, split, replace, hold_side, resume}
use Rattle.device_defs.specs.Sound.{DeviceStore}
use Rattle.device_defs.specs.Start as S
use Rattle.device_defs.specs.Start.{start}
use Rattle.device_defs.specs.Store.{Store, stale_at, level_at, is_lost, side_of}
use Rattle.device_laws.specs.Agrees.{Held}
use Rattle.device_laws.specs.InOrder.{IsInOrder}
use Rattle.device_laws.specs.NewDevice.{new_contents}
use Rattle.device_laws.specs.Standing.{IsChainOf}
use Rattle.device_laws.specs.Unharmed.{MarksAreGood, NothingLost, IsWholeOnA, IsUnharmed, HalfIsTried, all_losses, LossesAreCounted, RunsUnharmed, IsCalm}
use Rattle.device_laws.proofs.Based.{Base, kept, Any, Based, based_any}
use Rattle.device_laws.proofs.BasedEvents.{base_in, with_one_loss, command_based, second_based, background_based, lose_based, power_based, reset_body}
use Rattle.device_laws.proofs.Harmless.{cache_goes, power_goes, reset_goes}
use Rattle.device_laws.proofs.KeepLaws.{always_ran, ran_same}
use Rattle.device_laws.proofs.Lucky.{top, failed_in, never_falls, where_none_failed, counted_rises}
use Rattle.device_laws.proofs.TrackMarks.{IsFaithful}
use Rattle.device_laws.proofs.Unlost.{core_of, Fine, has_a}
use Rattle.device_laws.proofs.UnlostParts.{DeviceGoes, marks_well}
use Rattle.device_laws.proofs.invariants.NoTrackIsLost.{command_goes, background_goes, second_event_goes}

-- a device that is in order has good marks
pub order_marks : (v w : List Track) (s : DeviceStore) (h : Held) → IsInOrder v w s h → MarksAreGood contents s
order_marks v w s h i = record {
  sizes = i.agrees.ground.sizes;
  free = i.free;
  alone = i.alone;
  whole = i.whole;
  marks = i.marks;
  queued = i.queued;
  nowhere = i.nowhere;
  within = i.within;
  there = i.there;
}

pub some_counted : (n : ℕ) → counted n ≡ 0 → ⊥
unfolding V.counted
some_counted n is = none_of (n + 1) top (omega arith) (omega arith) is where
  none_of : (x y : ℕ) → 1 ≤ x → 1 ≤ y → min x y ≡ 0 → ⊥
  none_of x y le more e = absurd (omega (arith, le, more, e))

-- Nothing lost

pub none_less : (n m : ℕ) → n ≤ m → m ≡ 0 → n ≡ 0
none_less n m le is = omega (arith, le, is)

module _ {F P H : Type 0} where
  nothing_before : (s z : Store F P H) → z.counts.losses ≡ s.counts.losses → s.counts.failed ≤ z.counts.failed → NothingLost z → NothingLost s
  nothing_before s z same more n = record {
    sides = ap (λ (l : Losses). l.sides) (sym same) ∙ n.sides;
    failed = none_less s.counts.failed z.counts.failed more n.failed;
    store = ap (λ (l : Losses). l.store) (sym same) ∙ n.store;
  }

  pub whole_behind : (s z : Store F P H) → Fine (core_of s) (core_of z) → IsWholeOnA s → IsWholeOnA z
  whole_behind s z f w = record {
    up = f.up ∙ w.up;
    level = λ t. f.level w.up t (w.level t);
    kept = λ t. ap (λ (l : List Bool). get_or l t false) f.lost ∙ w.kept t;
  }

  unharmed_by : (s z : Store F P H) → z.counts.losses ≡ s.counts.losses → s.counts.failed ≤ z.counts.failed →
      (IsWholeOnA s → z.counts.failed ≡ s.counts.failed → Fine (core_of s) (core_of z)) → IsUnharmed s → IsUnharmed z
  unharmed_by s z same more goes un n =
      let before = nothing_before s z same more n in
      let whole = un before in
      whole_behind s z (goes whole (n.failed ∙ sym before.failed)) whole

  counts_same : (s z : Store F P H) (l : Losses) → z.counts.losses ≡ l → l.sides ≡ s.counts.losses.sides → l.store ≡ s.counts.losses.store →
      s.counts.failed ≤ z.counts.failed → NothingLost z → NothingLost s
  counts_same s z l same sides store more n = record {
    sides = sym sides ∙ ap (λ (x : Losses). x.sides) (sym same) ∙ n.sides;
    failed = none_less s.counts.failed z.counts.failed more n.failed;
    store = sym store ∙ ap (λ (x : Losses). x.store) (sym same) ∙ n.store;
  }

module _ {F P H R K : Type 0} (c : Contents F P H R) {hears : Hearing Image K} where
  -- Behind a run in which no call failed

  fine_ran : {X : Type 0} (d : Device F P H) {e : Device F P H} {u z : Outside R K} {a : X} {b : Base} (i : Interaction R Image (Device F P H) X) →
      failed_in b ≡ d.store.counts.failed → Based base_in Any b i → d.store.counts.failed < top → DeviceGoes c d.store i →
      Ran (λ ok. Unit {0}) hears i u e a z → e.store.counts.failed ≡ d.store.counts.failed → Fine (core_of d.store) (core_of e.store)
  fine_ran d {b = b} i failed x lt goes r same =
      always_ran i (λ y _. failed_in (base_in y) ≡ failed_in b → Fine (core_of d.store) (core_of y.store))
      (where_none_failed (λ y _. Fine (core_of d.store) (core_of y.store)) x (subst (λ (n : ℕ). n < top) (sym failed) lt) goes).holds r
      (same ∙ sym failed)

  pub more_ran : {X : Type 0} (d : Device F P H) {e : Device F P H} {u z : Outside R K} {a : X} {b : Base} (i : Interaction R Image (Device F P H) X) →
      failed_in b ≡ d.store.counts.failed → Based base_in Any b i → d.store.counts.failed < top → Ran (λ ok. Unit {0}) hears i u e a z →
      d.store.counts.failed ≤ e.store.counts.failed
  more_ran d {e = e} {b = b} i failed x lt r =
      let le : failed_in b ≤ top = omega (arith, failed, lt) in
      let more : failed_in b ≤ e.store.counts.failed =
      always_ran i (λ y _. failed_in b ≤ failed_in (base_in y)) (never_falls x le).holds r in
      omega (arith, failed, more)

  module _ (faithful : IsFaithful c) (d : Device F P H) (good : MarksAreGood c d.store) (lt : d.store.counts.failed < top) {e : Device F P H}
      {u z : Outside R K} where
    pub command_loses : {a : Option Stepped} → d.store.half ≡ None → ((chain : ChainState) → d.chain ≡ Some chain → IsChainOf d.store.cylinders chain) →
        Ran (λ ok. Unit {0}) hears (command c d) u e a z → e.store.counts.failed ≡ d.store.counts.failed → e.store.lost ≡ d.store.lost
    command_loses none chains r same =
        (fine_ran d (command c d) refl (command_based c d) lt (command_goes c faithful d (marks_well c d.store good)) r same).lost

    pub background_loses : {a : Option Did} → Ran (λ ok. Unit {0}) hears (background c d) u e a z → e.store.counts.failed ≡ d.store.counts.failed →
        e.store.lost ≡ d.store.lost
    background_loses r same =
        (fine_ran d (background c d) refl (background_based c d) lt (background_goes c faithful d (marks_well c d.store good)) r same).lost

    pub second_loses : {a : SecondEnd} → HalfIsTried d.store → Ran (λ ok. Unit {0}) hears (second c d) u e a z →
        e.store.counts.failed ≡ d.store.counts.failed → e.store.lost ≡ d.store.lost
    second_loses tried r same =
        (fine_ran d (second c d) refl (second_based c d) lt (second_event_goes c faithful d (marks_well c d.store good) tried) r same).lost

  module _ (faithful : IsFaithful c) (d : Device F P H) (lt : d.store.counts.failed < top) (un : IsUnharmed d.store) {e : Device F P H}
      {u z : Outside R K} where
    event_unharmed : {X : Type 0} {a : X} (i : Interaction R Image (Device F P H) X) → Based base_in Any (kept d.store) i →
        (IsWholeOnA d.store → DeviceGoes c d.store i) → Ran (λ ok. Unit {0}) hears i u e a z → IsUnharmed e.store
    event_unharmed i x goes r =
        unharmed_by d.store e.store (ran_same x r).losses (more_ran d i refl x lt r) (λ whole same. fine_ran d i refl x lt (goes whole) r same) un

    pub command_unharmed : {a : Option Stepped} → MarksAreGood c d.store → d.store.half ≡ None →
        ((chain : ChainState) → d.chain ≡ Some chain → IsChainOf d.store.cylinders chain) → Ran (λ ok. Unit {0}) hears (command c d) u e a z →
        IsUnharmed e.store
    command_unharmed good none chains r =
        event_unharmed (command c d) (command_based c d) (λ _. command_goes c faithful d (marks_well c d.store good)) r

    pub background_unharmed : {a : Option Did} → MarksAreGood c d.store → Ran (λ ok. Unit {0}) hears (background c d) u e a z → IsUnharmed e.store
    background_unharmed good r =
        event_unharmed (background c d) (background_based c d) (λ _. background_goes c faithful d (marks_well c d.store good)) r

    pub second_unharmed : {a : SecondEnd} → MarksAreGood c d.store → Ran (λ ok. Unit {0}) hears (second c d) u e a z → IsUnharmed e.store
    second_unharmed good r =
        event_unharmed (second c d) (second_based c d)
        (λ whole. second_event_goes c faithful d (marks_well c d.store good)
        (λ h is. inr (has_a d.store.a.up (stale_at d.store.a h.track) (level_at d.store.b h.track) whole.up (whole.level h.track)))) r

    pub reset_unharmed : (path : ℕ) {a : Unit {0}} → Ran (λ ok. Unit {0}) hears (reset c d path) u e a z → IsUnharmed e.store
    reset_unharmed path r = event_unharmed (reset c d path) (based_any (reset_body c d path)) (λ _. reset_goes c faithful d path) r

    -- losses

    cache_event : {a : Unit {0}} (i : Interaction R Image (Device F P H) (Unit {0})) → Based base_in Any (with_one_loss losses.Cache (kept d.store)) i →
        (IsWholeOnA d.store → DeviceGoes c d.store i) → Ran (λ ok. Unit {0}) hears i u e a z → IsUnharmed e.store
    cache_event i x goes r n =
        let before = counts_same d.store e.store _ (ran_same x r).losses refl refl (more_ran d i refl x lt r) n in
        let whole = un before in
        whole_behind d.store e.store (fine_ran d i refl x lt (goes whole) r (n.failed ∙ sym before.failed)) whole

    pub loss_unharmed : (loss : Loss) {a : Unit {0}} → MarksAreGood c d.store → Ran (λ ok. Unit {0}) hears (lose c d loss) u e a z → IsUnharmed e.store
    loss_unharmed losses.Cache good r n =
        cache_event (lose c d losses.Cache) (lose_based c d losses.Cache) (λ whole. cache_goes c d whole) r n
    loss_unharmed losses.Store good r n =
        absurd (some_counted d.store.counts.losses.store
        (ap (λ (l : Losses). l.store) (sym (ran_same (lose_based c d losses.Store) r).losses) ∙ n.store))
    loss_unharmed (losses.Side side) good r n =
        absurd (some_counted d.store.counts.losses.sides
        (ap (λ (l : Losses). l.sides) (sym (ran_same (lose_based c d (losses.Side side)) r).losses) ∙ n.sides))

    pub power_unharmed : {a : Unit {0}} → Ran (λ ok. Unit {0}) hears (power c d) u e a z → IsUnharmed e.store
    power_unharmed r = cache_event (power c d) (power_based c d) (λ whole. power_goes c d whole) r

module _ {F P H : Type 0} (d : Device F P H) (un : IsUnharmed d.store) where
  pub held_unharmed : IsUnharmed (hold_side d).store × IsUnharmed (resume d).store
  held_unharmed = (
    λ n. let w = un (record { sides = n.sides; failed = n.failed; store = n.store }) in record { up = w.up; level = w.level; kept = w.kept },
    λ n. let w = un (record { sides = n.sides; failed = n.failed; store = n.store }) in record { up = w.up; level = w.level; kept = w.kept },
  )

  pub joined_unharmed : IsUnharmed (join d).store × IsUnharmed (split d).store
  joined_unharmed = (
    λ n. let w = un (record { sides = n.sides; failed = n.failed; store = n.store }) in record { up = w.up; level = w.level; kept = w.kept },
    λ n. let w = un (record { sides = n.sides; failed = n.failed; store = n.store }) in record { up = w.up; level = w.level; kept = w.kept },
  )

  -- a side that isn't up is replaced
  pub replaced_unharmed : (side : Side) → (side_of d.store side).up ≡ false → IsUnharmed (replace d side).store
  replaced_unharmed sides.A down n =
      let w = un (record { sides = n.sides; failed = n.failed; store = n.store }) in
      absurd (let both : true ≡ false = sym w.up ∙ down in cc)
  replaced_unharmed sides.B down n =
      let w = un (record { sides = n.sides; failed = n.failed; store = n.store }) in record { up = w.up; level = w.level; kept = w.kept }

pub started_unharmed : {F P H : Type 0} (d : Device F P H) (path : ℕ) → IsUnharmed d.store → IsUnharmed (start d path).store
unfolding S.start
started_unharmed d path un = un

pub new_unharmed : (d : ℕ) (g : Geometry) (n : ℕ) → IsUnharmed (new_contents d g n)
new_unharmed d g n none = record { up = refl; level = λ t. empty_places (n * 15) t false; kept = λ t. empty_places (n * 15) t false }

-- Losses of data of cache fast write are counted

module _ {F P H R K : Type 0} (c : Contents F P H R) {hears : Hearing Image K} (d : Device F P H) (before : LossesAreCounted d) {e : Device F P H}
    {u z : Outside R K} where
  event_counted : {X : Type 0} {a : X} (i : Interaction R Image (Device F P H) X) (b : Base) → d.store.counts.losses.cache ≤ b.counts.losses.cache →
      Based base_in Any b i → Always i (λ y _. all_losses y.history ≡ all_losses d.history) → Ran (λ ok. Unit {0}) hears i u e a z → LossesAreCounted e
  event_counted i b more x goes r =
      let same : e.store.counts.losses.cache ≡ b.counts.losses.cache = ap (λ (l : Losses). l.cache) (ran_same x r).losses in
      let all : all_losses e.history ≡ all_losses d.history =
      always_ran i (λ y _. all_losses y.history ≡ all_losses d.history) goes.holds r in
      omega (arith, same, all, before, more)

  pub command_counted : {a : Option Stepped} → Ran (λ ok. Unit {0}) hears (command c d) u e a z → LossesAreCounted e
  command_counted r =
      event_counted (command c d) (kept d.store) (omega arith) (command_based c d) (command_has c (all_losses d.history) d refl) r

  pub second_counted : {a : SecondEnd} → Ran (λ ok. Unit {0}) hears (second c d) u e a z → LossesAreCounted e
  second_counted r = event_counted (second c d) (kept d.store) (omega arith) (second_based c d) (second_has c (all_losses d.history) d refl) r

  pub background_counted : {a : Option Did} → Ran (λ ok. Unit {0}) hears (background c d) u e a z → LossesAreCounted e
  background_counted r =
      event_counted (background c d) (kept d.store) (omega arith) (background_based c d) (background_has c (all_losses d.history) d refl) r

  pub reset_counted : (path : ℕ) {a : Unit {0}} → Ran (λ ok. Unit {0}) hears (reset c d path) u e a z → LossesAreCounted e
  reset_counted path r =
      event_counted (reset c d path) (kept d.store) (omega arith) (based_any (reset_body c d path)) (reset_has c (all_losses d.history) d path refl) r

  pub power_counted : {a : Unit {0}} → d.store.counts.losses.cache < top → Ran (λ ok. Unit {0}) hears (power c d) u e a z → LossesAreCounted e
  power_counted lt r =
      let more = counted_rises d.store.counts.losses.cache lt in
      event_counted (power c d) (with_one_loss losses.Cache (kept d.store)) (omega (arith, more)) (power_based c d)
      (power_has c (all_losses d.history) d refl) r

  lost_counted : (loss : Loss) {a : Unit {0}} → all_losses d.history + most_lost c (all_losses d.history) loss ≤ (one_loss_more d.store.counts.losses loss).cache →
      Ran (λ ok. Unit {0}) hears (lose c d loss) u e a z → LossesAreCounted e
  lost_counted loss more r =
      let same : e.store.counts.losses.cache ≡ (one_loss_more d.store.counts.losses loss).cache =
      ap (λ (l : Losses). l.cache) (ran_same (lose_based c d loss) r).losses in
      let all = always_ran (lose c d loss) (λ y _. all_losses y.history ≤ all_losses d.history + most_lost c (all_losses d.history) loss)
      (lose_has c (all_losses d.history) d loss refl).holds r in
      omega (arith, same, all, more)

  pub loss_counted : (loss : Loss) {a : Unit {0}} → d.store.counts.losses.cache < top → Ran (λ ok. Unit {0}) hears (lose c d loss) u e a z →
      LossesAreCounted e
  loss_counted losses.Cache lt r =
      lost_counted losses.Cache (let more = counted_rises d.store.counts.losses.cache lt in omega (arith, more, before)) r
  loss_counted losses.Store lt r = lost_counted losses.Store (omega (arith, before)) r
  loss_counted (losses.Side side) lt r = lost_counted (losses.Side side) (omega (arith, before)) r

-- so those that the journal has
pub counted_excuse : {F P H : Type 0} (d : Device F P H) → LossesAreCounted d → loose_losses d.history.items ≤ d.store.counts.losses.cache
counted_excuse d all = omega (arith, all)

pub started_counted : {F P H : Type 0} (d : Device F P H) (path : ℕ) → LossesAreCounted d → LossesAreCounted (start d path)
unfolding S.start
started_counted d path all = omega (arith, all)

-- Checks

module _ {F P H R K : Type 0} (c : Contents F P H R) {hears : Hearing Image K} (faithful : IsFaithful c) (d : Device F P H) {e : Device F P H}
    {u z : Outside R K} where
  pub command_checks_nothing : {a : Option Stepped} → MarksAreGood c d.store → d.store.half ≡ None →
      ((chain : ChainState) → d.chain ≡ Some chain → IsChainOf d.store.cylinders chain) → IsCalm d.store → RunsUnharmed d.history.running →
      d.store.counts.failed < top → Ran (λ ok. Unit {0}) hears (command c d) u e a z → e.store.counts.failed ≡ d.store.counts.failed →
      equipment_checks e.history ≡ equipment_checks d.history
  command_checks_nothing good none chains calm un lt r same =
      let n = equipment_checks d.history in
      always_ran (command c d) (λ y _. failed_in (base_in y) ≡ failed_in (kept d.store) → equipment_checks y.history ≡ n)
      (where_none_failed (λ y _. equipment_checks y.history ≡ n) (command_based c d) lt
      (command_unchecked c n faithful d chains (marks_well c d.store good) none calm un refl)).holds r same

-- None of them is counted as lost

none_counted : (n : ℕ) (l : List Bool) → ((t : ℕ) → get_or l t false ≡ false) → fold (λ (k : ℕ) (x : Bool). k + (if x then 1 else 0)) n l ≡ n
none_counted n [] none = refl
none_counted n (x ∷ xs) none =
    let first : x ≡ false = none 0 in
    let same : n + 0 ≡ n = omega arith in
    ap (λ (b : Bool). fold (λ (k : ℕ) (y : Bool). k + (if y then 1 else 0)) (n + (if b then 1 else 0)) xs) first
    ∙ none_counted (n + 0) xs (λ t. none (suc t)) ∙ same

pub kept_counts : {F P H : Type 0} (s : Store F P H) → ((t : ℕ) → is_lost s t ≡ false) → count_lost s.lost ≡ 0
kept_counts s kept = none_counted 0 s.lost kept

pub unharmed_counts : {F P H : Type 0} (s : Store F P H) → IsUnharmed s → NothingLost s → count_lost s.lost ≡ 0
unharmed_counts s un nothing = kept_counts s (un nothing).kept
