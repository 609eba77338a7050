-- An open half write of a run's device, and how a reset cuts its program: its history stays a plain device's.
use Rattle.std.proofs.Common.{◌≡◌, ◌<◌, ◌*◌, ◌==◌, ◌++◌, ℕ, Bool, true, false, List, [], ◌∷◌, Option, Some, None, cond, refl, sym, ap, subst, ◌∙◌, arith}
use Rattle.std.specs.Prelude.{◌||◌, if◌then◌else◌}
use Rattle.std.proofs.lemmas.Bool.{cond_both}
use Rattle.std.proofs.lemmas.List.{set-set}
use Rattle.ckd_types.specs.declared.geometry.Geometry.{Geometry}
use Rattle.ckd_types.specs.declared.record.Edit.{Edit}
use Rattle.ckd_types.specs.declared.sense.Sense.{Sense}
use Rattle.ckd_types.specs.Volume.{track_in}
use Rattle.ckd_chain.specs.declared.progress.Settled.TheVariants.{Written}
use Rattle.ckd_chain.specs.Fed.{Fed, ended_by, fed}
use Rattle.ckd_chain.specs.State.{ChainState}
use Rattle.ckd_chain.specs.Steps.{index_of, settled_by}
use Rattle.plain_defs.specs.declared.journal.Item.TheVariants as items
use Rattle.plain_defs.specs.Effect.{Effect, behind_effect}
use Rattle.plain_defs.specs.History.{
  OpenEntry,
  History,
  open_part,
  plain_of,
  state_by,
  is_path_of,
  has_used,
  put,
  cut_by,
  reset_in_history as history_reset,
  reset_in,
}
use Rattle.plain_defs.specs.Journal.{program_of, replay}
use Rattle.plain_defs.specs.Legal.{edit_at, next_edit, is_used}
use Rattle.plain_defs.specs.Loose.{is_loose_in}
use Rattle.plain_defs.specs.PlainState.{PathsState, PlainState, with_sense, reset_path}
use Rattle.plain_defs.specs.Program.{Part}
use Rattle.device_defs.specs.Contents.{by_plain}
use Rattle.device_defs.specs.Cutting as K
use Rattle.device_defs.specs.Cutting.{counts_one_by, half_cut, origin_cut, reset_noted, reset_by, reset}
use Rattle.device_defs.specs.Device.{all_reset}
use Rattle.device_defs.specs.Effects.{with_edit}
use Rattle.device_defs.specs.Marks.{MarksDevice, MarksStore}
use Rattle.device_defs.specs.Store.{Origin, OfCommand, OfCut, OfBackground, HalfWrite}
use Rattle.device_laws.specs.NewDevice.{first_state}
use Rattle.device_laws.proofs.DeviceCuts.{reset_stands}
use Rattle.device_laws.proofs.DeviceHistory.{next_is}
use Rattle.device_laws.proofs.Had.{Had, had_done, had_tell, had_if, had_then, had_weaker}
use Rattle.device_laws.proofs.HistoryCuts.{MayTake, taken_state, taken_none, taken_one, cut_state, idle_reset_state, waiting_state}
use Rattle.device_laws.proofs.HistoryEnds.{effect_at, running_is_open}
use Rattle.device_laws.proofs.PathsAlong.{reset_keeps_paths}
use Rattle.device_laws.proofs.PlainCommand.{at, on, the_effect, same_effect, of_edit, one_more}
use Rattle.device_laws.proofs.PlainEvents.{had_always, had_both, runs_idle}
use Rattle.device_laws.proofs.PlainLosses.{of_acts}
use Rattle.device_laws.proofs.PlainRules.{fed_so, looking_keeps}
use Rattle.device_laws.proofs.PlainStores.{Core, core_of, loose_at, edited_core, IsOf, HasPlaces, of_edited, of_half, with_half}
use Rattle.device_laws.proofs.PlainTurns.{AtPart, RunsAt, ChainOf, IsMid, IsMidOf, IsAtHome, Halfway, Follows, of_paths, some_none, home_idle}

-- A reset of a path forgets its sense

sense_forgotten : (paths : PathsState) (path : ℕ) (sense : Option Sense) → reset_path (with_sense paths path sense) path ≡ reset_path paths path
sense_forgotten paths path None = refl
sense_forgotten paths path (Some sense) =
    ap (λ (l : List Sense). record (reset_path paths path) { senses = l }) (set-set paths.senses _ _ _)

-- The half write of a command, whose edit is that of the plain device's command at hand

module _ (num : ℕ) (empty : PlainState) (d : MarksDevice) (f : Follows num empty d) (o : OpenEntry) (running : d.history.running ≡ Some o) (t : ℕ) (e : Edit)
    (mid : Halfway (core_of d.store) t e d.history.running f.before d.chain) where
  abbrev chain : ChainState
  chain = mid.origin

  abbrev s : PlainState
  s = replay d.plans empty d.history.items

  abbrev part : Part
  part = open_part d.plans (replay d.plans empty d.history.items) o

  abbrev pub its_effect : Effect
  its_effect = the_effect num empty d f o running mid.origin mid.begins

  pub begins_at : AtPart d.plans (replay d.plans empty d.history.items) o mid.origin
  begins_at = at num empty d f o running mid.origin mid.begins

  pub its_end : ended_by mid.origin its_effect.outcome its_effect.edit
      ≡ ended_by mid.chain (settled_by mid.chain Written) (Some (record { track = t; edit = e }))
  its_end =
      let many = (on num empty d f o running mid.origin mid.begins).1 in
      let some = f.some in
      let k = one_more (mid.origin.fixed.cylinders * 15) (omega (arith, some, many)) in
      sym (ap (λ (i : ℕ). fed i (track_in d.store.plain) mid.answer mid.origin) (ap (λ (i : ℕ). i * 15) (sym many) ∙ sym k.1)
      ∙ fed_so mid.origin begins_at.fresh d.paths o.path d.store.plain mid.answer k.0 mid.need k.1 mid.needs)
      ∙ mid.does d.store.plain (λ q above below. refl)

  pub its_edit : its_effect.edit ≡ Some (record { track = t; edit = e })
  its_edit = ap (λ (x : Fed). x.edit) its_end

  pub its_sense : with_sense d.paths o.path its_effect.outcome.ending.sense ≡ its_effect.paths
  its_sense = looking_keeps mid.origin begins_at.fresh d.paths o.path d.store.plain mid.need mid.needs

  pub its_track_is_firm : loose_at (core_of d.store) t ≡ false
  its_track_is_firm = let below = mid.below in mid.firm t below (omega arith)

  state_is : plain_of d.plans empty d.history ≡ part.state
  state_is = ap (λ (r : Option OpenEntry). state_by d.plans (replay d.plans empty d.history.items) r) running

  same : its_effect ≡ effect_at d.plans (replay d.plans empty d.history.items) d.history.items o (index_of mid.origin.at.next)
  same =
      same_effect num empty d f o running mid.origin mid.begins d.history o refl begins_at (ap (λ (x : PlainState). x.volume) (sym state_is) ∙ f.of.volume)
      (ap (λ (x : PlainState). x.paths) (sym state_is) ∙ sym f.keeps)

  next_at : part.next ≡ Some (index_of mid.origin.at.next)
  next_at = next_is empty d f.stands.plain f.stands.due o running mid.origin begins_at.hand o.path

  next_edit_is : next_edit o.path (program_of d.plans o.path o.ordinal) part ≡ Some (record { track = t; edit = e })
  next_edit_is =
      ap (λ (n : Option ℕ). edit_at o.path (program_of d.plans o.path o.ordinal) part n) next_at
      ∙ ap (λ (x : Effect). x.edit) (sym same) ∙ its_edit

  firm_there : is_loose_in part.state.loose t ≡ false
  firm_there = ap (λ (x : PlainState). is_loose_in x.loose t) (sym state_is) ∙ f.of.loose t ∙ its_track_is_firm

  may_one : MayTake d.plans (replay d.plans empty d.history.items) o 1
  may_one = rw next_edit_is (λ loose. absurd (let both : true ≡ false = sym loose ∙ firm_there in cc))

  one_is : taken_state d.plans (replay d.plans empty d.history.items) o 1 ≡ behind_effect part.state its_effect
  one_is =
      taken_one d.plans s d.history.items o (running_is_open d.plans empty d.history f.stands.plain f.stands.due o running)
      (index_of mid.origin.at.next) next_at
      ∙ ap (behind_effect part.state) (sym same)

  of_part : IsOf part.state (core_of d.store)
  of_part = subst (λ (x : PlainState). IsOf x (core_of d.store)) state_is f.of

  of_one : IsOf (taken_state d.plans (replay d.plans empty d.history.items) o 1) (edited_core (core_of d.store) t e)
  of_one = rw one_is (of_edit part.state its_effect.edit its_effect.paths (edited_core (core_of d.store) t e)
      (rw its_edit (of_edited part.state (core_of d.store) of_part t its_track_is_firm e)))

  one_forgotten : reset_path (taken_state d.plans (replay d.plans empty d.history.items) o 1).paths o.path ≡ reset_path part.state.paths o.path
  one_forgotten =
      ap (λ (x : PlainState). reset_path x.paths o.path) one_is
      ∙ ap (λ (x : PathsState). reset_path x o.path) (sym its_sense)
      ∙ sense_forgotten d.paths o.path its_effect.outcome.ending.sense
      ∙ ap (λ (x : PathsState). reset_path x o.path) (f.keeps ∙ ap (λ (x : PlainState). x.paths) state_is)

-- What a cut takes of it

module _ (num : ℕ) (empty : PlainState) (d : MarksDevice) (f : Follows num empty d) where
  abbrev state_at : PlainState
  state_at = replay d.plans empty d.history.items

  -- of the program that runs
  abbrev pub taken_by : Option OpenEntry → ℕ → PlainState
  taken_by (Some o) n = taken_state d.plans (replay d.plans empty d.history.items) o n
  taken_by None n = replay d.plans empty d.history.items

  abbrev pub MayBy : Option OpenEntry → ℕ → Type 0
  MayBy (Some o) n = MayTake d.plans (replay d.plans empty d.history.items) o n
  MayBy None n = Unit {0}

  abbrev pub ForgottenBy : Option OpenEntry → ℕ → Type 0
  ForgottenBy (Some o) n = reset_path (taken_state d.plans (replay d.plans empty d.history.items) o n).paths o.path
      ≡ reset_path (open_part d.plans (replay d.plans empty d.history.items) o).state.paths o.path
  ForgottenBy None n = Unit {0}

  -- and the store is that of the plain device behind it
  pub record CutSo (r : Option OpenEntry) (n : ℕ) (y z : MarksStore) : Type 0 where
    pub may : MayBy r n
    pub forgotten : ForgottenBy r n
    pub of : IsOf (taken_by r n) (core_of z)
    pub places : HasPlaces (core_of z)
    pub geometry : z.geometry ≡ y.geometry
    pub cylinders : z.cylinders ≡ y.cylinders
    pub lent : z.lent ≡ y.lent
    pub device : z.device ≡ y.device
    pub acts : z.acts ≡ y.acts
    pub free : (c : Core) (r : Option OpenEntry) → IsMid c z.half r None None

  none_may : (r : Option OpenEntry) → MayBy r 0
  none_may (Some o) = tt
  none_may None = tt

  state_of_none : (r : Option OpenEntry) → d.history.running ≡ r → taken_by r 0 ≡ plain_of d.plans empty d.history
  state_of_none (Some o) running =
      taken_none d.plans state_at d.history.items o (running_is_open d.plans empty d.history f.stands.plain f.stands.due o running)
      ∙ sym (ap (λ (r : Option OpenEntry). state_by d.plans state_at r) running)
  state_of_none None none = sym (ap (λ (r : Option OpenEntry). state_by d.plans state_at r) none)

  none_forgotten : (r : Option OpenEntry) → d.history.running ≡ r → ForgottenBy r 0
  none_forgotten (Some o) running =
      ap (λ (x : PlainState). reset_path x.paths o.path)
      (taken_none d.plans state_at d.history.items o (running_is_open d.plans empty d.history f.stands.plain f.stands.due o running))
  none_forgotten None none = tt

  -- the store, with other acts
  module _ (y : MarksStore) (e : core_of y ≡ record (core_of d.store) { acts = y.acts }) (r : Option OpenEntry) (running : d.history.running ≡ r) where
    of_store : IsOf (plain_of d.plans empty d.history) (core_of y)
    of_store = subst (IsOf (plain_of d.plans empty d.history)) (sym e) (of_acts (plain_of d.plans empty d.history) (core_of d.store) f.of y.acts)

    nothing_cut : ((c : Core) (x : Option OpenEntry) → IsMid c y.half x None None) → CutSo r 0 y y
    nothing_cut free = record {
      may = none_may r;
      forgotten = none_forgotten r running;
      of = subst (λ (x : PlainState). IsOf x (core_of y)) (sym (state_of_none r running)) of_store;
      places = subst HasPlaces (sym e) f.places;
      geometry = refl;
      cylinders = refl;
      lent = refl;
      device = refl;
      acts = refl;
      free = free;
    }

    edited_same : (t : ℕ) (x : Edit) → edited_core (core_of y) t x ≡ record (edited_core (core_of d.store) t x) { acts = y.acts }
    edited_same t x = ap (λ (c : Core). edited_core c t x) e

    its_cut : (h : HalfWrite (Unit {0})) (bypass : Bool) (x : Edit) (k : Option OpenEntry) → r ≡ k →
        Halfway (core_of d.store) h.track x d.history.running f.before d.chain →
        CutSo r 1 y (record (with_edit y h.track x) { half = Some (record h { origin = OfCut bypass }) })
    its_cut h bypass x None none mid = absurd (some_none d.history.running mid.runs (running ∙ none))
    its_cut h bypass x (Some o) is mid =
        let z : MarksStore = record (with_edit y h.track x) { half = Some (record h { origin = OfCut bypass }) } in
        let go = running ∙ is in
        let p = taken_state d.plans state_at o 1 in
        subst (λ (k : Option OpenEntry). CutSo k 1 y z) (sym is) (record {
          may = may_one num empty d f o go h.track x mid;
          forgotten = one_forgotten num empty d f o go h.track x mid;
          of = subst (λ (c : Core). IsOf p (with_half c z.half)) (sym (edited_same h.track x))
              (of_half p (record (edited_core (core_of d.store) h.track x) { acts = y.acts })
              (of_acts p (edited_core (core_of d.store) h.track x) (of_one num empty d f o go h.track x mid) y.acts) z.half);
          places = subst HasPlaces (sym e) f.places;
          geometry = refl;
          cylinders = refl;
          lent = refl;
          device = refl;
          acts = refl;
          free = λ c j. refl;
        })

    origin_so : (h : HalfWrite (Unit {0})) (origin : Origin) → h.origin ≡ origin → d.store.half ≡ Some h → y.half ≡ Some h →
        Had (origin_cut by_plain y h origin) (λ z (_ : Unit {0}). CutSo r (counts_one_by (Some h)) y z)
    origin_so h (OfCommand bypass x) is here there =
        subst (λ (k : Origin). Had (origin_cut by_plain y h (OfCommand bypass x)) (λ z (_ : Unit {0}). CutSo r (if K.is_of_command k then 1 else 0) y z))
        (sym is)
        (had_tell (had_done (its_cut h bypass x r refl
        (subst (λ (k : Origin). IsMidOf (core_of d.store) h.track k d.history.running f.before d.chain) is
        (subst (λ (k : Option (HalfWrite (Unit {0}))). IsMid (core_of d.store) k d.history.running f.before d.chain) here f.mid)))))
    origin_so h (OfCut bypass) is here there =
        rw is (had_done (nothing_cut (λ c x. rw there (subst (λ (k : Origin). IsMidOf c h.track k x None None) (sym is) refl))))
    origin_so h OfBackground is here there =
        rw is (had_done (nothing_cut (λ c x. rw there (subst (λ (k : Origin). IsMidOf c h.track k x None None) (sym is) refl))))

    pub half_so : (h : Option (HalfWrite (Unit {0}))) → d.store.half ≡ h → y.half ≡ h →
        Had (half_cut by_plain y h) (λ z (_ : Unit {0}). CutSo r (counts_one_by h) y z)
    half_so None here there = had_done (nothing_cut (λ c x. rw there refl))
    half_so (Some h) here there = origin_so h h.origin refl here there

  -- these hold whatever is cut
  abbrev MayAll : Option (HalfWrite (Unit {0})) → Type 0
  MayAll h = (o : OpenEntry) → d.history.running ≡ Some o →
      MayTake d.plans (replay d.plans empty d.history.items) o (counts_one_by h)
      × (reset_path (taken_state d.plans (replay d.plans empty d.history.items) o (counts_one_by h)).paths o.path
      ≡ reset_path (open_part d.plans (replay d.plans empty d.history.items) o).state.paths o.path)

  may_origin : (h : HalfWrite (Unit {0})) (origin : Origin) → h.origin ≡ origin → IsMidOf (core_of d.store) h.track origin d.history.running f.before d.chain →
      MayAll (Some h)
  may_origin h (OfCommand bypass x) is mid o running =
      rw is (may_one num empty d f o running h.track x mid, one_forgotten num empty d f o running h.track x mid)
  may_origin h (OfCut bypass) is mid o running = rw is (tt, none_forgotten (Some o) running)
  may_origin h OfBackground is mid o running = rw is (tt, none_forgotten (Some o) running)

  may_half : (h : Option (HalfWrite (Unit {0}))) → IsMid (core_of d.store) h d.history.running f.before d.chain → MayAll h
  may_half (Some h) mid = may_origin h h.origin refl mid
  may_half None mid = λ o running. (tt, none_forgotten (Some o) running)

  pub may : (o : OpenEntry) → d.history.running ≡ Some o → MayTake d.plans (replay d.plans empty d.history.items) o (counts_one_by d.store.half)
  may o running = (may_half d.store.half f.mid o running).0

  pub forgotten : (o : OpenEntry) → d.history.running ≡ Some o →
      reset_path (taken_state d.plans (replay d.plans empty d.history.items) o (counts_one_by d.store.half)).paths o.path
      ≡ reset_path (open_part d.plans (replay d.plans empty d.history.items) o).state.paths o.path
  forgotten o running = (may_half d.store.half f.mid o running).1

  -- A reset

  idle_of : d.history.running ≡ None → IsOf (replay d.plans empty d.history.items) (core_of d.store)
  idle_of none = subst (λ (x : PlainState). IsOf x (core_of d.store)) (ap (λ (r : Option OpenEntry). state_by d.plans state_at r) none) f.of

  -- of what isn't of the history's legality or of the paths
  record IsReset (y : MarksDevice) : Type 0 where
    pub of : IsOf (plain_of y.plans empty y.history) (core_of y.store)
    pub places : HasPlaces (core_of y.store)
    pub geometry : y.store.geometry ≡ d.store.geometry
    pub cylinders : y.store.cylinders ≡ d.store.cylinders
    pub device : y.store.device ≡ d.store.device
    pub before : Option ChainState
    pub runs : RunsAt y.plans (replay y.plans empty y.history.items) y.history.running before
    pub chain : ChainOf d.store.geometry d.store.cylinders before
    pub mid : IsMid (core_of y.store) y.store.half y.history.running before y.chain
    pub home : IsAtHome y.store.lent y.history.running

  module _ (path : ℕ) where
    abbrev cut_device : MarksStore → ℕ → MarksDevice
    cut_device z more = record (reset_noted by_plain d path more) { store = z; chain = None; paths = all_reset (reset_path d.paths path) d.history.waiting }

    own_reset : (o : OpenEntry) → d.history.running ≡ Some o → (o.path == path) ≡ true → (z : MarksStore) →
        CutSo (Some o) (counts_one_by d.store.half) d.store z → IsReset (cut_device z (counts_one_by d.store.half))
    own_reset o running own z cut =
        let n = counts_one_by d.store.half in
        let is : history_reset d.history path n ≡ cut_by d.history o n =
        ap (λ (r : Option OpenEntry). reset_in d.history path n r) running
        ∙ ap (λ (b : Bool). cond b (cut_by d.history o n)
        (if is_used path false d.history.items then record d.history { waiting = put path d.history.waiting } else d.history)) own in
        let stopped : (history_reset d.history path n).running ≡ None = ap (λ (h : History). h.running) is in
        let taken = taken_state d.plans state_at o n in
        record {
          of = rw (ap (λ (h : History). plain_of d.plans empty h) is ∙ cut_state d.plans empty d.history f.stands.plain o running n (may o running))
              (of_paths taken (core_of z) cut.of (all_reset (reset_path taken.paths o.path) d.history.waiting));
          places = cut.places;
          geometry = cut.geometry;
          cylinders = cut.cylinders;
          device = cut.device;
          before = None;
          runs = runs_idle d.plans (replay d.plans empty (history_reset d.history path n).items) (history_reset d.history path n).running None stopped;
          chain = tt;
          mid = cut.free (core_of z) (history_reset d.history path n).running;
          home = home_idle z.lent (history_reset d.history path n).running stopped;
        }

    other_reset : (o : OpenEntry) → d.history.running ≡ Some o → (o.path == path) ≡ false → IsReset (reset_noted by_plain d path 0)
    other_reset o running other =
        let waits = if is_used path false d.history.items then record d.history { waiting = put path d.history.waiting } else d.history in
        let is : history_reset d.history path 0
        ≡ (if is_used path false d.history.items then record d.history { waiting = put path d.history.waiting } else d.history) =
        ap (λ (r : Option OpenEntry). reset_in d.history path 0 r) running
        ∙ ap (λ (b : Bool). cond b (cut_by d.history o 0)
        (if is_used path false d.history.items then record d.history { waiting = put path d.history.waiting } else d.history)) other in
        let still : (history_reset d.history path 0).running ≡ d.history.running =
        ap (λ (h : History). h.running) is
        ∙ cond_both (is_used path false d.history.items) (record d.history { waiting = put path d.history.waiting }) d.history
        (λ (h : History). h.running ≡ d.history.running) (λ _. refl) (λ _. refl) in
        record {
          of = subst (λ (x : PlainState). IsOf x (core_of d.store)) (sym (waiting_state d.plans empty d.history f.stands.plain o running path 0 other)) f.of;
          places = f.places;
          geometry = refl;
          cylinders = refl;
          device = refl;
          before = f.before;
          runs = rw is (cond_both (is_used path false d.history.items) (record d.history { waiting = put path d.history.waiting }) d.history
              (λ (h : History). RunsAt d.plans (replay d.plans empty h.items) h.running f.before) (λ _. f.runs) (λ _. f.runs));
          chain = f.chain;
          mid = rw still f.mid;
          home = subst (IsAtHome d.store.lent) (sym still) f.home;
        }

    idle_reset : d.history.running ≡ None → has_used d.history path ≡ true → IsReset (record (reset_noted by_plain d path 0) {
      paths = reset_path d.paths
          path;
    })
    idle_reset none used =
        let used_items : is_used path false d.history.items ≡ true =
        sym (ap (λ (r : Option OpenEntry). is_path_of r path || is_used path false d.history.items) none) ∙ used in
        let stopped : (history_reset d.history path 0).running ≡ None =
        ap (λ (r : Option OpenEntry). (reset_in d.history path 0 r).running) none
        ∙ cond_both (is_used path false d.history.items) (record d.history { items = d.history.items ++ items.Reset path ∷ [] }) d.history
        (λ (h : History). h.running ≡ None) (λ _. none) (λ _. none) in
        record {
          of = rw (idle_reset_state d.plans empty d.history f.stands.plain none path 0 used_items)
              (of_paths state_at (core_of d.store) (idle_of none) (reset_path state_at.paths path));
          places = f.places;
          geometry = refl;
          cylinders = refl;
          device = refl;
          before = f.before;
          runs = runs_idle d.plans (replay d.plans empty (history_reset d.history path 0).items) (history_reset d.history path 0).running f.before stopped;
          chain = f.chain;
          mid = rw (← (none ∙ sym stopped)) f.mid;
          home = home_idle d.store.lent (history_reset d.history path 0).running stopped;
        }

    by_running : (r : Option OpenEntry) → d.history.running ≡ r → Had (reset_by by_plain d path r) (λ y (_ : Unit {0}). IsReset y)
    by_running (Some o) running =
        had_if (o.path == path)
        (λ own. had_then (half_so d.store refl (Some o) running d.store.half refl refl) (λ z _ cut. had_done (own_reset o running own z cut)))
        (λ other. had_done (other_reset o running other))
    by_running None none =
        had_if (has_used d.history path) (λ used. had_done (idle_reset none used))
        (λ _. had_done (record {
          of = f.of;
          places = f.places;
          geometry = refl;
          cylinders = refl;
          device = refl;
          before = f.before;
          runs = f.runs;
          chain = f.chain;
          mid = f.mid;
          home = f.home;
        }))

    resets : Had (reset by_plain d path) (λ y (_ : Unit {0}). IsReset y)
    unfolding K.reset
    resets = by_running d.history.running refl

    chain_by : (g h : Geometry) (m n : ℕ) (c : Option ChainState) → h ≡ g → n ≡ m → ChainOf g m c → ChainOf h n c
    chain_by g h m n None sized many its = tt
    chain_by g h m n (Some k) sized many its = (its.0 ∙ sym sized, its.1 ∙ sym many)

    pub reset_follows : Had (reset by_plain d path) (λ y (_ : Unit {0}). Follows num empty y)
    reset_follows =
        had_weaker
        (had_both resets (had_both (had_always (reset_stands by_plain empty d f.stands path may))
        (had_always (reset_keeps_paths by_plain empty d f.stands f.keeps path may forgotten))))
        (λ y _ g. record {
          number = g.0.device ∙ f.number;
          base = f.base ∙ ap (λ (x : Geometry). first_state x d.store.cylinders empty.volume) (sym g.0.geometry)
              ∙ ap (λ (n : ℕ). first_state y.store.geometry n empty.volume) (sym g.0.cylinders);
          some = subst (λ (m : ℕ). 0 < m) (sym g.0.cylinders) f.some;
          stands = g.1.0;
          keeps = g.1.1;
          of = g.0.of;
          places = g.0.places;
          before = g.0.before;
          runs = g.0.runs;
          chain = chain_by d.store.geometry y.store.geometry d.store.cylinders y.store.cylinders g.0.before g.0.geometry g.0.cylinders g.0.chain;
          mid = g.0.mid;
          home = g.0.home;
        })
