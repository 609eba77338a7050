-- A command of a run's device keeps its history a plain device's, whatever calls fail and whatever the pool answers.
use Rattle.std.specs.Prelude.{IsSome}
use Rattle.std.proofs.lemmas.List.{get_or-set_same, length-set}
use Rattle.std.proofs.Common.{
  set,
  get_or,
  ◌≡◌,
  ◌<◌,
  ◌≤◌,
  ◌*◌,
  zero,
  suc,
  ℕ,
  Bool,
  true,
  false,
  List,
  [],
  ◌∷◌,
  length,
  Option,
  Some,
  None,
  refl,
  sym,
  ap,
  subst,
  ◌∙◌,
  arith,
}
use Rattle.ckd_types.specs.declared.channel.Ccw.{Ccw}
use Rattle.ckd_types.specs.declared.geometry.Geometry.{Geometry}
use Rattle.ckd_types.specs.declared.record.Edit.{Edit}
use Rattle.ckd_types.specs.declared.record.Track.{Track}
use Rattle.ckd_types.specs.Ccw.{ccw_at}
use Rattle.ckd_types.specs.Fixed.{Fixed}
use Rattle.ckd_types.specs.Parameters.{is_provisional}
use Rattle.ckd_types.specs.Volume.{track_in}
use Rattle.ckd_chain.specs.declared.mark.Stage.{Stage}
use Rattle.ckd_chain.specs.declared.progress.Settled.TheVariants.{Written, Equipment, DataCheck}
use Rattle.ckd_chain.specs.Fed.{Fed, ended_by, fed}
use Rattle.ckd_chain.specs.State.{ChainState}
use Rattle.ckd_chain.specs.Steps.{
  begin_with,
  opening_at,
  stage_for,
  opened_by,
  stage_by,
  track_needed,
  need_of,
  index_of,
  word_of,
  behind,
  end_with,
  stepped,
  stepped_by,
  settled_by,
}
use Rattle.ckd_rules.specs.declared.opening.Opening.{Opening}
use Rattle.ckd_rules.specs.declared.opening.Opening.TheVariants as openings
use Rattle.ckd_rules.specs.declared.stance.Stance.{Stance}
use Rattle.ckd_rules.specs.Opening.{Opened}
use Rattle.ckd_rules.specs.Walk.{TrackEdit}
use Rattle.plain_defs.specs.declared.journal.Act.{Act}
use Rattle.plain_defs.specs.declared.journal.Act.TheVariants.{Loosen}
use Rattle.plain_defs.specs.Effect.{Effect, command_effect, edited_volume}
use Rattle.plain_defs.specs.History.{OpenEntry, History, open_part, plain_of, state_by, acted, acted_in, IsPlain}
use Rattle.plain_defs.specs.Journal.{program_of, replay}
use Rattle.plain_defs.specs.Legal.{AreActs, MayEdit, IsLegal, edit_at, track_of}
use Rattle.plain_defs.specs.Loose.{is_loose_in, act_done}
use Rattle.plain_defs.specs.PlainState.{PathsState, PlainState, with_sense}
use Rattle.plain_defs.specs.Program.{Part, acts_done}
use Rattle.plain_device.specs.Acted.{settled_act, paths_behind}
use Rattle.device_outside.specs.Interaction.{Interaction}
use Rattle.track_image.specs.Image.{Image}
use Rattle.device_defs.specs.declared.answers.Came.TheVariants.{Ends}
use Rattle.device_defs.specs.declared.answers.Stepped.{Stepped}
use Rattle.device_defs.specs.Command as N
use Rattle.device_defs.specs.Command.{has_loss, on_tracks, answered_by, command_at, command_by, command}
use Rattle.device_defs.specs.Contents.{by_plain}
use Rattle.device_defs.specs.Device.{all_acted, with_store, event_begun, event}
use Rattle.device_defs.specs.Marks.{MarksDevice, MarksStore}
use Rattle.device_defs.specs.Outcomes.{Turn, checks, turned}
use Rattle.device_defs.specs.Owed.{noted_begin, waiting_count}
use Rattle.device_defs.specs.Store.{OfCommand, HalfWrite, tracks_of}
use Rattle.device_laws.specs.NewDevice.{first_state}
use Rattle.device_laws.proofs.DeviceCuts.{StandsPlainly}
use Rattle.device_laws.proofs.DeviceEnds.{all_acted-append}
use Rattle.device_laws.proofs.DeviceHistory.{index_is}
use Rattle.device_laws.proofs.DevicePaths.{acts_keep_them, acts_keep_paths}
use Rattle.device_laws.proofs.DueResets.{acted_due, all_acted_due}
use Rattle.device_laws.proofs.Had.{Had, had_done, had_try, had_if, had_then}
use Rattle.device_laws.proofs.HistoryActs.{acts_first, acts_rest, acted_plain, acted_state, all_acted_plain, all_acted_state}
use Rattle.device_laws.proofs.HistoryEnds.{edited_next, effect_at, running_is_open}
use Rattle.device_laws.proofs.OpenProgram.{IsGoing, with_one_act, going_of_open, going_with_act, part_with_act}
use Rattle.device_laws.proofs.PlainLooks.{IsAtWord, from_itself, EditSo, TurnIs, ended_so, equipment, data_check, half_open, FollowSo, follow_so}
use Rattle.device_laws.proofs.PlainRules.{eff_of, AnswerIs, needs_by, fed_so, looking_keeps, over_answer, asked_answer, by_opening}
use Rattle.device_laws.proofs.PlainStores.{
  Core,
  core_of,
  loose_at,
  Open,
  open_of,
  IsOf,
  HasPlaces,
  Walks,
  with_half,
  of_half,
  edited,
  of_edited,
  of_loosely_edited,
  of_loosened,
  loosely_edited_core,
  loosened_core,
}
use Rattle.device_laws.proofs.PlainTurns.{
  AtPart,
  RunsAt,
  ChainOf,
  IsMid,
  IsAtHome,
  Follows,
  none_mid,
  at_home,
  home_runs,
  of_paths,
  of_begun,
  StillRuns,
  act_at,
  one_act_runs,
  end_follows,
  equipment_follows,
  data_check_follows,
}
use Rattle.device_laws.proofs.PlainWalks.{HalfSo, opened_half, IsEdited, firmly, loosely, loosened, hear_same, ended_same}
use Rattle.device_laws.proofs.WaitingResets.{AreDue}

-- An edit on a plain device

abbrev pub IsEditOf : PlainState → Option TrackEdit → Core → Type 0
IsEditOf p None c = IsOf p c
IsEditOf p (Some x) c = IsOf (edited p x.track x.edit) c

pub of_edit : (p : PlainState) (edit : Option TrackEdit) (paths : PathsState) (c : Core) → IsEditOf p edit c →
    IsOf (record p { volume = edited_volume p.volume edit; paths = paths }) c
of_edit p None paths c of = of_paths p c of paths
of_edit p (Some x) paths c of = of_paths (edited p x.track x.edit) c of paths

pub one_more : (m : ℕ) → 0 < m → (k : ℕ) × (suc k ≡ m)
one_more zero lt = absurd (omega (arith, lt))
one_more (suc k) lt = (k, refl)

-- The command

module _ (num : ℕ) (empty : PlainState) (d : MarksDevice) (f : Follows num empty d) (o : OpenEntry) (running : d.history.running ≡ Some o) (chain : ChainState)
    (is : f.before ≡ Some chain) where
  abbrev p : PlainState
  p = plain_of d.plans empty d.history

  pub at : AtPart d.plans (replay d.plans empty d.history.items) o chain
  at = subst (λ (k : Option ChainState). RunsAt d.plans (replay d.plans empty d.history.items) (Some o) k) is
      (rw (← running) f.runs)

  pub on : (chain.fixed.geometry ≡ d.store.geometry) × (chain.fixed.cylinders ≡ d.store.cylinders)
  on = subst (ChainOf d.store.geometry d.store.cylinders) is f.chain

  pub all_run : (path : ℕ) (acts : List Act) (h : History) → IsPlain d.plans empty h → AreDue h → AreActs (plain_of d.plans empty h) None acts →
      StillRuns d.plans empty chain path h → StillRuns d.plans empty chain path (all_acted h acts)
  all_run path [] h plain due are r = r
  all_run path (act ∷ acts) h plain due are r =
      let first = acts_first (plain_of d.plans empty h) act acts are in
      all_run path acts (acted h act) (acted_plain d.plans empty h plain act first) (acted_due h due act)
      (subst (λ (x : PlainState). AreActs x None acts) (sym (acted_state d.plans empty h plain act)) (acts_rest (plain_of d.plans empty h) act acts are))
      (one_act_runs d.plans empty chain path h plain due r act)

  pub runs_first : StillRuns d.plans empty chain o.path d.history
  runs_first = record { entry = o; running = running; path_is = refl; at = at }

  -- a store of the same size
  pub record Sized (y : MarksStore) : Type 0 where
    pub places : HasPlaces (core_of y)
    pub whole : y.half ≡ None
    pub home : y.lent ≡ None
    pub number : y.device ≡ num
    pub geometry : y.geometry ≡ d.store.geometry
    pub cylinders : y.cylinders ≡ d.store.cylinders

  base_of : (y : MarksStore) → Sized y → empty ≡ first_state y.geometry y.cylinders empty.volume
  base_of y z =
      f.base ∙ ap (λ (g : Geometry). first_state g d.store.cylinders empty.volume) (sym z.geometry)
      ∙ ap (λ (n : ℕ). first_state y.geometry n empty.volume) (sym z.cylinders)

  some_of : (y : MarksStore) → Sized y → 0 < y.cylinders
  some_of y z = subst (λ (n : ℕ). 0 < n) (sym z.cylinders) f.some

  on_of : (y : MarksStore) → Sized y → ChainOf y.geometry y.cylinders (Some chain)
  on_of y z = (on.0 ∙ sym z.geometry, on.1 ∙ sym z.cylinders)

  pub same_effect : (h : History) (entry : OpenEntry) → entry.path ≡ o.path → (here : AtPart d.plans (replay d.plans empty h.items) entry chain) →
      (open_part d.plans (replay d.plans empty h.items) entry).state.volume ≡ d.store.plain →
      (open_part d.plans (replay d.plans empty h.items) entry).state.paths ≡ d.paths →
      eff_of chain at.fresh d.paths o.path d.store.plain ≡ effect_at d.plans (replay d.plans empty h.items) h.items entry (index_of chain.at.next)
  same_effect h entry path_is here volume kept =
      let part = open_part d.plans (replay d.plans empty h.items) entry in
      ap (λ (x : Fixed). command_effect x d.paths (track_in d.store.plain) o.path chain.at.stance (word_of chain)) here.fixed
      ∙ ap (λ (x : PathsState). command_effect part.fixed x (track_in d.store.plain) o.path chain.at.stance (word_of chain)) (sym kept)
      ∙ ap (λ (x : List Track). command_effect part.fixed part.state.paths (track_in x) o.path chain.at.stance (word_of chain)) (sym volume)
      ∙ ap (λ (x : ℕ). command_effect part.fixed part.state.paths (track_in part.state.volume) x chain.at.stance (word_of chain)) (sym path_is)
      ∙ ap (λ (x : Stance). command_effect part.fixed part.state.paths (track_in part.state.volume) entry.path x (word_of chain)) here.stance
      ∙ ap (λ (x : List Ccw). command_effect part.fixed part.state.paths (track_in part.state.volume) entry.path part.stance
      (ccw_at x (index_of chain.at.next))) here.hand.words

  -- it ends as on the plain device of a history that has acts since
  module _ (y : MarksStore) (z : Sized y) (h : History) (paths : PathsState) (legal : IsLegal d.plans empty h.items) (due : AreDue h)
      (entry : OpenEntry) (runs : h.running ≡ Some entry) (path_is : entry.path ≡ o.path)
      (here : AtPart d.plans (replay d.plans empty h.items) entry chain) where
    abbrev part : Part
    part = open_part d.plans (replay d.plans empty h.items) entry

    module _ (volume : part.state.volume ≡ d.store.plain) (kept : part.state.paths ≡ d.paths) where
      ends_follow : IsGoing d.plans (replay d.plans empty h.items) h.items entry (edited_next d.plans (replay d.plans empty h.items) h.items entry) →
          MayEdit part.state part.stance (eff_of chain at.fresh d.paths o.path d.store.plain).edit →
          with_sense paths o.path (eff_of chain at.fresh d.paths o.path d.store.plain).outcome.ending.sense
          ≡ (eff_of chain at.fresh d.paths o.path d.store.plain).paths →
          IsEditOf part.state (eff_of chain at.fresh d.paths o.path d.store.plain).edit (core_of y) →
          Follows num empty (turned (record d { store = y; history = h; paths = paths }) o.path
          (record {
            came = Ends (end_with chain (eff_of chain at.fresh d.paths o.path d.store.plain).outcome);
            chain = behind chain (eff_of chain at.fresh d.paths o.path d.store.plain).outcome;
          }))
      ends_follow going may sense of =
          let e = eff_of chain at.fresh d.paths o.path d.store.plain in
          let same = same_effect h entry path_is here volume kept in
          let x : MarksDevice = record d { store = y; history = h; paths = paths } in
          subst (λ (path : ℕ). Follows num empty (turned x path (record { came = Ends (end_with chain e.outcome); chain = behind chain e.outcome }))) path_is
          (end_follows empty x (base_of y z) (some_of y z) z.places z.whole z.home num z.number entry runs chain legal due here going e.outcome
          (ap (λ (w : Effect). w.outcome) same)
          (subst (λ (w : Effect). MayEdit part.state part.stance w.edit) same may)
          (ap (λ (path : ℕ). with_sense paths path e.outcome.ending.sense) path_is ∙ sense ∙ ap (λ (w : Effect). w.paths) same)
          (rw (← same) (of_edit part.state e.edit e.paths (core_of y) of))
          (on_of y z))

  -- Behind acts by which no track becomes loose

  module _ (acts : List Act) (are : AreActs (plain_of d.plans empty d.history) None acts) where
    plain_on : IsPlain d.plans empty (all_acted d.history acts)
    plain_on = all_acted_plain d.plans empty acts d.history f.stands.plain are

    due_on : AreDue (all_acted d.history acts)
    due_on = all_acted_due acts d.history f.stands.due

    state_on : plain_of d.plans empty (all_acted d.history acts) ≡ acts_done p acts
    state_on = all_acted_state d.plans empty acts d.history f.stands.plain are

    pub runs_on : StillRuns d.plans empty chain o.path (all_acted d.history acts)
    runs_on = all_run o.path acts d.history f.stands.plain f.stands.due are runs_first

    pub part_on : (open_part d.plans (replay d.plans empty (all_acted d.history acts).items) runs_on.entry).state ≡ acts_done p acts
    part_on = sym (ap (λ (r : Option OpenEntry). state_by d.plans (replay d.plans empty (all_acted d.history acts).items) r) runs_on.running) ∙ state_on

    pub paths_on : (acts_done p acts).paths ≡ d.paths
    paths_on = acts_keep_paths d.plans p acts ∙ sym f.keeps

    going_none : IsGoing d.plans (replay d.plans empty (all_acted d.history acts).items) (all_acted d.history acts).items runs_on.entry None
    going_none = going_of_open d.plans (replay d.plans empty (all_acted d.history acts).items) (all_acted d.history acts).items runs_on.entry None
        (running_is_open d.plans empty (all_acted d.history acts) plain_on due_on runs_on.entry runs_on.running)

  abbrev pub the_effect : Effect
  the_effect = eff_of chain at.fresh d.paths o.path d.store.plain

  abbrev pub the_turn : Turn
  the_turn = record { came = Ends (end_with chain the_effect.outcome); chain = behind chain the_effect.outcome }

  module _ (y : MarksStore) (z : Sized y) (are : AreActs (plain_of d.plans empty d.history) None y.acts) where
    check_stands : StandsPlainly empty (with_store d y)
    check_stands = record { plain = plain_on y.acts are; due = due_on y.acts are }

    pub equipment_on : IsOf (acts_done p y.acts) (core_of y) → (last : ChainState) → IsAtWord chain last → Follows num empty (turned (with_store d y) o.path
        (checks last Equipment))
    equipment_on of last word =
        let r = runs_on y.acts are in
        rw (← r.path_is)
        (equipment_follows empty (with_store d y) (base_of y z) (some_of y z) z.places z.whole z.home num z.number r.entry r.running chain check_stands
        (acts_keep_them empty d y f.stands are f.keeps) (subst (λ (x : PlainState). IsOf x (core_of y)) (sym (state_on y.acts are)) of) r.at.hand last word)

    data_check_on : IsOf (acts_done p y.acts) (core_of y) → (last : ChainState) → IsAtWord chain last → Follows num empty (turned (with_store d y) o.path
        (checks last DataCheck))
    data_check_on of last word =
        let r = runs_on y.acts are in
        rw (← r.path_is)
        (data_check_follows empty (with_store d y) (base_of y z) (some_of y z) z.places z.whole z.home num z.number r.entry r.running chain check_stands
        (acts_keep_them empty d y f.stands are f.keeps) (subst (λ (x : PlainState). IsOf x (core_of y)) (sym (state_on y.acts are)) of) r.at.hand last word)

    whole_on : (paths : PathsState) → with_sense paths o.path the_effect.outcome.ending.sense ≡ the_effect.paths → (acts_done p y.acts).volume ≡ d.store.plain →
        MayEdit (acts_done p y.acts) chain.at.stance the_effect.edit → IsEditOf (acts_done p y.acts) the_effect.edit (core_of y) →
        Follows num empty (turned (record d { store = y; history = all_acted d.history y.acts; paths = paths }) o.path the_turn)
    whole_on paths sense volume may of =
        let h = all_acted d.history y.acts in
        let s = replay d.plans empty h.items in
        let r = runs_on y.acts are in
        let state = part_on y.acts are in
        ends_follow y z h paths (plain_on y.acts are).legal (due_on y.acts are) r.entry r.running r.path_is r.at
        (ap (λ (x : PlainState). x.volume) state ∙ volume) (ap (λ (x : PlainState). x.paths) state ∙ paths_on y.acts are)
        (going_of_open d.plans s h.items r.entry (edited_next d.plans s h.items r.entry)
        (running_is_open d.plans empty h (plain_on y.acts are) (due_on y.acts are) r.entry r.running)) (rw state (rw (← r.at.stance) may))
        sense (rw state of)

  -- Behind an act by which its track becomes loose, too

  module _ (y : MarksStore) (z : Sized y) (c : Core) (w : Walks (plain_of d.plans empty d.history) d.store.plain d.store.geometry d.store.cylinders
      (None, (d.store.lent, d.store.device)) c)
      (t : ℕ) (e : Edit) (firm : loose_at c t ≡ false) (inside : t < length c.loose) (provisional : is_provisional chain.at.stance.extent ≡ true)
      (core_is : core_of y ≡ loosely_edited_core (loosened_core c t) t e) (edit_is : the_effect.edit ≡ Some (record { track = t; edit = e })) where
    abbrev h1 : History
    h1 = all_acted d.history c.acts

    abbrev s1 : PlainState
    s1 = replay d.plans empty (all_acted d.history c.acts).items

    abbrev r1 : StillRuns d.plans empty chain o.path (all_acted d.history c.acts)
    r1 = runs_on c.acts w.are

    abbrev later : OpenEntry
    later = with_one_act r1.entry (Loosen t)

    abbrev loose_history : History
    loose_history = record (all_acted d.history c.acts) { running = Some (with_one_act r1.entry (Loosen t)) }

    history_is : all_acted d.history y.acts ≡ loose_history
    history_is =
        ap (λ (x : Core). all_acted d.history x.acts) core_is
        ∙ all_acted-append d.history c.acts (Loosen t)
        ∙ ap (λ (r : Option OpenEntry). acted_in (all_acted d.history c.acts) (Loosen t) r) r1.running

    part_later : (open_part d.plans s1 later).state ≡ act_done (acts_done p c.acts) (Loosen t)
    part_later =
        ap (λ (x : Part). x.state) (part_with_act d.plans s1 h1.items r1.entry (going_none c.acts w.are) (Loosen t))
        ∙ ap (λ (x : PlainState). act_done x (Loosen t)) (part_on c.acts w.are)

    here_later : AtPart d.plans s1 later chain
    here_later = act_at d.plans empty chain h1 (plain_on c.acts w.are) r1.entry r1.running (due_on c.acts w.are) r1.at (Loosen t)

    due_later : AreDue loose_history
    due_later = subst (λ (r : Option OpenEntry). AreDue (acted_in h1 (Loosen t) r)) r1.running (acted_due h1 (due_on c.acts w.are) (Loosen t))

    volume_later : (open_part d.plans s1 later).state.volume ≡ d.store.plain
    volume_later = ap (λ (x : PlainState). x.volume) part_later ∙ w.of.volume ∙ w.plain

    paths_later : (open_part d.plans s1 later).state.paths ≡ d.paths
    paths_later = ap (λ (x : PlainState). x.paths) part_later ∙ paths_on c.acts w.are

    firm_before : is_loose_in (open_part d.plans s1 r1.entry).state.loose t ≡ false
    firm_before = ap (λ (x : PlainState). is_loose_in x.loose t) (part_on c.acts w.are) ∙ w.of.loose t ∙ firm

    going_later : IsGoing d.plans s1 h1.items later (Some t)
    going_later = going_with_act d.plans s1 h1.items r1.entry (going_none c.acts w.are) (Loosen t) (Some t) (firm_before, refl)

    next_later : (open_part d.plans s1 later).next ≡ Some (index_of chain.at.next)
    next_later = sym here_later.hand.next ∙ index_is chain.at.next (subst (λ (n : Option ℕ). IsSome n) (sym here_later.hand.next) going_later.runs)

    edited_is : edited_next d.plans s1 h1.items later ≡ Some t
    edited_is =
        ap (λ (n : Option ℕ). track_of (edit_at later.path (program_of d.plans later.path later.ordinal) (open_part d.plans s1 later) n)) next_later
        ∙ ap (λ (x : Effect). track_of x.edit)
        (sym (same_effect loose_history later r1.path_is here_later volume_later paths_later))
        ∙ ap track_of edit_is

    loose_now : get_or (set c.loose t true) t false ≡ true
    loose_now = get_or-set_same c.loose t true false inside

    of_later : IsOf (edited (open_part d.plans s1 later).state t e) (core_of y)
    of_later =
        rw part_later (rw core_is (of_loosely_edited (act_done (acts_done p c.acts) (Loosen t)) (loosened_core c t)
        (of_loosened (acts_done p c.acts) c w.of t firm inside) t loose_now e))

    loosening_on : with_sense d.paths o.path the_effect.outcome.ending.sense ≡ the_effect.paths → Follows num empty (turned (with_store d y) o.path the_turn)
    loosening_on sense =
        rw history_is
        (ends_follow y z loose_history d.paths (plain_on c.acts w.are).legal due_later later refl r1.path_is here_later volume_later paths_later
        (subst (λ (x : Option ℕ). IsGoing d.plans s1 h1.items later x) (sym edited_is) going_later)
        (rw edit_is (λ loose. ap (λ (x : Stance). is_provisional x.extent) (sym here_later.stance) ∙ provisional))
        sense (rw edit_is of_later))

  -- Whatever it came to

  abbrev pub Walking : Core → Type 0
  Walking c = Walks (plain_of d.plans empty d.history) d.store.plain d.store.geometry d.store.cylinders (None, (d.store.lent, d.store.device)) c

  lent_none : d.store.lent ≡ None
  lent_none = home_runs d.store.lent d.history.running f.home (subst (λ (r : Option OpenEntry). IsSome r) (sym running) refl)

  pub sized_by : (y : MarksStore) (c x : Core) → core_of y ≡ c → Walking x → HasPlaces c → c.geometry ≡ x.geometry → c.cylinders ≡ x.cylinders →
      open_of c ≡ open_of x → Sized y
  sized_by y c x e w places g n more =
      let opens = ap open_of e ∙ more ∙ w.rest in
      record {
        places = subst HasPlaces (sym e) places;
        whole = ap (λ (k : Open). k.0) opens;
        home = ap (λ (k : Open). k.1.0) opens ∙ lent_none;
        number = ap (λ (k : Open). k.1.1) opens ∙ f.number;
        geometry = ap (λ (k : Core). k.geometry) e ∙ g ∙ w.geometry;
        cylinders = ap (λ (k : Core). k.cylinders) e ∙ n ∙ w.cylinders;
      }

  -- of a track that was firm or loose
  pub acts_are : (y : MarksStore) (c x : Core) → core_of y ≡ c → c.acts ≡ x.acts → Walking x → AreActs p None y.acts
  acts_are y c x e same w = subst (λ (l : List Act). AreActs p None l) (sym (ap (λ (k : Core). k.acts) e ∙ same)) w.are

  pub state_of : (y : MarksStore) (c x : Core) → core_of y ≡ c → c.acts ≡ x.acts → acts_done p y.acts ≡ acts_done p x.acts
  state_of y c x e same = ap (acts_done p) (ap (λ (k : Core). k.acts) e ∙ same)

  pub edited_follows : (y : MarksStore) (c : Core) (t : ℕ) (e : Edit) → core_of y ≡ c → the_effect.edit ≡ Some (record { track = t; edit = e }) →
      with_sense d.paths o.path the_effect.outcome.ending.sense ≡ the_effect.paths →
      IsEdited (plain_of d.plans empty d.history) d.store.plain d.store.geometry d.store.cylinders (None, (d.store.lent, d.store.device))
      (is_provisional chain.at.stance.extent) t e c →
      Follows num empty (turned (with_store d y) o.path the_turn)
  edited_follows y c t e same edit_is sense (firmly x d2 w firm how) =
      let are = acts_are y d2 x same (ap (λ (k : Core). k.acts) how) w in
      let state = state_of y d2 x same (ap (λ (k : Core). k.acts) how) in
      let z = sized_by y d2 x same w (subst HasPlaces (sym how) w.places) (ap (λ (k : Core). k.geometry) how) (ap (λ (k : Core). k.cylinders) how)
      (ap open_of how) in
      whole_on y z are d.paths sense (ap (λ (s : PlainState). s.volume) state ∙ w.of.volume ∙ w.plain) (rw edit_is
      (λ loose. absurd (let both : true ≡ false = sym loose ∙ ap (λ (s : PlainState). is_loose_in s.loose t) state ∙ w.of.loose t ∙ firm in cc)))
      (rw edit_is (rw state
      (subst (λ (k : Core). IsOf (edited (acts_done p x.acts) t e) k) (sym (same ∙ how)) (of_edited (acts_done p x.acts) x w.of t firm e))))
  edited_follows y c t e same edit_is sense (loosely x d2 w loose provisional how) =
      let are = acts_are y d2 x same (ap (λ (k : Core). k.acts) how) w in
      let state = state_of y d2 x same (ap (λ (k : Core). k.acts) how) in
      let z = sized_by y d2 x same w (subst HasPlaces (sym how) w.places) (ap (λ (k : Core). k.geometry) how) (ap (λ (k : Core). k.cylinders) how)
      (ap open_of how) in
      whole_on y z are d.paths sense (ap (λ (s : PlainState). s.volume) state ∙ w.of.volume ∙ w.plain) (rw edit_is (λ is_loose. provisional))
      (rw edit_is (rw state
      (subst (λ (k : Core). IsOf (edited (acts_done p x.acts) t e) k) (sym (same ∙ how)) (of_loosely_edited (acts_done p x.acts) x w.of t loose e))))
  edited_follows y c t e same edit_is sense (loosened x d2 w firm inside provisional how) =
      let z = sized_by y d2 x same w (subst HasPlaces (sym how) (w.places ∙ sym (length-set x.loose t true))) (ap (λ (k : Core). k.geometry) how)
      (ap (λ (k : Core). k.cylinders) how) (ap open_of how) in
      loosening_on y z x w t e firm inside provisional (same ∙ how) edit_is sense

  walked_follows : (y : MarksStore) (c : Core) → core_of y ≡ c → the_effect.edit ≡ None → (paths : PathsState) →
      with_sense paths o.path the_effect.outcome.ending.sense ≡ the_effect.paths → Walking c →
      Follows num empty (turned (record d { store = y; history = all_acted d.history y.acts; paths = paths }) o.path the_turn)
  walked_follows y c same edit_is paths sense w =
      let are = acts_are y c c same refl w in
      let state = state_of y c c same refl in
      whole_on y (sized_by y c c same w w.places refl refl refl) are paths sense (ap (λ (s : PlainState). s.volume) state ∙ w.of.volume ∙ w.plain)
      (rw edit_is tt)
      (rw edit_is (subst (λ (s : PlainState). IsOf s (core_of y)) (sym state) (subst (λ (k : Core). IsOf (acts_done p c.acts) k) (sym same) w.of)))

  module _ (first : ℕ) where
    abbrev EditIs : Option TrackEdit → Core → Type 0
    EditIs edit c = EditSo (plain_of d.plans empty d.history) d.store.plain d.store.geometry d.store.cylinders (None, (d.store.lent, d.store.device))
        (settled_act chain.fixed.geometry d.paths o.path) chain on.0 first edit c

    abbrev HalfIs : ℕ → Edit → Core → Type 0
    HalfIs t e c = HalfSo (plain_of d.plans empty d.history) d.store.plain d.store.geometry d.store.cylinders (None, (d.store.lent, d.store.device)) first t e c

    edit_follows : (y : MarksStore) (c : Core) (edit : Option TrackEdit) → core_of y ≡ c → the_effect.edit ≡ edit →
        with_sense d.paths o.path the_effect.outcome.ending.sense ≡ the_effect.paths → EditIs edit c →
        Follows num empty (turned (with_store d y) o.path the_turn)
    edit_follows y c None same edit_is sense w = walked_follows y c same edit_is d.paths sense w
    edit_follows y c (Some x) same edit_is sense w = edited_follows y c x.track x.edit same edit_is sense w

    -- the first part of its write is done
    half_follows : (y : MarksStore) (c : Core) (t : ℕ) (e : Edit) (next : ChainState) → core_of y ≡ c → need_of chain ≡ Some first → first ≤ t →
        IsAtWord chain next → ((v : List Track) → ((q : ℕ) → first ≤ q → q ≤ t → track_in v q ≡ track_in d.store.plain q) →
        fed (d.store.cylinders * 15) (track_in v) (settled_act chain.fixed.geometry d.paths o.path) chain
        ≡ ended_by next (settled_by next Written) (Some (record { track = t; edit = e }))) → HalfIs t e c →
        Follows num empty (record (with_store d y) { chain = Some next })
    half_follows y c t e next same needs below word does half =
        let x = half.before in
        let w = half.on in
        let h = opened_half t (OfCommand half.bypass e) in
        let core_is : core_of y ≡ with_half x h = same ∙ half.is in
        let are = acts_are y (with_half x h) x core_is refl w in
        let r = runs_on y.acts are in
        let g : y.geometry ≡ d.store.geometry = ap (λ (k : Core). k.geometry) core_is ∙ w.geometry in
        let n : y.cylinders ≡ d.store.cylinders = ap (λ (k : Core). k.cylinders) core_is ∙ w.cylinders in
        record {
          number = ap (λ (k : Core). k.device) core_is ∙ ap (λ (k : Open). k.1.1) w.rest ∙ f.number;
          base = f.base ∙ ap (λ (k : Geometry). first_state k d.store.cylinders empty.volume) (sym g)
              ∙ ap (λ (k : ℕ). first_state y.geometry k empty.volume) (sym n);
          some = subst (λ (k : ℕ). 0 < k) (sym n) f.some;
          stands = record { plain = plain_on y.acts are; due = due_on y.acts are };
          keeps = acts_keep_them empty d y f.stands are f.keeps;
          of = rw (state_on y.acts are ∙ state_of y (with_half x h) x core_is refl)
              (subst (λ (k : Core). IsOf (acts_done p x.acts) k) (sym core_is) (of_half (acts_done p x.acts) x w.of h));
          places = subst HasPlaces (sym core_is) w.places;
          before = Some chain;
          runs = rw r.running r.at;
          chain = (on.0 ∙ sym g, on.1 ∙ sym n);
          mid = subst (λ (k : Core). IsMid k k.half (all_acted d.history y.acts).running (Some chain) (Some next)) (sym core_is) (record {
            runs = subst (λ (k : Option OpenEntry). IsSome k) (sym r.running) refl;
            origin = chain;
            begins = refl;
            chain = next;
            is = refl;
            word = word;
            need = first;
            needs = needs;
            first = first;
            below = below;
            firm = half.firm;
            answer = settled_act chain.fixed.geometry d.paths o.path;
            does = λ v agrees.
                ap (λ (i : ℕ). fed (i * 15) (track_in v) (settled_act chain.fixed.geometry d.paths o.path) chain) w.cylinders
                ∙ does v (λ q above least. agrees q above least ∙ ap (λ (k : List Track). track_in k q) w.plain);
          });
          home = at_home y.lent (all_acted d.history y.acts).running
              (ap (λ (k : Core). k.lent) core_is ∙ ap (λ (k : Open). k.1.0) w.rest ∙ lent_none);
        }

    abbrev TurnSo : (List Track → Fed) → Turn → Core → Type 0
    TurnSo k turn c = TurnIs (plain_of d.plans empty d.history) d.store.plain d.store.geometry d.store.cylinders (None, (d.store.lent, d.store.device))
        (settled_act chain.fixed.geometry d.paths o.path) chain on.0 first k first turn c

    turn_follows : (y : MarksStore) (c : Core) (k : List Track → Fed) (turn : Turn) → core_of y ≡ c → need_of chain ≡ Some first →
        k d.store.plain ≡ ended_by chain the_effect.outcome the_effect.edit →
        ((v : List Track) → k v ≡ fed (d.store.cylinders * 15) (track_in v) (settled_act chain.fixed.geometry d.paths o.path) chain) →
        with_sense d.paths o.path the_effect.outcome.ending.sense ≡ the_effect.paths → TurnSo k turn c → Follows num empty (turned (with_store d y) o.path turn)
    turn_follows y c k turn same needs fed_is as_fed sense (ended_so e after d2 end_is chain_is edit) =
        let ends : e ≡ end_with chain the_effect.outcome = sym end_is ∙ ap (λ (x : Fed). x.end) fed_is in
        let goes : after ≡ behind chain the_effect.outcome = sym chain_is ∙ ap (λ (x : Fed). x.chain) fed_is in
        rw ends (rw goes (edit_follows y d2 the_effect.edit same refl sense (subst (λ (x : Fed). EditIs x.edit d2) fed_is edit)))
    turn_follows y c k turn same needs fed_is as_fed sense (half_open t e next d2 word below does half) =
        half_follows y d2 t e next same needs below word (λ v agrees. sym (as_fed v) ∙ does v agrees) half
    turn_follows y c k turn same needs fed_is as_fed sense (equipment last d2 word w) =
        equipment_on y (sized_by y d2 d2 same w w.places refl refl refl) (acts_are y d2 d2 same refl w)
        (subst (λ (s : PlainState). IsOf s (core_of y)) (sym (state_of y d2 d2 same refl)) (rw same w.of)) last word
    turn_follows y c k turn same needs fed_is as_fed sense (data_check last d2 word w) =
        data_check_on y (sized_by y d2 d2 same w w.places refl refl refl) (acts_are y d2 d2 same refl w)
        (subst (λ (s : PlainState). IsOf s (core_of y)) (sym (state_of y d2 d2 same refl)) (rw same w.of)) last word

  -- In an event that began

  module _ (now : d.chain ≡ Some chain) (whole : d.store.half ≡ None) where
    pub walking_first : (s : MarksStore) → core_of s ≡ core_of (noted_begin d.store) → Walking (core_of s)
    walking_first s e = subst Walking (sym e) (record {
      of = of_begun p (core_of d.store) f.of;
      are = tt;
      places = f.places;
      plain = refl;
      geometry = refl;
      cylinders = refl;
      rest = ap (λ (h : Option (HalfWrite (Unit {0}))). (h, (d.store.lent, d.store.device))) whole;
    })

    abbrev started_with : MarksStore → MarksDevice
    started_with s = record (event_begun d) { store = s }

    module _ (s : MarksStore) (e : core_of s ≡ core_of (noted_begin d.store)) where
      no_acts : s.acts ≡ []
      no_acts = ap (λ (c : Core). c.acts) e

      fed_is : (t : ℕ) → need_of chain ≡ Some t →
          fed (tracks_of s) (track_in d.store.plain) (settled_act chain.fixed.geometry d.paths o.path) chain ≡ ended_by chain the_effect.outcome the_effect.edit
      fed_is t needs =
          let many : tracks_of s ≡ chain.fixed.cylinders * 15 = ap (λ (c : Core). c.cylinders * 15) e ∙ ap (λ (n : ℕ). n * 15) (sym on.1) in
          let some = f.some in
          let cylinders = on.1 in
          let k = one_more (chain.fixed.cylinders * 15) (omega (arith, some, cylinders)) in
          ap (λ (n : ℕ). fed n (track_in d.store.plain) (settled_act chain.fixed.geometry d.paths o.path) chain) (many ∙ sym k.1)
          ∙ fed_so chain at.fresh d.paths o.path d.store.plain (settled_act chain.fixed.geometry d.paths o.path) k.0 t k.1 needs

      by_turn : (t : ℕ) → need_of chain ≡ Some t → (y : MarksStore) (a : Option Turn) →
          FollowSo (plain_of d.plans empty d.history) d.store.plain d.store.geometry d.store.cylinders (None, (d.store.lent, d.store.device))
          (settled_act chain.fixed.geometry d.paths o.path) chain on.0 t (tracks_of s) chain t y a →
          Had (on_tracks by_plain (started_with s) o.path chain y a) (λ x (_ : Option Stepped). Follows num empty x)
      by_turn t needs y None w = absurd w
      by_turn t needs y (Some turn) w =
          had_done (turn_follows t y (core_of y) (λ (v : List Track). fed (tracks_of s) (track_in v)
          (settled_act chain.fixed.geometry d.paths o.path) chain) turn
          refl needs (fed_is t needs)
          (λ v. ap (λ (c : Core). fed (c.cylinders * 15) (track_in v) (settled_act chain.fixed.geometry d.paths o.path) chain) e)
          (looking_keeps chain at.fresh d.paths o.path d.store.plain t needs) w)

      tracked : (t : ℕ) → need_of chain ≡ Some t → Had (command_at by_plain (started_with s) o.path chain (Some t))
          (λ x (_ : Option Stepped). Follows num empty x)
      tracked t needs =
          had_then (follow_so (plain_of d.plans empty d.history) d.store.plain d.store.geometry d.store.cylinders (None, (d.store.lent, d.store.device))
          (settled_act chain.fixed.geometry d.paths o.path) chain on.0 t (tracks_of s) chain t s (record {
            from = from_itself chain;
            needs = needs;
            above = omega arith;
          })
          (walking_first s e)) (λ y a w. by_turn t needs y a w)

      -- it looks at no track
      answered_follows : (turn : Turn) (paths : PathsState) (made : Effect) → made ≡ the_effect →
          AnswerIs chain at.fresh d.paths o.path d.store.plain made turn paths →
          Follows num empty (turned (record (started_with s) { paths = paths }) o.path turn)
      answered_follows turn paths made same a =
          subst (λ (x : Turn). Follows num empty (turned (record (started_with s) { paths = paths }) o.path x))
          (sym (a.turn_is ∙ ap (λ (x : Effect). record { came = Ends (end_with chain x.outcome); chain = behind chain x.outcome }) same))
          (subst (λ (l : List Act). Follows num empty (turned (record d { store = s; history = all_acted d.history l; paths = paths }) o.path the_turn)) no_acts
          (walked_follows s (core_of s) refl (ap (λ (x : Effect). x.edit) (sym same) ∙ a.none) paths (rw (← same) a.kept) (walking_first s e)))

      opened_answer : (x : Opened) → opening_at chain ≡ x → need_of chain ≡ None →
          Had (answered_by by_plain (started_with s) o.path (stepped_by (begin_with chain x) None (stage_for x.opening)).chain
          (stepped_by (begin_with chain x) None (stage_for x.opening)).progress) (λ y (_ : Option Stepped). Follows num empty y)
      opened_answer x same none = by_opening_of x.stance x.opening same where
        by_opening_of : (z : Stance) (k : Opening) → opening_at chain ≡ record { stance = z; opening = k } →
            Had (answered_by by_plain (started_with s) o.path (stepped_by (begin_with chain (record { stance = z; opening = k })) None (stage_for k)).chain
            (stepped_by (begin_with chain (record { stance = z; opening = k })) None (stage_for k)).progress) (λ y (_ : Option Stepped). Follows num empty y)
        by_opening_of z (openings.Over ending) is =
            had_done (answered_follows _ d.paths _ (ap (λ (q : Opened). by_opening chain at.fresh d.paths o.path d.store.plain q.stance q.opening) (sym is))
            (over_answer chain at.fresh d.paths o.path d.store.plain z ending))
        by_opening_of z (openings.Asks act) is =
            had_done (answered_follows _ (paths_behind d.paths o.path act) _
            (ap (λ (q : Opened). by_opening chain at.fresh d.paths o.path d.store.plain q.stance q.opening) (sym is))
            (asked_answer chain at.fresh d.paths o.path d.store.plain z act s.geometry (on.0 ∙ sym (ap (λ (c : Core). c.geometry) e))))
        by_opening_of z (openings.Looks look) is =
            absurd (let some : None ≡ Some _ = sym none ∙ needs_by chain at.fresh d.paths o.path d.store.plain
            ∙ ap (λ (q : Opened). track_needed (begin_with chain q) (stage_for q.opening)) is in cc)

      untracked : need_of chain ≡ None → Had (command_at by_plain (started_with s) o.path chain None) (λ x (_ : Option Stepped). Follows num empty x)
      untracked none =
          let same : stepped chain None ≡ stepped_by (begin_with chain (opening_at chain)) None (stage_for (opening_at chain).opening) =
          ap (λ (k : Option Stage). stepped_by (opened_by chain k) None (stage_by chain k)) at.fresh in
          had_try (rw same (opened_answer (opening_at chain) refl none))

      by_need : (k : Option ℕ) → need_of chain ≡ k → Had (command_at by_plain (started_with s) o.path chain k) (λ x (_ : Option Stepped). Follows num empty x)
      by_need (Some t) needs = tracked t needs
      by_need None none = untracked none

      sized_first : Sized s
      sized_first = let w = walking_first s e in sized_by s (core_of s) (core_of s) refl w w.places refl refl refl

      -- data of its own program were lost
      lost_follows : Follows num empty (turned (started_with s) o.path (checks chain Equipment))
      lost_follows =
          let w = walking_first s e in
          subst (λ (l : List Act). Follows num empty (turned (record d { store = s; history = all_acted d.history l }) o.path (checks chain Equipment))) no_acts
          (equipment_on s sized_first w.are w.of chain (record { words = refl; next = refl }))

      begun_follows : Had (command_by by_plain (started_with s) (Some o) (Some chain)) (λ x (_ : Option Stepped). Follows num empty x)
      begun_follows = had_if (has_loss o.acts) (λ _. had_done lost_follows) (λ _. by_need (need_of chain) refl)

      pub command_by_follows : Had (command_by by_plain (started_with s) d.history.running d.chain) (λ x (_ : Option Stepped). Follows num empty x)
      command_by_follows =
          subst (λ (r : Option OpenEntry). Had (command_by by_plain (started_with s) r d.chain) (λ x (_ : Option Stepped). Follows num empty x)) (sym running)
          (subst (λ (k : Option ChainState). Had (command_by by_plain (started_with s) (Some o) k) (λ x (_ : Option Stepped). Follows num empty x)) (sym now)
          begun_follows)

-- The event

module _ (num : ℕ) (empty : PlainState) where
  -- a store of the same core
  pub follows_store : (d : MarksDevice) → Follows num empty d → (z : MarksStore) → core_of z ≡ core_of d.store → Follows num empty (record d { store = z })
  follows_store d f z e = record {
    number = ap (λ (c : Core). c.device) e ∙ f.number;
    base = subst (λ (c : Core). empty ≡ first_state c.geometry c.cylinders empty.volume) (sym e) f.base;
    some = subst (λ (c : Core). 0 < c.cylinders) (sym e) f.some;
    stands = record { plain = f.stands.plain; due = f.stands.due };
    keeps = f.keeps;
    of = subst (λ (c : Core). IsOf (plain_of d.plans empty d.history) c) (sym e) f.of;
    places = subst HasPlaces (sym e) f.places;
    before = f.before;
    runs = f.runs;
    chain = subst (λ (c : Core). ChainOf c.geometry c.cylinders f.before) (sym e) f.chain;
    mid = subst (λ (c : Core). IsMid c c.half d.history.running f.before d.chain) (sym e) f.mid;
    home = subst (λ (c : Core). IsAtHome c.lent d.history.running) (sym e) f.home;
  }

  pub event_follows : {A : Type 0} (d : MarksDevice) (body : MarksDevice → Interaction Bool Image MarksDevice A) →
      ((s : MarksStore) → core_of s ≡ core_of (noted_begin d.store) → Had (body (record (event_begun d) { store = s })) (λ y (_ : A). Follows num empty y)) →
      Had (event by_plain d body) (λ y (_ : A). Follows num empty y)
  event_follows d body h =
      had_then (had_then (hear_same 960 (noted_begin d.store)) (λ s _ e. h s e))
      (λ y a g. had_then (ended_same (waiting_count by_plain d.store) y.store) (λ z _ e. had_done (follows_store y g z e)))

  by_chain : (d : MarksDevice) (f : Follows num empty d) (o : OpenEntry) → d.history.running ≡ Some o → d.store.half ≡ None →
      (k : Option ChainState) → f.before ≡ k → Had (command by_plain d) (λ y (_ : Option Stepped). Follows num empty y)
  unfolding N.command
  by_chain d f o running whole None is = absurd
      (subst (λ (k : Option ChainState). RunsAt d.plans (replay d.plans empty d.history.items) (Some o) k) is (rw (← running) f.runs))
  by_chain d f o running whole (Some chain) is =
      let now = none_mid (core_of d.store) d.store.half d.history.running f.before d.chain whole f.mid ∙ is in
      had_try (event_follows d (λ z. command_by by_plain z z.history.running z.chain)
      (λ s e. command_by_follows num empty d f o running chain is now whole s e))

  -- a command of the running program
  pub command_follows : (d : MarksDevice) → Follows num empty d → (o : OpenEntry) → d.history.running ≡ Some o → d.store.half ≡ None →
      Had (command by_plain d) (λ y (_ : Option Stepped). Follows num empty y)
  command_follows d f o running whole = by_chain d f o running whole f.before refl
