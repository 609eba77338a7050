-- What each event of a run's device makes of its history, and with which acts.
use Rattle.std.proofs.Common.{◌≡◌, ◌==◌, ℕ, Bool, true, false, List, [], ◌∷◌, ◌++◌, Option, Some, None, is_some, get_or, ◌*◌, refl, sym, ap, subst, ◌∙◌, arith}
use Rattle.std.specs.Prelude.{◌||◌, if◌then◌else◌}
use Rattle.std.specs.List.{list_all}
use Rattle.std.proofs.lemmas.Bool.{cond_both}
use Rattle.ckd_types.specs.declared.channel.CommandEnd.{CommandEnd}
use Rattle.ckd_types.specs.declared.paths.Side.{Side}
use Rattle.ckd_chain.specs.declared.progress.Progress.{Progress}
use Rattle.ckd_chain.specs.declared.progress.Progress.TheVariants as progresses
use Rattle.ckd_chain.specs.declared.progress.Settled.{Settled}
use Rattle.ckd_chain.specs.declared.progress.Settled.TheVariants.{Equipment}
use Rattle.ckd_chain.specs.Fed.{Fed}
use Rattle.ckd_chain.specs.State.{ChainState}
use Rattle.ckd_chain.specs.Steps.{need_of, stepped}
use Rattle.ckd_rules.specs.declared.order.LocalAct.{LocalAct}
use Rattle.ckd_rules.specs.Walk.{TrackEdit}
use Rattle.ckd_types.specs.declared.record.Track.{Track}
use Rattle.loss_model.specs.declared.Loss.{Loss}
use Rattle.loss_model.specs.declared.Loss.TheVariants as losses
use Rattle.plain_defs.specs.declared.journal.Act.{Act}
use Rattle.plain_defs.specs.declared.journal.Act.TheVariants.{CfwLost}
use Rattle.plain_defs.specs.declared.journal.Item.TheVariants as items
use Rattle.plain_defs.specs.History.{
  OpenEntry,
  History,
  has_used,
  is_path_of,
  put,
  cut_by,
  lost_power,
  reset_in_history as history_reset,
  reset_in,
  ended as history_ended,
  checked,
  plain_of,
}
use Rattle.plain_defs.specs.Journal.{replay}
use Rattle.plain_defs.specs.Legal.{is_used}
use Rattle.plain_defs.specs.PlainState.{PlainState, reset_path}
use Rattle.plain_device.specs.Acted.{settled_act, paths_behind}
use Rattle.track_image.specs.Image.{Image}
use Rattle.track_table.specs.Tracks.{least}
use Rattle.device_outside.specs.Interaction.{Interaction, Done, and_then}
use Rattle.device_defs.specs.declared.answers.Came.{Came}
use Rattle.device_defs.specs.declared.answers.Came.TheVariants as came
use Rattle.device_defs.specs.declared.answers.Did.{Did}
use Rattle.device_defs.specs.declared.answers.SecondEnd.{SecondEnd}
use Rattle.device_defs.specs.declared.answers.Stepped.{Stepped}
use Rattle.device_defs.specs.Background.{work}
use Rattle.device_defs.specs.Command as N
use Rattle.device_defs.specs.Command.{has_loss, came_out, on_tracks, answered_by, command_at, command_by, command, follow}
use Rattle.device_defs.specs.Contents.{by_plain}
use Rattle.device_defs.specs.Cutting as U
use Rattle.device_defs.specs.Cutting.{counts_one_by, half_cut, reset_noted, path_cut, reset_by, reset, power}
use Rattle.device_defs.specs.Device.{all_acted, with_store, event_begun, event}
use Rattle.device_defs.specs.Events as V
use Rattle.device_defs.specs.Events.{losing, lose, background, second_turn, command_ended, second_ended, second_of, second}
use Rattle.device_defs.specs.Marks.{MarksDevice, MarksStore}
use Rattle.device_defs.specs.Outcomes.{Turn, settles, checks, ends_with, turned, turned_by, sense_kept, program_over, again}
use Rattle.device_defs.specs.Owed.{noted_begin, hear, noted_end, waiting_count}
use Rattle.device_defs.specs.Store.{Origin, OfCommand, OfCut, OfBackground, HalfWrite, tracks_of, has_loose}
use Rattle.device_laws.proofs.Always.{Always, always_done, always_then}
use Rattle.device_laws.proofs.Had.{Had, had_done, had_try, had_if, had_then, had_weaker}
use Rattle.device_laws.proofs.KeptEvents.{always_any}
use Rattle.device_laws.proofs.PlainEvents.{had_both}
use Rattle.device_laws.proofs.PlainCommand.{on, walking_first}
use Rattle.device_laws.proofs.PlainLooks.{from_itself, EditSo, TurnIs, ended_so, equipment, data_check, half_open, FollowSo, follow_so}
use Rattle.device_laws.proofs.PlainLosses.{work_on, walks_first}
use Rattle.device_laws.proofs.PlainStores.{Core, Open, core_of, Walks}
use Rattle.device_laws.proofs.PlainTurns.{RunsAt, Follows, none_mid}
use Rattle.device_laws.proofs.PlainWalks.{framed_same, ended_same}
use Rattle.device_laws.proofs.PoolWalks.{asks_had, hear_asks}
use Rattle.promise_laws.specs.Origins.{are_firmed, are_noted}
use Rattle.promise_laws.proofs.ActsNoted.{takes_none, follow_acts, work_acts, cache_acts, store_acts, ArePatchedFirm}
use Rattle.promise_laws.proofs.FirmActs.{firmed_marks, IsFirmed, side_firmed, second_firmed, firmed_of, walks_noted, edited_noted}

-- only these acts came to it; or behind them a command ended, or was checked
pub data Made (h : History) (acts : List Act) : History → Type 0 where
  only_acted : Made h acts (all_acted h acts)
  then_ended : (e : CommandEnd) → Made h acts (history_ended (all_acted h acts) e)
  then_checked : (e : CommandEnd) → Made h acts (checked (all_acted h acts) e)

-- only acts came to it, of which this is so
pub record ActedWith (q : List Act → Type 0) (h k : History) : Type 0 where
  pub acts : List Act
  pub are : q acts
  pub is : k ≡ all_acted h acts

-- so, or behind them a command ended or was checked
pub record MadeWith (q : List Act → Type 0) (h k : History) : Type 0 where
  pub acts : List Act
  pub are : q acts
  pub made : Made h acts k

module _ (q : List Act → Type 0) (h : History) where
  abbrev Makes : MarksDevice → Type 0
  Makes y = MadeWith q h y.history

  abbrev Acted : MarksDevice → Type 0
  Acted y = ActedWith q h y.history

  acted_made : (y : MarksDevice) → Acted y → Makes y
  acted_made y f = record { acts = f.acts; are = f.are; made = subst (λ (k : History). Made h f.acts k) (sym f.is) only_acted }

  came_made : (y : MarksDevice) → Acted y → (path : ℕ) (chain : ChainState) (k : Came) → Makes (turned_by y path chain k)
  came_made y f path chain (came.Ends e) =
      let made = subst (λ (x : History). Made h f.acts (history_ended x e)) (sym f.is) (then_ended e) in
      cond_both e.over (program_over (sense_kept y path e) (history_ended y.history e))
      (record (sense_kept y path e) { chain = Some chain; history = history_ended y.history e }) Makes
      (λ _. record { acts = f.acts; are = f.are; made = made }) (λ _. record { acts = f.acts; are = f.are; made = made })
  came_made y f path chain (came.Checks e) =
      record { acts = f.acts; are = f.are; made = subst (λ (x : History). Made h f.acts (checked x e)) (sym f.is) (then_checked e) }
  came_made y f path chain (came.HalfOpen t) = acted_made (record y { chain = Some chain }) (record { acts = f.acts; are = f.are; is = f.is })

  turn_made : (y : MarksDevice) → Acted y → (path : ℕ) (turn : Turn) → Makes (turned y path turn)
  turn_made y f path turn = came_made y f path turn.chain turn.came

-- Events

-- the notices change no patch, and nothing of the plain volume
record Heard (s z : MarksStore) : Type 0 where
  core : core_of z ≡ core_of s
  patches : z.patches ≡ s.patches

hear_keeps : (n : ℕ) (s : MarksStore) → Had (hear by_plain n s) (λ z (_ : Unit {0}). Heard s z)
hear_keeps n s =
    asks_had (hear_asks by_plain (Heard s) (λ z t clean f. record { core = framed_same z t None ∙ f.core; patches = f.patches }) n s
    (record { core = refl; patches = refl }))

module _ (d : MarksDevice) (g : History → Type 0) where
  event_made : {A : Type 0} (body : MarksDevice → Interaction Bool Image MarksDevice A) →
      ((s : MarksStore) → Heard (noted_begin d.store) s → Had (body (record (event_begun d) { store = s })) (λ y _. g y.history)) →
      Had (event by_plain d body) (λ y _. g y.history)
  event_made body f =
      had_then (had_then (hear_keeps 960 (noted_begin d.store)) (λ s _ e. f s e))
      (λ y a x. had_then (ended_same (waiting_count by_plain d.store) y.store) (λ z _ e. had_done x))

no_acts : (d : MarksDevice) (s : MarksStore) → Heard (noted_begin d.store) s → s.acts ≡ []
no_acts d s e = ap (λ (c : Core). c.acts) e.core

-- as the event begins
firmed_first : (d : MarksDevice) (s : MarksStore) → Heard (noted_begin d.store) s → IsFirmed d.store.loose (core_of s)
firmed_first d s e = record {
  are = ap (λ (acts : List Act). are_firmed d.store.loose acts) (no_acts d s e);
  left = ap (λ (c : Core). c.loose) e.core ∙ sym (ap (λ (acts : List Act). firmed_marks d.store.loose acts) (no_acts d s e));
}

none_first : (d : MarksDevice) (s : MarksStore) → Heard (noted_begin d.store) s → list_all takes_none s.acts ≡ true
none_first d s e = ap (list_all takes_none) (no_acts d s e)

module _ (d : MarksDevice) where
  abbrev Notes : List Act → Type 0
  Notes acts = are_noted d.store.loose acts ≡ true

  abbrev Firms : List Act → Type 0
  Firms acts = are_firmed d.store.loose acts ≡ true

  abbrev here : MarksStore → MarksDevice
  here s = record (event_begun d) { store = s }

  -- A command

  abbrev Commanded : MarksDevice → Option Stepped → Type 0
  Commanded y a = MadeWith Notes d.history y.history

  out_made : (y : MarksDevice) → Acted Notes d.history y → (path : ℕ) (turn : Turn) → Had (came_out by_plain y path turn) Commanded
  out_made y f path turn = had_done (turn_made Notes d.history y f path turn)

  nothing_yet : (y : MarksDevice) → y.history ≡ d.history → Acted Notes d.history y
  nothing_yet y is = record { acts = []; are = refl; is = is }

  on_made : (s : MarksStore) (path : ℕ) (chain : ChainState) (z : MarksStore) (a : Option Turn) → Notes z.acts →
      Had (on_tracks by_plain (here s) path chain z a) Commanded
  on_made s path chain z (Some turn) f = out_made (with_store (here s) z) (record { acts = z.acts; are = f; is = refl }) path turn
  on_made s path chain z None f =
      had_done (acted_made Notes d.history (again (with_store (here s) z) chain) (record { acts = z.acts; are = f; is = refl }))

  answered_made : (s : MarksStore) (path : ℕ) (chain : ChainState) (k : Progress) → Had (answered_by by_plain (here s) path chain k) Commanded
  answered_made s path chain (progresses.Ended e) = out_made (here s) (nothing_yet (here s) refl) path (ends_with chain e)
  answered_made s path chain (progresses.Local act) =
      let y : MarksDevice = record (here s) { paths = paths_behind d.paths path act } in
      out_made y (nothing_yet y refl) path (settles chain (settled_act s.geometry d.paths path act))
  answered_made s path chain (progresses.Need t) = out_made (here s) (nothing_yet (here s) refl) path (checks chain Equipment)
  answered_made s path chain (progresses.Write t e) = out_made (here s) (nothing_yet (here s) refl) path (checks chain Equipment)

  module _ (num : ℕ) (empty : PlainState) (f : Follows num empty d) (o : OpenEntry) (running : d.history.running ≡ Some o) (whole : d.store.half ≡ None) where
    module _ (chain : ChainState) (is : f.before ≡ Some chain) where
      now : d.chain ≡ Some chain
      now = none_mid (core_of d.store) d.store.half d.history.running f.before d.chain whole f.mid ∙ is

      abbrev plain : PlainState
      plain = plain_of d.plans empty d.history

      abbrev undone : Open
      undone = (None, (d.store.lent, d.store.device))

      module _ (s : MarksStore) (e : Heard (noted_begin d.store) s) (t : ℕ) (needs : need_of chain ≡ Some t) where
        abbrev answers : LocalAct → Settled
        answers = settled_act chain.fixed.geometry d.paths o.path

        geometry : chain.fixed.geometry ≡ d.store.geometry
        geometry = (on num empty d f o running chain is).0

        abbrev Edits : Option TrackEdit → Core → Type 0
        Edits x c = EditSo plain d.store.plain d.store.geometry d.store.cylinders undone answers chain geometry t x c

        edit_noted : (x : Option TrackEdit) (c : Core) → Edits x c → list_all takes_none c.acts ≡ true → are_noted d.store.loose c.acts ≡ true
        edit_noted None c w none = walks_noted plain (core_of d.store) f.of d.store.plain d.store.geometry d.store.cylinders undone c w none
        edit_noted (Some x) c w none =
            edited_noted plain (core_of d.store) f.of d.store.plain d.store.geometry d.store.cylinders undone _ x.track x.edit c w none

        turn_noted : (fed_so : List Track → Fed) (from : ℕ) (turn : Turn) (c : Core) →
            TurnIs plain d.store.plain d.store.geometry d.store.cylinders undone answers chain geometry t fed_so from turn c →
            list_all takes_none c.acts ≡ true → are_noted d.store.loose c.acts ≡ true
        turn_noted fed_so from _ c (ended_so k after _ end same edit) none = edit_noted (fed_so d.store.plain).edit c edit none
        turn_noted fed_so from _ c (equipment k _ word w) none = edit_noted None c w none
        turn_noted fed_so from _ c (data_check k _ word w) none = edit_noted None c w none
        turn_noted fed_so from _ c (half_open k x next _ word below does half) none =
            let same : c.acts ≡ half.before.acts = ap (λ (z : Core). z.acts) half.is in
            subst (λ (l : List Act). are_noted d.store.loose l ≡ true) (sym same)
            (edit_noted None half.before half.on (subst (λ (l : List Act). list_all takes_none l ≡ true) same none))

        follow_noted : (z : MarksStore) (a : Option Turn) →
            FollowSo plain d.store.plain d.store.geometry d.store.cylinders undone answers chain geometry t (tracks_of s) chain t z a →
            list_all takes_none z.acts ≡ true → Notes z.acts
        follow_noted z None w none = absurd w
        follow_noted z (Some turn) w none = turn_noted _ t turn (core_of z) w none

        tracks_made : Had (command_at by_plain (here s) o.path chain (Some t)) Commanded
        tracks_made =
            had_then
            (had_both (follow_acts (tracks_of s) t chain t s (none_first d s e))
            (follow_so plain d.store.plain d.store.geometry d.store.cylinders undone answers chain geometry t (tracks_of s) chain t s
            (record { from = from_itself chain; needs = needs; above = omega arith }) (walking_first num empty d f o running chain is now whole s e.core)))
            (λ z a g. on_made s o.path chain z a (follow_noted z a g.1 g.0))

      at_made : (s : MarksStore) → Heard (noted_begin d.store) s → (k : Option ℕ) → need_of chain ≡ k → Had (command_at by_plain (here s) o.path chain k) Commanded
      at_made s e (Some t) needs = tracks_made s e t needs
      at_made s e None needs = had_try (answered_made s o.path (stepped chain None).chain (stepped chain None).progress)

      by_made : (s : MarksStore) → Heard (noted_begin d.store) s → Had (command_by by_plain (here s) d.history.running d.chain) Commanded
      by_made s e =
          subst (λ (r : Option OpenEntry). Had (command_by by_plain (here s) r d.chain) Commanded) (sym running)
          (subst (λ (k : Option ChainState). Had (command_by by_plain (here s) (Some o) k) Commanded) (sym now)
          (had_if (has_loss o.acts) (λ _. out_made (here s) (nothing_yet (here s) refl) o.path (checks chain Equipment))
          (λ _. at_made s e (need_of chain) refl)))

    by_before : (k : Option ChainState) → f.before ≡ k → Had (command by_plain d) Commanded
    unfolding N.command
    by_before None is = absurd
        (subst (λ (k : Option ChainState). RunsAt d.plans (replay d.plans empty d.history.items) (Some o) k) is
        (subst (λ (r : Option OpenEntry). RunsAt d.plans (replay d.plans empty d.history.items) r f.before) running f.runs))
    by_before (Some chain) is =
        had_try (event_made d (MadeWith Notes d.history) (λ z. command_by by_plain z z.history.running z.chain) (λ s e. by_made chain is s e))

    pub command_made : Had (command by_plain d) (λ y (_ : Option Stepped). MadeWith Notes d.history y.history)
    command_made = by_before f.before refl

  -- The other part of a write

  abbrev Seconded : MarksDevice → SecondEnd → Type 0
  Seconded y a = MadeWith Firms d.history y.history

  over_made : (y : MarksDevice) → Acted Firms d.history y → (t : ℕ) (r : Option OpenEntry) (k : Option ChainState) (done : Bool) →
      Had (command_ended by_plain y t r k done) Seconded
  over_made y f t (Some o) (Some chain) done = had_done (turn_made Firms d.history y f o.path (second_turn by_plain chain done))
  over_made y f t (Some o) None done = had_done (acted_made Firms d.history y f)
  over_made y f t None k done = had_done (acted_made Firms d.history y f)

  origin_made : (y : MarksDevice) → Acted Firms d.history y → (t : ℕ) (origin : Origin) (done : Bool) → Had (second_ended by_plain y t origin done) Seconded
  origin_made y f t (OfCommand bypass e) done = over_made y f t y.history.running y.chain done
  origin_made y f t (OfCut bypass) done = had_done (acted_made Firms d.history y f)
  origin_made y f t OfBackground done = had_done (acted_made Firms d.history y f)

  half_made : (s : MarksStore) → IsFirmed d.store.loose (core_of s) → (h : Option (HalfWrite (Unit {0}))) → Had (second_of by_plain (here s) h) Seconded
  half_made s f (Some h) =
      had_then (second_firmed d.store.loose s h f)
      (λ z done g. origin_made (with_store (here s) z) (record { acts = z.acts; are = g.are; is = refl }) h.track h.origin done)
  half_made s f None = had_done (acted_made Firms d.history (here s) (record { acts = []; are = refl; is = refl }))

  pub second_made : Had (second by_plain d) (λ y (_ : SecondEnd). MadeWith Firms d.history y.history)
  unfolding V.second
  second_made =
      event_made d (MadeWith Firms d.history) (λ z. second_of by_plain z z.store.half)
      (λ s e. half_made s (firmed_first d s e) s.half)

  -- By itself, and losses: only acts

  pub background_made : (num : ℕ) (empty : PlainState) → Follows num empty d → d.store.half ≡ None →
      Had (background by_plain d) (λ y (_ : Option Did). ActedWith Firms d.history y.history)
  unfolding V.background
  background_made num empty f whole =
      event_made d (ActedWith Firms d.history) (λ z. and_then (work by_plain z.store) (λ s did. Done (with_store z s) did))
      (λ s e. had_then
      (had_both (work_acts s (none_first d s e))
      (work_on (plain_of d.plans empty d.history) d.store.plain d.store.geometry d.store.cylinders (d.store.lent, d.store.device) s
      (subst (λ (h : Option (HalfWrite (Unit {0}))). Walks (plain_of d.plans empty d.history) d.store.plain d.store.geometry d.store.cylinders
      (h, (d.store.lent, d.store.device)) (core_of s)) whole (walks_first num empty d f s e.core))))
      (λ z did g. had_done (record {
        acts = z.acts;
        are = firmed_of z.acts (plain_of d.plans empty d.history) (core_of d.store) f.of g.1.walks.are g.0;
        is = refl;
      })))

  -- the acts of a loss of the cache
  abbrev pub LossOf : List Act → Type 0
  LossOf acts = acts ≡ (if has_loose d.store then CfwLost ∷ [] else [])

  lost_made : (q : List Act → Type 0) (loss : Loss) →
      ((s : MarksStore) → Heard (noted_begin d.store) s → Had (losing by_plain s loss) (λ z (_ : Unit {0}). q z.acts)) →
      Had (lose by_plain d loss) (λ y (_ : Unit {0}). ActedWith q d.history y.history)
  unfolding V.lose
  lost_made q loss f =
      event_made d (ActedWith q d.history) (λ z. and_then (losing by_plain z.store loss) (λ s _. Done (with_store z s) tt))
      (λ s e. had_then (f s e) (λ z _ g. had_done (record { acts = z.acts; are = g; is = refl })))

  loose_is : (s : MarksStore) → Heard (noted_begin d.store) s → has_loose s ≡ has_loose d.store
  loose_is s e = ap (λ (c : Core). is_some (least (c.cylinders * 15) (λ t. get_or c.loose t false))) e.core

  pub cache_made : Had (lose by_plain d losses.Cache) (λ y (_ : Unit {0}). ActedWith LossOf d.history y.history)
  cache_made =
      lost_made LossOf losses.Cache
      (λ s e. had_weaker (cache_acts s)
      (λ z _ g. g ∙ ap (λ (b : Bool). if b then s.acts ++ CfwLost ∷ [] else s.acts) (loose_is s e)
      ∙ ap (λ (acts : List Act). if has_loose d.store then acts ++ CfwLost ∷ [] else acts) (no_acts d s e)))

  patched_firm : ArePatchedFirm d.store → (s : MarksStore) → Heard (noted_begin d.store) s → ArePatchedFirm s
  patched_firm firm s e = λ q patched.
      ap (λ (c : Core). get_or c.loose q false) e.core
      ∙ firm q (sym (ap (λ (l : List (Option (Unit {0}))). is_some (get_or l q None)) e.patches) ∙ patched)

  pub store_made : ArePatchedFirm d.store → Had (lose by_plain d losses.Store) (λ y (_ : Unit {0}). ActedWith (λ acts. acts ≡ []) d.history y.history)
  store_made firm =
      lost_made (λ acts. acts ≡ []) losses.Store
      (λ s e. had_weaker (store_acts s (patched_firm firm s e)) (λ z _ g. g ∙ no_acts d s e))

  pub side_made : (side : Side) → Had (lose by_plain d (losses.Side side)) (λ y (_ : Unit {0}). ActedWith Firms d.history y.history)
  side_made side =
      lost_made Firms (losses.Side side) (λ s e. had_weaker (side_firmed d.store.loose s side (firmed_first d s e)) (λ z _ g. g.are))

  -- What cuts a program

  abbrev Reset : ℕ → MarksDevice → Type 0
  Reset path y = y.history ≡ history_reset d.history path (counts_one_by d.store.half)

  -- of another path than the running program's nothing of it took effect
  any_more : (path m n : ℕ) (r : Option OpenEntry) → is_path_of r path ≡ false → reset_in d.history path m r ≡ reset_in d.history path n r
  any_more path m n None other = refl
  any_more path m n (Some o) other =
      let later = if is_used path false d.history.items then record d.history { waiting = put path d.history.waiting } else d.history in
      ap (λ (b : Bool). if b then cut_by d.history o m else later) other
      ∙ sym (ap (λ (b : Bool). if b then cut_by d.history o n else later) other)

  used_none : (path : ℕ) → d.history.running ≡ None → has_used d.history path ≡ is_used path false d.history.items
  used_none path none = ap (λ (r : Option OpenEntry). is_path_of r path || is_used path false d.history.items) none

  not_used : (path n : ℕ) → d.history.running ≡ None → has_used d.history path ≡ false → d.history ≡ reset_in d.history path n d.history.running
  not_used path n none unused =
      sym (ap (λ (b : Bool). if b then record d.history { items = d.history.items ++ items.Reset path ∷ [] } else d.history)
      (sym (used_none path none) ∙ unused))
      ∙ sym (ap (λ (r : Option OpenEntry). reset_in d.history path n r) none)

  cut_of : (path : ℕ) (o : OpenEntry) (b : Bool) → (o.path == path) ≡ b → d.history.running ≡ Some o →
      Always (if b then path_cut by_plain d path else Done (reset_noted by_plain d path 0) tt) (λ y (_ : Unit {0}). Reset path y)
  cut_of path o true own running = always_then (always_any (half_cut by_plain d.store d.store.half)) (λ z _ _. always_done refl)
  cut_of path o false other running =
      always_done (any_more path 0 (counts_one_by d.store.half) d.history.running
      (ap (λ (r : Option OpenEntry). is_path_of r path) running ∙ other))

  reset_made_by : (path : ℕ) (r : Option OpenEntry) → d.history.running ≡ r → Always (reset_by by_plain d path r) (λ y (_ : Unit {0}). Reset path y)
  reset_made_by path (Some o) is = cut_of path o (o.path == path) refl is
  reset_made_by path None none =
      cond_both (has_used d.history path) (Done (record (reset_noted by_plain d path 0) { paths = reset_path d.paths path }) tt) (Done d tt)
      (λ (i : Interaction Bool Image MarksDevice (Unit {0})). Always i (λ y (_ : Unit {0}). Reset path y))
      (λ _. always_done (any_more path 0 (counts_one_by d.store.half) d.history.running
      (ap (λ (r : Option OpenEntry). is_path_of r path) none)))
      (λ unused. always_done (not_used path (counts_one_by d.store.half) none unused))

  pub reset_made : (path : ℕ) → Always (reset by_plain d path) (λ y (_ : Unit {0}). y.history ≡ history_reset d.history path (counts_one_by d.store.half))
  unfolding U.reset
  reset_made path = reset_made_by path d.history.running refl

  pub power_made : Always (power by_plain d) (λ y (_ : Unit {0}). y.history ≡ lost_power d.history (counts_one_by d.store.half))
  unfolding U.power
  power_made =
      always_then
      (always_then (always_any (half_cut by_plain (event_begun d).store (event_begun d).store.half)) (λ z _ _. always_done refl))
      (λ y a g. always_then (always_any (noted_end by_plain (waiting_count by_plain d.store) y.store)) (λ z _ _. always_done g))
