-- The events of a device whose history is a plain device's tell the firm writes that come to it.
use Rattle.std.proofs.Common.{◌≡◌, ◌*◌, ◌==◌, ℕ, Bool, true, false, List, [], ◌∷◌, ◌++◌, Option, Some, None, refl, sym, ap, subst, ◌∙◌, arith}
use Rattle.std.specs.Prelude.{if◌then◌else◌}
use Rattle.std.proofs.lemmas.Bool.{cond_both}
use Rattle.std.proofs.lemmas.List.{append-nil}
use Rattle.ckd_types.specs.declared.paths.Side.{Side}
use Rattle.ckd_types.specs.declared.record.Edit.{Edit}
use Rattle.ckd_types.specs.declared.record.Track.{Track}
use Rattle.ckd_types.specs.Edit.{apply_edit}
use Rattle.ckd_types.specs.Volume.{track_in}
use Rattle.ckd_chain.specs.declared.progress.Progress.{Progress}
use Rattle.ckd_chain.specs.declared.progress.Progress.TheVariants as progresses
use Rattle.ckd_chain.specs.declared.progress.Settled.TheVariants.{Equipment}
use Rattle.ckd_chain.specs.Fed.{Fed, fed}
use Rattle.ckd_chain.specs.State.{ChainState}
use Rattle.ckd_chain.specs.Steps.{begin_with, opening_at, stage_for, track_needed, need_of, index_of, stepped}
use Rattle.ckd_rules.specs.declared.opening.Opening.{Opening}
use Rattle.ckd_rules.specs.declared.opening.Opening.TheVariants as openings
use Rattle.ckd_rules.specs.declared.stance.Stance.{Stance}
use Rattle.ckd_rules.specs.Walk.{TrackEdit}
use Rattle.loss_model.specs.declared.Loss.TheVariants as losses
use Rattle.plain_defs.specs.declared.journal.Act.{Act}
use Rattle.plain_defs.specs.declared.journal.Act.TheVariants.{CfwLost}
use Rattle.plain_defs.specs.Effect.{Effect}
use Rattle.plain_defs.specs.History.{OpenEntry, History, open_part, plain_of, state_by, has_used, ended as history_ended, checked as history_checked, put, reset_in_history as history_reset, reset_in, cut_by, lost_power}
use Rattle.plain_defs.specs.Legal.{is_used}
use Rattle.plain_defs.specs.Journal.{replay}
use Rattle.plain_defs.specs.Loose.{is_loose_in}
use Rattle.plain_defs.specs.PlainState.{PlainState, reset_path}
use Rattle.plain_device.specs.Acted.{settled_act, paths_behind}
use Rattle.track_image.specs.Image.{Image}
use Rattle.device_outside.specs.Interaction.{Interaction, Done, and_then}
use Rattle.device_defs.specs.declared.answers.Came.{Came}
use Rattle.device_defs.specs.declared.answers.Came.TheVariants as came
use Rattle.device_defs.specs.Background.{work}
use Rattle.device_defs.specs.Command as N
use Rattle.device_defs.specs.Command.{has_loss, on_tracks, answered_by, command_at, command_by, command}
use Rattle.device_defs.specs.Contents.{by_plain}
use Rattle.device_defs.specs.Cutting as U
use Rattle.device_defs.specs.Cutting.{counts_one_by, origin_cut, half_cut, reset_noted, reset_by, reset, powered_off, power}
use Rattle.device_defs.specs.Device.{all_acted, all_reset, with_store, event_begun, event_ended, event}
use Rattle.device_defs.specs.Effects.{gone_back, loose_lost}
use Rattle.device_defs.specs.Events as V
use Rattle.device_defs.specs.Events.{with_loss, losing, lose, background, second_turn, command_ended, second_ended, second_of, second}
use Rattle.device_defs.specs.Marks.{MarksDevice, MarksStore}
use Rattle.device_defs.specs.Outcomes.{Turn, checks, settles, ends_with, turned, turned_by, sense_kept, program_over}
use Rattle.device_defs.specs.Owed.{noted_begin, waiting_count}
use Rattle.device_defs.specs.Peek as P
use Rattle.device_defs.specs.Peek.{peek}
use Rattle.device_defs.specs.Store.{Origin, OfCommand, OfCut, OfBackground, HalfWrite, no_debt, tracks_of, has_loose, with_frame, with_owed}
use Rattle.device_laws.proofs.DeviceHistory.{next_is}
use Rattle.device_laws.proofs.HistoryEnds.{effect_at}
use Rattle.device_laws.proofs.PlainCommand.{on, at, one_more, the_effect, same_effect}
use Rattle.device_laws.proofs.PlainCuts.{its_edit, its_track_is_firm}
use Rattle.device_laws.proofs.PlainRules.{by_opening, needs_by, fed_so, over_answer, asked_answer}
use Rattle.device_laws.proofs.PlainStores.{Core, core_of}
use Rattle.device_laws.proofs.PlainTurns.{AtPart, RunsAt, Halfway, IsMid, IsMidOf, Follows, some_none, none_mid}
use Rattle.device_laws.proofs.PlainWalks.{framed_same}
use Rattle.device_laws.proofs.PoolWalks.{hear_asks, ended_asks}
use Rattle.keeper_laws.specs.Firmness.{is_half_loose, IsTold}
use Rattle.keeper_laws.proofs.FirmEvents.{half_image}
use Rattle.keeper_laws.proofs.FirmStores.{NotLoose, half_track}
use Rattle.firm_laws.specs.FirmWrites.{FirmWrite, edit_writes, firm_writes}
use Rattle.firm_laws.proofs.HistoryWrites.{act_by, cut_none, cut_one, power_none, power_one, later_written, idle_reset, idle_power}
use Rattle.firm_laws.proofs.Made.{later, works, goes, Made, only_acts, then_checked, then_ended, then_known, made_store}
use Rattle.firm_laws.proofs.SaidCommands.{CameSays, FollowSays, follow_says}
use Rattle.firm_laws.proofs.SaidEvents.{SecondSays, part_says, work_notes, store_notes, side_notes, track_notes, cache_tells}
use Rattle.firm_laws.proofs.SaidParts.{at_none}
use Rattle.firm_laws.proofs.SaidStores.{Same, same_itself, On, on_same}
use Rattle.firm_laws.proofs.SaidWrites.{Noted, noted}
use Rattle.keeper_laws.proofs.Firms.{firms_done, firms_try, firms_told, firms_then, firms_if, asks_firms}
use Rattle.firm_laws.proofs.Tells.{Tells}

-- How an event begins and ends

firm_half : (h : Option (HalfWrite (Unit {0}))) (l : List Bool) → is_half_loose h l ≡ false → NotLoose (half_track h) l
firm_half None l e = tt
firm_half (Some h) l e = e

on_first : (d : MarksDevice) → IsTold d.store → On d.store.half (half_track d.store.half) d.store.plain d.store.geometry [] (noted_begin d.store)
on_first d told = record {
  said = refl;
  takes = tt;
  free = told.free;
  half = refl;
  firm = firm_half d.store.half d.store.loose told.half;
  room = told.room;
  plain = refl;
  geometry = refl;
}

-- nothing is told yet
abbrev Untold : MarksStore → List FirmWrite → MarksStore → Type 0
Untold s v z = (v ≡ []) × Same s z

same_framed : (s z : MarksStore) (t : ℕ) (f : Option Bool) → Same s z → Same s (with_frame z t f)
same_framed s z t f e = record { core = framed_same z t f ∙ e.core; room = e.room; free = e.free }

module _ (d : MarksDevice) (Q : List FirmWrite → MarksDevice → Type 0)
    (closed : (u : List FirmWrite) (y : MarksDevice) (z : MarksStore) → core_of z ≡ core_of y.store → Q u y → Q u (record y { store = z })) where
  pub end_tells : {A : Type 0} (w : List FirmWrite) (y : MarksDevice) (a : A) → Q w y → Tells (λ u x (_ : A). Q u x) w (event_ended by_plain d y a)
  end_tells w y a k =
      firms_then {p = λ v z (_ : Unit {0}). Q v (record y { store = z })} (λ z _. Done (record y { store = z }) a)
      (asks_firms (ended_asks by_plain (λ z. Q w (record y { store = z }))
      (λ z t j. closed w (record y { store = z }) (with_owed z t no_debt) refl j) (waiting_count by_plain d.store) y.store k))
      (λ u z _ j. firms_done j)

  event_tells : {A : Type 0} (body : MarksDevice → Interaction Bool Image MarksDevice A) →
      ((s : MarksStore) → Same (noted_begin d.store) s → Tells (λ u y (_ : A). Q u y) [] (body (record (event_begun d) { store = s }))) →
      Tells (λ u y (_ : A). Q u y) [] (event by_plain d body)
  event_tells body does =
      firms_then (event_ended by_plain d)
      (firms_then {p = λ v z (_ : Unit {0}). Untold (noted_begin d.store) v z} (λ s _. body (record (event_begun d) { store = s }))
      (asks_firms (hear_asks by_plain (Untold (noted_begin d.store) []) (λ z t clean e. (e.0, same_framed (noted_begin d.store) z t None e.1)) 960
      (noted_begin d.store) (refl, same_itself (noted_begin d.store))))
      (λ u s _ e. subst (λ (l : List FirmWrite). Tells (λ v y a. Q v y) l (body (record (event_begun d) { store = s }))) (sym e.0) (does s e.1)))
      (λ u y a k. end_tells u y a k)

module _ (num : ℕ) (empty : PlainState) (d : MarksDevice) (f : Follows num empty d) (told : IsTold d.store) where
  abbrev pub Left : List FirmWrite → MarksDevice → Type 0
  Left u y = (y.plans ≡ d.plans) × Made num empty d f u y

  closed : (u : List FirmWrite) (y : MarksDevice) (z : MarksStore) → core_of z ≡ core_of y.store → Left u y → Left u (record y { store = z })
  closed u y z e k = (k.0, made_store num empty d f u y z e k.1)

  abbrev here : MarksStore → MarksDevice
  here s = record (event_begun d) { store = s }

  on_now : (s : MarksStore) → Same (noted_begin d.store) s → On d.store.half (half_track d.store.half) d.store.plain d.store.geometry [] s
  on_now s e = on_same d.store.half (half_track d.store.half) d.store.plain d.store.geometry (noted_begin d.store) s e (on_first d told)

  no_acts : (s : MarksStore) → Same (noted_begin d.store) s → s.acts ≡ []
  no_acts s e = ap (λ (c : Core). c.acts) e.core

  acts_left : (u : List FirmWrite) (s z : MarksStore) → Noted d.store.plain u (core_of z) → Left u (with_store (here s) z)
  acts_left u s z x = (refl, only_acts refl x)

  -- A command

  module _ (o : OpenEntry) (running : d.history.running ≡ Some o) where
    -- the edit of the plain device's next command
    record Next (edit : Option TrackEdit) : Type 0 where
      word : ℕ
      next : (open_part d.plans (replay d.plans empty d.history.items) o).next ≡ Some word
      effect : (effect_at d.plans (replay d.plans empty d.history.items) d.history.items o word).edit ≡ edit

    module _ (chain : ChainState) (is : f.before ≡ Some chain) where
      there : AtPart d.plans (replay d.plans empty d.history.items) o chain
      there = at num empty d f o running chain is

      state_is : plain_of d.plans empty d.history ≡ (open_part d.plans (replay d.plans empty d.history.items) o).state
      state_is = ap (λ (r : Option OpenEntry). state_by d.plans (replay d.plans empty d.history.items) r) running

      next_of : (edit : Option TrackEdit) → (the_effect num empty d f o running chain is).edit ≡ edit → Next edit
      next_of edit e = record {
        word = index_of chain.at.next;
        next = next_is empty d f.stands.plain f.stands.due o running chain there.hand o.path;
        effect =
            ap (λ (x : Effect). x.edit)
            (sym (same_effect num empty d f o running chain is d.history o refl there (ap (λ (x : PlainState). x.volume) (sym state_is) ∙ f.of.volume)
            (ap (λ (x : PlainState). x.paths) (sym state_is) ∙ sym f.keeps)))
            ∙ e;
      }

    -- it comes out
    module _ (edit : Option TrackEdit) (next : Next edit) (y : MarksDevice) (plans : y.plans ≡ d.plans)
        (history : y.history ≡ all_acted d.history y.store.acts) (path : ℕ) where
      turn_left : (u : List FirmWrite) (chain : ChainState) (k : Came) → CameSays d.store.plain edit u y.store k → Left u (turned_by y path chain k)
      turn_left u chain (came.Ends e) x =
          let z = sense_kept y path e in
          cond_both e.over (program_over z (history_ended y.history e)) (record z { chain = Some chain; history = history_ended y.history e }) (Left u)
          (λ _. (plans, then_ended o next.word e edit running next.next next.effect (ap (λ (h : History). history_ended h e) history) x))
          (λ _. (plans, then_ended o next.word e edit running next.next next.effect (ap (λ (h : History). history_ended h e) history) x))
      turn_left u chain (came.Checks e) x = (plans, then_checked o e running (ap (λ (h : History). history_checked h e) history) x)
      turn_left u chain (came.HalfOpen t) x = (plans, only_acts history x)

    module _ (chain : ChainState) (is : f.before ≡ Some chain) (now : d.chain ≡ Some chain) (whole : d.store.half ≡ None) where
      abbrev the_edit : Option TrackEdit
      the_edit = (the_effect num empty d f o running chain is).edit

      whole_now : (s : MarksStore) → Same (noted_begin d.store) s → On None None d.store.plain d.store.geometry [] s
      whole_now s e =
          at_none (half_track d.store.half) s
          (subst (λ (h : Option (HalfWrite (Unit {0}))). On h (half_track d.store.half) d.store.plain d.store.geometry [] s) whole (on_now s e))

      fed_is : (s : MarksStore) → Same (noted_begin d.store) s → (t : ℕ) → need_of chain ≡ Some t →
          (fed (tracks_of s) (track_in d.store.plain) (settled_act chain.fixed.geometry d.paths o.path) chain).edit ≡ the_edit
      fed_is s e t needs =
          let two = on num empty d f o running chain is in
          let many : tracks_of s ≡ chain.fixed.cylinders * 15 = ap (λ (c : Core). c.cylinders * 15) e.core ∙ ap (λ (n : ℕ). n * 15) (sym two.1) in
          let some = f.some in
          let cylinders = two.1 in
          let k = one_more (chain.fixed.cylinders * 15) (omega (arith, some, cylinders)) in
          ap (λ (x : Fed). x.edit)
          (ap (λ (n : ℕ). fed n (track_in d.store.plain) (settled_act chain.fixed.geometry d.paths o.path) chain) (many ∙ sym k.1)
          ∙ fed_so chain (there chain is).fresh d.paths o.path d.store.plain (settled_act chain.fixed.geometry d.paths o.path) k.0 t k.1 needs)

      tracked : (s : MarksStore) → Same (noted_begin d.store) s → (t : ℕ) → need_of chain ≡ Some t →
          Tells (λ u y _. Left u y) [] (command_at by_plain (here s) o.path chain (Some t))
      tracked s e t needs =
          firms_then (on_tracks by_plain (here s) o.path chain)
          (follow_says d.store.plain d.store.geometry (settled_act chain.fixed.geometry d.paths o.path) (tracks_of s) t chain t
          (record { needs = needs; geometry = (on num empty d f o running chain is).0 }) s (whole_now s e))
          (λ u z a x. out u z a x)
        where
          out : (u : List FirmWrite) (z : MarksStore) (a : Option Turn) →
              FollowSays d.store.plain d.store.geometry (settled_act chain.fixed.geometry d.paths o.path) (tracks_of s) chain u z a →
              Tells (λ v y _. Left v y) u (on_tracks by_plain (here s) o.path chain z a)
          out u z None x = firms_done (refl, only_acts refl x)
          out u z (Some turn) x =
              firms_done (turn_left the_edit (next_of chain is the_edit refl) (with_store (here s) z) refl refl o.path u turn.chain turn.came
              (subst (λ (k : Option TrackEdit). CameSays d.store.plain k u z turn.came) (fed_is s e t needs) x))

      -- it looks at no track
      none_edit : need_of chain ≡ None → the_edit ≡ None
      none_edit none = by_opening_of (opening_at chain).stance (opening_at chain).opening
          (sym (needs_by chain (there chain is).fresh d.paths o.path d.store.plain) ∙ none)
        where
          by_opening_of : (z : Stance) (k : Opening) → track_needed (begin_with chain (opening_at chain)) (stage_for k) ≡ None →
              (by_opening chain (there chain is).fresh d.paths o.path d.store.plain z k).edit ≡ None
          by_opening_of z (openings.Over ending) free = (over_answer chain (there chain is).fresh d.paths o.path d.store.plain z ending).none
          by_opening_of z (openings.Asks act) free =
              (asked_answer chain (there chain is).fresh d.paths o.path d.store.plain z act chain.fixed.geometry refl).none
          by_opening_of z (openings.Looks look) free = absurd (cc)

      answered : (s : MarksStore) → Same (noted_begin d.store) s → the_edit ≡ None → (next : ChainState) (p : Progress) →
          Tells (λ u y _. Left u y) [] (answered_by by_plain (here s) o.path next p)
      answered s e none next p = by_progress p
        where
          history : d.history ≡ all_acted d.history s.acts
          history = sym (ap (all_acted d.history) (no_acts s e))

          nothing : Noted d.store.plain [] (core_of s)
          nothing = noted d.store.plain s (on_now s e)

          left : (y : MarksDevice) → y.plans ≡ d.plans → y.history ≡ all_acted d.history y.store.acts → y.store ≡ s → (turn : Turn) →
              CameSays d.store.plain None [] s turn.came → Left [] (turned y o.path turn)
          left y plans same store turn x =
              turn_left None (next_of chain is None none) y plans same o.path [] turn.chain turn.came
              (subst (λ (z : MarksStore). CameSays d.store.plain None [] z turn.came) (sym store) x)

          by_progress : (k : Progress) → Tells (λ u y _. Left u y) [] (answered_by by_plain (here s) o.path next k)
          by_progress (progresses.Ended c) = firms_done (left (here s) refl history refl (ends_with next c) nothing)
          by_progress (progresses.Need q) = firms_done (left (here s) refl history refl (checks next Equipment) nothing)
          by_progress (progresses.Write q c) = firms_done (left (here s) refl history refl (checks next Equipment) nothing)
          by_progress (progresses.Local act) =
              firms_done (left (record (here s) { paths = paths_behind d.paths o.path act }) refl history refl
              (settles next (settled_act s.geometry d.paths o.path act)) nothing)

      by_need : (s : MarksStore) → Same (noted_begin d.store) s → (k : Option ℕ) → need_of chain ≡ k →
          Tells (λ u y _. Left u y) [] (command_at by_plain (here s) o.path chain k)
      by_need s e (Some t) needs = tracked s e t needs
      by_need s e None none = firms_try (answered s e (none_edit none) (stepped chain None).chain (stepped chain None).progress)

      begun_left : (s : MarksStore) → Same (noted_begin d.store) s → Tells (λ u y _. Left u y) [] (command_by by_plain (here s) d.history.running d.chain)
      begun_left s e =
          subst (λ (r : Option OpenEntry). Tells (λ u y _. Left u y) [] (command_by by_plain (here s) r d.chain)) (sym running)
          (subst (λ (k : Option ChainState). Tells (λ u y _. Left u y) [] (command_by by_plain (here s) (Some o) k)) (sym now)
          (firms_if (has_loss o.acts)
          (λ _. firms_done (turn_left the_edit (next_of chain is the_edit refl) (here s) refl (sym (ap (all_acted d.history) (no_acts s e))) o.path []
          (checks chain Equipment).chain (checks chain Equipment).came (noted d.store.plain s (on_now s e))))
          (λ _. by_need s e (need_of chain) refl)))

    by_chain : d.store.half ≡ None → (k : Option ChainState) → f.before ≡ k → Tells (λ u y _. Left u y) [] (command by_plain d)
    unfolding N.command
    by_chain whole None is = absurd
        (subst (λ (k : Option ChainState). RunsAt d.plans (replay d.plans empty d.history.items) (Some o) k) is
        (subst (λ (r : Option OpenEntry). RunsAt d.plans (replay d.plans empty d.history.items) r f.before) running f.runs))
    by_chain whole (Some chain) is =
        let now = none_mid (core_of d.store) d.store.half d.history.running f.before d.chain whole f.mid ∙ is in
        firms_try (event_tells d Left closed (λ z. command_by by_plain z z.history.running z.chain) (λ s e. begun_left chain is now whole s e))

    pub command_left : d.store.half ≡ None → Tells (λ u y _. Left u y) [] (command by_plain d)
    command_left whole = by_chain whole f.before refl

    -- the half write of its command
    mid_next : (t : ℕ) (e : Edit) → Halfway (core_of d.store) t e d.history.running f.before d.chain → Next (Some (record { track = t; edit = e }))
    mid_next t e mid = next_of mid.origin mid.begins (Some (record { track = t; edit = e })) (its_edit num empty d f o running t e mid)

    -- and what the plain device makes of it
    mid_writes : (t : ℕ) (e : Edit) → Halfway (core_of d.store) t e d.history.running f.before d.chain →
        edit_writes (open_part d.plans (replay d.plans empty d.history.items) o).state (Some (record { track = t; edit = e }))
        ≡ (t, apply_edit e (track_in d.store.plain t)) ∷ []
    mid_writes t e mid =
        let x = (open_part d.plans (replay d.plans empty d.history.items) o).state in
        let same : plain_of d.plans empty d.history ≡ x =
        ap (λ (r : Option OpenEntry). state_by d.plans (replay d.plans empty d.history.items) r) running in
        let off : is_loose_in x.loose t ≡ false =
        ap (λ (p : PlainState). is_loose_in p.loose t) (sym same) ∙ f.of.loose t ∙ its_track_is_firm num empty d f o running t e mid in
        ap (λ (b : Bool). if b then [] else (t, apply_edit e (track_in x.volume t)) ∷ []) off
        ∙ ap (λ (v : List Track). (t, apply_edit e (track_in v t)) ∷ []) (ap (λ (p : PlainState). p.volume) (sym same) ∙ f.of.volume)

  -- The other part of a write

  mid_of : (h : HalfWrite (Unit {0})) → d.store.half ≡ Some h → IsMidOf (core_of d.store) h.track h.origin d.history.running f.before d.chain
  mid_of h there = subst (λ (x : Option (HalfWrite (Unit {0}))). IsMid (core_of d.store) x d.history.running f.before d.chain) there f.mid

  its_second : (t : ℕ) (bypass : Bool) (e : Edit) → Halfway (core_of d.store) t e d.history.running f.before d.chain → (r : Option OpenEntry) →
      d.history.running ≡ r → (s z : MarksStore) (u : List FirmWrite) (done : Bool) →
      SecondSays d.store.plain d.store.geometry t (OfCommand bypass e) u z done →
      Tells (λ v y _. Left v y) u (command_ended by_plain (with_store (here s) z) t (all_acted d.history z.acts).running d.chain done)
  its_second t bypass e mid None none s z u done x = absurd (some_none d.history.running mid.runs none)
  its_second t bypass e mid (Some o) running s z u done x =
      let l = later d.plans empty z.acts d.history o running (goes num empty d f o running) in
      subst (λ (r : Option OpenEntry). Tells (λ v y _. Left v y) u (command_ended by_plain (with_store (here s) z) t r d.chain done))
      (sym (ap (λ (h : History). h.running) l.is))
      (subst (λ (k : Option ChainState). Tells (λ v y _. Left v y) u (command_ended by_plain (with_store (here s) z) t (Some l.entry) k done)) (sym mid.is)
      (firms_done (turn_left o running (Some (record { track = t; edit = e })) (mid_next o running t e mid) (with_store (here s) z) refl refl l.entry.path u
      (second_turn by_plain mid.chain done).chain (second_turn by_plain mid.chain done).came (says done x))))
    where
      says : (c : Bool) → SecondSays d.store.plain d.store.geometry t (OfCommand bypass e) u z c →
          CameSays d.store.plain (Some (record { track = t; edit = e })) u z (second_turn by_plain mid.chain c).came
      says true k = k
      says false k = k

  second_by : (t : ℕ) (origin : Origin) → IsMidOf (core_of d.store) t origin d.history.running f.before d.chain → (s z : MarksStore) (u : List FirmWrite)
      (done : Bool) → SecondSays d.store.plain d.store.geometry t origin u z done →
      Tells (λ v y _. Left v y) u (second_ended by_plain (with_store (here s) z) t origin done)
  second_by t (OfCommand bypass e) mid s z u done x = its_second t bypass e mid d.history.running refl s z u done x
  second_by t (OfCut bypass) mid s z u done x = firms_done (acts_left u s z x)
  second_by t OfBackground mid s z u done x = firms_done (acts_left u s z x)

  pub second_left : (h : HalfWrite (Unit {0})) → d.store.half ≡ Some h → Tells (λ u y _. Left u y) [] (second by_plain d)
  unfolding V.second
  second_left h there =
      event_tells d Left closed (λ z. second_of by_plain z z.store.half)
      (λ s e. subst (λ (x : Option (HalfWrite (Unit {0}))). Tells (λ u y _. Left u y) [] (second_of by_plain (here s) x))
      (sym (ap (λ (c : Core). c.half) e.core ∙ there))
      (firms_then (λ z done. second_ended by_plain (with_store (here s) z) h.track h.origin done)
      (part_says d.store.plain d.store.geometry s h
      (subst (λ (x : Option (HalfWrite (Unit {0}))). On x (half_track x) d.store.plain d.store.geometry [] s) there (on_now s e)))
      (λ u z done x. second_by h.track h.origin (mid_of h there) s z u done x)))

  -- By itself, and losses

  pub background_left : d.store.half ≡ None → Tells (λ u y _. Left u y) [] (background by_plain d)
  unfolding V.background
  background_left whole =
      event_tells d Left closed (λ z. and_then (work by_plain z.store) (λ s did. Done (with_store z s) did))
      (λ s e. firms_then (λ z did. Done (with_store (here s) z) did)
      (work_notes d.store.plain d.store.geometry s (at_none (half_track d.store.half) s
      (subst (λ (h : Option (HalfWrite (Unit {0}))). On h (half_track d.store.half) d.store.plain d.store.geometry [] s) whole (on_now s e))))
      (λ u z did x. firms_done (acts_left u s z x)))

  pub store_left : Tells (λ u y (_ : Unit {0}). Left u y) [] (lose by_plain d losses.Store)
  unfolding V.lose
  store_left =
      event_tells d Left closed (λ z. and_then (losing by_plain z.store losses.Store) (λ s _. Done (with_store z s) tt))
      (λ s e. firms_then (λ z _. Done (with_store (here s) z) tt)
      (store_notes d.store.plain d.store.geometry d.store.half (half_track d.store.half) s (on_now s e)) (λ u z _ x. firms_done (acts_left u s z x)))

  pub side_left : (side : Side) → Tells (λ u y (_ : Unit {0}). Left u y) [] (lose by_plain d (losses.Side side))
  unfolding V.lose
  side_left side =
      event_tells d Left closed (λ z. and_then (losing by_plain z.store (losses.Side side)) (λ s _. Done (with_store z s) tt))
      (λ s e. firms_then (λ z _. Done (with_store (here s) z) tt)
      (side_notes d.store.plain d.store.geometry d.store.half (half_track d.store.half) s side (on_now s e)) (λ u z _ x. firms_done (acts_left u s z x)))

  -- the loss of data of cache fast write is no write
  cache_written : (s : MarksStore) → s.acts ≡ [] → (acts : List Act) → acts ≡ (loose_lost (with_loss s losses.Cache)).acts →
      firm_writes d.plans empty (all_acted d.history acts) ≡ firm_writes d.plans empty d.history ++ []
  cache_written s none acts is =
      ap (λ (l : List Act). firm_writes d.plans empty (all_acted d.history l)) is
      ∙ cond_both (has_loose s) (record (gone_back (with_loss s losses.Cache)) { acts = s.acts ++ CfwLost ∷ [] }) (with_loss s losses.Cache)
      (λ (z : MarksStore). firm_writes d.plans empty (all_acted d.history z.acts) ≡ firm_writes d.plans empty d.history ++ [])
      (λ _. ap (λ (l : List Act). firm_writes d.plans empty (all_acted d.history (l ++ CfwLost ∷ []))) none
      ∙ act_by d.plans empty d.history d.history.running refl (works num empty d f) CfwLost)
      (λ _. ap (λ (l : List Act). firm_writes d.plans empty (all_acted d.history l)) none ∙ sym (append-nil (firm_writes d.plans empty d.history)))

  pub cache_left : Tells (λ u y (_ : Unit {0}). Left u y) [] (lose by_plain d losses.Cache)
  unfolding V.lose
  cache_left =
      event_tells d Left closed (λ z. and_then (losing by_plain z.store losses.Cache) (λ s _. Done (with_store z s) tt))
      (λ s e. firms_then (λ z _. Done (with_store (here s) z) tt) (cache_tells s (λ t. e.free t ∙ told.free t))
      (λ u z _ x. firms_done (
        refl,
        then_known
            (cache_written s (no_acts s e) z.acts (ap (λ (c : Core). c.acts) x.1)
            ∙ ap (λ (l : List FirmWrite). firm_writes d.plans empty d.history ++ l) (sym x.0)),
      )))

  -- A look

  abbrev pub Looked : List FirmWrite → MarksDevice → Type 0
  Looked u y = (y.plans ≡ d.plans) × (y.history ≡ all_acted d.history y.store.acts) × Noted d.store.plain u (core_of y.store)

  looked_closed : (u : List FirmWrite) (y : MarksDevice) (z : MarksStore) → core_of z ≡ core_of y.store → Looked u y → Looked u (record y { store = z })
  looked_closed u y z e k =
      (k.0, k.1 ∙ ap (λ (c : Core). all_acted d.history c.acts) (sym e), subst (Noted d.store.plain u) (sym e) k.2)

  pub peek_left : (q : ℕ) → Tells (λ u y _. Looked u y) [] (peek by_plain d q)
  unfolding P.peek
  peek_left q =
      firms_then (event_ended by_plain d)
      (firms_then (λ s found. Done (with_store (event_begun d) s) found)
      (track_notes d.store.plain d.store.geometry d.store.half (half_track d.store.half) (noted_begin d.store) q (on_first d told))
      (λ u z found x. firms_done (refl, refl, x)))
      (λ u y a k. end_tells d Looked looked_closed u y a k)

  -- Cuts

  -- what an open half write is told to have written, where its command counts
  abbrev origin_writes : ℕ → Origin → List FirmWrite
  origin_writes t (OfCommand bypass e) = (t, apply_edit e (track_in d.store.plain t)) ∷ []
  origin_writes t (OfCut bypass) = []
  origin_writes t OfBackground = []

  abbrev cut_writes : Option (HalfWrite (Unit {0})) → List FirmWrite
  cut_writes (Some h) = origin_writes h.track h.origin
  cut_writes None = []

  origin_says : (s : MarksStore) (h : HalfWrite (Unit {0})) (origin : Origin) → s.plain ≡ d.store.plain → h.origin ≡ origin →
      Tells (λ u z (_ : Unit {0}). u ≡ origin_writes h.track origin) [] (origin_cut by_plain s h origin)
  origin_says s h (OfCommand bypass e) plain of =
      firms_told tt (firms_done (ap (λ (t : Track). (h.track, t) ∷ [])
      (half_image 0 ⊥ s h e bypass of ∙ ap (λ (v : List Track). apply_edit e (track_in v h.track)) plain)))
  origin_says s h (OfCut bypass) plain of = firms_done refl
  origin_says s h OfBackground plain of = firms_done refl

  half_says : (s : MarksStore) (k : Option (HalfWrite (Unit {0}))) → s.plain ≡ d.store.plain →
      Tells (λ u z (_ : Unit {0}). u ≡ cut_writes k) [] (half_cut by_plain s k)
  half_says s (Some h) plain = origin_says s h h.origin plain refl
  half_says s None plain = firms_done refl

  -- the history behind a cut, with so many commands more than ended
  module _ (o : OpenEntry) (running : d.history.running ≡ Some o) (behind : ℕ → History)
      (none : firm_writes d.plans empty (behind 0) ≡ firm_writes d.plans empty d.history)
      (one : (i : ℕ) → (open_part d.plans (replay d.plans empty d.history.items) o).next ≡ Some i →
      firm_writes d.plans empty (behind 1) ≡ firm_writes d.plans empty d.history
      ++ edit_writes (open_part d.plans (replay d.plans empty d.history.items) o).state
      (effect_at d.plans (replay d.plans empty d.history.items) d.history.items o i).edit) where
    origin_written : (t : ℕ) (origin : Origin) → IsMidOf (core_of d.store) t origin d.history.running f.before d.chain →
        firm_writes d.plans empty (behind (if U.is_of_command origin then 1 else 0)) ≡ firm_writes d.plans empty d.history ++ origin_writes t origin
    origin_written t (OfCommand bypass e) mid =
        let next = mid_next o running t e mid in
        let state = (open_part d.plans (replay d.plans empty d.history.items) o).state in
        one next.word next.next
        ∙ ap (λ (x : Option TrackEdit). firm_writes d.plans empty d.history ++ edit_writes state x) next.effect
        ∙ ap (λ (l : List FirmWrite). firm_writes d.plans empty d.history ++ l) (mid_writes o running t e mid)
    origin_written t (OfCut bypass) mid = none ∙ sym (append-nil (firm_writes d.plans empty d.history))
    origin_written t OfBackground mid = none ∙ sym (append-nil (firm_writes d.plans empty d.history))

    half_by : (k : Option (HalfWrite (Unit {0}))) → d.store.half ≡ k →
        firm_writes d.plans empty (behind (counts_one_by k)) ≡ firm_writes d.plans empty d.history ++ cut_writes k
    half_by (Some h) is = origin_written h.track h.origin (mid_of h is)
    half_by None is = none ∙ sym (append-nil (firm_writes d.plans empty d.history))

    half_written : firm_writes d.plans empty (behind (counts_one_by d.store.half)) ≡ firm_writes d.plans empty d.history ++ cut_writes d.store.half
    half_written = half_by d.store.half refl

  -- Resets

  path_written : (path : ℕ) (o : OpenEntry) → d.history.running ≡ Some o → (o.path == path) ≡ true →
      firm_writes d.plans empty (history_reset d.history path (counts_one_by d.store.half)) ≡ firm_writes d.plans empty d.history ++ cut_writes d.store.half
  path_written path o running same =
      let n = counts_one_by d.store.half in
      let later = if is_used path false d.history.items then record d.history { waiting = put path d.history.waiting } else d.history in
      ap (λ (r : Option OpenEntry). firm_writes d.plans empty (reset_in d.history path n r)) running
      ∙ ap (λ (b : Bool). firm_writes d.plans empty (if b then cut_by d.history o n else later)) same
      ∙ half_written o running (λ k. cut_by d.history o k) (cut_none d.plans empty d.history o running)
      (λ i next. cut_one d.plans empty d.history o running (goes num empty d f o running) i next)

  by_running : (path : ℕ) (r : Option OpenEntry) → d.history.running ≡ r → Tells (λ u y (_ : Unit {0}). Left u y) [] (reset_by by_plain d path r)
  by_running path (Some o) running =
      firms_if (o.path == path)
      (λ same. firms_then
      (λ s _. Done (record (reset_noted by_plain d path (counts_one_by d.store.half)) {
        store = s;
        chain = None;
        paths = all_reset (reset_path d.paths path) d.history.waiting;
      }) tt)
      (half_says d.store d.store.half refl)
      (λ u z _ x. firms_done (
        refl,
        then_known (path_written path o running same ∙ ap (λ (l : List FirmWrite). firm_writes d.plans empty d.history ++ l)
            (sym x)),
      )))
      (λ other. firms_done (
        refl,
        then_known
            (later_written d.plans empty d.history path 0 o running other ∙ sym (append-nil (firm_writes d.plans empty d.history))),
      ))
  by_running path None none =
      firms_if (has_used d.history path)
      (λ _. firms_done (refl, then_known (idle_reset d.plans empty d.history path 0 none ∙ sym (append-nil (firm_writes d.plans empty d.history)))))
      (λ _. firms_done (refl, then_known (sym (append-nil (firm_writes d.plans empty d.history)))))

  pub reset_left : (path : ℕ) → Tells (λ u y (_ : Unit {0}). Left u y) [] (reset by_plain d path)
  unfolding U.reset
  reset_left path = by_running path d.history.running refl

  -- The loss of power

  idle_origin : (t : ℕ) (origin : Origin) → d.history.running ≡ None → IsMidOf (core_of d.store) t origin d.history.running f.before d.chain →
      origin_writes t origin ≡ []
  idle_origin t (OfCommand bypass e) none mid = absurd (some_none d.history.running mid.runs none)
  idle_origin t (OfCut bypass) none mid = refl
  idle_origin t OfBackground none mid = refl

  idle_half : (k : Option (HalfWrite (Unit {0}))) → d.store.half ≡ k → d.history.running ≡ None → cut_writes k ≡ []
  idle_half (Some h) is none = idle_origin h.track h.origin none (mid_of h is)
  idle_half None is none = refl

  power_written : (r : Option OpenEntry) → d.history.running ≡ r →
      firm_writes d.plans empty (lost_power d.history (counts_one_by d.store.half)) ≡ firm_writes d.plans empty d.history ++ cut_writes d.store.half
  power_written (Some o) running =
      half_written o running (λ k. lost_power d.history k) (power_none d.plans empty d.history o running)
      (λ i next. power_one d.plans empty d.history o running (goes num empty d f o running) i next)
  power_written None none =
      idle_power d.plans empty d.history (counts_one_by d.store.half) none
      ∙ sym (append-nil (firm_writes d.plans empty d.history))
      ∙ ap (λ (l : List FirmWrite). firm_writes d.plans empty d.history ++ l) (sym (idle_half d.store.half refl none))

  pub power_left : Tells (λ u y (_ : Unit {0}). Left u y) [] (power by_plain d)
  unfolding U.power
  power_left =
      firms_then (event_ended by_plain d)
      (firms_then (λ s _. Done (powered_off by_plain (event_begun d) s) tt) (half_says (noted_begin d.store) (noted_begin d.store).half refl)
      (λ u z _ x. firms_done (
        refl,
        then_known (power_written d.history.running refl
            ∙ ap (λ (l : List FirmWrite). firm_writes d.plans empty d.history ++ l) (sym x)),
      )))
      (λ u y a k. end_tells d Left closed u y a k)
