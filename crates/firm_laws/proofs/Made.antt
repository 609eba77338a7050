-- What an event that told some firm tracks made of its device's history, and that these are the firm writes that came to it.
use Rattle.std.proofs.Common.{◌≡◌, ◌+◌, ℕ, suc, Bool, List, [], ◌∷◌, ◌++◌, Option, Some, None, length, append_assoc, refl, sym, ap, subst, ◌∙◌, arith}
use Rattle.std.specs.Prelude.{if◌then◌else◌}
use Rattle.std.proofs.lemmas.Bool.{cond_both}
use Rattle.std.proofs.lemmas.List.{append-nil}
use Rattle.ckd_types.specs.declared.channel.Ccw.{Ccw}
use Rattle.ckd_types.specs.declared.channel.CommandEnd.{CommandEnd}
use Rattle.ckd_types.specs.declared.record.Track.{Track}
use Rattle.ckd_types.specs.Ccw.{ccw_at}
use Rattle.ckd_types.specs.Edit.{apply_edit}
use Rattle.ckd_types.specs.Fixed.{Fixed}
use Rattle.ckd_types.specs.Volume.{track_in}
use Rattle.ckd_rules.specs.declared.stance.Stance.{Stance}
use Rattle.ckd_rules.specs.Ends.{end_at_word}
use Rattle.ckd_rules.specs.Walk.{TrackEdit}
use Rattle.plain_defs.specs.declared.journal.Act.{Act}
use Rattle.plain_defs.specs.declared.journal.Act.TheVariants.{Loosen, Harden, CfwLost}
use Rattle.plain_defs.specs.declared.journal.How.TheVariants.{Full}
use Rattle.plain_defs.specs.Effect.{Effect, command_effect}
use Rattle.plain_defs.specs.History.{OpenEntry, History, open_part, plain_of, with_end, closed, acted_in, ended, checked}
use Rattle.plain_defs.specs.Journal.{Plans, program_of, replay}
use Rattle.plain_defs.specs.Loose.{is_loose_in, act_done}
use Rattle.plain_defs.specs.PlainState.{LooseTrack, PathsState, PlainState}
use Rattle.plain_defs.specs.Program.{Part, acts_done, command_run, stepped_at, part_of}
use Rattle.plain_defs.proofs.PartLemmas.{acted_nothing, part_more}
use Rattle.device_defs.specs.Device.{all_acted}
use Rattle.device_defs.specs.Marks.{MarksDevice, MarksStore}
use Rattle.device_laws.proofs.DevicePaths.{acts_keep_paths}
use Rattle.device_laws.proofs.HistoryEnds.{effect_at, one_longer, closed_state, running_is_open}
use Rattle.device_laws.proofs.OpenProgram.{no_acts, with_one_act}
use Rattle.device_laws.proofs.PlainStores.{Core, core_of, loose_at}
use Rattle.device_laws.proofs.PlainTurns.{Follows}
use Rattle.firm_laws.specs.FirmWrites.{FirmWrite, edit_writes, firm_writes}
use Rattle.firm_laws.proofs.HistoryWrites.{Going, Works, part_acts, going_acts, ended_written, checked_written, firmings, Takes, Behind, acts_behind}
use Rattle.firm_laws.proofs.SaidCommands.{EndSays}
use Rattle.firm_laws.proofs.SaidWrites.{Noted, firmly, loosely}

acts_volume : (acts : List Act) (p : PlainState) → Takes acts → (acts_done p acts).volume ≡ p.volume
acts_volume [] p none = refl
acts_volume (Loosen t ∷ acts) p none = acts_volume acts (act_done p (Loosen t)) none
acts_volume (Harden t ∷ acts) p none = acts_volume acts (act_done p (Harden t)) none
acts_volume (CfwLost ∷ acts) p none = absurd none

-- A program that runs, behind acts

module _ (plans : Plans) (empty : PlainState) where
  -- its entry has them, and it goes on where it did
  pub record Later (h : History) (o : OpenEntry) (acts : List Act) : Type 0 where
    pub entry : OpenEntry
    pub is : all_acted h acts ≡ record h { running = Some entry }
    pub path : entry.path ≡ o.path
    pub words : program_of plans entry.path entry.ordinal ≡ program_of plans o.path o.ordinal
    pub going : Going plans (replay plans empty h.items) entry
    pub fixed : (open_part plans (replay plans empty h.items) entry).fixed ≡ (open_part plans (replay plans empty h.items) o).fixed
    pub stance : (open_part plans (replay plans empty h.items) entry).stance ≡ (open_part plans (replay plans empty h.items) o).stance
    pub next : (open_part plans (replay plans empty h.items) entry).next ≡ (open_part plans (replay plans empty h.items) o).next
    pub state : (open_part plans (replay plans empty h.items) entry).state ≡ acts_done (open_part plans (replay plans empty h.items) o).state acts

  pub later : (acts : List Act) (h : History) (o : OpenEntry) → h.running ≡ Some o → Going plans (replay plans empty h.items) o → Later h o acts
  later [] h o running g = record {
    entry = o;
    is = ap (λ (r : Option OpenEntry). record h { running = r }) running;
    path = refl;
    words = refl;
    going = g;
    fixed = refl;
    stance = refl;
    next = refl;
    state = refl;
  }
  later (act ∷ acts) h o running g =
      let s = replay plans empty h.items in
      let one = with_one_act o act in
      let rest = later acts (record h { running = Some one }) one refl (going_acts plans s o g act) in
      let same = part_acts plans s o g act in record {
        entry = rest.entry;
        is = ap (λ (r : Option OpenEntry). all_acted (acted_in h act r) acts) running ∙ rest.is;
        path = rest.path;
        words = rest.words;
        going = rest.going;
        fixed = rest.fixed ∙ ap (λ (p : Part). p.fixed) same;
        stance = rest.stance ∙ ap (λ (p : Part). p.stance) same;
        next = rest.next ∙ ap (λ (p : Part). p.next) same;
        state = rest.state ∙ ap (λ (p : Part). acts_done p.state acts) same;
      }

  module _ (h : History) (o : OpenEntry) (acts : List Act) (none : Takes acts) (l : Later h o acts) (i : ℕ) where
    -- its next command does what it did
    same_effect : effect_at plans (replay plans empty h.items) h.items l.entry i ≡ effect_at plans (replay plans empty h.items) h.items o i
    same_effect =
        let s = replay plans empty h.items in
        let p = open_part plans s o in
        let q = open_part plans s l.entry in
        let c = ccw_at (program_of plans o.path o.ordinal) i in
        let paths : q.state.paths ≡ p.state.paths = ap (λ (x : PlainState). x.paths) l.state ∙ acts_keep_paths plans p.state acts in
        let volume : q.state.volume ≡ p.state.volume = ap (λ (x : PlainState). x.volume) l.state ∙ acts_volume acts p.state none in
        ap (λ (w : List Ccw). command_effect q.fixed q.state.paths (track_in q.state.volume) l.entry.path q.stance (ccw_at w i)) l.words
        ∙ ap (λ (x : Fixed). command_effect x q.state.paths (track_in q.state.volume) l.entry.path q.stance c) l.fixed
        ∙ ap (λ (x : PathsState). command_effect p.fixed x (track_in q.state.volume) l.entry.path q.stance c) paths
        ∙ ap (λ (x : List Track). command_effect p.fixed p.state.paths (track_in x) l.entry.path q.stance c) volume
        ∙ ap (λ (x : ℕ). command_effect p.fixed p.state.paths (track_in p.state.volume) x q.stance c) l.path
        ∙ ap (λ (x : Stance). command_effect p.fixed p.state.paths (track_in p.state.volume) o.path x c) l.stance

  -- a command that ends makes no track loose or firm
  module _ (h : History) (o : OpenEntry) (g : Going plans (replay plans empty h.items) o) (i : ℕ)
      (next : (open_part plans (replay plans empty h.items) o).next ≡ Some i) (e : CommandEnd) where
    abbrev loose : List LooseTrack
    loose = (open_part plans (replay plans empty h.items) o).state.loose

    part_next : (part_of (replay plans empty h.items) o.path (program_of plans o.path o.ordinal) o.acts (length (o.ends ++ e ∷ []))).state.loose ≡ loose
    part_next =
        let p = open_part plans (replay plans empty h.items) o in
        let ccws = program_of plans o.path o.ordinal in
        let many = g.many in
        let longer : length (command_run o.path ccws p).ends ≡ suc (length p.ends) =
        ap (λ (x : Option ℕ). length (stepped_at o.path ccws p x).ends) next
        ∙ one_longer p.ends (end_at_word i (ccw_at ccws i) (effect_at plans (replay plans empty h.items) h.items o i).outcome) in
        ap (λ (k : ℕ). (part_of (replay plans empty h.items) o.path ccws o.acts k).state.loose) (one_longer o.ends e)
        ∙ ap (λ (x : Part). x.state.loose)
        (part_more o.path ccws o.acts (replay plans empty h.items) (length o.ends)
        ∙ acted_nothing o.acts (command_run o.path ccws p)
        (no_acts 0 (length o.ends + 1) (length (command_run o.path ccws p).ends) o.acts g.order (omega (arith, many, longer)))
        ∙ ap (λ (x : Option ℕ). stepped_at o.path ccws p x) next)

    ended_loose : (plain_of plans empty (ended (record h { running = Some o }) e)).loose ≡ loose
    ended_loose =
        let k : History = record h { running = Some o } in
        cond_both e.over (closed k (with_end o e) Full) (record k { running = Some (with_end o e) })
        (λ (x : History). (plain_of plans empty x).loose ≡ loose)
        (λ _. ap (λ (x : PlainState). x.loose) (closed_state plans empty k (with_end o e) Full) ∙ part_next) (λ _. part_next)

-- A device of a run

module _ (num : ℕ) (empty : PlainState) (d : MarksDevice) (f : Follows num empty d) where
  works_by : (r : Option OpenEntry) → d.history.running ≡ r → Works d.plans (replay d.plans empty d.history.items) r
  works_by (Some o) is =
      let open_is = running_is_open d.plans empty d.history f.stands.plain f.stands.due o is in
      record { many = ap length (sym open_is.ends); runs = open_is.runs; order = open_is.order }
  works_by None is = tt

  pub works : Works d.plans (replay d.plans empty d.history.items) d.history.running
  works = works_by d.history.running refl

  pub goes : (o : OpenEntry) → d.history.running ≡ Some o → Going d.plans (replay d.plans empty d.history.items) o
  goes o is = works_by (Some o) is

  -- only acts came to it, or a command was checked or ended behind them, as the plain device's does; or what came is known
  pub data Made (u : List FirmWrite) (y : MarksDevice) : Type 0 where
    only_acts : y.history ≡ all_acted d.history y.store.acts → Noted d.store.plain u (core_of y.store) → Made u y
    then_checked : (o : OpenEntry) (e : CommandEnd) → d.history.running ≡ Some o → y.history ≡ checked (all_acted d.history y.store.acts) e →
        Noted d.store.plain u (core_of y.store) → Made u y
    then_ended : (o : OpenEntry) (i : ℕ) (e : CommandEnd) (edit : Option TrackEdit) → d.history.running ≡ Some o →
        (open_part d.plans (replay d.plans empty d.history.items) o).next ≡ Some i →
        (effect_at d.plans (replay d.plans empty d.history.items) d.history.items o i).edit ≡ edit →
        y.history ≡ ended (all_acted d.history y.store.acts) e → EndSays d.store.plain edit u (core_of y.store) → Made u y
    then_known : firm_writes d.plans empty y.history ≡ firm_writes d.plans empty d.history ++ u → Made u y

  pub made_store : (u : List FirmWrite) (y : MarksDevice) (z : MarksStore) → core_of z ≡ core_of y.store → Made u y → Made u (record y { store = z })
  made_store u y z e (only_acts is x) =
      only_acts (is ∙ ap (λ (c : Core). all_acted d.history c.acts) (sym e)) (subst (Noted d.store.plain u) (sym e) x)
  made_store u y z e (then_checked o c running is x) =
      then_checked o c running (is ∙ ap (λ (k : Core). checked (all_acted d.history k.acts) c) (sym e)) (subst (Noted d.store.plain u) (sym e) x)
  made_store u y z e (then_ended o i c edit running next effect is x) =
      then_ended o i c edit running next effect (is ∙ ap (λ (k : Core). ended (all_acted d.history k.acts) c) (sym e))
      (subst (EndSays d.store.plain edit u) (sym e) x)
  made_store u y z e (then_known is) = then_known is

  noted_takes : (edit : Option TrackEdit) (u : List FirmWrite) (c : Core) → EndSays d.store.plain edit u c → Takes c.acts
  noted_takes None u c x = x.takes
  noted_takes (Some e) u c (firmly v _ _ x off is) = x.takes
  noted_takes (Some e) u c (loosely _ _ x on) = x.takes

  behind : (acts : List Act) → Takes acts → Behind d.plans empty d.store.plain d.history acts
  behind acts none = acts_behind d.plans empty d.store.plain acts d.history works f.of.volume none

  acts_are : (u : List FirmWrite) (y : MarksDevice) → Noted d.store.plain u (core_of y.store) →
      firm_writes d.plans empty (all_acted d.history y.store.acts) ≡ firm_writes d.plans empty d.history ++ u
  acts_are u y x = (behind y.store.acts x.takes).written ∙ ap (λ (w : List FirmWrite). firm_writes d.plans empty d.history ++ w) (sym x.said)

  module _ (u : List FirmWrite) (y : MarksDevice) (plans : y.plans ≡ d.plans) (after : Follows num empty y) where
    -- the edit of a command as the plain device has it
    edit_is : (edit : Option TrackEdit) (state : PlainState) → state.volume ≡ d.store.plain →
        ((t : ℕ) → is_loose_in state.loose t ≡ loose_at (core_of y.store) t) → EndSays d.store.plain edit u (core_of y.store) →
        firmings d.store.plain y.store.acts ++ edit_writes state edit ≡ u
    edit_is None state volume same x = append-nil (firmings d.store.plain y.store.acts) ∙ sym x.said
    edit_is (Some e) state volume same (firmly v _ _ x off is) =
        let there = track_in state.volume e.track in
        ap (λ (b : Bool). firmings d.store.plain y.store.acts ++ (if b then [] else (e.track, apply_edit e.edit there) ∷ [])) (same e.track ∙ off)
        ∙ ap (λ (l : List Track). firmings d.store.plain y.store.acts ++ (e.track, apply_edit e.edit (track_in l e.track)) ∷ []) volume
        ∙ ap (λ (l : List FirmWrite). l ++ (e.track, apply_edit e.edit (track_in d.store.plain e.track)) ∷ []) (sym x.said)
        ∙ sym is
    edit_is (Some e) state volume same (loosely _ _ x on) =
        ap (λ (b : Bool). firmings d.store.plain y.store.acts ++ (if b then [] else (e.track, apply_edit e.edit (track_in state.volume e.track)) ∷ []))
        (same e.track ∙ on after.places)
        ∙ append-nil (firmings d.store.plain y.store.acts) ∙ sym x.said

    same_plans : firm_writes y.plans empty y.history ≡ firm_writes d.plans empty y.history
    same_plans = ap (λ (p : Plans). firm_writes p empty y.history) plans

    ended_is : (o : OpenEntry) (i : ℕ) (e : CommandEnd) (edit : Option TrackEdit) → d.history.running ≡ Some o →
        (open_part d.plans (replay d.plans empty d.history.items) o).next ≡ Some i →
        (effect_at d.plans (replay d.plans empty d.history.items) d.history.items o i).edit ≡ edit →
        y.history ≡ ended (all_acted d.history y.store.acts) e → EndSays d.store.plain edit u (core_of y.store) →
        firm_writes d.plans empty y.history ≡ firm_writes d.plans empty d.history ++ u
    ended_is o i e edit running next effect is x =
        let acts = y.store.acts in
        let none = noted_takes edit u (core_of y.store) x in
        let s = replay d.plans empty d.history.items in
        let l = later d.plans empty acts d.history o running (goes o running) in
        let h : History = record d.history { running = Some l.entry } in
        let b = behind acts none in
        let at : (open_part d.plans s l.entry).next ≡ Some i = l.next ∙ next in
        let state = (open_part d.plans s l.entry).state in
        let whole : y.history ≡ ended h e = is ∙ ap (λ (k : History). ended k e) l.is in
        let volume : state.volume ≡ d.store.plain = ap (λ (k : History). (plain_of d.plans empty k).volume) (sym l.is) ∙ b.volume in
        let loose : (t : ℕ) → is_loose_in state.loose t ≡ loose_at (core_of y.store) t = λ t.
        ap (λ (k : List LooseTrack). is_loose_in k t) (sym (ended_loose d.plans empty d.history l.entry l.going i at e))
        ∙ ap (λ (k : History). is_loose_in (plain_of d.plans empty k).loose t) (sym whole)
        ∙ ap (λ (p : Plans). is_loose_in (plain_of p empty y.history).loose t) (sym plans)
        ∙ after.of.loose t in
        ap (firm_writes d.plans empty) whole
        ∙ ended_written d.plans empty h l.entry refl l.going i at e
        ∙ ap (λ (k : History). firm_writes d.plans empty k ++ edit_writes state (effect_at d.plans s d.history.items l.entry i).edit) (sym l.is)
        ∙ ap (λ (w : List FirmWrite). w ++ edit_writes state (effect_at d.plans s d.history.items l.entry i).edit) b.written
        ∙ ap (λ (w : Effect). (firm_writes d.plans empty d.history ++ firmings d.store.plain acts) ++ edit_writes state w.edit)
        (same_effect d.plans empty d.history o acts none l i)
        ∙ ap (λ (w : Option TrackEdit). (firm_writes d.plans empty d.history ++ firmings d.store.plain acts) ++ edit_writes state w) effect
        ∙ append_assoc (firm_writes d.plans empty d.history) (firmings d.store.plain acts) (edit_writes state edit)
        ∙ ap (λ (w : List FirmWrite). firm_writes d.plans empty d.history ++ w) (edit_is edit state volume loose x)

    by_made : Made u y → firm_writes d.plans empty y.history ≡ firm_writes d.plans empty d.history ++ u
    by_made (only_acts is x) = ap (firm_writes d.plans empty) is ∙ acts_are u y x
    by_made (then_checked o e running is x) =
        let l = later d.plans empty y.store.acts d.history o running (goes o running) in
        let h : History = record d.history { running = Some l.entry } in
        ap (firm_writes d.plans empty) (is ∙ ap (λ (k : History). checked k e) l.is)
        ∙ checked_written d.plans empty h l.entry refl e
        ∙ ap (firm_writes d.plans empty) (sym l.is)
        ∙ acts_are u y x
    by_made (then_ended o i e edit running next effect is x) = ended_is o i e edit running next effect is x
    by_made (then_known is) = is

    -- what was told are the firm writes that came
    pub made_written : Made u y → firm_writes y.plans empty y.history ≡ firm_writes d.plans empty d.history ++ u
    made_written m = same_plans ∙ by_made m

  -- where only acts came
  pub acts_written : (u : List FirmWrite) (y : MarksDevice) → y.plans ≡ d.plans → y.history ≡ all_acted d.history y.store.acts →
      Noted d.store.plain u (core_of y.store) → firm_writes y.plans empty y.history ≡ firm_writes d.plans empty d.history ++ u
  acts_written u y plans is x =
      ap (λ (p : Plans). firm_writes p empty y.history) plans ∙ ap (firm_writes d.plans empty) is ∙ acts_are u y x
