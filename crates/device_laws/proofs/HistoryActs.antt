-- Acts of cache fast write keep a device's history plain, within a program and between programs.
use Rattle.std.proofs.Common.{◌≡◌, ℕ, List, [], ◌∷◌, ◌++◌, Option, Some, None, true, false, refl, sym, ap, subst, ◌∙◌}
use Rattle.std.specs.Prelude.{IfSome}
use Rattle.ckd_types.specs.declared.channel.Ccw.{Ccw}
use Rattle.ckd_types.specs.declared.channel.CommandEnd.{CommandEnd}
use Rattle.ckd_types.specs.Ccw.{ccw_at}
use Rattle.ckd_types.specs.Parameters.{is_provisional}
use Rattle.ckd_rules.specs.declared.stance.Stance.{Stance}
use Rattle.ckd_rules.specs.Ends.{end_at_word}
use Rattle.ckd_rules.specs.Walk.{TrackEdit}
use Rattle.plain_defs.specs.declared.journal.Act.{Act}
use Rattle.plain_defs.specs.declared.journal.Act.TheVariants.{Loosen, Harden, CfwLost}
use Rattle.plain_defs.specs.declared.journal.Item.TheVariants as items
use Rattle.plain_defs.specs.Effect.{effect_on}
use Rattle.plain_defs.specs.History.{OpenEntry, History, open_part, plain_of, state_by, acted, acted_in, ended, IsOpen, IsPlain}
use Rattle.plain_defs.specs.Journal.{Plans, program_of, replay}
use Rattle.plain_defs.specs.Legal.{AreActs, IsSomeLoose, MayEdit, edit_at, track_of, next_edit}
use Rattle.plain_defs.specs.Loose.{is_loose_there, is_loose_in, act_done}
use Rattle.plain_defs.specs.PlainState.{LooseTrack, PlainState}
use Rattle.plain_defs.specs.Program.{Part, acts_done, with_act}
use Rattle.plain_defs.proofs.JournalLaws.{legal_more, replay-append}
use Rattle.device_defs.specs.Device.{all_acted}
use Rattle.device_laws.proofs.HistoryCuts.{idle_with}
use Rattle.device_laws.proofs.HistoryEnds.{edited_next, effect_at, going_ends_plain}
use Rattle.device_laws.proofs.OpenProgram.{IsGoing, with_one_act, going_of_open, open_of_going, part_with_act, going_with_act}
use Rattle.device_laws.proofs.WaitingResets.{AreDue, WaitFor}

-- Acts that make no track loose

pub acts_first : (s : PlainState) (act : Act) (acts : List Act) → AreActs s None (act ∷ acts) → AreActs s None (act ∷ [])
acts_first s (Loosen t) [] are = are
acts_first s (Loosen t) (x ∷ acts) are = absurd are
acts_first s (Harden t) acts are = (are.0, tt)
acts_first s CfwLost acts are = (are.0, tt)

pub acts_rest : (s : PlainState) (act : Act) (acts : List Act) → AreActs s None (act ∷ acts) → AreActs (act_done s act) None acts
acts_rest s (Loosen t) [] are = tt
acts_rest s (Loosen t) (x ∷ acts) are = absurd are
acts_rest s (Harden t) acts are = are.1
acts_rest s CfwLost acts are = are.1

module _ (plans : Plans) (empty : PlainState) where
  module _ (h : History) (plain : IsPlain plans empty h) (act : Act) where
    abbrev s : PlainState
    s = replay plans empty h.items

    open_by : (o : OpenEntry) → h.running ≡ Some o → IsOpen plans s h.items o
    open_by o running = subst (λ (r : Option OpenEntry). IfSome r (IsOpen plans s h.items)) running plain.at

    acted_by : (r : Option OpenEntry) → h.running ≡ r → AreActs (state_by plans s r) None (act ∷ [])
        → IsPlain plans empty (acted_in h act r)
    acted_by None stands may = idle_with plans empty h plain (items.Act act) stands
        (legal_more plans empty [] h.items (items.Act act) plain.legal may)
    acted_by (Some o) running may = record {
      legal = plain.legal;
      at = open_of_going plans s h.items (with_one_act o act)
          (going_with_act plans s h.items o (going_of_open plans s h.items o None (open_by o running)) act None may);
    }

    -- one act, of a program that runs or of none
    pub acted_plain : AreActs (plain_of plans empty h) None (act ∷ []) → IsPlain plans empty (acted h act)
    acted_plain may = acted_by h.running refl may

    state_by_act : (r : Option OpenEntry) → h.running ≡ r
        → plain_of plans empty (acted_in h act r) ≡ act_done (state_by plans s r) act
    state_by_act None stands =
        ap (λ (r : Option OpenEntry). state_by plans (replay plans empty (h.items ++ items.Act act ∷ [])) r) stands
        ∙ replay-append plans empty h.items (items.Act act ∷ [])
    state_by_act (Some o) running = ap (λ (p : Part). p.state)
        (part_with_act plans s h.items o (going_of_open plans s h.items o None (open_by o running)) act)

    -- and the plain device is the one with the act
    pub acted_state : plain_of plans empty (acted h act) ≡ act_done (plain_of plans empty h) act
    acted_state = state_by_act h.running refl

  -- so do all acts of an event
  pub all_acted_plain : (acts : List Act) (h : History) → IsPlain plans empty h → AreActs (plain_of plans empty h) None acts
      → IsPlain plans empty (all_acted h acts)
  all_acted_plain [] h plain are = plain
  all_acted_plain (act ∷ acts) h plain are =
      all_acted_plain acts (acted h act) (acted_plain h plain act (acts_first (plain_of plans empty h) act acts are))
      (subst (λ (s : PlainState). AreActs s None acts) (sym (acted_state h plain act)) (acts_rest (plain_of plans empty h) act acts are))

  pub all_acted_state : (acts : List Act) (h : History) → IsPlain plans empty h → AreActs (plain_of plans empty h) None acts
      → plain_of plans empty (all_acted h acts) ≡ acts_done (plain_of plans empty h) acts
  all_acted_state [] h plain are = refl
  all_acted_state (act ∷ acts) h plain are =
      all_acted_state acts (acted h act) (acted_plain h plain act (acts_first (plain_of plans empty h) act acts are))
      (subst (λ (s : PlainState). AreActs s None acts) (sym (acted_state h plain act)) (acts_rest (plain_of plans empty h) act acts are))
      ∙ ap (λ (s : PlainState). acts_done s acts) (acted_state h plain act)

pub some_loose : (loose : List LooseTrack) (t : ℕ) → is_loose_in loose t ≡ true → IsSomeLoose loose
some_loose [] t is = absurd (cc)
some_loose (l ∷ loose) t is = tt

-- A track that becomes loose

loosened_edit : (path : ℕ) (ccws : List Ccw) (p : Part) (t : ℕ) (next : Option ℕ)
    → edit_at path ccws (with_act p (Loosen t)) next ≡ edit_at path ccws p next
loosened_edit path ccws p t (Some i) = refl
loosened_edit path ccws p t None = refl

may_edit_provisionally : (s : PlainState) (z : Stance) (edit : Option TrackEdit) → is_provisional z.extent ≡ true → MayEdit s z edit
may_edit_provisionally s z (Some e) is = λ loose. is
may_edit_provisionally s z None is = tt

module _ (plans : Plans) (empty : PlainState) (h : History) (plain : IsPlain plans empty h) (due : AreDue h)
    (o : OpenEntry) (running : h.running ≡ Some o) where
  abbrev replayed : PlainState
  replayed = replay plans empty h.items

  abbrev p : Part
  p = open_part plans (replay plans empty h.items) o

  abbrev ccws : List Ccw
  ccws = program_of plans o.path o.ordinal

  module _ (t : ℕ) (firm : is_loose_there p.state t ≡ false) (edits : track_of (next_edit o.path ccws p) ≡ Some t) (i : ℕ)
      (next : p.next ≡ Some i) (e : CommandEnd) (end_is : e ≡ end_at_word i (ccw_at ccws i) (effect_at plans replayed h.items o i).outcome)
      (provisional : is_provisional p.stance.extent ≡ true) where
    abbrev later : OpenEntry
    later = with_one_act o (Loosen t)

    abbrev loosened : History
    loosened = record h { running = Some (with_one_act o (Loosen t)) }

    firm_going : IsGoing plans replayed h.items o None
    firm_going = going_of_open plans replayed h.items o None
        (subst (λ (r : Option OpenEntry). IfSome r (IsOpen plans replayed h.items)) running plain.at)

    part_is : open_part plans replayed later ≡ with_act p (Loosen t)
    part_is = part_with_act plans replayed h.items o firm_going (Loosen t)

    edited_is : edited_next plans replayed h.items later ≡ Some t
    edited_is =
        ap (λ (x : Part). track_of (next_edit o.path ccws x)) part_is
        ∙ ap (λ (x : Option TrackEdit). track_of x) (loosened_edit o.path ccws p t p.next)
        ∙ edits

    loose_going : IsGoing plans replayed h.items later (edited_next plans replayed h.items later)
    loose_going = rw edited_is (going_with_act plans replayed h.items o firm_going (Loosen t) (Some t) (firm, refl))

    due_as_before : AreDue loosened
    due_as_before = record {
      rising = due.rising;
      used = due.used;
      others = subst (λ (r : Option OpenEntry). WaitFor r h.waiting) running due.others;
    }

    later_next : (open_part plans replayed later).next ≡ Some i
    later_next = ap (λ (x : Part). x.next) part_is ∙ next

    later_end : e ≡ end_at_word i (ccw_at ccws i) (effect_at plans replayed h.items later i).outcome
    later_end = end_is ∙ ap (λ (x : Part). end_at_word i (ccw_at ccws i) (effect_on x.fixed x.state o.path x.stance (ccw_at ccws i)).outcome)
        (sym part_is)

    later_may : MayEdit (open_part plans replayed later).state (open_part plans replayed later).stance (effect_at plans replayed h.items later i).edit
    later_may = may_edit_provisionally (open_part plans replayed later).state (open_part plans replayed later).stance
        (effect_at plans replayed h.items later i).edit
        (ap (λ (x : Part). is_provisional x.stance.extent) part_is ∙ provisional)

    -- directly before the end of the command that edits it, as data of cache fast write
    pub loosened_plain : IsPlain plans empty (ended (acted h (Loosen t)) e)
    loosened_plain = rw running
        (going_ends_plain plans empty loosened plain.legal due_as_before later refl loose_going i later_next e later_end later_may)
