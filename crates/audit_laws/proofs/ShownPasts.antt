-- What a device's past, where it is a plain device's, shows of the line that was told last.
use Rattle.std.proofs.Common.{◌≡◌, ◌+◌, ◌∷◌, ◌++◌, ℕ, [], List, Option, Some, None, Bool, true, false, cond, length}
use Rattle.std.proofs.Common.{refl, arith, sym, ap, subst, ◌∙◌, append_assoc}
use Rattle.std.specs.Prelude.{◌⊎◌}
use Rattle.std.proofs.lemmas.Bool.{and_from, cases_lt, eq-eqb}
use Rattle.std.proofs.lemmas.List.{append-nil}
use Rattle.ckd_types.specs.declared.channel.CommandEnd.{CommandEnd}
use Rattle.ckd_rules.specs.Walk.{TrackEdit}
use Rattle.plain_defs.specs.declared.journal.Act.{Act}
use Rattle.plain_defs.specs.declared.journal.Act.TheVariants.{Loosen, Harden, CfwLost}
use Rattle.plain_defs.specs.declared.journal.How.TheVariants.{Cut}
use Rattle.plain_defs.specs.declared.journal.Item.{Item}
use Rattle.plain_defs.specs.declared.journal.Item.TheVariants as items
use Rattle.plain_defs.specs.History.{History, OpenEntry, acted, checked, ended, entry_of, open_part, state_by, IsPlain}
use Rattle.plain_defs.specs.Journal.{replay}
use Rattle.plain_defs.specs.Legal.{AreActs, IsCheck, IsLegal, IsSomeLoose, MayEdit, edit_at, next_edit, track_of}
use Rattle.plain_defs.specs.Loose.{act_done, is_loose_in, is_loose_there}
use Rattle.plain_defs.specs.PlainState.{LooseTrack, PlainState}
use Rattle.plain_defs.specs.Program.{Part, with_act}
use Rattle.deck_audit.specs.declared.state.Did.{Did}
use Rattle.deck_audit.specs.declared.state.Did.TheVariants.{Ended, CheckEnded, Halved, Worked}
use Rattle.deck_audit.specs.Device.{AuditedDevice, edit_of, is_edit_legal, is_next_legal, loosens, may_loosen}
use Rattle.deck_audit.specs.Device.{part_of_open, plain_end, state_of, words_of_open}
use Rattle.deck_audit.specs.State.{worked}
use Rattle.audit_laws.specs.Shown.{NoLoss, PlainPast, all_acted}
use Rattle.audit_laws.proofs.Converses.{EndsSo, Goes, TookEffect, WasChecked, acted_all, checks_so, edits_so, end_before, ends_so, first_act}
use Rattle.audit_laws.proofs.Converses.{goes_with, idle_act, next_before, part_acted, run, took_effect, was_checked, was_cut, with_more}

-- Tests

edit_legal : (p : Part) (edit : Option TrackEdit) → MayEdit p.state p.stance edit → is_edit_legal p edit ≡ true
edit_legal p edit may = grind arith

-- the first of acts that may come
abbrev pub First : PlainState → Act → Type 0
First s (Loosen t) = is_loose_there s t ≡ false
First s (Harden t) = is_loose_there s t ≡ true
First s CfwLost = IsSomeLoose s.loose

first_of : (s : PlainState) (edited : Option ℕ) (act : Act) (acts : List Act) → AreActs s edited (act ∷ acts) → First s act
first_of s edited act acts are = grind arith

no_loosen : (s : PlainState) (t : ℕ) (acts : List Act) → AreActs s None (Loosen t ∷ acts) → ⊥
no_loosen s t acts are = grind arith

-- While no program runs

abbrev idle : List Item → List ℕ → History
idle xs waiting = record { items = xs; running = None; waiting = waiting }

abbrev act_items : List Act → List Item
act_items [] = []
act_items (act ∷ acts) = items.Act act ∷ act_items acts

idle_acted : (acts : List Act) (xs : List Item) (waiting : List ℕ) → all_acted (idle xs waiting) acts ≡ idle (xs ++ act_items acts) waiting
idle_acted [] xs waiting = ap (λ (l : List Item). idle l waiting) (sym (append-nil xs))
idle_acted (x ∷ acts) xs waiting = grind (arith, idle_acted acts (xs ++ items.Act x ∷ []) waiting, append_assoc)

module _ (a : AuditedDevice) where
  abbrev s : PlainState
  s = replay a.plans a.empty a.history.items

  -- the history with what runs
  abbrev by : Option OpenEntry → History
  by running = record { items = a.history.items; running = running; waiting = a.history.waiting }

  module _ (o : OpenEntry) (running : a.history.running ≡ Some o) where
    pub state_is : state_of a ≡ (part_of_open a o).state
    state_is = ap (λ (r : Option OpenEntry). state_by a.plans s r) running

    acted_is : (acts : List Act) → all_acted a.history acts ≡ run a.history.items a.history.waiting (with_more o acts)
    acted_is acts = grind (arith, acted_all a.plans a.empty a.history.items a.history.waiting acts o)

    took : (acts : List Act) (e : CommandEnd) → IsPlain a.plans a.empty (ended (all_acted a.history acts) e) → TookEffect a.plans s (with_more o acts) e
    took acts e p = took_effect a.plans a.empty a.history.items a.history.waiting (with_more o acts) e
        (subst (λ (h : History). IsPlain a.plans a.empty (ended h e)) (acted_is acts) p)

    was : (acts : List Act) (e : CommandEnd) → IsPlain a.plans a.empty (checked (all_acted a.history acts) e) → WasChecked a.plans s (with_more o acts) e
    was acts e p = was_checked a.plans a.empty a.history.items a.history.waiting (with_more o acts) e
        (subst (λ (h : History). IsPlain a.plans a.empty (checked h e)) (acted_is acts) p)

    -- a command that took effect may edit its track
    legal_by : (e : CommandEnd) → TookEffect a.plans s o e → is_next_legal a a.history.running ≡ true
    legal_by e t = ap (λ (r : Option OpenEntry). is_next_legal a r) running ∙ edit_legal (part_of_open a o) (edit_of a o) (edits_so a.plans s o e t)

    -- a cut
    pub cut_so : (k : ℕ) (later : List Item) → IsLegal a.plans a.empty (a.history.items ++ entry_of o (Cut k) ∷ later)
        → (k ≡ length o.ends) ⊎ ((k ≡ length o.ends + 1) × (is_next_legal a a.history.running ≡ true))
    cut_so k later legal = grind (arith, was_cut, edit_legal, cases_lt)

  module _ (plain : PlainPast a) (o : OpenEntry) (running : a.history.running ≡ Some o) where
    goes : Goes a.plans s o
    goes = grind arith

    plain_is : (e : CommandEnd) → EndsSo a.plans s o e → plain_end a o ≡ Some e
    plain_is e so = grind arith

    -- the end that was told is the plain device's
    pub ended_so : (acts : List Act) → NoLoss acts → (e : CommandEnd) → IsPlain a.plans a.empty (ended (all_acted a.history acts) e)
        → plain_end a o ≡ Some e
    ended_so acts none e p = plain_is e (end_before a.plans s acts none o goes e
        (ends_so a.plans s (with_more o acts) (goes_with a.plans s acts o goes) e (took o running acts e p)))

    -- or it is a check of the next command
    pub checked_so : (acts : List Act) (e : CommandEnd) → IsPlain a.plans a.empty (checked (all_acted a.history acts) e)
        → ((part_of_open a o).next ≡ Some e.index) × IsCheck (words_of_open a o) e
    checked_so acts e p = grind (arith, checks_so a.plans s (with_more o acts) (goes_with a.plans s acts o goes) e (was o running acts e p), goes_with a.plans s acts o goes, goes, was o running acts e p, next_before a.plans s acts o goes)

    -- Acts behind its last end

    first_at : (edited : Option ℕ) (act : Act) (acts : List Act) → AreActs (part_of_open a o).state edited (act ∷ acts) → First (state_of a) act
    first_at edited act acts are = grind (arith, state_is, first_of)

    open_acts : (act : Act) (acts : List Act) → IsPlain a.plans a.empty (all_acted a.history (act ∷ acts))
        → AreActs (part_of_open a o).state None (act ∷ acts)
    open_acts act acts p =
        let q = subst (λ (h : History). IsPlain a.plans a.empty h) (acted_is o running (act ∷ acts)) p in
        first_act a.plans s o goes None act acts q.at.acts.last

    check_acts : (act : Act) (acts : List Act) (e : CommandEnd) → IsPlain a.plans a.empty (checked (all_acted a.history (act ∷ acts)) e)
        → AreActs (part_of_open a o).state None (act ∷ acts)
    check_acts act acts e p = first_act a.plans s o goes None act acts (was o running (act ∷ acts) e p).acts.last

    end_acts : (act : Act) (acts : List Act) (e : CommandEnd) → IsPlain a.plans a.empty (ended (all_acted a.history (act ∷ acts)) e)
        → (edited : Option ℕ) × AreActs (part_of_open a o).state edited (act ∷ acts)
    end_acts act acts e p =
        (_, first_act a.plans s o goes _ act acts ((took o running (act ∷ acts) e p).acts.points (length o.ends) (omega arith)).acts_are)

    running_first : (did : Did) (act : Act) (acts : List Act) → PlainPast (worked (record a { history = all_acted a.history (act ∷ acts) }) did)
        → First (state_of a) act
    running_first (Ended e) act acts p = let are = end_acts act acts e p in first_at are.0 act acts are.1
    running_first (CheckEnded e) act acts p = first_at None act acts (check_acts act acts e p)
    running_first Halved act acts p = first_at None act acts (open_acts act acts p)
    running_first (Worked last) act acts p = first_at None act acts (open_acts act acts p)

    -- a track that becomes loose
    same_edit : (p : Part) (t : ℕ) (next : Option ℕ)
        → edit_at o.path (words_of_open a o) (with_act p (Loosen t)) next ≡ edit_at o.path (words_of_open a o) p next
    same_edit p t next = grind arith

    last_loose : (loose : List LooseTrack) (l : LooseTrack) (t : ℕ) → l.track ≡ t → is_loose_in (loose ++ l ∷ []) t ≡ true
    last_loose [] l t is = ap (λ (b : Bool). cond b true false) (eq-eqb l.track t is)
    last_loose (x ∷ loose) l t is = grind (arith, last_loose loose l t is)

    loosens_by : (p : Part) (t : ℕ) (edit : Option TrackEdit) → is_loose_there p.state t ≡ false → track_of edit ≡ Some t
        → MayEdit (act_done p.state (Loosen t)) p.stance edit → loosens p edit t ≡ true
    loosens_by p t edit firm edits may = grind (arith, and_from, eq-eqb, last_loose)

    pub loosened_so : (t : ℕ) (e : CommandEnd) → IsPlain a.plans a.empty (ended (acted a.history (Loosen t)) e)
        → may_loosen a a.history.running t ≡ true
    loosened_so t e p =
        let took_it = took o running (Loosen t ∷ []) e p in
        let point = took_it.acts.points (length o.ends) (omega arith) in
        let are = first_act a.plans s o goes _ (Loosen t) [] point.acts_are in
        let later = with_more o (Loosen t ∷ []) in
        let part_is : open_part a.plans s later ≡ with_act (part_of_open a o) (Loosen t) = part_acted a.plans s o goes (Loosen t) in
        let edit_is : next_edit o.path (words_of_open a o) (open_part a.plans s later) ≡ edit_of a o =
        ap (λ (q : Part). next_edit o.path (words_of_open a o) q) part_is ∙ same_edit (part_of_open a o) t (part_of_open a o).next in
        let may : MayEdit (act_done (part_of_open a o).state (Loosen t)) (part_of_open a o).stance (edit_of a o) =
        subst (λ (x : Option TrackEdit). MayEdit (act_done (part_of_open a o).state (Loosen t)) (part_of_open a o).stance x) edit_is
        (subst (λ (q : Part). MayEdit q.state q.stance (next_edit o.path (words_of_open a o) (open_part a.plans s later))) part_is point.edit_is) in
        ap (λ (r : Option OpenEntry). may_loosen a r t) running
        ∙ loosens_by (part_of_open a o) t (edit_of a o) are.0 (ap track_of (sym edit_is) ∙ are.1) may

    -- only before a command that ends as on the plain device
    running_loose : (did : Did) (t : ℕ) → PlainPast (worked (record a { history = acted a.history (Loosen t) }) did)
        → (e : CommandEnd) × (did ≡ Ended e) × (may_loosen a a.history.running t ≡ true)
    running_loose (Ended e) t p = (e, refl, loosened_so t e p)
    running_loose (CheckEnded e) t p = absurd (no_loosen (part_of_open a o).state t [] (check_acts (Loosen t) [] e p))
    running_loose Halved t p = absurd (no_loosen (part_of_open a o).state t [] (open_acts (Loosen t) [] p))
    running_loose (Worked last) t p = absurd (no_loosen (part_of_open a o).state t [] (open_acts (Loosen t) [] p))

  -- No program runs

  module _ (stands : a.history.running ≡ None) where
    stands_is : (acts : List Act) → all_acted a.history acts ≡ idle (a.history.items ++ act_items acts) a.history.waiting
    stands_is acts = ap (λ (r : Option OpenEntry). all_acted (by r) acts) stands ∙ idle_acted acts a.history.items a.history.waiting

    idle_work : (did : Did) (acts : List Act) → PlainPast (worked (record a { history = all_acted a.history acts }) did)
        → IsLegal a.plans a.empty (a.history.items ++ act_items acts)
    idle_work did acts p = grind (arith, stands_is)

    idle_are : (did : Did) (act : Act) (acts : List Act) → PlainPast (worked (record a { history = all_acted a.history (act ∷ acts) }) did)
        → AreActs (state_of a) None (act ∷ [])
    idle_are did act acts p = grind (arith, idle_act a.plans a.empty a.history.items a.history.waiting act (act_items acts) (idle_work did (act ∷ acts) p), stands_is)

  -- Either way

  pub act_so : PlainPast a → (did : Did) (act : Act) (acts : List Act)
      → PlainPast (worked (record a { history = all_acted a.history (act ∷ acts) }) did) → First (state_of a) act
  act_so plain did act acts p = grind (arith, running_first, first_of, idle_are)

  loose_by : PlainPast a → (did : Did) (t : ℕ) (running : Option OpenEntry) → a.history.running ≡ running
      → PlainPast (worked (record a { history = acted a.history (Loosen t) }) did)
      → (e : CommandEnd) × (did ≡ Ended e) × (may_loosen a a.history.running t ≡ true)
  loose_by plain did t (Some o) running p = running_loose plain o running did t p
  loose_by plain did t None stands p = absurd (no_loosen (state_of a) t [] (idle_are stands did (Loosen t) [] p))

  pub loose_so : PlainPast a → (did : Did) (t : ℕ) → PlainPast (worked (record a { history = acted a.history (Loosen t) }) did)
      → (e : CommandEnd) × (did ≡ Ended e) × (may_loosen a a.history.running t ≡ true)
  loose_so plain did t p = loose_by plain did t a.history.running refl p

  pub legal_so : (e : CommandEnd) → IsPlain a.plans a.empty (ended a.history e) → is_next_legal a a.history.running ≡ true
  legal_so e p = grind (arith, legal_by, took_effect)
