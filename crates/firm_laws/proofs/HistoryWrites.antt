-- The firm writes of a history behind each change of it that there is.
use Rattle.std.proofs.Common.{
  ◌≡◌,
  ◌<◌,
  ◌+◌,
  ◌-◌,
  ◌==◌,
  ℕ,
  zero,
  suc,
  Bool,
  true,
  false,
  List,
  [],
  ◌∷◌,
  ◌++◌,
  Option,
  Some,
  None,
  cond,
  length,
  append_assoc,
  refl,
  sym,
  ap,
  subst,
  ◌∙◌,
  arith,
}
use Rattle.std.specs.Prelude.{IsSome}
use Rattle.std.proofs.lemmas.Bool.{ne_eqb, eq-eqb, cond_both}
use Rattle.std.proofs.lemmas.List.{append-nil}
use Rattle.ckd_types.specs.declared.channel.Ccw.{Ccw}
use Rattle.ckd_types.specs.declared.channel.CommandEnd.{CommandEnd}
use Rattle.ckd_types.specs.declared.record.Track.{Track}
use Rattle.ckd_types.specs.Ccw.{ccw_at}
use Rattle.ckd_types.specs.Volume.{track_in}
use Rattle.ckd_rules.specs.Ends.{end_at_word}
use Rattle.plain_defs.specs.declared.journal.Act.{Act}
use Rattle.plain_defs.specs.declared.journal.Act.TheVariants.{Loosen, Harden, CfwLost}
use Rattle.plain_defs.specs.declared.journal.Acted.{Acted}
use Rattle.plain_defs.specs.declared.journal.How.{How}
use Rattle.plain_defs.specs.declared.journal.How.TheVariants.{Full, Cut, Checked}
use Rattle.plain_defs.specs.declared.journal.Item.{Item}
use Rattle.plain_defs.specs.declared.journal.Item.TheVariants as items
use Rattle.plain_defs.specs.History.{
  OpenEntry,
  History,
  open_part,
  plain_of,
  state_by,
  entry_of,
  with_end,
  resets_of,
  started,
  closed,
  ended,
  ended_in,
  checked,
  checked_in,
  put,
  cut_by,
  reset_in_history as history_reset,
  reset_in,
  acted,
  acted_in,
  lost_power,
  lost_power_in,
}
use Rattle.plain_defs.specs.Journal.{Plans, program_of, effects_of, replay, replay_item}
use Rattle.plain_defs.specs.Legal.{AreInOrder, is_used, is_started}
use Rattle.plain_defs.specs.Loose.{act_done}
use Rattle.plain_defs.specs.PlainState.{PlainState}
use Rattle.plain_defs.specs.Program as P
use Rattle.plain_defs.specs.Program.{Part, first_part, acts_at, acts_done, with_act, acted_at, acts_made as part_acted, command_run, stepped_at, part_of}
use Rattle.plain_defs.proofs.ActLists.{acts_elsewhere, acts_here}
use Rattle.plain_defs.proofs.JournalLaws.{replay-append}
use Rattle.plain_defs.proofs.PartLemmas.{acted_beside, part_counts, part_more}
use Rattle.device_defs.specs.Device.{all_acted}
use Rattle.device_laws.proofs.HistoryEnds.{effect_at, one_longer}
use Rattle.device_laws.proofs.OpenProgram.{with_acts_state, no_acts, order_more, part_before, part_here, with_one_act}
use Rattle.firm_laws.specs.FirmWrites as F
use Rattle.firm_laws.specs.FirmWrites.{
  FirmWrite,
  edit_writes,
  act_writes,
  acts_writes,
  acted_writes,
  step_writes,
  part_writes,
  item_writes,
  journal_writes,
  running_writes,
  firm_writes,
}

-- three lists and a fourth
pub join_three : (a b c d : List FirmWrite) → a ++ (b ++ (c ++ d)) ≡ (a ++ (b ++ c)) ++ d
join_three a b c d = ap (λ (l : List FirmWrite). a ++ l) (sym (append_assoc b c d)) ∙ sym (append_assoc a (b ++ c) d)

-- Acts

acts_more : (acts : List Act) (act : Act) (s : PlainState) → acts_writes s (acts ++ act ∷ []) ≡ acts_writes s acts ++ act_writes (acts_done s acts) act
acts_more [] act s = append-nil (act_writes s act)
acts_more (x ∷ acts) act s =
    ap (λ (l : List FirmWrite). act_writes s x ++ l) (acts_more acts act (act_done s x))
    ∙ sym (append_assoc (act_writes s x) (acts_writes (act_done s x) acts) (act_writes (acts_done (act_done s x) acts) act))

-- an act that stands elsewhere
other_acts : (acts : List Acted) (a : Acted) (q : Part) (next : Option ℕ) → (a.after == length q.ends) ≡ false →
    acted_writes (acts ++ a ∷ []) q next ≡ acted_writes acts q next
other_acts acts a q (Some i) other = ap (acts_writes q.state) (acts_elsewhere acts a (length q.ends) other)
other_acts acts a q None other = refl

-- one more behind the last end
one_act : (acts : List Acted) (a : Acted) (q : Part) (next : Option ℕ) → (a.after == length q.ends) ≡ true → IsSome next →
    acted_writes (acts ++ a ∷ []) q next ≡ acted_writes acts q next ++ act_writes (acted_at acts q next).state a.act
one_act acts a q None here some = absurd (cc)
one_act acts a q (Some i) here some =
    let before = acts_at acts (length q.ends) in
    ap (acts_writes q.state) (acts_here acts a (length q.ends) here)
    ∙ acts_more before a.act q.state
    ∙ ap (λ (s : PlainState). acts_writes q.state before ++ act_writes s a.act) (sym (with_acts_state before q))

no_act : (acts : List Acted) (q : Part) (next : Option ℕ) → acts_at acts (length q.ends) ≡ [] → acted_writes acts q next ≡ []
no_act acts q (Some i) none = ap (acts_writes q.state) none
no_act acts q None none = refl

-- Parts of a program

module _ (path : ℕ) (ccws : List Ccw) (state : PlainState) where
  abbrev steps : List Acted → Part → List FirmWrite
  steps acts p = step_writes path ccws p p.next ++ acted_writes acts (command_run path ccws p) (command_run path ccws p).next

  writes_before : (acts : List Acted) (a : Acted) (k : ℕ) → k < a.after →
      part_writes state path ccws (acts ++ a ∷ []) k ≡ part_writes state path ccws acts k
  unfolding F.part_writes
  writes_before acts a zero lt =
      let p = first_part state path ccws in other_acts acts a p p.next (ne_eqb a.after 0 (omega (arith, lt)))
  writes_before acts a (suc k) lt =
      let p = part_of state path ccws acts k in
      let q = command_run path ccws p in
      let many : length q.ends ≡ length (part_of state path ccws acts (suc k)).ends =
      ap length (sym (acted_beside acts q).ends) ∙ ap (λ (x : Part). length x.ends) (sym (part_more path ccws acts state k)) in
      let most = (part_counts path ccws acts state (suc k)).most in
      ap (λ (l : List FirmWrite). l ++ steps (acts ++ a ∷ []) (part_of state path ccws (acts ++ a ∷ []) k)) (writes_before acts a k (omega (arith, lt)))
      ∙ ap (λ (x : Part). part_writes state path ccws acts k ++ steps (acts ++ a ∷ []) x) (part_before path ccws state acts a k (omega (arith, lt)))
      ∙ ap (λ (l : List FirmWrite). part_writes state path ccws acts k ++ (step_writes path ccws p p.next ++ l))
      (other_acts acts a q q.next (ne_eqb a.after (length q.ends) (omega (arith, lt, many, most))))

  -- an act behind the last command
  writes_here : (acts : List Acted) (n : ℕ) (act : Act) → length (part_of state path ccws acts n).ends ≡ n → IsSome (part_of state path ccws acts n).next →
      part_writes state path ccws (acts ++ record { after = n; act = act } ∷ []) n
      ≡ part_writes state path ccws acts n ++ act_writes (part_of state path ccws acts n).state act
  unfolding F.part_writes P.part_of
  writes_here acts zero act many runs =
      one_act acts (record { after = 0; act = act }) (first_part state path ccws) (Some 0) (eq-eqb 0 0 refl) refl
  writes_here acts (suc k) act many runs =
      let a : Acted = record { after = suc k; act = act } in
      let p = part_of state path ccws acts k in
      let q = command_run path ccws p in
      let beside = acted_beside acts q in
      let ends : length q.ends ≡ suc k = ap length (sym beside.ends) ∙ many in
      let some : IsSome q.next = subst (λ (x : Option ℕ). IsSome x) beside.next runs in
      ap (λ (l : List FirmWrite). l ++ steps (acts ++ a ∷ []) (part_of state path ccws (acts ++ a ∷ []) k)) (writes_before acts a k (omega arith))
      ∙ ap (λ (x : Part). part_writes state path ccws acts k ++ steps (acts ++ a ∷ []) x) (part_before path ccws state acts a k (omega arith))
      ∙ ap (λ (l : List FirmWrite). part_writes state path ccws acts k ++ (step_writes path ccws p p.next ++ l))
      (one_act acts a q q.next (eq-eqb (suc k) (length q.ends) (sym ends)) some)
      ∙ join_three (part_writes state path ccws acts k) (step_writes path ccws p p.next) (acted_writes acts q q.next)
      (act_writes (part_acted acts q).state act)

  -- one command more, with no act behind it
  writes_more : (acts : List Acted) (n i : ℕ) → (part_of state path ccws acts n).next ≡ Some i →
      acts_at acts (length (command_run path ccws (part_of state path ccws acts n)).ends) ≡ [] →
      part_writes state path ccws acts (suc n) ≡ part_writes state path ccws acts n ++ step_writes path ccws (part_of state path ccws acts n) (Some i)
  unfolding F.part_writes
  writes_more acts n i next none =
      let p = part_of state path ccws acts n in
      let q = command_run path ccws p in
      ap (λ (l : List FirmWrite). part_writes state path ccws acts n ++ (step_writes path ccws p p.next ++ l)) (no_act acts q q.next none)
      ∙ ap (λ (l : List FirmWrite). part_writes state path ccws acts n ++ l) (append-nil (step_writes path ccws p p.next))
      ∙ ap (λ (x : Option ℕ). part_writes state path ccws acts n ++ step_writes path ccws p x) next

  none_yet : part_writes state path ccws [] 0 ≡ []
  unfolding F.part_writes
  none_yet = refl

-- A program that runs

module _ (plans : Plans) where
  -- so many commands ended as there are ends, it isn't over, and no act stands behind them
  pub record Going (s : PlainState) (o : OpenEntry) : Type 0 where
    pub many : length (open_part plans s o).ends ≡ length o.ends
    pub runs : IsSome (open_part plans s o).next
    pub order : AreInOrder 0 (length o.ends + 1) o.acts

  abbrev pub Works : PlainState → Option OpenEntry → Type 0
  Works s (Some o) = Going s o
  Works s None = Unit {0}

  module _ (s : PlainState) (o : OpenEntry) (g : Going s o) where
    pub part_acts : (act : Act) → open_part plans s (with_one_act o act) ≡ with_act (open_part plans s o) act
    part_acts act = part_here o.path (program_of plans o.path o.ordinal) s o.acts (length o.ends) g.many g.runs act

    pub going_acts : (act : Act) → Going s (with_one_act o act)
    going_acts act = record {
      many = ap (λ (p : Part). length p.ends) (part_acts act) ∙ g.many;
      runs = subst (λ (p : Part). IsSome p.next) (sym (part_acts act)) g.runs;
      order = order_more 0 (length o.ends) o.acts act g.order (omega arith);
    }

    pub one_command : (i : ℕ) → (open_part plans s o).next ≡ Some i →
        part_writes s o.path (program_of plans o.path o.ordinal) o.acts (suc (length o.ends))
        ≡ running_writes plans s (Some o) ++ edit_writes (open_part plans s o).state (effect_at plans s [] o i).edit
    one_command i next =
        let p = open_part plans s o in
        let ccws = program_of plans o.path o.ordinal in
        let many = g.many in
        let longer : length (command_run o.path ccws p).ends ≡ suc (length p.ends) =
        ap (λ (x : Option ℕ). length (stepped_at o.path ccws p x).ends) next
        ∙ one_longer p.ends (end_at_word i (ccw_at ccws i) (effect_at plans s [] o i).outcome) in
        writes_more o.path ccws s o.acts (length o.ends) i next
        (no_acts 0 (length o.ends + 1) (length (command_run o.path ccws p).ends) o.acts g.order (omega (arith, many, longer)))

-- Journals

module _ (plans : Plans) where
  journal_more : (s : PlainState) (xs ys : List Item) →
      journal_writes plans s (xs ++ ys) ≡ journal_writes plans s xs ++ journal_writes plans (replay plans s xs) ys
  journal_more s [] ys = refl
  journal_more s (x ∷ xs) ys =
      let z = replay_item plans s x in
      ap (λ (l : List FirmWrite). item_writes plans s x ++ l) (journal_more z xs ys)
      ∙ sym (append_assoc (item_writes plans s x) (journal_writes plans z xs) (journal_writes plans (replay plans z xs) ys))

  resets_none : (s : PlainState) (paths : List ℕ) → journal_writes plans s (resets_of paths) ≡ []
  resets_none s [] = refl
  resets_none s (path ∷ paths) = resets_none (replay_item plans s (items.Reset path)) paths

  -- Histories

  module _ (empty : PlainState) (h : History) where
    abbrev with_running : Option OpenEntry → List FirmWrite
    with_running r = journal_writes plans empty h.items ++ running_writes plans (replay plans empty h.items) r

    -- items without a write of their own
    quiet_items : (xs : List Item) (w : List ℕ) → journal_writes plans (replay plans empty h.items) xs ≡ [] →
        firm_writes plans empty (record { items = h.items ++ xs; running = None; waiting = w }) ≡ with_running None
    quiet_items xs w none =
        ap (λ (l : List FirmWrite). l ++ []) (journal_more empty h.items xs)
        ∙ ap (λ (l : List FirmWrite). (journal_writes plans empty h.items ++ l) ++ []) none
        ∙ ap (λ (l : List FirmWrite). l ++ []) (append-nil (journal_writes plans empty h.items))

    -- an item, and behind it only such
    last_item : (x : Item) (xs : List Item) (w : List ℕ) →
        journal_writes plans (replay_item plans (replay plans empty h.items) x) xs ≡ [] →
        firm_writes plans empty (record { items = h.items ++ x ∷ xs; running = None; waiting = w })
        ≡ journal_writes plans empty h.items ++ item_writes plans (replay plans empty h.items) x
    last_item x xs w none =
        append-nil (journal_writes plans empty (h.items ++ x ∷ xs))
        ∙ journal_more empty h.items (x ∷ xs)
        ∙ ap (λ (l : List FirmWrite). journal_writes plans empty h.items ++ (item_writes plans (replay plans empty h.items) x ++ l)) none
        ∙ ap (λ (l : List FirmWrite). journal_writes plans empty h.items ++ l) (append-nil (item_writes plans (replay plans empty h.items) x))

    closed_written : (o : OpenEntry) (how : How) → firm_writes plans empty (closed h o how)
        ≡ journal_writes plans empty h.items
        ++ part_writes (replay plans empty h.items) o.path (program_of plans o.path o.ordinal) o.acts (effects_of how o.ends)
    closed_written o how =
        last_item (entry_of o how) (resets_of h.waiting) []
        (resets_none (replay_item plans (replay plans empty h.items) (entry_of o how)) h.waiting)

    -- Acts

    pub act_by : (r : Option OpenEntry) → h.running ≡ r → Works plans (replay plans empty h.items) r → (act : Act) →
        firm_writes plans empty (acted_in h act r) ≡ with_running r ++ act_writes (state_by plans (replay plans empty h.items) r) act
    act_by (Some o) is g act =
        ap (λ (l : List FirmWrite). journal_writes plans empty h.items ++ l)
        (writes_here o.path (program_of plans o.path o.ordinal) (replay plans empty h.items) o.acts (length o.ends) act g.many g.runs)
        ∙ sym (append_assoc (journal_writes plans empty h.items) (running_writes plans (replay plans empty h.items) (Some o))
        (act_writes (open_part plans (replay plans empty h.items) o).state act))
    act_by None is g act =
        let z = replay plans empty (h.items ++ items.Act act ∷ []) in
        ap (λ (x : Option OpenEntry). journal_writes plans empty (h.items ++ items.Act act ∷ []) ++ running_writes plans z x) is
        ∙ append-nil (journal_writes plans empty (h.items ++ items.Act act ∷ []))
        ∙ journal_more empty h.items (items.Act act ∷ [])
        ∙ ap (λ (l : List FirmWrite). journal_writes plans empty h.items ++ l) (append-nil (act_writes (replay plans empty h.items) act))
        ∙ ap (λ (l : List FirmWrite). l ++ act_writes (replay plans empty h.items) act) (sym (append-nil (journal_writes plans empty h.items)))

    state_after : (r : Option OpenEntry) → h.running ≡ r → Works plans (replay plans empty h.items) r → (act : Act) →
        plain_of plans empty (acted_in h act r) ≡ act_done (state_by plans (replay plans empty h.items) r) act
    state_after (Some o) is g act = ap (λ (p : Part). p.state) (part_acts plans (replay plans empty h.items) o g act)
    state_after None is g act =
        ap (λ (x : Option OpenEntry). state_by plans (replay plans empty (h.items ++ items.Act act ∷ [])) x) is
        ∙ replay-append plans empty h.items (items.Act act ∷ [])

    works_after : (r : Option OpenEntry) → h.running ≡ r → Works plans (replay plans empty h.items) r → (act : Act) →
        Works plans (replay plans empty (acted_in h act r).items) (acted_in h act r).running
    works_after (Some o) is g act = going_acts plans (replay plans empty h.items) o g act
    works_after None is g act = subst (λ (x : Option OpenEntry). Works plans (replay plans empty (h.items ++ items.Act act ∷ [])) x) (sym is) tt

    -- Commands, and what cuts a program

    module _ (o : OpenEntry) (running : h.running ≡ Some o) where
      running_is : firm_writes plans empty h ≡ with_running (Some o)
      running_is = ap (λ (x : Option OpenEntry). journal_writes plans empty h.items ++ running_writes plans (replay plans empty h.items) x) running

      -- with one command more
      module _ (g : Going plans (replay plans empty h.items) o) (i : ℕ) (next : (open_part plans (replay plans empty h.items) o).next ≡ Some i) where
        abbrev more : List FirmWrite
        more = edit_writes (open_part plans (replay plans empty h.items) o).state (effect_at plans (replay plans empty h.items) h.items o i).edit

        one_more : (n : ℕ) → n ≡ suc (length o.ends) →
            journal_writes plans empty h.items ++ part_writes (replay plans empty h.items) o.path (program_of plans o.path o.ordinal) o.acts n
            ≡ firm_writes plans empty h ++ more
        one_more n is =
            ap (λ (k : ℕ). journal_writes plans empty h.items
            ++ part_writes (replay plans empty h.items) o.path (program_of plans o.path o.ordinal) o.acts k) is
            ∙ ap (λ (l : List FirmWrite). journal_writes plans empty h.items ++ l) (one_command plans (replay plans empty h.items) o g i next)
            ∙ sym (append_assoc (journal_writes plans empty h.items) (running_writes plans (replay plans empty h.items) (Some o)) more)
            ∙ ap (λ (l : List FirmWrite). l ++ more) (sym running_is)

        pub ended_written : (e : CommandEnd) → firm_writes plans empty (ended h e) ≡ firm_writes plans empty h ++ more
        ended_written e =
            ap (λ (r : Option OpenEntry). firm_writes plans empty (ended_in h e r)) running
            ∙ cond_both e.over (closed h (with_end o e) Full) (record h { running = Some (with_end o e) })
            (λ (k : History). firm_writes plans empty k ≡ firm_writes plans empty h ++ more)
            (λ _. closed_written (with_end o e) Full ∙ one_more (length (o.ends ++ e ∷ [])) (one_longer o.ends e))
            (λ _. one_more (length (o.ends ++ e ∷ [])) (one_longer o.ends e))

      same_many : (n : ℕ) → n ≡ length o.ends →
          journal_writes plans empty h.items ++ part_writes (replay plans empty h.items) o.path (program_of plans o.path o.ordinal) o.acts n
          ≡ firm_writes plans empty h
      same_many n is =
          ap (λ (k : ℕ). journal_writes plans empty h.items
          ++ part_writes (replay plans empty h.items) o.path (program_of plans o.path o.ordinal) o.acts k) is ∙ sym running_is

      pub checked_written : (e : CommandEnd) → firm_writes plans empty (checked h e) ≡ firm_writes plans empty h
      checked_written e =
          ap (λ (r : Option OpenEntry). firm_writes plans empty (checked_in h e r)) running
          ∙ closed_written (with_end o e) Checked
          ∙ same_many (length (o.ends ++ e ∷ []) - 1) (let many = one_longer o.ends e in omega (arith, many))

      -- cut, with so many commands more than ended
      cut_written : (more : ℕ) → firm_writes plans empty (cut_by h o more) ≡ journal_writes plans empty h.items
          ++ part_writes (replay plans empty h.items) o.path (program_of plans o.path o.ordinal) o.acts (length o.ends + more)
      cut_written more =
          last_item (entry_of o (Cut (length o.ends + more))) (items.Reset o.path ∷ resets_of h.waiting) []
          (resets_none (replay_item plans (replay_item plans (replay plans empty h.items) (entry_of o (Cut (length o.ends + more)))) (items.Reset o.path))
          h.waiting)

      power_written : (more : ℕ) → firm_writes plans empty (lost_power_in h more (Some o)) ≡ journal_writes plans empty h.items
          ++ part_writes (replay plans empty h.items) o.path (program_of plans o.path o.ordinal) o.acts (length o.ends + more)
      power_written more = last_item (entry_of o (Cut (length o.ends + more))) (items.Power ∷ []) [] refl

      pub cut_none : firm_writes plans empty (cut_by h o 0) ≡ firm_writes plans empty h
      cut_none = cut_written 0 ∙ same_many (length o.ends + 0) (omega arith)

      pub power_none : firm_writes plans empty (lost_power h 0) ≡ firm_writes plans empty h
      power_none =
          ap (λ (r : Option OpenEntry). firm_writes plans empty (lost_power_in h 0 r)) running
          ∙ power_written 0 ∙ same_many (length o.ends + 0) (omega arith)

      module _ (g : Going plans (replay plans empty h.items) o) (i : ℕ) (next : (open_part plans (replay plans empty h.items) o).next ≡ Some i) where
        pub cut_one : firm_writes plans empty (cut_by h o 1)
            ≡ firm_writes plans empty h
            ++ edit_writes (open_part plans (replay plans empty h.items) o).state (effect_at plans (replay plans empty h.items) h.items o i).edit
        cut_one = cut_written 1 ∙ one_more g i next (length o.ends + 1) (omega arith)

        pub power_one : firm_writes plans empty (lost_power h 1)
            ≡ firm_writes plans empty h
            ++ edit_writes (open_part plans (replay plans empty h.items) o).state (effect_at plans (replay plans empty h.items) h.items o i).edit
        power_one =
            ap (λ (r : Option OpenEntry). firm_writes plans empty (lost_power_in h 1 r)) running
            ∙ power_written 1 ∙ one_more g i next (length o.ends + 1) (omega arith)

    -- Where no program runs, or none of the path

    idle_is : h.running ≡ None → with_running None ≡ firm_writes plans empty h
    idle_is none = ap (λ (x : Option OpenEntry). journal_writes plans empty h.items ++ running_writes plans (replay plans empty h.items) x) (sym none)

    -- a path's reset that cuts no program
    pub later_written : (path n : ℕ) (o : OpenEntry) → h.running ≡ Some o → (o.path == path) ≡ false →
        firm_writes plans empty (history_reset h path n) ≡ firm_writes plans empty h
    later_written path n o running other =
        ap (λ (r : Option OpenEntry). firm_writes plans empty (reset_in h path n r)) running
        ∙ ap (λ (b : Bool). firm_writes plans empty (cond b (cut_by h o n)
        (cond (is_used path false h.items) (record h { waiting = put path h.waiting }) h))) other
        ∙ cond_both (is_used path false h.items) (record h { waiting = put path h.waiting }) h
        (λ (k : History). firm_writes plans empty k ≡ firm_writes plans empty h) (λ _. refl) (λ _. refl)

    idle_item : h.running ≡ None → (x : Item) → item_writes plans (replay plans empty h.items) x ≡ [] →
        firm_writes plans empty (record h { items = h.items ++ x ∷ [] }) ≡ firm_writes plans empty h
    idle_item none x quiet =
        ap (λ (r : Option OpenEntry). firm_writes plans empty (record { items = h.items ++ x ∷ []; running = r; waiting = h.waiting })) none
        ∙ quiet_items (x ∷ []) h.waiting (ap (λ (l : List FirmWrite). l ++ []) quiet)
        ∙ idle_is none

    pub idle_reset : (path n : ℕ) → h.running ≡ None → firm_writes plans empty (history_reset h path n) ≡ firm_writes plans empty h
    idle_reset path n none =
        ap (λ (r : Option OpenEntry). firm_writes plans empty (reset_in h path n r)) none
        ∙ cond_both (is_used path false h.items) (record h { items = h.items ++ items.Reset path ∷ [] }) h
        (λ (k : History). firm_writes plans empty k ≡ firm_writes plans empty h) (λ _. idle_item none (items.Reset path) refl) (λ _. refl)

    pub idle_power : (n : ℕ) → h.running ≡ None → firm_writes plans empty (lost_power h n) ≡ firm_writes plans empty h
    idle_power n none =
        ap (λ (r : Option OpenEntry). firm_writes plans empty (lost_power_in h n r)) none
        ∙ cond_both (is_started false h.items) (record { items = h.items ++ items.Power ∷ []; running = None; waiting = [] }) h
        (λ (k : History). firm_writes plans empty k ≡ firm_writes plans empty h)
        (λ _. quiet_items (items.Power ∷ []) [] refl ∙ idle_is none) (λ _. refl)

    -- a new volume
    pub emptied_written : h.running ≡ None → firm_writes plans empty (record h { items = h.items ++ items.Fresh ∷ [] }) ≡ firm_writes plans empty h
    emptied_written none = idle_item none items.Fresh refl

    -- a program starts
    pub started_written : (path ordinal : ℕ) → h.running ≡ None → firm_writes plans empty (started h path ordinal) ≡ firm_writes plans empty h
    started_written path ordinal none =
        ap (λ (l : List FirmWrite). journal_writes plans empty h.items ++ l)
        (none_yet path (program_of plans path ordinal) (replay plans empty h.items)) ∙ idle_is none

  -- All acts of an event

  abbrev pub WorksIn : PlainState → History → Type 0
  WorksIn empty h = Works plans (replay plans empty h.items) h.running

-- the tracks of acts by which they become firm, on a volume that stays
abbrev pub firmings : List Track → List Act → List FirmWrite
firmings b [] = []
firmings b (Loosen t ∷ acts) = firmings b acts
firmings b (Harden t ∷ acts) = (t, track_in b t) ∷ firmings b acts
firmings b (CfwLost ∷ acts) = firmings b acts

-- none of the acts takes data
abbrev pub Takes : List Act → Type 0
Takes [] = Unit {0}
Takes (Loosen t ∷ acts) = Takes acts
Takes (Harden t ∷ acts) = Takes acts
Takes (CfwLost ∷ acts) = ⊥

pub firmings_more : (b : List Track) (acts : List Act) (t : ℕ) → firmings b (acts ++ Harden t ∷ []) ≡ firmings b acts ++ (t, track_in b t) ∷ []
firmings_more b [] t = refl
firmings_more b (Loosen u ∷ acts) t = firmings_more b acts t
firmings_more b (Harden u ∷ acts) t = ap (λ (l : List FirmWrite). (u, track_in b u) ∷ l) (firmings_more b acts t)
firmings_more b (CfwLost ∷ acts) t = firmings_more b acts t

pub firmings_loose : (b : List Track) (acts : List Act) (t : ℕ) → firmings b (acts ++ Loosen t ∷ []) ≡ firmings b acts
firmings_loose b [] t = refl
firmings_loose b (Loosen u ∷ acts) t = firmings_loose b acts t
firmings_loose b (Harden u ∷ acts) t = ap (λ (l : List FirmWrite). (u, track_in b u) ∷ l) (firmings_loose b acts t)
firmings_loose b (CfwLost ∷ acts) t = firmings_loose b acts t

pub takes_more : (acts : List Act) (t : ℕ) → Takes acts → Takes (acts ++ Harden t ∷ [])
takes_more [] t f = tt
takes_more (Loosen u ∷ acts) t f = takes_more acts t f
takes_more (Harden u ∷ acts) t f = takes_more acts t f
takes_more (CfwLost ∷ acts) t f = absurd f

pub takes_loose : (acts : List Act) (t : ℕ) → Takes acts → Takes (acts ++ Loosen t ∷ [])
takes_loose [] t f = tt
takes_loose (Loosen u ∷ acts) t f = takes_loose acts t f
takes_loose (Harden u ∷ acts) t f = takes_loose acts t f
takes_loose (CfwLost ∷ acts) t f = absurd f

module _ (plans : Plans) (empty : PlainState) (b : List Track) where
  -- behind the acts
  pub record Behind (h : History) (acts : List Act) : Type 0 where
    pub written : firm_writes plans empty (all_acted h acts) ≡ firm_writes plans empty h ++ firmings b acts
    pub works : WorksIn plans empty (all_acted h acts)
    pub state : plain_of plans empty (all_acted h acts) ≡ acts_done (plain_of plans empty h) acts
    pub volume : (plain_of plans empty (all_acted h acts)).volume ≡ b

  act_behind : (h : History) (act : Act) (acts : List Act) (x : List FirmWrite) → WorksIn plans empty h → act_writes (plain_of plans empty h) act ≡ x →
      Behind (acted h act) acts → firmings b (act ∷ acts) ≡ x ++ firmings b acts → Behind h (act ∷ acts)
  act_behind h act acts x works is later firm = record {
    written =
        later.written
        ∙ ap (λ (l : List FirmWrite). l ++ firmings b acts) (act_by plans empty h h.running refl works act)
        ∙ append_assoc (firm_writes plans empty h) (act_writes (plain_of plans empty h) act) (firmings b acts)
        ∙ ap (λ (l : List FirmWrite). firm_writes plans empty h ++ (l ++ firmings b acts)) is
        ∙ ap (λ (l : List FirmWrite). firm_writes plans empty h ++ l) (sym firm);
    works = later.works;
    state = later.state ∙ ap (λ (s : PlainState). acts_done s acts) (state_after plans empty h h.running refl works act);
    volume = later.volume;
  }

  pub acts_behind : (acts : List Act) (h : History) → WorksIn plans empty h → (plain_of plans empty h).volume ≡ b → Takes acts → Behind h acts
  acts_behind [] h works volume none = record {
    written = sym (append-nil (firm_writes plans empty h));
    works = works;
    state = refl;
    volume = volume;
  }
  acts_behind (Loosen t ∷ acts) h works volume none =
      act_behind h (Loosen t) acts [] works refl
      (acts_behind acts (acted h (Loosen t)) (works_after plans empty h h.running refl works (Loosen t))
      (ap (λ (s : PlainState). s.volume) (state_after plans empty h h.running refl works (Loosen t)) ∙ volume) none) refl
  acts_behind (Harden t ∷ acts) h works volume none =
      act_behind h (Harden t) acts ((t, track_in b t) ∷ []) works (ap (λ (v : List Track). (t, track_in v t) ∷ []) volume)
      (acts_behind acts (acted h (Harden t)) (works_after plans empty h h.running refl works (Harden t))
      (ap (λ (s : PlainState). s.volume) (state_after plans empty h h.running refl works (Harden t)) ∙ volume) none) refl
  acts_behind (CfwLost ∷ acts) h works volume none = absurd none
