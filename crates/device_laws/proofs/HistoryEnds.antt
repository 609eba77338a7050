-- The end of a running program's command keeps a device's history plain, whatever resets wait for it.
use Rattle.std.proofs.Common.{
  ◌≡◌,
  ◌≤◌,
  ◌<◌,
  ◌+◌,
  ◌-◌,
  ℕ,
  suc,
  List,
  [],
  ◌∷◌,
  ◌++◌,
  Option,
  Some,
  Bool,
  true,
  false,
  length,
  cond,
  refl,
  arith,
  sym,
  ap,
  subst,
  ◌∙◌,
  append_assoc,
  inl,
  inr,
}
use Rattle.std.specs.Prelude.{◌⊎◌, IfSome}
use Rattle.std.proofs.lemmas.Bool.{cases_lt}
use Rattle.std.proofs.lemmas.List.{length-append}
use Rattle.ckd_types.specs.declared.channel.Ccw.{Ccw}
use Rattle.ckd_types.specs.declared.channel.CommandEnd.{CommandEnd}
use Rattle.ckd_types.specs.declared.sense.Sense.{Sense}
use Rattle.ckd_types.specs.Ccw.{ccw_at}
use Rattle.ckd_rules.specs.Ends.{end_at_word, is_over}
use Rattle.ckd_rules.proofs.Goes.{over_stops, more_goes}
use Rattle.plain_defs.specs.declared.journal.How.{How}
use Rattle.plain_defs.specs.declared.journal.How.TheVariants.{Full, Checked}
use Rattle.plain_defs.specs.declared.journal.Item.{Item}
use Rattle.plain_defs.specs.Effect.{Effect, effect_on, behind_effect}
use Rattle.plain_defs.specs.History.{
  OpenEntry,
  History,
  open_part,
  plain_of,
  entry_of,
  with_end,
  closed,
  ended,
  ended_in,
  checked,
  checked_in,
  resets_of,
  IsOpen,
  IsPlain,
}
use Rattle.plain_defs.specs.Journal.{Plans, program_of, replay, replay_item, last_sense}
use Rattle.plain_defs.specs.Legal.{AreInOrder, MayEdit, edit_at, track_of, next_edit, IsPoint, HasActs, IsCheck, IsLegalItem, IsLegal}
use Rattle.plain_defs.specs.PlainState.{PlainState, with_sense}
use Rattle.plain_defs.specs.Program.{Part, command_run, stepped_at, ended_with, part_of}
use Rattle.plain_defs.proofs.JournalLaws.{legal_more, replay-append}
use Rattle.plain_defs.proofs.PartLemmas.{acted_nothing, part_more}
use Rattle.device_defs.specs.Device.{all_reset}
use Rattle.device_laws.proofs.KeptHistories.{last_is}
use Rattle.device_laws.proofs.OpenProgram.{IsGoing, going_of_open, no_acts, order_on}
use Rattle.device_laws.proofs.WaitingResets.{AreDue, resets_follow, used_behind_program, replay_resets}

abbrev pub all_reset_in : PlainState → List ℕ → PlainState
all_reset_in s paths = record s { paths = all_reset s.paths paths }

pub one_longer : (ends : List CommandEnd) (e : CommandEnd) → length (ends ++ e ∷ []) ≡ suc (length ends)
one_longer ends e = let sum = length-append ends (e ∷ []) in omega (arith, sum)

-- A program that is over

module _ (plans : Plans) (empty : PlainState) (h : History) where
  -- a legal entry, and the resets that waited behind it
  pub closed_plain : IsLegal plans empty h.items → AreDue h → (o : OpenEntry) (how : How)
      → IsLegalItem plans (replay plans empty h.items) h.items (entry_of o how) [] → IsPlain plans empty (closed h o how)
  closed_plain legal due o how item = record {
    legal = rw (← (append_assoc h.items (entry_of o how ∷ []) (resets_of h.waiting)))
        (resets_follow plans empty (h.items ++ entry_of o how ∷ []) h.waiting
        (legal_more plans empty [] h.items (entry_of o how) legal item) due.rising
        (used_behind_program h.items (record { path = o.path; ordinal = o.ordinal; how = how; ends = o.ends; acts = o.acts })
        h.waiting due.used));
    at = tt;
  }

  pub closed_state : (o : OpenEntry) (how : How) → plain_of plans empty (closed h o how)
      ≡ all_reset_in (replay_item plans (replay plans empty h.items) (entry_of o how)) h.waiting
  closed_state o how =
      replay-append plans empty h.items (entry_of o how ∷ resets_of h.waiting)
      ∙ replay_resets plans (replay_item plans (replay plans empty h.items) (entry_of o how)) h.waiting

-- A command of a running program

module _ (plans : Plans) (s : PlainState) (items : List Item) (o : OpenEntry) where
  -- what the command at hand does where it ends as on the plain device
  abbrev pub effect_at : ℕ → Effect
  effect_at i = effect_on (open_part plans s o).fixed (open_part plans s o).state o.path (open_part plans s o).stance
      (ccw_at (program_of plans o.path o.ordinal) i)

  abbrev pub edited_next : Option ℕ
  edited_next = track_of (next_edit o.path (program_of plans o.path o.ordinal) (open_part plans s o))

  module _ (going : IsGoing plans s items o edited_next) where
    module _ (may : MayEdit (open_part plans s o).state (open_part plans s o).stance
        (next_edit o.path (program_of plans o.path o.ordinal) (open_part plans s o))) where
      point_by : (j : ℕ) → (j < length o.ends) ⊎ (length o.ends ≤ j) → j < suc (length o.ends)
          → IsPoint s o.path (program_of plans o.path o.ordinal) o.acts j
      point_by j (inl below) inside = going.points j below
      point_by j (inr above) inside =
          let here : length o.ends ≡ j = omega (arith, above, inside) in
          rw (← here) (record { acts_are = going.here; edit_is = may })

      -- it took effect: one command more with the acts before it
      pub acts_with_one : HasActs s o.path (program_of plans o.path o.ordinal) o.acts (suc (length o.ends))
      acts_with_one = record {
        points = λ j below. point_by j (cases_lt j (length o.ends)) below;
        last =
            let stop : length o.ends + 1 ≤ suc (length o.ends) = omega arith in
            rw (no_acts 0 (length o.ends + 1) (suc (length o.ends)) o.acts going.order stop) tt;
      }

    -- the program's part behind it
    pub part_with_one : (i : ℕ) → (open_part plans s o).next ≡ Some i
        → part_of s o.path (program_of plans o.path o.ordinal) o.acts (suc (length o.ends))
        ≡ ended_with (program_of plans o.path o.ordinal) (open_part plans s o) i (effect_at i)
    part_with_one i next =
        let p = open_part plans s o in
        let ccws = program_of plans o.path o.ordinal in
        let many : length p.ends ≡ length o.ends = ap length (sym going.ends) in
        let longer : length (command_run o.path ccws p).ends ≡ suc (length p.ends) =
        ap (λ (x : Option ℕ). length (stepped_at o.path ccws p x).ends) next
        ∙ one_longer p.ends (end_at_word i (ccw_at ccws i) (effect_at i).outcome) in
        part_more o.path ccws o.acts s (length o.ends)
        ∙ acted_nothing o.acts (command_run o.path ccws p)
        (no_acts 0 (length o.ends + 1) (length (command_run o.path ccws p).ends) o.acts going.order (omega (arith, many, longer)))
        ∙ ap (λ (x : Option ℕ). stepped_at o.path ccws p x) next

-- Ends

module _ (plans : Plans) (empty : PlainState) (h : History) (legal : IsLegal plans empty h.items) (due : AreDue h)
    (o : OpenEntry) (running : h.running ≡ Some o) where
  abbrev s : PlainState
  s = replay plans empty h.items

  abbrev p : Part
  p = open_part plans (replay plans empty h.items) o

  abbrev ccws : List Ccw
  ccws = program_of plans o.path o.ordinal

  -- It had no effect: equipment check or data check

  module _ (is_open : IsOpen plans s h.items o) (e : CommandEnd) (next : p.next ≡ Some e.index) (check : IsCheck ccws e) where
    one_less : length (o.ends ++ e ∷ []) - 1 ≡ length o.ends
    one_less = let many = one_longer o.ends e in omega (arith, many)

    checked_item : IsLegalItem plans s h.items (entry_of (with_end o e) Checked) []
    checked_item = (
      record {
        started = is_open.start;
        ends = rw one_less (record {
          last = e;
          ends_are = ap (λ (l : List CommandEnd). l ++ e ∷ []) is_open.ends;
          next_is = next;
          checked = check;
        });
        order = let many = one_longer o.ends e in let same : length o.ends + 1 ≡ length (o.ends ++ e ∷ []) = omega (arith, many) in
            subst (λ (stop : ℕ). AreInOrder 0 stop o.acts) same is_open.order;
        acts = subst (λ (k : ℕ). HasActs s o.path ccws o.acts k) (sym one_less) is_open.acts;
      },
      tt,
    )

    -- the running program ends with a check of its next command
    pub checked_plain : IsPlain plans empty (checked h e)
    checked_plain = rw running (closed_plain plans empty h legal due (with_end o e) Checked checked_item)

    -- and is as if the command had done nothing, with the sense of the check; then the resets that waited
    pub checked_state : plain_of plans empty (checked h e)
        ≡ all_reset_in (record p.state { paths = with_sense p.state.paths o.path e.sense }) h.waiting
    checked_state =
        ap (λ (r : Option OpenEntry). plain_of plans empty (checked_in h e r)) running
        ∙ closed_state plans empty h (with_end o e) Checked
        ∙ ap (λ (k : ℕ). all_reset_in (record (part_of s o.path ccws o.acts k).state
        { paths = with_sense (part_of s o.path ccws o.acts k).state.paths o.path (last_sense (o.ends ++ e ∷ [])) }) h.waiting) one_less
        ∙ ap (λ (x : Option Sense). all_reset_in (record p.state { paths = with_sense p.state.paths o.path x }) h.waiting)
        (last_is o.ends e)

  -- It ended as on the plain device

  module _ (going : IsGoing plans s h.items o (edited_next plans s h.items o)) (i : ℕ) (next : p.next ≡ Some i) (e : CommandEnd)
      (end_is : e ≡ end_at_word i (ccw_at ccws i) (effect_at plans s h.items o i).outcome)
      (may : MayEdit p.state p.stance (effect_at plans s h.items o i).edit) where
    abbrev q : Part
    q = ended_with ccws p i (effect_at plans s h.items o i)

    many : length (o.ends ++ e ∷ []) ≡ suc (length o.ends)
    many = one_longer o.ends e

    at_end : part_of s o.path ccws o.acts (length (o.ends ++ e ∷ [])) ≡ q
    at_end = ap (λ (k : ℕ). part_of s o.path ccws o.acts k) many ∙ part_with_one plans s h.items o going i next

    may_next : MayEdit p.state p.stance (next_edit o.path ccws p)
    may_next = rw (ap (λ (n : Option ℕ). edit_at o.path ccws p n) next) may

    acts_at_end : HasActs s o.path ccws o.acts (length (o.ends ++ e ∷ []))
    acts_at_end = subst (λ (k : ℕ). HasActs s o.path ccws o.acts k) (sym many) (acts_with_one plans s h.items o going may_next)

    later_ends : o.ends ++ e ∷ [] ≡ (part_of s o.path ccws o.acts (length (o.ends ++ e ∷ []))).ends
    later_ends = ap (λ (l : List CommandEnd). l ++ e ∷ []) going.ends ∙ ap (λ (x : CommandEnd). p.ends ++ x ∷ []) end_is
        ∙ ap (λ (x : Part). x.ends) (sym at_end)

    over_is : e.over ≡ is_over (ccw_at ccws i) (effect_at plans s h.items o i).outcome
    over_is = ap (λ (x : CommandEnd). x.over) end_is

    goes_on : e.over ≡ false → IsPlain plans empty (record h { running = Some (with_end o e) })
    goes_on more = record {
      legal = legal;
      at = record {
        start = going.start;
        ends = later_ends;
        runs = rw (ap (λ (x : Part). x.next) at_end ∙ more_goes ccws i (effect_at plans s h.items o i).outcome (sym over_is ∙ more)) refl;
        order = order_on 0 (length o.ends + 1) (length (o.ends ++ e ∷ []) + 1) o.acts going.order (omega (arith, many));
        acts = acts_at_end;
      };
    }

    is_done : e.over ≡ true → IsPlain plans empty (closed h (with_end o e) Full)
    is_done over = closed_plain plans empty h legal due (with_end o e) Full (
      record {
        started = going.start;
        ends = record {
          ends_are = later_ends;
          over = ap (λ (x : Part). x.next) at_end
              ∙ over_stops ccws i (effect_at plans s h.items o i).outcome (sym over_is ∙ over);
        };
        order = let same : length o.ends + 1 ≡ length (o.ends ++ e ∷ []) = omega (arith, many) in
            subst (λ (stop : ℕ). AreInOrder 0 stop o.acts) same going.order;
        acts = acts_at_end;
      },
      tt,
    )

    by_over : (over : Bool) → e.over ≡ over
        → IsPlain plans empty (cond over (closed h (with_end o e) Full) (record h { running = Some (with_end o e) }))
    by_over true over = is_done over
    by_over false over = goes_on over

    -- a command of the running program ends, and behind the program's end come the resets that waited
    pub going_ends_plain : IsPlain plans empty (ended h e)
    going_ends_plain = rw running (by_over e.over refl)

    -- the plain device behind it
    pub ended_state_on : e.over ≡ false → plain_of plans empty (ended h e) ≡ behind_effect p.state (effect_at plans s h.items o i)
    ended_state_on more =
        ap (λ (r : Option OpenEntry). plain_of plans empty (ended_in h e r)) running
        ∙ ap (λ (b : Bool). plain_of plans empty (cond b (closed h (with_end o e) Full) (record h { running = Some (with_end o e) }))) more
        ∙ ap (λ (x : Part). x.state) at_end

    pub ended_state_over : e.over ≡ true → plain_of plans empty (ended h e)
        ≡ all_reset_in (behind_effect p.state (effect_at plans s h.items o i)) h.waiting
    ended_state_over over =
        ap (λ (r : Option OpenEntry). plain_of plans empty (ended_in h e r)) running
        ∙ ap (λ (b : Bool). plain_of plans empty (cond b (closed h (with_end o e) Full) (record h { running = Some (with_end o e) }))) over
        ∙ closed_state plans empty h (with_end o e) Full
        ∙ ap (λ (x : Part). all_reset_in x.state h.waiting) at_end

-- The same of a history that is plain

module _ (plans : Plans) (empty : PlainState) (h : History) (plain : IsPlain plans empty h) (due : AreDue h)
    (o : OpenEntry) (running : h.running ≡ Some o) where
  pub running_is_open : IsOpen plans (replay plans empty h.items) h.items o
  running_is_open = subst (λ (r : Option OpenEntry). IfSome r (IsOpen plans (replay plans empty h.items) h.items)) running plain.at

  -- a check of the next command
  pub check_keeps_plain : (e : CommandEnd) → (open_part plans (replay plans empty h.items) o).next ≡ Some e.index
      → IsCheck (program_of plans o.path o.ordinal) e → IsPlain plans empty (checked h e)
  check_keeps_plain e next check = checked_plain plans empty h plain.legal due o running running_is_open e next check

  -- an end as on the plain device
  pub end_keeps_plain : (i : ℕ) → (open_part plans (replay plans empty h.items) o).next ≡ Some i → (e : CommandEnd)
      → e ≡ end_at_word i (ccw_at (program_of plans o.path o.ordinal) i) (effect_at plans (replay plans empty h.items) h.items o i).outcome
      → MayEdit (open_part plans (replay plans empty h.items) o).state (open_part plans (replay plans empty h.items) o).stance
      (effect_at plans (replay plans empty h.items) h.items o i).edit
      → IsPlain plans empty (ended h e)
  end_keeps_plain i next e end_is may = going_ends_plain plans empty h plain.legal due o running
      (going_of_open plans (replay plans empty h.items) h.items o (edited_next plans (replay plans empty h.items) h.items o)
      running_is_open) i next e end_is may
