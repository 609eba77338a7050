-- Resets and a loss of power keep a device's history plain: they cut the running program, wait for its end, or follow at once.
use Rattle.std.proofs.Common.{
  ◌≡◌,
  ◌≤◌,
  ◌+◌,
  ◌==◌,
  ℕ,
  zero,
  suc,
  List,
  [],
  ◌∷◌,
  ◌++◌,
  Option,
  Some,
  None,
  Bool,
  true,
  false,
  length,
  cond,
  refl,
  arith,
  sym,
  ap,
  subst,
  ◌∙◌,
}
use Rattle.std.specs.Prelude.{◌||◌, IfSome, ⊤, if◌then◌else◌}
use Rattle.std.proofs.lemmas.Bool.{cond_both, eq-eqb}
use Rattle.ckd_types.specs.Volume.{empty_volume}
use Rattle.plain_defs.specs.declared.journal.How.TheVariants.{Cut}
use Rattle.plain_defs.specs.declared.journal.Item.{Item}
use Rattle.plain_defs.specs.declared.journal.Item.TheVariants as items
use Rattle.plain_defs.specs.Effect.{behind_effect}
use Rattle.plain_defs.specs.Entry.{ProgramEntry}
use Rattle.plain_defs.specs.History.{
  OpenEntry,
  History,
  open_part,
  plain_of,
  state_by,
  cut_by,
  reset_in_history,
  reset_in,
  put,
  lost_power,
  lost_power_in,
  emptied,
  resets_of,
  IsOpen,
  IsPlain,
}
use Rattle.plain_defs.specs.Journal.{Plans, program_of, replay, replay_item}
use Rattle.plain_defs.specs.Legal.{MayEdit, next_edit, HasActs, IsLegalEntry, IsLegal, is_used, is_started}
use Rattle.plain_defs.specs.Loose.{power_off}
use Rattle.plain_defs.specs.PlainState.{PlainState, reset_path}
use Rattle.plain_defs.specs.Program.{Part, part_of}
use Rattle.plain_defs.proofs.JournalLaws.{legal_more, replay-append}
use Rattle.device_defs.specs.Device.{all_reset}
use Rattle.device_laws.proofs.HistoryEnds.{edited_next, effect_at, acts_with_one, part_with_one}
use Rattle.device_laws.proofs.OpenProgram.{going_of_open}
use Rattle.device_laws.proofs.WaitingResets.{
  AreDue,
  AreOthers,
  WaitFor,
  legal-append,
  used-append,
  started-append,
  used_behind_program,
  used_behind_reset,
  resets_are_legal,
  replay_resets,
}

-- A program that is cut

-- how many commands more than ended may have taken effect: none, or one that may edit its track
abbrev pub MayTake : Plans → PlainState → OpenEntry → ℕ → Type 0
MayTake plans s o zero = ⊤
MayTake plans s o (suc zero) = MayEdit (open_part plans s o).state (open_part plans s o).stance
    (next_edit o.path (program_of plans o.path o.ordinal) (open_part plans s o))
MayTake plans s o (suc (suc more)) = ⊥

-- the plain device behind these
abbrev pub taken_state : Plans → PlainState → OpenEntry → ℕ → PlainState
taken_state plans s o more = (part_of s o.path (program_of plans o.path o.ordinal) o.acts (length o.ends + more)).state

module _ (plans : Plans) (s : PlainState) (items : List Item) (o : OpenEntry) (is_open : IsOpen plans s items o) where
  -- none: it is the device behind the commands that ended
  pub taken_none : taken_state plans s o 0 ≡ (open_part plans s o).state
  taken_none = let same : length o.ends + 0 ≡ length o.ends = omega arith in
      ap (λ (k : ℕ). (part_of s o.path (program_of plans o.path o.ordinal) o.acts k).state) same

  -- one: with the effect of the command at hand
  pub taken_one : (i : ℕ) → (open_part plans s o).next ≡ Some i
      → taken_state plans s o 1 ≡ behind_effect (open_part plans s o).state (effect_at plans s items o i)
  taken_one i next =
      let same : length o.ends + 1 ≡ suc (length o.ends) = omega arith in
      ap (λ (k : ℕ). (part_of s o.path (program_of plans o.path o.ordinal) o.acts k).state) same
      ∙ ap (λ (x : Part). x.state)
      (part_with_one plans s items o (going_of_open plans s items o (edited_next plans s items o) is_open) i next)

  taken_acts : (more : ℕ) → MayTake plans s o more
      → HasActs s o.path (program_of plans o.path o.ordinal) o.acts (length o.ends + more)
  taken_acts zero may = let same : length o.ends ≡ length o.ends + 0 = omega arith in
      rw (← same) is_open.acts
  taken_acts (suc zero) may = let same : suc (length o.ends) ≡ length o.ends + 1 = omega arith in
      rw (← same) (acts_with_one plans s items o (going_of_open plans s items o (edited_next plans s items o) is_open) may)
  taken_acts (suc (suc more)) may = absurd may

  at_most_one : (more : ℕ) → MayTake plans s o more → more ≤ 1
  at_most_one zero may = omega arith
  at_most_one (suc zero) may = omega arith
  at_most_one (suc (suc more)) may = absurd may

  pub cut_entry : (more : ℕ) → MayTake plans s o more → IsLegalEntry plans s items
      (record { path = o.path; ordinal = o.ordinal; how = Cut (length o.ends + more); ends = o.ends; acts = o.acts })
  cut_entry more may = let most = at_most_one more may in record {
    started = is_open.start;
    ends = record { ends_are = is_open.ends; ran_on = is_open.runs; least = omega arith; most = omega (arith, most) };
    order = is_open.order;
    acts = taken_acts more may;
  }

true_first : (b c : Bool) → b ≡ true → (b || c) ≡ true
true_first b c is = ap (λ (x : Bool). x || c) is

module _ (plans : Plans) (empty : PlainState) (h : History) (plain : IsPlain plans empty h) where
  abbrev s : PlainState
  s = replay plans empty h.items

  open_by : (o : OpenEntry) → h.running ≡ Some o → IsOpen plans s h.items o
  open_by o running = subst (λ (r : Option OpenEntry). IfSome r (IsOpen plans s h.items)) running plain.at

  -- where nothing runs
  pub idle_with : (x : Item) (running : h.running ≡ None) → IsLegal plans empty (h.items ++ x ∷ [])
      → IsPlain plans empty (record h { items = h.items ++ x ∷ [] })
  idle_with x running legal = record {
    legal = legal;
    at = rw running tt;
  }

  module _ (o : OpenEntry) (running : h.running ≡ Some o) (more : ℕ) (may : MayTake plans s o more) where
    abbrev entry : ProgramEntry
    entry = record { path = o.path; ordinal = o.ordinal; how = Cut (length o.ends + more); ends = o.ends; acts = o.acts }

    -- By the reset of its path

    path_used : is_used o.path false (h.items ++ items.Program entry ∷ []) ≡ true
    path_used = used-append o.path false h.items (items.Program entry ∷ [])
        ∙ true_first (o.path == o.path) (is_used o.path false h.items) (eq-eqb o.path o.path refl)

    module _ (due : AreDue h) where
      others : AreOthers o.path h.waiting
      others = subst (λ (r : Option OpenEntry). WaitFor r h.waiting) running due.others

      behind_are_legal : IsLegal plans empty (h.items ++ items.Program entry ∷ items.Reset o.path ∷ resets_of h.waiting)
      behind_are_legal = legal-append plans empty [] h.items (items.Program entry ∷ items.Reset o.path ∷ resets_of h.waiting) plain.legal (
        (cut_entry plans s h.items o (open_by o running) more may, refl),
        (
          path_used,
          resets_are_legal plans
              (replay_item plans (replay_item plans s (items.Program entry)) (items.Reset o.path))
              ((h.items ++ items.Program entry ∷ []) ++ items.Reset o.path ∷ []) 0 h.waiting due.rising
              (used_behind_reset (h.items ++ items.Program entry ∷ []) o.path h.waiting others
              (used_behind_program h.items entry h.waiting due.used)),
        ),
      )

      -- it cuts the program, and the resets that waited follow
      pub cut_plain : IsPlain plans empty (cut_by h o more)
      cut_plain = record { legal = behind_are_legal; at = tt }

    pub cut_state : plain_of plans empty (cut_by h o more) ≡ (let z = taken_state plans s o more in
        record z { paths = all_reset (reset_path z.paths o.path) h.waiting })
    cut_state =
        replay-append plans empty h.items (items.Program entry ∷ items.Reset o.path ∷ resets_of h.waiting)
        ∙ replay_resets plans (replay_item plans (replay_item plans s (items.Program entry)) (items.Reset o.path)) h.waiting

    -- By a loss of power

    -- it cuts the program, and the resets that waited are dropped
    power_cuts : IsPlain plans empty (lost_power_in h more (Some o))
    power_cuts = record {
      legal = legal-append plans empty [] h.items (items.Program entry ∷ items.Power ∷ []) plain.legal (
        (cut_entry plans s h.items o (open_by o running) more may, tt),
        (started-append false h.items (items.Program entry ∷ []), tt),
      );
      at = tt;
    }

    pub power_cut_plain : IsPlain plans empty (lost_power h more)
    power_cut_plain = rw running power_cuts

    pub power_cut_state : plain_of plans empty (lost_power h more) ≡ power_off (taken_state plans s o more)
    power_cut_state =
        ap (λ (r : Option OpenEntry). plain_of plans empty (lost_power_in h more r)) running
        ∙ replay-append plans empty h.items (items.Program entry ∷ items.Power ∷ [])

  -- A loss of power while nothing runs

  power_item : is_started false h.items ≡ true
      → IsPlain plans empty (record { items = h.items ++ items.Power ∷ []; running = None; waiting = [] })
  power_item started = record { legal = legal_more plans empty [] h.items items.Power plain.legal started; at = tt }

  pub idle_power_plain : h.running ≡ None → (more : ℕ) → IsPlain plans empty (lost_power h more)
  idle_power_plain stands more =
      subst (λ (r : Option OpenEntry). IsPlain plans empty (lost_power_in h more r)) (sym stands)
      (cond_both (is_started false h.items) (record { items = h.items ++ items.Power ∷ []; running = None; waiting = [] }) h
      (λ (k : History). IsPlain plans empty k) power_item (λ unused. plain))

  -- Resets

  -- of another path: it waits for the running program's end, and nothing else changes
  pub waiting_plain : (paths : List ℕ) → IsPlain plans empty (record h { waiting = paths })
  waiting_plain paths = record { legal = plain.legal; at = plain.at }

  by_other : (o : OpenEntry) (path : ℕ) → IsPlain plans empty
      (if is_used path false h.items then record h { waiting = put path h.waiting } else h)
  by_other o path = cond_both (is_used path false h.items) (record h { waiting = put path h.waiting }) h
      (λ (k : History). IsPlain plans empty k) (λ used. waiting_plain (put path h.waiting)) (λ unused. plain)

  pub idle_reset_plain : h.running ≡ None → (path more : ℕ) → IsPlain plans empty (reset_in_history h path more)
  idle_reset_plain stands path more =
      subst (λ (r : Option OpenEntry). IsPlain plans empty (reset_in h path more r)) (sym stands)
      (cond_both (is_used path false h.items) (record h { items = h.items ++ items.Reset path ∷ [] }) h
      (λ (k : History). IsPlain plans empty k)
      (λ used. idle_with (items.Reset path) stands (legal_more plans empty [] h.items (items.Reset path) plain.legal used))
      (λ unused. plain))

  -- of any path while a program runs: its own cuts it, and of the command at hand it may have taken the effect
  pub running_reset_plain : AreDue h → (o : OpenEntry) → h.running ≡ Some o → (path more : ℕ)
      → ((o.path == path) ≡ true → MayTake plans s o more) → IsPlain plans empty (reset_in_history h path more)
  running_reset_plain due o running path more may =
      subst (λ (r : Option OpenEntry). IsPlain plans empty (reset_in h path more r)) (sym running)
      (cond_both (o.path == path) (cut_by h o more) (if is_used path false h.items then record h { waiting = put path h.waiting } else h)
      (λ (k : History). IsPlain plans empty k) (λ own. cut_plain o running more (may own) due) (λ other. by_other o path))

  -- The plain device behind these where nothing runs

  replay_one : (x : Item) → replay plans empty (h.items ++ x ∷ []) ≡ replay_item plans s x
  replay_one x = replay-append plans empty h.items (x ∷ [])

  pub idle_reset_state : h.running ≡ None → (path more : ℕ) → is_used path false h.items ≡ true
      → plain_of plans empty (reset_in_history h path more) ≡ record s { paths = reset_path s.paths path }
  idle_reset_state stands path more used =
      ap (λ (r : Option OpenEntry). plain_of plans empty (reset_in h path more r)) stands
      ∙ ap (λ (b : Bool). plain_of plans empty (cond b (record h { items = h.items ++ items.Reset path ∷ [] }) h)) used
      ∙ ap (λ (r : Option OpenEntry). state_by plans (replay plans empty (h.items ++ items.Reset path ∷ [])) r) stands
      ∙ replay_one (items.Reset path)

  pub idle_power_state : h.running ≡ None → (more : ℕ) → is_started false h.items ≡ true
      → plain_of plans empty (lost_power h more) ≡ power_off s
  idle_power_state stands more started =
      ap (λ (r : Option OpenEntry). plain_of plans empty (lost_power_in h more r)) stands
      ∙ ap (λ (b : Bool). plain_of plans empty
      (cond b (record { items = h.items ++ items.Power ∷ []; running = None; waiting = [] }) h)) started
      ∙ replay_one items.Power

  -- a reset that waits changes nothing yet
  pub waiting_state : (o : OpenEntry) → h.running ≡ Some o → (path more : ℕ) → (o.path == path) ≡ false
      → plain_of plans empty (reset_in_history h path more) ≡ plain_of plans empty h
  waiting_state o running path more other =
      ap (λ (r : Option OpenEntry). plain_of plans empty (reset_in h path more r)) running
      ∙ ap (λ (b : Bool). plain_of plans empty
      (cond b (cut_by h o more) (if is_used path false h.items then record h { waiting = put path h.waiting } else h))) other
      ∙ by_used (is_used path false h.items) where
        by_used : (b : Bool) → plain_of plans empty (cond b (record h { waiting = put path h.waiting }) h) ≡ plain_of plans empty h
        by_used true = refl
        by_used false = refl

  -- a new volume, while nothing runs
  pub emptied_plain : h.running ≡ None → IsPlain plans empty (emptied h)
  emptied_plain stands = idle_with items.Fresh stands (legal_more plans empty [] h.items items.Fresh plain.legal tt)

  pub emptied_state : h.running ≡ None
      → plain_of plans empty (emptied h) ≡ record s { volume = empty_volume s.cylinders; loose = [] }
  emptied_state stands =
      ap (λ (r : Option OpenEntry). state_by plans (replay plans empty (h.items ++ items.Fresh ∷ [])) r) stands
      ∙ replay_one items.Fresh
