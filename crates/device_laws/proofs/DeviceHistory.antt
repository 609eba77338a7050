-- A device meets what its history asks for: at a check of its command at hand, and at the start of a path's next program.
use Rattle.std.proofs.Common.{
  ◌≡◌,
  ◌≤◌,
  ◌+◌,
  ◌-◌,
  ◌==◌,
  ℕ,
  List,
  Option,
  Some,
  None,
  Bool,
  true,
  false,
  not,
  length,
  cond,
  refl,
  arith,
  sym,
  ap,
  subst,
  ◌∙◌,
  inl,
  inr,
}
use Rattle.std.specs.Prelude.{◌⊎◌, ◌&&◌, ◌||◌, IfSome, IsSome, count_by, if◌then◌else◌}
use Rattle.std.proofs.lemmas.Bool.{cases_Bool, eqb-false}
use Rattle.ckd_types.specs.declared.channel.Ccw.{Ccw}
use Rattle.ckd_types.specs.declared.channel.CommandEnd.{CommandEnd}
use Rattle.ckd_types.specs.declared.channel.Note.TheVariants.{Plain, Limit}
use Rattle.ckd_types.specs.declared.paths.Owner.{Owner}
use Rattle.ckd_types.specs.declared.sense.Sense.{Sense}
use Rattle.ckd_types.specs.Ccw.{ccw_at}
use Rattle.ckd_types.specs.Sense.{equipment_sense, data_check_sense}
use Rattle.ckd_rules.specs.declared.stance.Stance.{Stance}
use Rattle.ckd_rules.specs.Ending.{refused}
use Rattle.ckd_rules.specs.Ends.{end_at_word, would_go_on, at_limit}
use Rattle.ckd_chain.specs.declared.progress.Settled.TheVariants.{Equipment, DataCheck}
use Rattle.ckd_chain.specs.State.{ChainState}
use Rattle.ckd_chain.specs.Steps.{index_of, end_with, settled_by, start_of}
use Rattle.plain_defs.specs.History.{OpenEntry, open_part, is_path_of, started, IsOpen, IsPlain}
use Rattle.plain_defs.specs.Journal.{Plans, planned, program_of, replay}
use Rattle.plain_defs.specs.Legal.{MayStart, IsCheck, is_of_path}
use Rattle.plain_defs.specs.PlainState.{PlainState, is_admitted}
use Rattle.plain_defs.proofs.HistoryLaws.{started_plain}
use Rattle.device_defs.specs.declared.answers.StartFault.{StartFault}
use Rattle.device_defs.specs.declared.answers.StartFault.TheVariants.{PlanDone}
use Rattle.device_defs.specs.Device.{Device}
use Rattle.device_defs.specs.Outcomes.{checks, turned}
use Rattle.device_defs.specs.Start as S
use Rattle.device_defs.specs.Start.{started_count, left, next_program, keeps_out, reserved_fault, idle_fault, running_fault, fault_by, start_fault, start}
use Rattle.device_laws.proofs.DueResets.{started_due}
use Rattle.device_laws.proofs.HistoryEnds.{checked_plain}
use Rattle.device_laws.proofs.WaitingResets.{AreDue}

-- Equipment check and data check

no_more : (a b c : Bool) → (a && false && b && c) ≡ false
no_more true b c = refl
no_more false b c = refl

module _ (ccws : List Ccw) (i : ℕ) (z : Stance) (sense : Sense) where
  abbrev check_end : CommandEnd
  check_end = end_at_word i (ccw_at ccws i) (refused z (ccw_at ccws i) sense)

  stops : would_go_on (ccw_at ccws i) (refused z (ccw_at ccws i) sense).ending ≡ false
  stops = no_more _ true true

  -- a command that is refused so ends with such a check
  pub refused_is_check : (◌≡◌ {A = Option Sense} (Some sense) (Some equipment_sense))
      ⊎ (◌≡◌ {A = Option Sense} (Some sense) (Some data_check_sense))
      → IsCheck ccws check_end
  refused_is_check is = record {
    status = refl;
    residual = refl;
    sent = refl;
    note = ap (λ (b : Bool). cond (b && at_limit (refused z (ccw_at ccws i) sense).stance) Limit Plain) stops;
    sense = is;
    over = ap (λ (b : Bool). not b || at_limit (refused z (ccw_at ccws i) sense).stance) stops;
  }

pub equipment_is_check : (chain : ChainState) → IsCheck chain.ccws (end_with chain (settled_by chain Equipment))
equipment_is_check chain = refused_is_check chain.ccws (index_of chain.at.next) (start_of chain).stance equipment_sense (inl refl)

pub data_check_is_check : (chain : ChainState) → IsCheck chain.ccws (end_with chain (settled_by chain DataCheck))
data_check_is_check chain = refused_is_check chain.ccws (index_of chain.at.next) (start_of chain).stance data_check_sense (inr refl)

-- the chain is where the running program goes on
pub record IsAtHand (plans : Plans) (s : PlainState) (o : OpenEntry) (chain : ChainState) : Type 0 where
  pub words : chain.ccws ≡ program_of plans o.path o.ordinal
  pub next : chain.at.next ≡ (open_part plans s o).next

pub index_is : (next : Option ℕ) → IsSome next → next ≡ Some (index_of next)
index_is None some = absurd (no_some None refl some) where
  no_some : (x : Option ℕ) → x ≡ None → IsSome x → ⊥
  no_some None is some = cc
  no_some (Some i) is some = cc
index_is (Some i) some = refl

module _ {F P H : Type 0} (empty : PlainState) (d : Device F P H) (plain : IsPlain d.plans empty d.history) where
  module _ (due : AreDue d.history) (o : OpenEntry) (running : d.history.running ≡ Some o) (chain : ChainState)
      (at_hand : IsAtHand d.plans (replay d.plans empty d.history.items) o chain) (path : ℕ) where
    open_is : IsOpen d.plans (replay d.plans empty d.history.items) d.history.items o
    open_is = subst (λ (r : Option OpenEntry). IfSome r (IsOpen d.plans (replay d.plans empty d.history.items) d.history.items))
        running plain.at

    pub next_is : (open_part d.plans (replay d.plans empty d.history.items) o).next ≡ Some (index_of chain.at.next)
    next_is = sym at_hand.next ∙ index_is chain.at.next (subst (λ (n : Option ℕ). IsSome n) (sym at_hand.next) open_is.runs)

    -- a device whose command at hand ends with equipment check has a plain history behind it
    pub equipment_plain : IsPlain d.plans empty (turned d path (checks chain Equipment)).history
    equipment_plain = checked_plain d.plans empty d.history plain.legal due o running open_is
        (end_with chain (settled_by chain Equipment)) next_is (rw (← at_hand.words) (equipment_is_check chain))

    -- and with data check
    pub data_check_plain : IsPlain d.plans empty (turned d path (checks chain DataCheck)).history
    data_check_plain = checked_plain d.plans empty d.history plain.legal due o running open_is
        (end_with chain (settled_by chain DataCheck)) next_is (rw (← at_hand.words) (data_check_is_check chain))

-- A start

not_false : (b : Bool) → not b ≡ false → b ≡ true
not_false true is = refl
not_false false is = absurd (cc)

module _ {F P H : Type 0} (empty : PlainState) (d : Device F P H) (plain : IsPlain d.plans empty d.history) (path : ℕ)
    (least : 1 ≤ path) (most : path ≤ 4) (paths_are : d.paths ≡ (replay d.plans empty d.history.items).paths) where
  module _ (stands : d.history.running ≡ None) (some : (left d path == 0) ≡ false)
      (admitted : is_admitted d.paths path (next_program d path) ≡ true) where
    ordinal_is : started_count d.history path + 1 ≡ count_by (is_of_path path) d.history.items + 1
    ordinal_is =
        let none : started_count d.history path ≡ count_by (is_of_path path) d.history.items + 0 =
        ap (λ (r : Option OpenEntry). count_by (is_of_path path) d.history.items + (if is_path_of r path then 1 else 0)) stands in
        omega (arith, none)

    in_plan : started_count d.history path + 1 ≤ length (planned d.plans path)
    in_plan = from_left (eqb-false (left d path) 0 some) where
      from_left : (length (planned d.plans path) - started_count d.history path ≡ 0 → ⊥)
          → started_count d.history path + 1 ≤ length (planned d.plans path)
      from_left apart = omega (arith, apart)

    may : MayStart d.plans (replay d.plans empty d.history.items) d.history.items path (started_count d.history path + 1)
    may = record {
      least = least;
      most = most;
      in_plan = in_plan;
      ordinal_is = ordinal_is;
      admitted = rw (← paths_are) admitted;
    }

    begins : IsPlain d.plans empty (started d.history path (started_count d.history path + 1))
    begins = started_plain d.plans empty d.history plain path (started_count d.history path + 1) may

  -- nobody is kept out of a device that nobody holds
  held_by_none : (owner : Option Owner) → d.paths.owner ≡ owner → keeps_out d path ≡ true → reserved_fault d owner ≡ None → ⊥
  held_by_none (Some owner) here out is = cc
  held_by_none None here out is =
      let free : is_admitted d.paths path (next_program d path) ≡ true =
      ap (λ (x : Option Owner). is_admitted (record d.paths { owner = x }) path (next_program d path)) here in
      let kept : not true ≡ true = subst (λ (b : Bool). not b ≡ true) free out in cc

  by_out : d.history.running ≡ None → (left d path == 0) ≡ false → (keeps_out d path ≡ true) ⊎ (keeps_out d path ≡ false)
      → cond (keeps_out d path) (reserved_fault d d.paths.owner) None ≡ None
      → IsPlain d.plans empty (started d.history path (started_count d.history path + 1))
  by_out stands some (inl out) is = absurd (held_by_none d.paths.owner refl out
      (subst (λ (b : Bool). cond b (reserved_fault d d.paths.owner) None ≡ None) out is))
  by_out stands some (inr free) is = begins stands some (not_false (is_admitted d.paths path (next_program d path)) free)

  by_left : d.history.running ≡ None → ((left d path == 0) ≡ true) ⊎ ((left d path == 0) ≡ false) → idle_fault d path ≡ None
      → IsPlain d.plans empty (started d.history path (started_count d.history path + 1))
  by_left stands (inl none) is =
      let done : ◌≡◌ {A = Option StartFault} (Some PlanDone) None = subst (λ (b : Bool). cond b (Some PlanDone)
      (cond (keeps_out d path) (reserved_fault d d.paths.owner) None) ≡ None) none is in absurd cc
  by_left stands (inr some) is = by_out stands some (cases_Bool (keeps_out d path))
      (subst (λ (b : Bool). cond b (Some PlanDone) (cond (keeps_out d path) (reserved_fault d d.paths.owner) None) ≡ None) some is)

  by_running : (r : Option OpenEntry) → d.history.running ≡ r → running_fault d path r ≡ None
      → IsPlain d.plans empty (started d.history path (started_count d.history path + 1))
  by_running (Some o) here is = absurd cc
  by_running None here is = by_left here (cases_Bool (left d path == 0)) is

  by_loan : (lent : Option ℕ) → fault_by d path lent ≡ None
      → IsPlain d.plans empty (started d.history path (started_count d.history path + 1))
  by_loan (Some of) is = absurd cc
  by_loan None is = by_running d.history.running refl is

  -- the next program of a path starts where nothing is against it
  pub start_plain : start_fault d path ≡ None → IsPlain d.plans empty (start d path).history
  unfolding S.start_fault S.start
  start_plain is = by_loan d.store.lent is

-- A program starts only where none runs

module _ {F P H : Type 0} (d : Device F P H) (path : ℕ) where
  idle_by_running : (r : Option OpenEntry) → d.history.running ≡ r → running_fault d path r ≡ None → d.history.running ≡ None
  idle_by_running (Some o) here is = absurd cc
  idle_by_running None here is = here

  idle_by_loan : (lent : Option ℕ) → fault_by d path lent ≡ None → d.history.running ≡ None
  idle_by_loan (Some of) is = absurd cc
  idle_by_loan None is = idle_by_running d.history.running refl is

  pub starts_where_idle : start_fault d path ≡ None → d.history.running ≡ None
  unfolding S.start_fault
  starts_where_idle is = idle_by_loan d.store.lent is

  started_waits : AreDue d.history → d.history.running ≡ None → AreDue (start d path).history
  unfolding S.start
  started_waits due stands = started_due d.history due stands path (started_count d.history path + 1)

  pub start_due : AreDue d.history → start_fault d path ≡ None → AreDue (start d path).history
  start_due due is = started_waits due (starts_where_idle is)
