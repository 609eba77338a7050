-- A START that is accepted keeps a device's history plain.
use Rattle.std.proofs.Common.{◌≡◌, ◌≤◌, ℕ, Option, Some, None, Bool, true, false, cond, not, length, refl, sym}
use Rattle.std.specs.List.{list_any}
use Rattle.std.proofs.lemmas.Bool.{and_parts, leb-true}
use Rattle.ckd_types.specs.declared.paths.Owner.{Owner}
use Rattle.plain_defs.specs.History.{OpenEntry, started, IsPlain}
use Rattle.plain_defs.specs.Journal.{planned, program_of}
use Rattle.plain_defs.specs.PlainState.{is_admitted}
use Rattle.plain_defs.proofs.HistoryLaws.{started_plain}
use Rattle.report_text.specs.declared.answers.StartAnswer.TheVariants as start
use Rattle.deck_audit.specs.Device.{AuditedDevice, four_paths, has_left, held_answer, lent_answer, may_start, next_ordinal, own_runs, running_answer, start_answer, state_of}

-- no program runs, and the path's next program is left and may start
pub record Accepts (a : AuditedDevice) (path n : ℕ) : Type 0 where
  pub idle : a.history.running ≡ None
  pub ordinal : next_ordinal a path ≡ n
  pub left : has_left a path ≡ true
  pub may : may_start a path ≡ true

module _ (a : AuditedDevice) (path n : ℕ) where
  held : (owner : Option Owner) → held_answer a owner ≡ start.Accepted n → ⊥
  held None is = cc
  held (Some owner) is = by_any (list_any (may_start a) four_paths) is where
    by_any : (any : Bool) → cond any (start.Reserved owner) (start.Shut owner) ≡ start.Accepted n → ⊥
    by_any true is = cc
    by_any false is = cc

  free : (left may : Bool) → has_left a path ≡ left → may_start a path ≡ may → a.history.running ≡ None
      → cond (not left) start.Done (cond may (start.Accepted (next_ordinal a path)) (held_answer a (state_of a).paths.owner)) ≡ start.Accepted n
      → Accepts a path n
  free true true left may idle is = record { idle = idle; ordinal = cc; left = left; may = may }
  free true false left may idle is = absurd (held (state_of a).paths.owner is)
  free false may none any idle is = absurd (cc)

  not_running : (running : Option OpenEntry) → a.history.running ≡ running → running_answer a path running ≡ start.Accepted n → Accepts a path n
  not_running (Some o) here is = absurd (cc)
  not_running None here is = free (has_left a path) (may_start a path) refl refl here is

  not_lent : (lent : Option ℕ) → lent_answer a path lent ≡ start.Accepted n → Accepts a path n
  not_lent (Some of) is = absurd (cc)
  not_lent None is = not_running a.history.running refl is

  not_own : (own : Bool) → cond own start.Running (lent_answer a path a.lent) ≡ start.Accepted n → Accepts a path n
  not_own true is = absurd (cc)
  not_own false is = not_lent a.lent is

pub accepts : (a : AuditedDevice) (path n : ℕ) → start_answer a path ≡ start.Accepted n → Accepts a path n
accepts a path n is = not_own a path n (own_runs a.history.running path) is

pub start_plain : (a : AuditedDevice) (path n : ℕ) → 1 ≤ path → path ≤ 4 → IsPlain a.plans a.empty a.history
    → start_answer a path ≡ start.Accepted n → IsPlain a.plans a.empty (started a.history path n)
start_plain a path n least most plain is = let next = accepts a path n is in
    started_plain a.plans a.empty a.history plain path n (record {
      least = least;
      most = most;
      in_plan = rw (← next.ordinal) (leb-true (next_ordinal a path) (length (planned a.plans path)) next.left);
      ordinal_is = sym next.ordinal;
      admitted = rw (← next.ordinal) (rw next.idle at
          (and_parts (has_left a path) (is_admitted (state_of a).paths path (program_of a.plans path (next_ordinal a path))) next.may).1);
    })
