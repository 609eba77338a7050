-- What a line shows of plain devices is what the audit makes of it.
use Rattle.std.proofs.Common.{◌≡◌, ℕ, Option, Some, None, Bool, true, false}
use Rattle.std.proofs.Common.{refl, arith, sym, ap, subst, ◌∙◌, inl, inr}
use Rattle.std.specs.Prelude.{◌⊎◌}
use Rattle.std.proofs.lemmas.Bool.{and_from, le-leb}
use Rattle.ckd_types.specs.declared.channel.CommandEnd.{CommandEnd}
use Rattle.ckd_types.specs.Ccw.{ccw_at}
use Rattle.ckd_rules.specs.Ends.{end_at_word}
use Rattle.plain_defs.specs.Effect.{effect_on}
use Rattle.plain_defs.specs.History.{OpenEntry, started}
use Rattle.plain_defs.specs.Journal.{program_of, replay}
use Rattle.plain_defs.specs.Legal.{MayStart}
use Rattle.plain_defs.specs.PlainState.{is_admitted}
use Rattle.report_text.specs.declared.answers.StartAnswer.{StartAnswer}
use Rattle.report_text.specs.declared.answers.StartAnswer.TheVariants as start
use Rattle.report_text.specs.declared.line.ReportLine.{ReportLine}
use Rattle.report_text.specs.declared.line.ReportLine.TheVariants as lines
use Rattle.deck_audit.specs.declared.state.Did.TheVariants.{Ended, CheckEnded}
use Rattle.deck_audit.specs.declared.state.Due.{Due}
use Rattle.deck_audit.specs.declared.state.Due.TheVariants.{SenseOf}
use Rattle.deck_audit.specs.declared.state.HalfWrite.TheVariants.{Closed}
use Rattle.deck_audit.specs.Same.{says}
use Rattle.deck_audit.specs.Device.{AuditedDevice, device_in}
use Rattle.deck_audit.specs.Device.{may_start, next_ordinal, part_of_open, plain_end, plain_end_at, start_answer}
use Rattle.deck_audit.specs.Device.{state_of, with_device, words_of_open}
use Rattle.deck_audit.specs.History.{after_start, changed, end_made}
use Rattle.deck_audit.specs.History.{start_made}
use Rattle.deck_audit.specs.State.{AuditState, passed, then_of, worker_number}
use Rattle.audit_laws.specs.Shown.{AnswerShows, CanBePlain, CanDo, PlainPast, StartShows}
use Rattle.audit_laws.specs.Shown.{EndIs, looks_checked}
use Rattle.audit_laws.proofs.Devices.{put_found}
use Rattle.audit_laws.proofs.ShownPasts.{checked_so, ended_so}

-- The audit's state beside the one that lines tell

-- a sense is awaited: the audit has the plain device's end, the lines may tell of another
pub record Waits (t u : AuditState) : Type 0 where
  pub own : CommandEnd
  pub told : CommandEnd
  pub due : t.due ≡ SenseOf own
  pub is : u ≡ record t { due = SenseOf told }

abbrev pub Beside : AuditState → AuditState → Type 0
Beside t u = (u ≡ t) ⊎ Waits t u

abbrev pub Follows : Option AuditState → AuditState → Type 0
Follows made u = (t : AuditState) × (made ≡ Some t) × Beside t u

pub follows : (made : Option AuditState) (u : AuditState) → made ≡ Some u → Follows made u
follows made u is = (u, is, inl refl)

-- START

module _ (a : AuditedDevice) (path n : ℕ) (lent : a.lent ≡ None) (stands : a.history.running ≡ None)
    (may : MayStart a.plans (replay a.plans a.empty a.history.items) a.history.items path n) where
  admitted : is_admitted (state_of a).paths path (program_of a.plans path (next_ordinal a path)) ≡ true
  admitted = grind arith

  starts : may_start a path ≡ true
  starts = grind (arith, and_from, le-leb, admitted)

  answer_is : start_answer a path ≡ start.Accepted n
  answer_is = grind (arith, le-leb, starts)

module _ (s u : AuditState) (d : ℕ) (can : CanBePlain u d) (a : AuditedDevice) (found : device_in s.devices d ≡ Some a) where
  module _ (line : ReportLine) (path : ℕ) where
    answered : (answer : StartAnswer) (b : AuditedDevice) → after_start a path answer ≡ b → start_answer a path ≡ answer
        → says (lines.Start path a.number answer) line ≡ true → u ≡ passed (changed s b) → start_made s line path a ≡ Some u
    answered answer b after is told makes = grind arith

    start_by : (answer : StartAnswer) → says (lines.Start path a.number answer) line ≡ true → AnswerShows s a path answer u
        → start_made s line path a ≡ Some u
    start_by (start.Accepted n) told shows =
        let b : AuditedDevice = record a { history = started a.history path n } in
        let plain : PlainPast b = subst (λ (x : AuditState). CanBePlain x d) shows.2 can b (put_found s.devices d a b found refl) in
        answered (start.Accepted n) b refl (answer_is a path n shows.0 shows.1 plain.at.start) told shows.2
    start_by (start.Busy q) told shows = answered (start.Busy q) a refl shows.0 told shows.1
    start_by start.Done told shows = answered start.Done a refl shows.0 told shows.1
    start_by start.Running told shows = answered start.Running a refl shows.0 told shows.1
    start_by (start.Secondary of) told shows = answered (start.Secondary of) a refl shows.0 told shows.1
    start_by (start.Reserved owner) told shows = answered (start.Reserved owner) a refl shows.0 told shows.1
    start_by (start.Shut owner) told shows = answered (start.Shut owner) a refl shows.0 told shows.1

    pub start_shown : StartShows s line path a u → start_made s line path a ≡ Some u
    start_shown shows = start_by shows.0 shows.1 shows.2

  -- END

  module _ (plain : PlainPast a) (works : worker_number s ≡ Some d) (line : ReportLine) (o : OpenEntry) (running : a.history.running ≡ Some o)
      (e : CommandEnd) where
    abbrev b : AuditedDevice
    b = record a { half = Closed }

    abbrev at : Due → AuditState
    at due = record (changed s b) { due = due }

    found_then : device_in (with_device s.devices b) d ≡ Some b
    found_then = put_found s.devices d a b found refl

    -- the device at work is that one then
    worker_is : then_of (worker_number s) (device_in (with_device s.devices b)) ≡ Some b
    worker_is = ap (λ (n : Option ℕ). then_of n (device_in (with_device s.devices b))) works ∙ found_then

    made_checked : (p : CommandEnd) → plain_end a o ≡ Some p → p.index ≡ e.index → looks_checked a o line e ≡ true
        → end_made s line a a.history.running ≡ Some (at (SenseOf p))
    made_checked p is index looks = grind arith

    plain_so : CanDo (Ended e) b → plain_end a o ≡ Some e
    plain_so done = ended_so a plain o running done.0 done.1 e done.2

    checked_made : u ≡ at (SenseOf e) → looks_checked a o line e ≡ true → CanDo (CheckEnded e) b
        → Follows (end_made s line a a.history.running) u
    checked_made is looks done =
        let c = checked_so a plain o running done.0 e done.2 in
        let p = end_at_word e.index (ccw_at (words_of_open a o) e.index) (effect_on (part_of_open a o).fixed (part_of_open a o).state o.path
        (part_of_open a o).stance (ccw_at (words_of_open a o) e.index)).outcome in
        let own : plain_end a o ≡ Some p = ap (λ (n : Option ℕ). plain_end_at o.path (words_of_open a o) (part_of_open a o) n) c.0 in
        (at (SenseOf p), made_checked p own refl looks, inr (record { own = p; told = e; due = refl; is = is }))

    end_by : (looks : Bool) → looks_checked a o line e ≡ looks → EndIs (changed s b) line a o e looks u
        → Follows (end_made s line a a.history.running) u
    end_by true looks is = elim (subst (λ (x : AuditState). CanBePlain x d) is can b found_then worker_is) [
      | inl done ↦ follows _ u (made_checked e (plain_so done) refl looks ∙ ap (λ (x : AuditState). Some x) (sym is))
      | inr done ↦ checked_made is looks done
    ]
    end_by false looks is = grind (arith, follows, plain_so, found_then, worker_is)

    pub end_shown : EndIs (changed s b) line a o e (looks_checked a o line e) u → Follows (end_made s line a a.history.running) u
    end_shown is = end_by (looks_checked a o line e) refl is
