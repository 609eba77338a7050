-- A START is judged by a device that is kept as by the history.
use Rattle.std.proofs.Common.{◌≡◌, ◌≤◌, ℕ, Some, refl}
use Rattle.plain_defs.specs.History.{started}
use Rattle.report_text.specs.declared.answers.StartAnswer.{StartAnswer}
use Rattle.report_text.specs.declared.answers.StartAnswer.TheVariants as start
use Rattle.report_text.specs.declared.line.ReportLine.{ReportLine}
use Rattle.report_text.specs.declared.line.ReportLine.TheVariants as lines
use Rattle.deck_audit.specs.declared.kept.Kept.{Kept}
use Rattle.deck_audit.specs.declared.kept.Then.TheVariants.{Passed}
use Rattle.deck_audit.specs.Device.{AuditedDevice, start_answer}
use Rattle.deck_audit.specs.History.{after_start, changed, start_made}
use Rattle.deck_audit.specs.Keeping.{Goes, IsKept, IsQuiet, Judges}
use Rattle.deck_audit.specs.Kept.{begun, is_accepted, start_kept, start_then}
use Rattle.deck_audit.specs.Replay as replay
use Rattle.deck_audit.specs.Same.{says}
use Rattle.deck_audit.specs.State.{AuditState, passed}
use Rattle.deck_audit.proofs.Judges.{judges_if}
use Rattle.deck_audit.proofs.KeptPaths.{counts_kept}
use Rattle.deck_audit.proofs.ReplayedStarts.{answer_follows, left_is}
use Rattle.deck_audit.proofs.StartLaw.{accepts}
use Rattle.deck_audit.proofs.StartedPaths.{started_follows, started_keeps}

module _ (s : AuditState) (k : Kept) (a : AuditedDevice) (path : ℕ) (line : ReportLine) (i : IsKept k a) (quiet : IsQuiet k)
    (least : 1 ≤ path) (most : path ≤ 4) where
  same_answer : replay.start_answer a.plans k.device path ≡ start_answer a path
  same_answer = answer_follows k.device a i.follows (counts_kept k.device a i.keeps) path least most

  same : Goes s a (Some (passed (changed s a))) Passed k
  same = record { after = a; made_is = refl; kept = i; due = quiet; number_is = refl; plans_are = refl }

  accepted : (n : ℕ) → start_answer a path ≡ start.Accepted n → Goes s a
      (Some (passed (changed s (record a { history = started a.history path n })))) Passed
      (record { device = replay.started_next a.plans k.device path; ended = 0 })
  accepted n is = record {
    after = record a { history = started a.history path n };
    made_is = refl;
    kept = record {
      follows = started_follows k.device a i.follows i.keeps quiet path n least most is;
      keeps = started_keeps k.device a i.follows i.keeps quiet path n least most is;
      counts = (least, most, refl);
    };
    due = quiet;
    number_is = refl;
    plans_are = refl;
  }

  goes : (answer : StartAnswer) → start_answer a path ≡ answer
      → Goes s a (Some (passed (changed s (after_start a path answer)))) Passed (begun a.plans k path (is_accepted answer))
  goes (start.Accepted n) is = rw (
    left_is k.device a i.follows (counts_kept k.device a i.keeps) (accepts a path n is).idle path least most,
    (accepts a path n is).left,
  ) (accepted n is)
  goes answer is = same

  pub start_judged : Judges s a (start_made s line path a) (start_then a.plans k path line) (start_kept a.plans k path)
  start_judged =
      judges_if s a (passed (changed s (after_start a path (start_answer a path)))) Passed (start_kept a.plans k path)
      (says (lines.Start path a.number (start_answer a path)) line)
      (says (lines.Start path k.device.number (replay.start_answer a.plans k.device path)) line)
      (rw (i.follows.number_is, same_answer))
      (λ shows. rw same_answer (goes (start_answer a path) refl))
