-- The lines of a command's end are judged as the history judges them.
use Rattle.std.proofs.Common.{◌≡◌, Option, Some, Bool, true, false, cond, refl}
use Rattle.ckd_types.specs.declared.channel.CommandEnd.{CommandEnd}
use Rattle.plain_defs.specs.History.{OpenEntry}
use Rattle.report_text.specs.declared.line.ReportLine.{ReportLine}
use Rattle.deck_audit.specs.declared.replayed.Running.{Running}
use Rattle.deck_audit.specs.Device.{AuditedDevice}
use Rattle.deck_audit.specs.History.{end_made_by, sense_made}
use Rattle.deck_audit.specs.Judging as judging
use Rattle.deck_audit.specs.Judging.{due_in}
use Rattle.deck_audit.specs.Replayed.{ReplayedState}
use Rattle.deck_audit.specs.State.{AuditState}

due_if : (b : Bool) (x y : Option AuditState) → due_in (cond b x y) ≡ cond b (due_in x) (due_in y)
due_if true x y = refl
due_if false x y = refl

module _ (s : AuditState) (r : ReplayedState) (a : AuditedDevice) (o : OpenEntry) (q : Running) (path_is : q.path ≡ o.path)
    (ordinal_is : q.ordinal ≡ o.ordinal) (number_is : r.number ≡ a.number) (runs : r.running ≡ Some q) (line : ReportLine) (e : CommandEnd) where
  pub end_judged : judging.end_due a.plans r line e ≡ due_in (end_made_by s line a o (Some e))
  end_judged = rw (runs, path_is, ordinal_is, number_is) (simp due_if)

  pub sense_judged : a.history.running ≡ Some o → judging.sense_due a.plans r line e ≡ due_in (sense_made s line e a)
  sense_judged entry = rw (runs, path_is, ordinal_is, entry) (simp due_if)
