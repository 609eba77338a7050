use Rattle.std.proofs.Common.{Option, sym, subst, ◌∙◌}
use Rattle.report_audit.proofs.AuditorPlaces.{reset_fits, reset_whole}
use Rattle.report_audit.specs.Auditor.{Makes}
use Rattle.deck_audit.specs.State.{AuditState}
use Rattle.report_audit.proofs.auditor.Auditor.reset_line.Goals as goal

pub returns : goal.returns
returns c = λ s f quiet may.
    let is = sym c.cut_at.ensures ∙ c.in_default.is in
    subst (λ (m : Option AuditState). Makes c.in_ok-good-2.good c.device_line-2.new.self m)
    (sym (reset_whole s c.args.line.now c.args.path c.args.d is))
    (c.in_ok-good-2.ensures s f (quiet, reset_fits s c.args.path c.args.d c.args.line.now is may))
