use Rattle.std.proofs.Common.{◌<◌, List, Some, None, false, length, sym, ap, subst, ◌∙◌}
use Rattle.std.proofs.lemmas.Option.{slice_get-get_or}
use Rattle.deck_audit.specs.declared.kept.Kept.{Kept}
use Rattle.report_audit.proofs.Auditors.{place_is}
use Rattle.report_audit.proofs.AuditorBehind.{legal_at, legal_none}
use Rattle.report_audit.proofs.auditor.Auditor.is_legal.Goals as goal

pub returns-in-Some : goal.returns-in-Some
returns-in-Some c = λ s more f due_is worker_is a device_is. c.is_legal.ensures
    ∙ legal_at c.args.self.now s f c.args.d more c.args.did.now due_is worker_is a device_is c.in-Some.at
    (place_is _ _ c.args.d (Some c.in-Some.at) c.deref.ensures.value c.in-Some.ensures.place) c.index.result.now
    (slice_get-get_or c.args.self.now.devices.items c.in-Some.at c.index.result.now
    (subst (λ (l : List Kept). c.in-Some.at < length l) c.deref.ensures.value c.in-Some.ensures.within)
    ∙ ap (λ (k : Kept). Some k) (sym c.index.ensures))

pub returns-in-None : goal.returns-in-None
returns-in-None c = λ s more f due_is worker_is a device_is.
    legal_none c.args.self.now s f c.args.d more c.args.did.now due_is worker_is a device_is
    (place_is _ _ c.args.d None c.deref.ensures.value c.in-None.ensures.place) false
