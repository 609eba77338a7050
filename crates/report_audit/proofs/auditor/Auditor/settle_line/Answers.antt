use Rattle.std.proofs.Common.{List, Some, None, refl, subst}
use Rattle.std.proofs.Common.{rules}
use Rattle.std.proofs.lemmas.List.{places, with_items_is}
use Rattle.std.specs.Vec.{with_items}
use Rattle.report_audit.specs.Auditor.{IsJudgedAt}
use Rattle.deck_audit.specs.declared.kept.Kept.{Kept}
use Rattle.deck_audit.specs.declared.task.Task.TheVariants.{Settle}
use Rattle.report_text.specs.declared.line.ReportLine.TheVariants.{Finish}
use Rattle.report_audit.proofs.Auditors.{place_is}
use Rattle.report_audit.proofs.AuditorLines.{goes_with, is_absent}
use Rattle.report_audit.proofs.auditor.Auditor.settle_line.Goals as goal

pub returns-in-None : goal.returns-in-None
returns-in-None c = λ s more f due worker event. is_absent c.args.self.now s c.args.d (Settle c.args.event c.args.did.now) f (more, due, worker, event)
    (place_is _ _ c.args.d None c.deref.ensures.value c.in-None.ensures.place) Finish

pub returns : goal.returns
returns c = λ s more f due worker event. goes_with c.args.self.now s c.args.d (Settle c.args.event c.args.did.now) f (more, due, worker, event) Finish c.in-Some.at
    (place_is _ _ c.args.d (Some c.in-Some.at) c.deref.ensures.value c.in-Some.ensures.place) c.settle_at.new.devices (Some c.in_ok-next.next)
    (subst (λ (l : List Kept). IsJudgedAt c.args.self.now.deck.programs l c.settle_at.new.devices c.in-Some.at c.args.d Finish
    (Settle c.args.event c.args.did.now) (Some c.in_ok-next.next)) c.deref_mut.ensures.value (c.in_ok-next.ensures.judged c.args.self.now.deck.programs c.args.d Finish))
    c.in_ok-next.next refl
    (record c.args.self.now {
      devices = with_items c.args.self.now.devices c.settle_at.new.devices;
      outlines = with_items c.args.self.now.outlines c.settle_at.new.outlines;
    }) _ c.go_on.ensures refl refl (with_items_is c.args.self.now.devices c.settle_at.new.devices (search (rules, places)))
    c.deref_mut-2.result.now c.settle_at.new.outlines c.deref_mut-2.ensures.value c.in_ok-next.ensures.outline
    (with_items_is c.args.self.now.outlines c.settle_at.new.outlines (search (rules, places)))
