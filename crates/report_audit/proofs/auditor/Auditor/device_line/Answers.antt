use Rattle.std.proofs.Common.{List, Some, None, refl, subst}
use Rattle.std.proofs.Common.{rules}
use Rattle.std.proofs.lemmas.List.{places, with_items_is}
use Rattle.std.specs.Vec.{with_items}
use Rattle.report_audit.specs.Auditor.{IsJudgedAt}
use Rattle.deck_audit.specs.declared.kept.Kept.{Kept}
use Rattle.report_audit.proofs.Auditors.{place_is}
use Rattle.report_audit.proofs.AuditorLines.{fails, goes_with, is_absent}
use Rattle.report_audit.proofs.auditor.Auditor.device_line.Goals as goal

pub returns-in-None : goal.returns-in-None
returns-in-None c = λ s f fits. is_absent c.args.self.now s c.args.d c.args.task f fits
    (place_is _ _ c.args.d None c.deref.ensures.value c.in-None.ensures.place) c.args.line.now

pub returns-in-None-2 : goal.returns-in-None-2
returns-in-None-2 c = λ s f fits. fails c.args.self.now s c.args.d c.args.task f fits c.args.line.now c.in-Some.at
    (place_is _ _ c.args.d (Some c.in-Some.at) c.deref.ensures.value c.in-Some.ensures.place) c.judge_at.new.devices c.in_ok-next.field-0
    (subst (λ (l : List Kept). IsJudgedAt c.args.self.now.deck.programs l c.judge_at.new.devices c.in-Some.at c.args.d c.args.line.now
    c.args.task c.in_ok-next.field-0) c.deref_mut.ensures.value c.in_ok-next.ensures.judged) c.in-None-2.is

pub returns-in-Some-2 : goal.returns-in-Some-2
returns-in-Some-2 c = λ s f fits. goes_with c.args.self.now s c.args.d c.args.task f fits c.args.line.now c.in-Some.at
    (place_is _ _ c.args.d (Some c.in-Some.at) c.deref.ensures.value c.in-Some.ensures.place) c.judge_at.new.devices c.in_ok-next.field-0
    (subst (λ (l : List Kept). IsJudgedAt c.args.self.now.deck.programs l c.judge_at.new.devices c.in-Some.at c.args.d c.args.line.now
    c.args.task c.in_ok-next.field-0) c.deref_mut.ensures.value c.in_ok-next.ensures.judged)
    c.in-Some-2.next c.in-Some-2.is
    (record c.args.self.now {
      devices = with_items c.args.self.now.devices c.judge_at.new.devices;
      outlines = with_items c.args.self.now.outlines c.judge_at.new.outlines;
    }) _ c.go_on.ensures refl refl (with_items_is c.args.self.now.devices c.judge_at.new.devices (search (rules, places)))
    c.deref_mut-2.result.now c.judge_at.new.outlines c.deref_mut-2.ensures.value c.in_ok-next.ensures.outline
    (with_items_is c.args.self.now.outlines c.judge_at.new.outlines (search (rules, places)))
