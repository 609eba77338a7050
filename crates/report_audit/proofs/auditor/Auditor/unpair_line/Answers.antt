use Rattle.std.proofs.Common.{List, refl, sym, ap, subst, true, map, ◌∙◌}
use Rattle.std.proofs.Common.{rules}
use Rattle.std.proofs.lemmas.List.{places, with_items_is}
use Rattle.std.specs.Vec.{with_items}
use Rattle.deck_plan.specs.declared.event.EventLine.TheVariants.{Unpair}
use Rattle.report_audit.specs.Auditor.{Makes, kept_outline, taken_back}
use Rattle.report_audit.specs.declared.auditor.Auditor.{Auditor}
use Rattle.deck_audit.specs.declared.kept.Kept.{Kept}
use Rattle.deck_audit.specs.History.{done_order}
use Rattle.report_audit.proofs.AuditorTasks.{unpair_none, unpair_some}
use Rattle.report_audit.proofs.auditor.Auditor.unpair_line.Goals as goal

pub returns-then-any_lent_runs : goal.returns-then-any_lent_runs
returns-then-any_lent_runs c = λ s f quiet. unpair_none c.args.self.now s f quiet c.args.a c.deref.result.now c.deref.ensures.value
    c.any_lent_runs.result c.any_lent_runs.ensures c.if-any_lent_runs.true

pub returns : goal.returns
returns c = λ s f quiet. subst (λ (y : Auditor). Makes true y (done_order s (Unpair c.args.a))) (sym c.go_on.ensures)
    (unpair_some c.args.self.now s f quiet c.args.a c.deref.result.now c.deref.ensures.value
    c.any_lent_runs.result c.any_lent_runs.ensures c.if-any_lent_runs.false
    (record c.args.self.now {
      devices = with_items c.args.self.now.devices c.take_all_back.new.devices;
      outlines = c.outline_all.new.outlines;
    }) refl refl
    (with_items_is c.args.self.now.devices c.take_all_back.new.devices (search (rules, places))
    ∙ c.in_ok-take_all_back.ensures ∙ ap (λ (l : List Kept). map (taken_back c.args.a) l) c.deref_mut.ensures.value)
    (c.in_ok-outline_all.ensures ∙ ap (λ (l : List Kept). map kept_outline l) c.deref-2.ensures.value))
