use Rattle.std.proofs.Common.{rules, sym, subst, true}
use Rattle.deck_plan.specs.declared.event.EventLine.TheVariants.{Pair}
use Rattle.report_audit.specs.Auditor.{Makes}
use Rattle.report_audit.specs.declared.auditor.Auditor.{Auditor}
use Rattle.deck_audit.specs.History.{done_order}
use Rattle.report_audit.proofs.AuditorTasks.{pair_same}
use Rattle.report_audit.proofs.auditor.Auditor.pair_line.Goals as goal

pub returns-then-get : goal.returns-then-get
returns-then-get c = λ s f quiet. subst (λ (y : Auditor). Makes true y (done_order s (Pair c.args.a c.args.b))) (sym c.go_on.ensures)
    (pair_same c.args.self.now s f quiet c.args.a c.args.b (search rules))
