use Rattle.ckd_types.specs.declared.memory.NoMemory.{NoMemory}
use Rattle.deck_audit.specs.declared.task.Task.TheVariants.{Work}
use Rattle.report_audit.proofs.Auditors.{judged_by}
use Rattle.report_audit.proofs.devices.work_at.Goals as goal

pub returns-clause-judged : goal.returns-clause-judged
returns-clause-judged c = judged_by NoMemory c.args.deck.now.programs c.args.devices.now c.args.at c.args.d c.args.line.now Work
    c.in_ok-next.next c.plans-plans.result.now c.work_line.new.self _ c.requires c.plans-plans.ensures c.in_ok-next.ensures.answer
    c.in_ok-next.ensures.kept tt
