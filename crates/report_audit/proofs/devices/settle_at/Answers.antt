use Rattle.std.proofs.Common.{Some, ap, refl}
use Rattle.ckd_types.specs.declared.memory.NoMemory.{NoMemory}
use Rattle.deck_audit.specs.declared.task.Task.TheVariants.{Settle}
use Rattle.report_audit.proofs.Auditors.{judged_by}
use Rattle.report_audit.proofs.devices.settle_at.Goals as goal

pub returns-clause-judged : goal.returns-clause-judged
returns-clause-judged c = λ programs d line. judged_by NoMemory programs c.args.devices.now c.args.at d line (Settle c.args.event c.args.did.now)
    (Some c.in_ok-next.next) _ c.settle_line.new.self _ c.requires refl (ap Some c.in_ok-next.ensures.answer) c.in_ok-next.ensures.kept tt
