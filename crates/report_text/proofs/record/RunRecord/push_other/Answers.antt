use Rattle.report_text.proofs.KeptLines.{other_spent, other_lines}
use Rattle.report_text.proofs.record.RunRecord.push_other.Goals as goal

pub invariant_of-self-2 : goal.invariant_of-self-2
invariant_of-self-2 c =
    rw (c.push_reserved.ensures.items, c.in_ok-push.ensures.items, c.in_ok-reserve.ensures.items) (other_spent _ _ _ c.self.invariant c.args.line)

pub returns-clause-did : goal.returns-clause-did
returns-clause-did c =
    rw (c.push_reserved.ensures.items, c.in_ok-push.ensures.items, c.in_ok-reserve.ensures.items, ← c.self.view_is)
    (other_lines _ _ _ c.self.invariant c.args.line)
