use Rattle.report_text.proofs.KeptLines.{short_spent, short_lines}
use Rattle.report_text.proofs.record.RunRecord.push_short.Goals as goal

pub invariant_of-self-2 : goal.invariant_of-self-2
invariant_of-self-2 c =
    rw c.in_ok-push.ensures.items (short_spent _ _ _ c.self.invariant c.args.kept c.requires.no_bytes c.requires.no_other)

pub returns-clause-did : goal.returns-clause-did
returns-clause-did c =
    rw (c.in_ok-push.ensures.items, ← c.self.view_is) (short_lines _ _ _ c.self.invariant c.args.kept)
