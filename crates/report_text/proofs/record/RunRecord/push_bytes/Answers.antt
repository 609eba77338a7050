use Rattle.report_text.proofs.KeptLines.{bytes_spent, bytes_lines}
use Rattle.report_text.proofs.record.RunRecord.push_bytes.Goals as goal

pub invariant_of-self-2 : goal.invariant_of-self-2
invariant_of-self-2 c =
    rw (c.push_reserved.ensures.items, c.in_ok-extend_from_slice.ensures.items, c.in_ok-reserve.ensures.items)
    (bytes_spent _ _ _ c.self.invariant c.args.kept c.args.bytes.now c.requires.all_bytes c.requires.no_other)

pub returns-clause-did : goal.returns-clause-did
returns-clause-did c =
    rw (c.push_reserved.ensures.items, c.in_ok-extend_from_slice.ensures.items, c.in_ok-reserve.ensures.items, ← c.self.view_is)
    (bytes_lines _ _ _ c.self.invariant c.args.kept c.args.bytes.now c.requires.all_bytes)
