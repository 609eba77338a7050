use Rattle.std.proofs.Common.{◌+◌, arith}
use Rattle.std.proofs.lemmas.Bool.Decides.{Decides-eqb, when_true}
use Rattle.ckd_outside.proofs.Calls.{to_come_kept, to_come_lowered}
use Rattle.ckd_outside.proofs.memory.is_next_listed.Goals as goal

pub returns-clause-kept : goal.returns-clause-kept
returns-clause-kept c = to_come_kept c.args.calls.now (c.args.calls.now + 1) c.args.numbers.now (omega arith)

pub returns-clause-lowered : goal.returns-clause-lowered
returns-clause-lowered c = λ listed.
    let h = when_true _ _ listed c.contains.ensures.cases in
    to_come_lowered c.args.calls.now (c.args.calls.now + 1) c.args.numbers.now h.0 (omega arith) h.1 ((Decides-eqb _ _).0 (h.2 (c.args.calls.now + 1)))
