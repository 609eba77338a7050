use Rattle.std.proofs.Common.{arith, sym}
use Rattle.ckd_outside.proofs.Lines.{flat_step, put_more, put_stopped, puts_stopped}
use Rattle.deck_text.specs.Canonical.{planned_text}
use Rattle.deck_text.specs.Places.{planned_as}
use Rattle.deck_text.proofs.write.write_programs.Goals as goal

pub returns-in_err-write_planned-clause-bytes : goal.returns-in_err-write_planned-clause-bytes
returns-in_err-write_planned-clause-bytes g c =
    puts_stopped _ _ _ _ _ _ _ c.from_residual.ensures.1
    (put_stopped _ _ _ _ _ _ _ _ _ _ c.loop-i.invariant.0
    (flat_step planned_text c.args.deck.now.programs c.loop-i.i
    (planned_as c.program_at-path.result.0 c.program_at-path.result.1 c.program_at-path.result.2.now)
    (omega (arith, c.loop-i-test.true, c.program_count-i-end.ensures.value)) c.program_at-path.ensures) c.in_err-write_planned.ensures.bytes)

pub loop-i-preserved : goal.loop-i-preserved
loop-i-preserved g c = (
  put_more _ _ _ _ _ _ _ _ _ _ c.loop-i.invariant.0
      (flat_step planned_text c.args.deck.now.programs c.loop-i.i
      (planned_as c.program_at-path.result.0 c.program_at-path.result.1 c.program_at-path.result.2.now)
      (omega (arith, c.loop-i-test.true, c.program_count-i-end.ensures.value)) c.program_at-path.ensures)
      c.in_ok-write_planned.ensures.bytes,
  omega (arith, c.loop-i.invariant.1, c.in_ok-write_planned.ensures.cause.later),
)
