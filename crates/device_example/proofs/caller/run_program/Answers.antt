use Rattle.std.proofs.Common.{rules}
use Rattle.device_example.proofs.caller.run_program.Goals as goal

pub loop-event-preserved-then-half_open : goal.loop-event-preserved-then-half_open
loop-event-preserved-then-half_open g c = λ past first s. (c.second.ensures.plain (search rules)).stands past first (c.loop-event.invariant past first s)

pub returns-in_err-command : goal.returns-in_err-command
returns-in_err-command g c = λ past first s. c.command.ensures.plain.stands past first (c.loop-event.invariant past first s)

pub loop-event-preserved : goal.loop-event-preserved
loop-event-preserved g c = λ past first s. c.command.ensures.plain.stands past first (c.loop-event.invariant past first s)
