use Rattle.device_core.proofs.Whole.{answers_of}
use Rattle.device_core.proofs.command.answer.Goals as goal

pub returns-in-Ok-clause-answers : goal.returns-in-Ok-clause-answers
returns-in-Ok-clause-answers c =
    answers_of _ _ _ _ c.args.running.now.chain _ c.args.act c.in-Ok.how c.settle.result c.in-Ok.ensures.how c.in-Ok.ensures.after c.settle.ensures.end
    c.settle.ensures.chain
