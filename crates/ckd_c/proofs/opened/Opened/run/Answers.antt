use Rattle.ckd_c.specs.Calls.{no_step, one_more}
use Rattle.ckd_c.proofs.Telling.{stops}
use Rattle.ckd_c.proofs.opened.Opened.run.Goals as goal

pub loop-step-init : goal.loop-step-init
loop-step-init c = record { here = c.in-Ok.ensures.here; steps = no_step }

pub returns-then-eq : goal.returns-then-eq
returns-then-eq c =
    stops c.args.self.now c.ask.new.self c.args.device c.in-Ok.number c.in-Ok.ensures.number
    (one_more c.ask.ensures.asked.answer c.loop-step.invariant.steps c.ask.ensures.asked.came)

pub loop-step-preserved : goal.loop-step-preserved
loop-step-preserved c = record {
  here = rw c.ask.ensures.numbers c.loop-step.invariant.here;
  steps = one_more c.ask.ensures.asked.answer c.loop-step.invariant.steps c.ask.ensures.asked.came;
}
