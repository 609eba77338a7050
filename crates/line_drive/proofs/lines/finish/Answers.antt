use Rattle.std.proofs.Common.{◌∙◌, sym, subst}
use Rattle.line_drive.specs.Staging.{Reaches}
use Rattle.line_drive.proofs.Driving.{run_busy, run_idle}
use Rattle.line_drive.proofs.lines.finish.Goals as goal

pub returns-then-is_busy_at-clause-reaches : goal.returns-then-is_busy_at-clause-reaches
returns-then-is_busy_at-clause-reaches g c = λ w stand.
    subst (λ x. Reaches (g.S.Stage.stands c.steps.new.stage) x c.steps.result)
    (sym (run_busy g.S.Stage.course c.args.d w (sym c.if-is_busy_at.true ∙ c.is_busy_at.ensures w stand))) (c.steps.ensures.reaches w stand)

pub returns-clause-reaches : goal.returns-clause-reaches
returns-clause-reaches g c = λ w stand.
    subst (λ x. Reaches (g.S.Stage.stands c.behind.new.self) x c.behind.result)
    (sym (run_idle g.S.Stage.course c.args.d w (sym c.if-is_busy_at.false ∙ c.is_busy_at.ensures w stand))) (c.behind.ensures.reaches w stand)
