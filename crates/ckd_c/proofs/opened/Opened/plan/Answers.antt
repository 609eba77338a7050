use Rattle.ckd_c.proofs.Forgetting.{is_planned}
use Rattle.ckd_c.proofs.opened.Opened.plan.Goals as goal

pub returns-in-Ok : goal.returns-in-Ok
returns-in-Ok c = (
  (c.in-Ok.ensures.pool, is_planned _ _ _ _ _ _ _ c.in_ok-number.ensures.number c.in-Some.ensures.value c.in_ok-program.ensures.made c.in-Ok.ensures.planned),
  c.in-Ok.ensures.plain,
)
