use Rattle.ckd_c.proofs.Forgetting.{has_forgotten, stands_so}
use Rattle.ckd_c.proofs.opened.Opened.forget.Goals as goal

pub returns-in-Ok : goal.returns-in-Ok
returns-in-Ok c = (
  (c.in-Ok.ensures.pool, has_forgotten _ _ _ c.in_ok-number.ensures.number c.in-Ok.ensures.forgot),
  stands_so _ _ _ c.in_ok-number.ensures.number c.in-Ok.ensures.stands,
)
