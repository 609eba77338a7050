use Rattle.std.proofs.Common.{refl}
use Rattle.ckd_c.proofs.Telling.{left_at}
use Rattle.ckd_c.proofs.opened.Opened.tell_left.Goals as goal

pub returns : goal.returns
returns c = (
  refl,
  left_at c.args.self.now c.args.device c.in_ok-number.number c.args.path c.in-Some.path c.left.result c.device.result.now
      c.in_ok-number.ensures.number c.in-Some.ensures.value c.device.ensures c.left.ensures,
)
