use Rattle.std.proofs.Common.{refl}
use Rattle.device_core.proofs.device.Device.plans_left.Goals as goal

pub returns : goal.returns
returns g c =
    rw (
      c.in_ok-push_left-4.ensures,
      c.in_ok-push_left-3.ensures,
      c.in_ok-push_left-2.ensures,
      c.in_ok-push_left.ensures,
      c.new-plans.ensures,
      c.path_at-4.ensures,
      c.path_at-3.ensures,
      c.path_at-2.ensures,
      c.path_at.ensures,
    ) refl
