-- From what planning and forgetting do to a device to what they do to a subsystem.
use Rattle.std.proofs.Common.{◌≡◌, ℕ, List, ap}
use Rattle.std.specs.Prelude.{Result, Ok, Err, OnErr, OnOk, is_some}
use Rattle.ckd_types.specs.declared.channel.Ccw.{Ccw}
use Rattle.device_outside.specs.declared.volume.Volume.{Ghosts}
use Rattle.device_core.specs.declared.device.Device.{Device}
use Rattle.device_core.specs.declared.forget.NotForgotten.{NotForgotten}
use Rattle.device_core.specs.declared.plan.NotPlanned.{NotPlanned}
use Rattle.device_core.specs.Forgetting.{refused_told}
use Rattle.device_core.specs.Planning.{full_told, is_full}
use Rattle.device_core.specs.Promises.{ForgetsNothing, StaysExcused, StaysLent, StaysPlain, StaysSound}
use Rattle.device_core.specs.State.{device_of}
use Rattle.past_laws.specs.Forgotten.{forgotten}
use Rattle.subsystem_laws.specs.Planning.{with_planned}
use Rattle.subsystem_core.specs.Planned.{ForgotBy, PlannedBy}

module _ {V : Type 0} {G : Ghosts V} where
  pub planned_by : (path : ℕ) (program : List Ccw) (r : Result (Unit {0}) NotPlanned) (x y : Device V G) → is_full (device_of x) path ≡ full_told r →
      OnOk r (device_of y ≡ with_planned (device_of x) path program) → OnErr r (device_of y ≡ device_of x) → y.store ≡ x.store → StaysSound x y →
      StaysPlain x y → StaysExcused x y → StaysLent x y → PlannedBy path program r x y
  planned_by path program (Ok u) x y full device same store sound plain excused lent =
      record {
        full = full;
        planned =
            record { device = device; volumes = ap (λ s. s.pair.volumes) store; sound = sound; plain = plain; excused = excused; lent = lent };
        same = tt;
      }
  planned_by path program (Err e) x y full device same store sound plain excused lent =
      record { full = full; planned = tt; same = (same, ap (λ s. s.pair.volumes) store) }

  pub forgot_by : (r : Result (Unit {0}) NotForgotten) (x y : Device V G) → is_some (device_of x).history.running ≡ refused_told r →
      OnOk r (device_of y ≡ forgotten (device_of x)) → OnErr r (device_of y ≡ device_of x) → y.store ≡ x.store → OnOk r (ForgetsNothing x y) →
      ForgotBy r x y
  forgot_by (Ok u) x y refused device same store forgets =
      record {
        refused = refused;
        forgot = record { device = device; volumes = ap (λ s. s.pair.volumes) store; forgets = forgets };
        same = tt;
      }
  forgot_by (Err e) x y refused device same store forgets =
      record { refused = refused; forgot = tt; same = (same, ap (λ s. s.pair.volumes) store) }
