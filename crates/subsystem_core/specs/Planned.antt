-- What planning a program, or forgetting, makes of a device.
use Rattle.std.specs.Prelude.{◌≡◌, ℕ, List, OnErr, OnOk, Result, is_some}
use Rattle.ckd_types.specs.declared.channel.Ccw.{Ccw}
use Rattle.device_outside.specs.declared.volume.Volume.{Ghosts}
use Rattle.device_core.specs.declared.device.Device.{Device}
use Rattle.device_core.specs.declared.forget.NotForgotten.{NotForgotten}
use Rattle.device_core.specs.declared.plan.NotPlanned.{NotPlanned}
use Rattle.device_core.specs.Forgetting.{refused_told}
use Rattle.device_core.specs.Planning.{full_told, is_full}
use Rattle.device_core.specs.Promises.{ForgetsNothing, StaysExcused, StaysLent, StaysPlain, StaysSound}
use Rattle.device_core.specs.State.{device_of, own_volumes}
use Rattle.past_laws.specs.Forgotten.{forgotten}
use Rattle.subsystem_laws.specs.Planning.{with_planned}
use Rattle.subsystem_core.specs.Comes.{IsStill}

module _ {V : Type 0} {G : Ghosts V} where
  -- the path has a program more, behind those that it has; all that was promised of the device holds on
  pub record IsPlanned (path : ℕ) (program : List Ccw) (before behind : Device V G) : Type 0 where
    pub device : device_of behind ≡ with_planned (device_of before) path program
    pub volumes : own_volumes behind ≡ own_volumes before
    pub sound : StaysSound before behind
    pub plain : StaysPlain before behind
    pub excused : StaysExcused before behind
    pub lent : StaysLent before behind

  -- so, or the answer tells that the path was full or that memory was lacking, and the device is what it was
  pub record PlannedBy (path : ℕ) (program : List Ccw) (answer : Result (Unit {0}) NotPlanned) (before behind : Device V G) : Type 0 where
    pub full : is_full (device_of before) path ≡ full_told answer
    pub planned : OnOk answer (IsPlanned path program before behind)
    pub same : OnErr answer (IsStill before behind)

  -- it is without its past, and with what was put away the device that it was
  pub record HasForgotten (before behind : Device V G) : Type 0 where
    pub device : device_of behind ≡ forgotten (device_of before)
    pub volumes : own_volumes behind ≡ own_volumes before
    pub forgets : ForgetsNothing before behind

  -- so, or the answer tells that a program runs or that memory was lacking, and the device is what it was
  pub record ForgotBy (answer : Result (Unit {0}) NotForgotten) (before behind : Device V G) : Type 0 where
    pub refused : is_some (device_of before).history.running ≡ refused_told answer
    pub forgot : OnOk answer (HasForgotten before behind)
    pub same : OnErr answer (IsStill before behind)
