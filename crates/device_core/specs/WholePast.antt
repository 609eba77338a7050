-- What is so of a device with all of its past.
use Rattle.std.specs.Prelude.{ℕ, List}
use Rattle.device_outside.specs.Outside.{Outside}
use Rattle.device_laws.specs.Whole.{WholeDevice}
use Rattle.past_laws.specs.PutAway.{IsPutAway, PutAway}
use Rattle.past_laws.specs.WithPast.{with_past}

-- this was put away of it, and with that it is so over this outside
pub record SoWithPast {K : Type 0} (So : WholeDevice → Outside (List ℕ) K → Type 0) (past : PutAway) (d : WholeDevice) (u : Outside (List ℕ) K) : Type 0 where
  pub away : IsPutAway past d.plans d.history
  pub is : So (with_past past d) u
