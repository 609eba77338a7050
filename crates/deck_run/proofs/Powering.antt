-- A loss of power leaves a device no chain, and comes to its journal; it is lent to whom it was.
use Rattle.std.proofs.Common.{◌≡◌, None, refl}
use Rattle.plain_defs.specs.History.{lost_power}
use Rattle.device_core.specs.State.{DefinedDevice}
use Rattle.device_outside.specs.Interaction.{Done, and_then}
use Rattle.device_defs.specs.Contents.{contents}
use Rattle.device_defs.specs.Cutting as cutting
use Rattle.device_defs.specs.Cutting.{counts_one_by, half_cut, power, powered_off}
use Rattle.device_defs.specs.Device.{event_begun}
use Rattle.device_laws.proofs.BasedEvents.{power_based}
use Rattle.device_laws.proofs.Had.{Had, had_done, had_then, had_weaker}
use Rattle.device_laws.proofs.PlainEvents.{had_both}
use Rattle.subsystem_laws.proofs.HadAnswers.{any_had}
use Rattle.deck_run.proofs.Stays.{quiet_had}
use Rattle.deck_run.proofs.Surely.{had_still}

record IsOff (d y : DefinedDevice) : Type 0 where
  plans : y.plans ≡ d.plans
  chain : y.chain ≡ None
  history : y.history ≡ lost_power d.history (counts_one_by d.store.half)

pub record IsPowered (d y : DefinedDevice) : Type 0 where
  pub plans : y.plans ≡ d.plans
  pub chain : y.chain ≡ None
  pub history : y.history ≡ lost_power d.history (counts_one_by d.store.half)
  pub lent : y.store.lent ≡ d.store.lent

off_so : (d : DefinedDevice) → Had (power contents d) (λ y (_ : Unit {0}). IsOff d y)
unfolding cutting.power
off_so d =
    quiet_had contents (λ y (_ : Unit {0}). IsOff d y) (λ y z a e k. record { plans = k.plans; chain = k.chain; history = k.history }) d
    (λ z. and_then (half_cut contents z.store z.store.half) (λ s _. Done (powered_off contents z s) (tt {0})))
    (had_then (any_had (half_cut contents (event_begun d).store (event_begun d).store.half))
    (λ s _ _. had_done (record { plans = refl; chain = refl; history = refl })))

pub power_so : (d : DefinedDevice) → Had (power contents d) (λ y (_ : Unit {0}). IsPowered d y)
power_so d =
    had_weaker (had_both (off_so d) (had_still (power_based contents d)))
    (λ y a k. record { plans = k.0.plans; chain = k.0.chain; history = k.0.history; lent = k.1.2 })
