-- What the chain of a running program has of its device, and which events run.
use Rattle.std.specs.Prelude.{◌≡◌, ◌≤◌, ℕ, List, [], ◌∷◌, IfSome}
use Rattle.ckd_chain.specs.Facts.{IsChain}
use Rattle.ckd_chain.specs.State.{ChainState}
use Rattle.plain_defs.specs.Whole.{GiveBytes, GivesAll}
use Rattle.device_outside.specs.declared.volume.Volume.{Ghosts}
use Rattle.device_core.specs.declared.device.Device.{Device}
use Rattle.device_core.specs.State.{device_of}
use Rattle.device_laws.specs.Whole.{WholeDevice}
use Rattle.subsystem_defs.specs.declared.event.Event.{Event}
use Rattle.subsystem_defs.specs.declared.event.Event.TheVariants as events
use Rattle.deck_run.specs.Sides.{AreAccounted, all_sides}

-- the chain that runs goes by the geometry of its device, and its words give bytes
pub record IsOwn (d : WholeDevice) : Type 0 where
  pub plans : GiveBytes d.plans
  pub chain : IfSome d.chain (λ (c : ChainState). (c.fixed.geometry ≡ d.store.geometry) × GivesAll c.ccws)

module _ {V : Type 0} {G : Ghosts V} where
  abbrev pub AllOwn : List (Device V G) → Type 0
  AllOwn [] = Unit {0}
  AllOwn (x ∷ xs) = IsOwn (device_of x) × AllOwn xs

  -- and all of their volumes are accounted for
  pub record AreOwn (xs : List (Device V G)) : Type 0 where
    pub each : AllOwn xs
    pub accounted : AreAccounted (all_sides xs)

  -- the chain of each program that runs keeps to what chains keep to
  abbrev pub ChainsStand : List (Device V G) → Type 0
  ChainsStand [] = Unit {0}
  ChainsStand (x ∷ xs) = IfSome (device_of x).chain IsChain × ChainsStand xs

-- the events of this device
abbrev pub IsOpenOn : ℕ → Event → Type 0
IsOpenOn n (events.Start path d) = (d ≡ n) × ((1 ≤ path) × (path ≤ 4))
IsOpenOn n (events.Step d) = d ≡ n
IsOpenOn n (events.Back d) = d ≡ n
IsOpenOn n (events.Reset path d) = d ≡ n
IsOpenOn n (events.FailVolume d side) = d ≡ n
IsOpenOn n (events.Suspend d) = d ≡ n
IsOpenOn n (events.Resume d) = d ≡ n
IsOpenOn n _ = ⊥
