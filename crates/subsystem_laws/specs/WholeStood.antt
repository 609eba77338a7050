-- Devices with what their volumes tell, beside what a run has mounted for them. Of the slots in use each device has its own.
use Rattle.std.specs.Prelude.{◌≡◌, ℕ, ◌==◌, true, false, List, [], ◌∷◌, ◌++◌, Option, Some, None, map, if◌then◌else◌}
use Rattle.ckd_types.specs.declared.geometry.Geometry.{Geometry}
use Rattle.ckd_types.specs.declared.paths.Side.{Side}
use Rattle.ckd_types.specs.declared.paths.Side.TheVariants.{A, B}
use Rattle.ckd_types.specs.declared.record.Track.{Track}
use Rattle.ckd_chain.specs.State.{ChainState}
use Rattle.plain_defs.specs.History.{no_history}
use Rattle.plain_defs.specs.Journal.{Plans}
use Rattle.plain_defs.specs.PlainState.{fresh_paths}
use Rattle.device_outside.specs.Both.{SideTold}
use Rattle.device_outside.specs.Lists.{is_in}
use Rattle.device_outside.specs.Pool.{Pool}
use Rattle.device_outside.specs.Told.{Calls}
use Rattle.device_outside.specs.Volume.{VolumeView}
use Rattle.device_defs.specs.Orders.{restore}
use Rattle.device_laws.specs.Agrees.{Held}
use Rattle.device_laws.specs.Lent.{Stands}
use Rattle.device_laws.specs.NewDevice.{new_contents}
use Rattle.device_laws.specs.Standing.{RunsOn}
use Rattle.device_laws.specs.Whole.{WholeDevice, marks_device}
use Rattle.subsystem_defs.specs.Happening.{is_lent_to}
use Rattle.subsystem_defs.specs.Subsystem.{Mounted}

-- a device, and what the volume of each side tells, where there is one
pub record Stood : Type 0 where
  pub device : WholeDevice
  pub a : Option (VolumeView (List ℕ))
  pub b : Option (VolumeView (List ℕ))

abbrev pub number_at : Stood → ℕ
number_at x = x.device.store.device

abbrev pub devices_at : List Stood → List WholeDevice
devices_at xs = map (λ (x : Stood). x.device) xs

-- the one of this number
abbrev pub stood_in : List Stood → ℕ → Option Stood
stood_in [] n = None
stood_in (x ∷ xs) n = if number_at x == n then Some x else stood_in xs n

-- another one in its place
abbrev pub put_at : List Stood → ℕ → Stood → List Stood
put_at [] n y = []
put_at (x ∷ xs) n y = if number_at x == n then y ∷ xs else x ∷ put_at xs n y

-- this device, with this volume on that side
abbrev pub with_volume : Stood → Side → VolumeView (List ℕ) → WholeDevice → Stood
with_volume x A volume d = record { device = d; a = Some volume; b = x.b }
with_volume x B volume d = record { device = d; a = x.a; b = Some volume }

-- the one that is lent to the device of this number
abbrev pub lent_in : List Stood → ℕ → Option Stood
lent_in [] n = None
lent_in (x ∷ xs) n = if is_lent_to x.device.store.lent n then Some x else lent_in xs n

-- it gets this volume, and is empty
abbrev pub restored_at : List Stood → ℕ → VolumeView (List ℕ) → List Stood
restored_at [] n volume = []
restored_at (x ∷ xs) n volume =
    if is_lent_to x.device.store.lent n then record x { device = restore x.device; a = Some volume } ∷ xs
    else x ∷ restored_at xs n volume

-- The device is in order, or lent, and has these slots, and mounted is what a run knows of it. Each volume that is there tells what it holds, its
-- calls, and which fail
pub data IsMounted (mine : List ℕ) : Stood → Mounted → Type 0 where
  is_mounted : (d : WholeDevice) (plain firm : List Track) (h : Held) (on_a on_b : Option (VolumeView (List ℕ))) (a b : Calls) →
      Stands plain firm d h → h.slots ≡ Some mine → SideTold on_a h.a a → SideTold on_b h.b b →
      IsMounted mine (record { device = d; a = on_a; b = on_b }) (record { device = marks_device plain firm d; a = a; b = b })

-- Each has slots of its own: none is among those that are taken, and all are in use
pub data AreMountedBy (used : List ℕ) : List ℕ → List Stood → List Mounted → Type 0 where
  no_more : {taken : List ℕ} → ((k : ℕ) → is_in k taken ≡ true → is_in k used ≡ true) → AreMountedBy used taken [] []
  one_more : {taken : List ℕ} {x : Stood} {m : Mounted} {xs : List Stood} {ms : List Mounted} (mine : List ℕ) → IsMounted mine x m →
      ((k : ℕ) → is_in k mine ≡ true → is_in k taken ≡ false) → AreMountedBy used (mine ++ taken) xs ms → AreMountedBy used taken (x ∷ xs) (m ∷ ms)

abbrev pub AreMounted : Pool → List Stood → List Mounted → Type 0
AreMounted pool xs ms = AreMountedBy pool.used [] xs ms

-- the chain that runs is one of its device
abbrev pub HasChain : WholeDevice → Type 0
HasChain d = (chain : ChainState) → d.chain ≡ Some chain → RunsOn d.store.cylinders d.store.geometry chain

abbrev pub HaveChains : List Stood → Type 0
HaveChains [] = Unit {0}
HaveChains (x ∷ xs) = HasChain x.device × HaveChains xs

-- a new device on one volume of empty tracks, with an empty place for each track
abbrev pub opened : ℕ → Geometry → ℕ → Plans → WholeDevice
opened d g cylinders plans = record {
  store = new_contents d g cylinders;
  paths = fresh_paths;
  plans = plans;
  history = no_history;
  chain = None;
}
