-- What a keeper may be told of a subsystem.
use Rattle.std.specs.Prelude.{◌≡◌, ℕ, List, map, All}
use Rattle.ckd_types.specs.declared.geometry.Geometry.{Geometry}
use Rattle.track_image.specs.Image.{Image}
use Rattle.device_outside.specs.declared.keep.NoKeep.{NoKeep}
use Rattle.device_outside.specs.declared.volume.Volume.{Ghosts}
use Rattle.device_outside.specs.Keeper.{Hearing, reply}
use Rattle.device_core.specs.declared.device.Device.{Device}
use Rattle.device_core.specs.State.{device_of, TakesItsTracks}

-- a keeper that keeps nothing, and never lacks memory
abbrev pub hears_none : Hearing Image NoKeep
hears_none = λ _ m r _. r ≡ reply m

-- the number of a device, and how many cylinders of which tracks it has
pub record Span : Type 0 where
  pub number : ℕ
  pub geometry : Geometry
  pub cylinders : ℕ

module _ {V : Type 0} {G : Ghosts V} where
  abbrev pub span_of : Device V G → Span
  span_of d = record { number = (device_of d).store.device; geometry = (device_of d).store.geometry; cylinders = (device_of d).store.cylinders }

  abbrev pub spans_of : List (Device V G) → List Span
  spans_of ds = map span_of ds

  -- a keeper may be told each image of a track of one of these devices that fits there
  abbrev pub TakesAll : {K : Type 0} → (K → ℕ → ℕ → Image → Type 0) → K → List (Device V G) → Type 0
  TakesAll takes keeper ds = All (λ (d : Device V G). TakesItsTracks takes keeper d) ds
