-- When a device is sound beside the plain device of its history, which began with the tracks that its volume held.
use Rattle.std.specs.Prelude.{◌≡◌, ◌<◌, ℕ, Bool, true, false, List, is_some}
use Rattle.ckd_types.specs.declared.record.Track.{Track}
use Rattle.ckd_types.specs.Volume.{track_in}
use Rattle.track_image.specs.Image.{Image}
use Rattle.plain_defs.specs.History.{plain_of}
use Rattle.plain_defs.specs.Loose.{is_loose_there as is_plainly_loose, firm}
use Rattle.plain_defs.specs.PlainState.{PlainState}
use Rattle.device_defs.specs.Contents.{contents}
use Rattle.device_defs.specs.Sound.{IsHeld, has_sound_marks}
use Rattle.device_defs.specs.Store.{is_loose, tracks_of}
use Rattle.device_laws.specs.Agrees.{Held}
use Rattle.device_laws.specs.NewDevice.{first_state}
use Rattle.device_laws.specs.Whole.{WholeDevice}

-- the plain device that it began as, on a volume that held these tracks first, where it has so many cylinders
abbrev pub begun_as : (ℕ → List Track) → WholeDevice → PlainState
begun_as first d = first_state d.store.geometry d.store.cylinders (first d.store.cylinders)

abbrev pub plain_on : (ℕ → List Track) → WholeDevice → PlainState
plain_on first d = plain_of d.plans (begun_as first d) d.history

abbrev pub image_on : (ℕ → List Track) → WholeDevice → ℕ → Image
image_on first d t = record { geometry = d.store.geometry; track = track_in (plain_on first d).volume t }

abbrev pub firm_on : (ℕ → List Track) → WholeDevice → ℕ → Image
firm_on first d t = record { geometry = d.store.geometry; track = firm (plain_on first d) t }

-- of a track, as `Sound.IsSoundAt` of device_defs says it of empty volumes
pub record IsSoundAtOn (first : ℕ → List Track) (d : WholeDevice) (h : Held) (t : ℕ) : Type 0 where
  pub marks : has_sound_marks contents d.store t ≡ true
  pub loose : is_loose d.store t ≡ is_plainly_loose (plain_on first d) t
  pub held : IsHeld d.store h t (image_on first d t) (firm_on first d t)

-- a device that is lent keeps nothing of its tracks
abbrev pub IsSoundOn : (ℕ → List Track) → WholeDevice → Held → Type 0
IsSoundOn first d h = elim (is_some d.store.lent) [ true ↦ Unit {0} | false ↦ (t : ℕ) → t < tracks_of d.store → IsSoundAtOn first d h t ]
