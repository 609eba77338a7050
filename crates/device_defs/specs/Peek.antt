-- A look at one track of the plain volume, past the channel.
use Rattle.std.specs.Prelude.{ℕ, ◌==◌, ◌&&◌, not, Bool, true, false, Option, Some, None, is_some, if◌then◌else◌}
use Rattle.ckd_types.specs.declared.parameters.Mode.TheVariants.{InhibitLoad}
use Rattle.ckd_types.specs.declared.paths.Side.{Side}
use Rattle.ckd_types.specs.declared.paths.Side.TheVariants.{A}
use Rattle.track_image.specs.Image.{Image}
use Rattle.device_outside.specs.Interaction.{Interaction, Done, and_then}
use Rattle.device_defs.specs.declared.usage.Usage.{Usage}
use Rattle.device_defs.specs.Contents.{Contents}
use Rattle.device_defs.specs.Device.{Device, with_store, quiet_event}
use Rattle.device_defs.specs.Image.{Imaged, Has, NoBytes, BadTrack, image}
use Rattle.device_defs.specs.Memory.{tried, and_had}
use Rattle.device_defs.specs.Second.{half_image_of}
use Rattle.device_defs.specs.Store.{HalfWrite, Store, has_level, frame_at, is_lost}

-- the track; or it is lost; or this side failed, the first one, and none gave bytes; or this side's bytes are no track
pub data Peeked : Type 0 where
  Track : Image → Peeked
  Lost : Peeked
  Fault : Side → Peeked
  BadBytes : Side → Peeked

-- as a command in normal mode that loads nothing
abbrev pub peek_usage : Usage
peek_usage = record { mode = InhibitLoad; inhibit = true; last = None; provisional = false }

abbrev pub peeked : Imaged → Peeked
peeked (Has i) = Track i
peeked (NoBytes (Some side)) = Fault side
peeked (NoBytes None) = Fault A
peeked (BadTrack side) = BadBytes side

module _ {F P H R : Type 0} (c : Contents F P H R) where
  abbrev pub peek_image : Store F P H → ℕ → Interaction R Image (Store F P H) (Option Peeked)
  peek_image s t = and_had (image c s peek_usage t) (λ z i. Done z (Some (peeked i)))

  -- an open half write of the background has the track where nothing else has it
  abbrev pub is_in_half : Store F P H → ℕ → HalfWrite H → Bool
  is_in_half s t h = (h.track == t) && not (is_some (frame_at s t)) && not (has_level s t)

  abbrev pub peek_half : Store F P H → ℕ → Option (HalfWrite H) → Interaction R Image (Store F P H) (Option Peeked)
  peek_half s t (Some h) = if is_in_half s t h then tried s (Done s (Some (Track (half_image_of c s h)))) else peek_image s t
  peek_half s t None = peek_image s t

  abbrev pub peek_track : Store F P H → ℕ → Interaction R Image (Store F P H) (Option Peeked)
  peek_track s t = if is_lost s t then Done s (Some Lost) else peek_half s t s.half

  -- of a device that isn't lent, and of a track that no command's or cut half write is open on. It takes no notes
  unfoldable pub peek : Device F P H → ℕ → Interaction R Image (Device F P H) (Option Peeked)
  peek d t = quiet_event c d (λ z. and_then (peek_track z.store t) (λ s found. Done (with_store z s) found))
