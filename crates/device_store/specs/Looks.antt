-- How looks at tracks are seen.
use Rattle.std.specs.Prelude.{◌≡◌, ◌&&◌, ℕ, Bool, not, true, false, List, Option, None, Some, is_some, if◌then◌else◌}
use Rattle.ckd_types.specs.Parameters.{is_bypass}
use Rattle.track_image.specs.Image.{Image}
use Rattle.track_cache.specs.declared.frames.Frame.{Frame}
use Rattle.nv_store.specs.declared.patches.Stored.{Stored}
use Rattle.nv_store.specs.Patch.{PatchView, applied}
use Rattle.device_outside.specs.Interaction.{Interaction, Done, Ask}
use Rattle.device_outside.specs.Pool.{Touch}
use Rattle.device_defs.specs.declared.usage.Usage.{Usage}
use Rattle.device_defs.specs.Contents.{contents}
use Rattle.device_defs.specs.Image.{Imaged, Has, NoBytes, BadTrack, miss}
use Rattle.device_defs.specs.Losses.{framed_image}
use Rattle.device_defs.specs.Peek.{Peeked, Track, Lost, Fault, BadBytes}
use Rattle.device_defs.specs.Store.{Store, frame_at, half_is, has_level, with_frame}
use Rattle.device_store.specs.declared.half.HalfWrite.{HalfWrite}
use Rattle.device_store.specs.declared.store.Looked.{Looked}
use Rattle.device_store.specs.declared.store.Looked.TheVariants as looks
use Rattle.device_store.specs.declared.store.Peeked as answers
use Rattle.device_store.specs.declared.store.Peeked.TheVariants as peeks
use Rattle.device_store.specs.Images.{IsImageOf}

abbrev pub StoreOf : Type 0
StoreOf = Store Frame Stored Image

-- the image in a track's frame
abbrev pub frame_in : StoreOf → ℕ → Image
frame_in s t = framed_image contents s t (frame_at s t)

abbrev pub imaged : StoreOf → ℕ → Looked → Imaged
imaged s t looks.Frame = Has (frame_in s t)
imaged s t (looks.Has i) = Has i
imaged s t (looks.NoBytes fault) = NoBytes fault
imaged s t (looks.BadTrack side) = BadTrack side

-- an image that was read is the track's, of a volume that isn't lent
abbrev pub IsRead : StoreOf → ℕ → Image → Type 0
IsRead s t i = (is_some s.lent ≡ false) × IsImageOf s.geometry t i

-- a track whose image is in its frame has one
abbrev pub IsThere : StoreOf → ℕ → Looked → Type 0
IsThere s t looks.Frame = is_some (frame_at s t) ≡ true
IsThere s t (looks.Has i) = IsRead s t i
IsThere s t _ = Unit {0}

-- the image of a track that was looked at: one that was read, or the one in its frame
abbrev pub seen : StoreOf → ℕ → Option Image → Image
seen s t (Some i) = i
seen s t None = frame_in s t

abbrev pub IsSeen : StoreOf → ℕ → Option Image → Type 0
IsSeen s t (Some i) = IsRead s t i
IsSeen s t None = is_some (frame_at s t) ≡ true

abbrev pub peeked_by : StoreOf → ℕ → answers.Peeked → Peeked
peeked_by s t peeks.Frame = Track (frame_in s t)
peeked_by s t (peeks.Track image) = Track image
peeked_by s t peeks.Lost = Lost
peeked_by s t (peeks.Fault side) = Fault side
peeked_by s t (peeks.BadBytes side) = BadBytes side

abbrev pub IsPeeked : StoreOf → ℕ → answers.Peeked → Type 0
IsPeeked s t peeks.Frame = is_some (frame_at s t) ≡ true
IsPeeked s t _ = Unit {0}

-- an image with a patch that is held
abbrev pub applied_by : Option PatchView → Image → Option Image
applied_by None i = Some i
applied_by (Some p) i = applied p i

-- the image of a track that has a clean frame
abbrev pub clean_by : StoreOf → Usage → ℕ → Interaction (List ℕ) Image StoreOf (Option Imaged)
clean_by s u t =
    if is_bypass u.mode then miss contents s u t
    else Ask (Touch s.device t) (λ listed. if listed then Done s (Some (Has (frame_in s t))) else miss contents (with_frame s t None) u t)

-- an open half write alone has the track
abbrev pub in_half : StoreOf → ℕ → Bool
in_half s t = half_is s.half t && not (is_some (frame_at s t)) && not (has_level s t)

-- the image of the open half write was copied
abbrev pub IsHalfCopied : Option HalfWrite → answers.Peeked → Type 0
IsHalfCopied (Some h) (peeks.Track image) = image ≡ h.image
IsHalfCopied _ _ = ⊥
