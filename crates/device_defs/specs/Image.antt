-- The image of a track that a command looks at: its frame's, or that of the bytes of a level side, with the patch.
use Rattle.std.specs.Prelude.{ℕ, ◌+◌, Bool, true, false, [], ◌∷◌, ◌++◌, Option, Some, None, is_some, not, if◌then◌else◌, nat_lt, nat_le, length}
use Rattle.ckd_types.specs.declared.parameters.Mode.{Mode}
use Rattle.ckd_types.specs.declared.parameters.Mode.TheVariants.{Normal, Bypass, InhibitLoad, Sequential}
use Rattle.ckd_types.specs.declared.paths.Side.{Side}
use Rattle.ckd_types.specs.declared.paths.Side.TheVariants.{A, B}
use Rattle.ckd_types.specs.Parameters.{is_bypass}
use Rattle.track_image.specs.Image.{Image}
use Rattle.device_outside.specs.Pool.{Touch, WantFrame, SetModified}
use Rattle.device_outside.specs.Volume.{counted, counted_if}
use Rattle.device_outside.specs.Interaction.{Interaction, Done, Ask, Read, and_then}
use Rattle.device_defs.specs.declared.usage.Usage.{Usage}
use Rattle.device_defs.specs.Contents.{Contents}
use Rattle.device_defs.specs.Losses.{call_failed}
use Rattle.device_defs.specs.Memory.{tried}
use Rattle.device_defs.specs.Store.{Store, level_at, frame_at, patch_at, with_frame, plain_at}

-- these two load what was missed; the last queues the tracks behind it
abbrev pub loads : Mode → Bool
loads Normal = true
loads Sequential = true
loads Bypass = false
loads InhibitLoad = false

abbrev pub is_sequential : Mode → Bool
is_sequential Sequential = true
is_sequential _ = false

-- what the level sides gave, the side that was read last, and the first that failed
pub record Got (R : Type 0) : Type 0 where
  pub bytes : Option R
  pub side : Side
  pub fault : Option Side

abbrev pub got : {R : Type 0} → Side → Option R → Option Side → Got R
got side bytes fault = record { bytes = bytes; side = side; fault = fault }

-- no level side gave bytes, and the first that failed; or this side gave bytes that are no track
pub data Imaged : Type 0 where
  Has : Image → Imaged
  NoBytes : Option Side → Imaged
  BadTrack : Side → Imaged

-- the first of two that failed
abbrev pub first_faulty_side : Option Side → Side → Side
first_faulty_side (Some side) later = side
first_faulty_side None later = later

module _ {F P H : Type 0} where
  abbrev pub read_counted : Store F P H → Bool → Store F P H
  read_counted s ok = record s { counts = record s.counts { reads = counted s.counts.reads; failed = counted_if (not ok) s.counts.failed } }

  -- a track is queued where it is in the extent and the queue has room
  abbrev pub queued : Option ℕ → Store F P H → ℕ → Store F P H
  queued None s t = s
  queued (Some last) s t =
      if nat_le t last then (if nat_lt (length s.queue) 64 then record s { queue = s.queue ++ t ∷ [] } else s) else s

  -- in sequential mode the two tracks behind one that was missed are to be staged
  abbrev pub ahead : Usage → Store F P H → ℕ → Store F P H
  ahead u s t = if is_sequential u.mode then queued u.last (queued u.last s (t + 1)) (t + 2) else s

module _ {F P H R : Type 0} (c : Contents F P H R) where
  -- Reads of the volumes

  abbrev pub read_side : {A : Type 0} → Store F P H → Side → ℕ → (Store F P H → Option R → Interaction R Image (Store F P H) A) →
      Interaction R Image (Store F P H) A
  read_side s side t k = Read side t (λ bytes. k (read_counted s (is_some bytes)) bytes)

  abbrev pub second_read : Option Side → Store F P H → Option R → Interaction R Image (Store F P H) (Got R)
  second_read fault s (Some r) = Done s (got B (Some r) fault)
  second_read fault s None = and_then (call_failed c s B None) (λ z _. Done z (got B None (Some (first_faulty_side fault B))))

  abbrev pub read_b : Store F P H → ℕ → Option Side → Interaction R Image (Store F P H) (Got R)
  read_b s t fault = if level_at s.b t then read_side s B t (second_read fault) else Done s (got B None fault)

  abbrev pub first_read : ℕ → Store F P H → Option R → Interaction R Image (Store F P H) (Got R)
  first_read t s (Some r) = Done s (got A (Some r) None)
  first_read t s None = and_then (call_failed c s A None) (λ z _. read_b z t (Some A))

  -- side A where the track is level there, else side B, also after A failed
  unfoldable pub level_bytes : Store F P H → ℕ → Interaction R Image (Store F P H) (Got R)
  level_bytes s t = if level_at s.a t then read_side s A t (first_read t) else read_b s t None

  abbrev pub image_of : Store F P H → ℕ → R → Option Image
  image_of s t r = c.read s.geometry t (patch_at s t) r (plain_at s t)

  -- Loading

  abbrev pub framed : Store F P H → ℕ → Image → Bool → Store F P H
  framed s t i modified = with_frame s t (Some (c.frame i modified))

  -- the image becomes a frame, which is modified where a patch is held
  abbrev pub filled : Store F P H → ℕ → Image → Interaction R Image (Store F P H) (Unit {0})
  filled s t i =
      if is_some (patch_at s t) then Ask (SetModified s.device t) (λ _. Done (framed s t i true) tt)
      else Done (framed s t i false) tt

  abbrev pub granted : Store F P H → ℕ → Image → Bool → Interaction R Image (Store F P H) (Option Imaged)
  granted s t i given = if given then and_then (filled s t i) (λ z _. Done z (Some (Has i))) else Done s (Some (Has i))

  abbrev pub loaded : Store F P H → ℕ → Image → Mode → Interaction R Image (Store F P H) (Option Imaged)
  loaded s t i mode =
      if loads mode then tried s (Ask (WantFrame s.device t) (granted s t i))
      else Done s (Some (Has i))

  -- Misses and hits

  abbrev pub delivered : Usage → ℕ → Side → Store F P H → Option Image → Interaction R Image (Store F P H) (Option Imaged)
  delivered u t side s None = Done s (Some (BadTrack side))
  delivered u t side s (Some i) = loaded (ahead u s t) t i u.mode

  abbrev pub missed : Usage → ℕ → Store F P H → Got R → Option R → Interaction R Image (Store F P H) (Option Imaged)
  missed u t s g None = Done s (Some (NoBytes g.fault))
  missed u t s g (Some r) = tried s (delivered u t g.side s (image_of s t r))

  abbrev pub miss : Store F P H → Usage → ℕ → Interaction R Image (Store F P H) (Option Imaged)
  miss s u t = and_then (level_bytes s t) (λ z g. missed u t z g g.bytes)

  abbrev pub hit : Store F P H → ℕ → F → Interaction R Image (Store F P H) (Option Imaged)
  hit s t f = Done s (Some (Has (c.image f (plain_at s t))))

  -- a clean frame counts where the mode isn't bypass and the pool still lists it
  abbrev pub clean_image : Store F P H → Usage → ℕ → F → Interaction R Image (Store F P H) (Option Imaged)
  clean_image s u t f =
      if is_bypass u.mode then miss s u t
      else Ask (Touch s.device t) (λ listed. if listed then hit s t f else miss (with_frame s t None) u t)

  abbrev pub image_by : Store F P H → Usage → ℕ → Option F → Interaction R Image (Store F P H) (Option Imaged)
  image_by s u t None = miss s u t
  image_by s u t (Some f) = if c.modified f then hit s t f else clean_image s u t f

  unfoldable pub image : Store F P H → Usage → ℕ → Interaction R Image (Store F P H) (Option Imaged)
  image s u t = image_by s u t (frame_at s t)
