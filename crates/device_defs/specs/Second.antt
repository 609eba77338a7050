-- The second part of a write in two parts, by whose write it is.
use Rattle.std.specs.Prelude.{ℕ, Bool, true, false, Option, Some, None, if◌then◌else◌}
use Rattle.track_image.specs.Image.{Image, edited_image}
use Rattle.device_outside.specs.Interaction.{Interaction, Done, and_then}
use Rattle.device_defs.specs.Contents.{Contents}
use Rattle.device_defs.specs.Losses.{settled, without_patch}
use Rattle.device_defs.specs.Store.{
  Origin,
  OfCommand,
  OfCut,
  OfBackground,
  HalfWrite,
  Store,
  has_level,
  frame_at,
  plain_at,
  with_frame,
}
use Rattle.device_defs.specs.Editing.{effect}
use Rattle.device_defs.specs.Writing.{write_second, write_done}

module _ {F P H : Type 0} where
  -- what a half write writes, on the plain volume: a command's edit has no effect there yet
  abbrev pub plainly_written : Store F P H → ℕ → Origin → Image
  plainly_written s t (OfCommand bypass e) = edited_image e (plain_at s t)
  plainly_written s t (OfCut bypass) = plain_at s t
  plainly_written s t OfBackground = plain_at s t

  abbrev pub half_closed : Store F P H → Store F P H
  half_closed s = record s { half = None }

module _ {F P H R : Type 0} (c : Contents F P H R) where
  abbrev pub half_image_of : Store F P H → HalfWrite H → Image
  half_image_of s h = c.half_image h.image (plainly_written s h.track h.origin)

  -- Some side has the track: the write is done

  abbrev pub finished : Store F P H → ℕ → Image → Bool → Interaction R Image (Store F P H) Bool
  finished s t i bypass = and_then (write_done c s t i bypass) (λ z _. Done z true)

  -- a command's edit takes effect
  abbrev pub second_done : Store F P H → ℕ → Image → Origin → Interaction R Image (Store F P H) Bool
  second_done s t i (OfCommand bypass e) = effect c s t i e (λ z. finished z t i bypass)
  second_done s t i (OfCut bypass) = finished s t i bypass
  second_done s t i OfBackground = finished s t i false

  -- No side has it: the write isn't done

  -- a frame has the new track, as the plain volume has since the command was cut, and the patch is of the old one
  abbrev pub cut_kept : Store F P H → ℕ → Image → Option F → Store F P H
  cut_kept s t i None = s
  cut_kept s t i (Some f) = without_patch c (with_frame s t (Some (c.frame i (c.modified f)))) t

  abbrev pub left_by : Store F P H → ℕ → Image → Origin → Store F P H
  left_by s t i (OfCommand bypass e) = s
  left_by s t i (OfCut bypass) = cut_kept s t i (frame_at s t)
  left_by s t i OfBackground = s

  abbrev pub second_absent : Store F P H → ℕ → Image → Origin → Interaction R Image (Store F P H) Bool
  second_absent s t i origin = Done (settled c (left_by s t i origin) t) false

  abbrev pub second_by : ℕ → Image → Origin → Store F P H → Interaction R Image (Store F P H) Bool
  second_by t i origin s = if has_level s t then second_done (half_closed s) t i origin else second_absent (half_closed s) t i origin

  -- side B is tried where it is up and not held. Whether the write is done then
  unfoldable pub second_part : Store F P H → HalfWrite H → Interaction R Image (Store F P H) Bool
  second_part s h =
      let i = half_image_of s h in
      and_then (write_second c s h.track (c.bytes i)) (λ z _. second_by h.track i h.origin z)
