-- What a cache holds: a list with a place for each track.
use Rattle.std.specs.Prelude.{ℕ, ◌+◌, Bool, true, false, ⊤, List, length, slice_set, Option, Some, None, if◌then◌else◌}
use Rattle.ckd_types.specs.declared.record.Edit.{Edit}
use Rattle.ckd_types.specs.Edit.{IsInside, HasRoomFor}
use Rattle.ckd_rules.specs.Facts.{Suits}
use Rattle.track_image.specs.Image.{Image, edited_image}
use Rattle.track_table.specs.Table.{entry_at, has_entry, with_places}
use Rattle.track_cache.specs.declared.frames.Frame.{Frame}

abbrev pub frame_at : List (Option Frame) → ℕ → Option Frame
frame_at frames t = entry_at frames t

abbrev pub has_frame : List (Option Frame) → ℕ → Bool
has_frame frames t = has_entry frames t

abbrev pub image_of : Option Frame → Option Image
image_of None = None
image_of (Some f) = Some f.image

-- the image in a track's frame
abbrev pub image_at : List (Option Frame) → ℕ → Option Image
image_at frames t = image_of (frame_at frames t)

abbrev pub is_modified_frame : Option Frame → Bool
is_modified_frame None = false
is_modified_frame (Some f) = f.modified

-- a track that has no frame is not modified
abbrev pub is_modified : List (Option Frame) → ℕ → Bool
is_modified frames t = is_modified_frame (frame_at frames t)

-- the frame with the mark
abbrev pub with_mark : Bool → Option Frame → Option Frame
with_mark modified None = None
with_mark modified (Some f) = Some (record f { modified = modified })

-- the frame with an edit of its image, which is modified then
abbrev pub edited_frame : Edit → Option Frame → Option Frame
edited_frame e None = None
edited_frame e (Some f) = Some (record { image = edited_image e f.image; modified = true })

-- there is a frame, and the edit suits its image
abbrev pub SuitsFrame : Edit → Option Frame → Type 0
SuitsFrame e None = ⊥
SuitsFrame e (Some f) = Suits f.image.geometry f.image.track.records e

-- the edit of the frame's image has room in what is made for so many records
abbrev pub HasFrameRoom : Edit → Option Frame → ℕ → Type 0
HasFrameRoom e None room = ⊤
HasFrameRoom e (Some f) room = HasRoomFor e (length f.image.track.records) room

-- the edit puts no record behind the last of the frame's image
abbrev pub IsInsideFrame : Edit → Option Frame → Type 0
IsInsideFrame e None = ⊤
IsInsideFrame e (Some f) = IsInside e (length f.image.track.records)

-- the frame, where it is modified
abbrev pub unless_clean : Option Frame → Option Frame
unless_clean None = None
unless_clean (Some f) = if f.modified then Some f else None

-- a clean frame with an image, in a place that is made where there is none
abbrev pub put_frame : ℕ → Image → List (Option Frame) → List (Option Frame)
put_frame t image frames = slice_set (with_places (t + 1) frames) t (Some (record { image = image; modified = false }))
