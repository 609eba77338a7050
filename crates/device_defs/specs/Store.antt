-- What a device keeps of its tracks and of its sides. Every rule of this crate is own where it doesn't say otherwise.
use Rattle.std.specs.Prelude.{
  ℕ,
  ◌*◌,
  ◌==◌,
  ◌&&◌,
  ◌||◌,
  not,
  Bool,
  true,
  false,
  List,
  Option,
  None,
  Some,
  replicate,
  slice_index_or,
  slice_set,
  is_some,
}
use Rattle.ckd_types.specs.declared.geometry.Geometry.{Geometry}
use Rattle.ckd_types.specs.declared.paths.Side.{Side}
use Rattle.ckd_types.specs.declared.paths.Side.TheVariants.{A, B}
use Rattle.ckd_types.specs.declared.record.Edit.{Edit}
use Rattle.ckd_types.specs.declared.record.Track.{Track}
use Rattle.ckd_types.specs.Fixed.{Fixed}
use Rattle.ckd_types.specs.Volume.{track_in}
use Rattle.plain_defs.specs.declared.journal.Act.{Act}
use Rattle.track_image.specs.Image.{Image}
use Rattle.track_table.specs.Tracks.{least}
use Rattle.device_defs.specs.declared.counts.Counts.{Counts}
use Rattle.device_defs.specs.declared.owed.Owed.{Owed}

-- whether the side is up, and of each track whether it is stale there: the side's bytes of it don't count
pub record SideMarks : Type 0 where
  pub up : Bool
  pub stale : List Bool

-- whose write in two parts it is: of a command, whose edit it is; of a command that was cut since; or of the background. With
-- the first two, whether the command's mode was bypass
pub data Origin : Type 0 where
  OfCommand : Bool → Edit → Origin
  OfCut : Bool → Origin
  OfBackground : Origin

-- side A took the new track, and side B is still to be tried. H stands for the new image
pub record HalfWrite (H : Type 0) : Type 0 where
  pub track : ℕ
  pub origin : Origin
  pub image : H

-- F is what stands for a frame, P for a patch with its slot
pub record Store (F P H : Type 0) : Type 0 where
  pub device : ℕ  -- its number
  pub geometry : Geometry
  pub cylinders : ℕ
  pub number : ℕ  -- of its cache fast write data
  pub paired : Bool
  pub lent : Option ℕ  -- to which device
  pub held : Bool  -- side B
  pub a : SideMarks
  pub b : SideMarks  -- a side that isn't there is not up, and nothing is stale on it
  pub frames : List (Option F)
  pub patches : List (Option P)
  pub lost : List Bool
  pub loose : List Bool  -- with data of cache fast write
  pub queue : List ℕ  -- the tracks to stage, the oldest first
  pub half : Option (HalfWrite H)
  pub plain : List Track  -- the plain volume, and each of its tracks without data of cache fast write.
  pub firm : List Track  -- A device keeps neither: these two are empty with it, and stay so
  pub acts : List Act  -- of the event that goes on, or of the last one
  pub owed : List Owed  -- of each track what a loss in this event did to it, and the outside wasn't told yet
  pub counts : Counts

abbrev pub stale_at : SideMarks → ℕ → Bool
stale_at x t = slice_index_or x.stale t false

abbrev pub level_at : SideMarks → ℕ → Bool
level_at x t = x.up && not (stale_at x t)

-- an empty volume takes a side's place, with every track stale or none
abbrev pub new_side : ℕ → Bool → SideMarks
new_side tracks stale = record { up = true; stale = replicate tracks stale }

abbrev pub no_side : ℕ → SideMarks
no_side tracks = record { up = false; stale = replicate tracks false }

abbrev pub half_is : {H : Type 0} → Option (HalfWrite H) → ℕ → Bool
half_is None t = false
half_is (Some h) t = h.track == t

-- nothing that the outside wasn't told
abbrev pub no_debt : Owed
no_debt = record { modified = false; dropped = false; freed = None; firm = false }

module _ {F P H : Type 0} where
  abbrev pub tracks_of : Store F P H → ℕ
  tracks_of s = s.cylinders * 15

  -- what a program goes by that starts now
  abbrev pub store_fixed : Store F P H → Fixed
  store_fixed s = record { geometry = s.geometry; cylinders = s.cylinders; number = s.number }

  abbrev pub side_of : Store F P H → Side → SideMarks
  side_of s A = s.a
  side_of s B = s.b

  abbrev pub with_side : Store F P H → Side → SideMarks → Store F P H
  with_side s A x = record s { a = x }
  with_side s B x = record s { b = x }

  abbrev pub some_up : Store F P H → Bool
  some_up s = s.a.up || s.b.up

  abbrev pub has_level : Store F P H → ℕ → Bool
  has_level s t = level_at s.a t || level_at s.b t

  -- side B takes what is written
  abbrev pub takes_b : Store F P H → Bool
  takes_b s = s.b.up && not s.held

  abbrev pub frame_at : Store F P H → ℕ → Option F
  frame_at s t = slice_index_or s.frames t None

  abbrev pub patch_at : Store F P H → ℕ → Option P
  patch_at s t = slice_index_or s.patches t None

  abbrev pub is_lost : Store F P H → ℕ → Bool
  is_lost s t = slice_index_or s.lost t false

  abbrev pub is_loose : Store F P H → ℕ → Bool
  is_loose s t = slice_index_or s.loose t false

  abbrev pub has_loose : Store F P H → Bool
  has_loose s = is_some (least (tracks_of s) (is_loose s))

  abbrev pub owed_at : Store F P H → ℕ → Owed
  owed_at s t = slice_index_or s.owed t no_debt

  abbrev pub with_stale : Store F P H → Side → ℕ → Bool → Store F P H
  with_stale s side t x = with_side s side (record (side_of s side) { stale = slice_set (side_of s side).stale t x })

  abbrev pub with_frame : Store F P H → ℕ → Option F → Store F P H
  with_frame s t f = record s { frames = slice_set s.frames t f }

  abbrev pub with_patch : Store F P H → ℕ → Option P → Store F P H
  with_patch s t p = record s { patches = slice_set s.patches t p }

  abbrev pub with_lost : Store F P H → ℕ → Store F P H
  with_lost s t = record s { lost = slice_set s.lost t true }

  abbrev pub with_loose : Store F P H → ℕ → Bool → Store F P H
  with_loose s t x = record s { loose = slice_set s.loose t x }

  abbrev pub with_owed : Store F P H → ℕ → Owed → Store F P H
  with_owed s t o = record s { owed = slice_set s.owed t o }

  -- the image of a track of the plain volume
  abbrev pub plain_at : Store F P H → ℕ → Image
  plain_at s t = record { geometry = s.geometry; track = track_in s.plain t }
