-- What a write makes of the plain volume, and when its edit suits the track.
use Rattle.std.specs.Prelude.{ℕ, Bool, true, false, List, Option, Some, None, slice_set}
use Rattle.ckd_types.specs.declared.geometry.Geometry.{Geometry}
use Rattle.ckd_types.specs.declared.record.Edit.{Edit}
use Rattle.ckd_types.specs.declared.record.Track.{Track}
use Rattle.ckd_types.specs.Edit.{apply_edit}
use Rattle.ckd_types.specs.Volume.{track_in}
use Rattle.ckd_rules.specs.Facts.{Suits}
use Rattle.ckd_write.specs.Ranges.{HasRanges}
use Rattle.device_defs.specs.declared.answers.Took.{Took}
use Rattle.device_defs.specs.declared.answers.Took.TheVariants.{Whole, Opened, Unwritten}
use Rattle.device_defs.specs.Store.{Origin, OfCommand, OfCut, OfBackground}

-- an edit that suits a track
pub record SuitsTrack (g : Geometry) (x : Track) (e : Edit) : Type 0 where
  pub suits : Suits g x.records e
  pub ranges : HasRanges e

-- the plain volume behind a write
abbrev pub plain_after : Took → List Track → ℕ → Edit → List Track
plain_after Whole u t e = slice_set u t (apply_edit e (track_in u t))
plain_after Opened u t e = u
plain_after Unwritten u t e = u

-- want of memory leaves it
abbrev pub plain_had : Option Took → List Track → ℕ → Edit → List Track
plain_had (Some took) v t e = plain_after took v t e
plain_had None v t e = v

-- behind the second part of a write, done or not
abbrev pub plain_second : Origin → Bool → List Track → ℕ → List Track
plain_second (OfCommand bypass e) true u t = slice_set u t (apply_edit e (track_in u t))
plain_second (OfCommand bypass e) false u t = u
plain_second (OfCut bypass) done u t = u
plain_second OfBackground done u t = u

-- a command's edit suits its track
abbrev pub OriginSuits : Geometry → Track → Origin → Type 0
OriginSuits g x (OfCommand bypass e) = SuitsTrack g x e
OriginSuits g x (OfCut bypass) = Unit {0}
OriginSuits g x OfBackground = Unit {0}
