-- What is so of every plain device.
use Rattle.std.specs.Prelude.{◌≡◌, ◌<◌, ◌*◌, ◌≤◌, ℕ, List, length, All}
use Rattle.ckd_types.specs.declared.channel.Ccw.{Ccw}
use Rattle.ckd_types.specs.declared.geometry.Geometry.{Geometry}
use Rattle.ckd_types.specs.Ccw.{ccw_at}
use Rattle.ckd_types.specs.Geometry.{cchh_of}
use Rattle.ckd_types.specs.Track.{Fits}
use Rattle.ckd_types.specs.Volume.{IsVolume}
use Rattle.plain_defs.specs.Journal.{Plans, program_of}
use Rattle.plain_defs.specs.PlainState.{LooseTrack, PlainState}

-- a loose track is one of the volume, and goes back to a track that fits and says where it is
pub record IsFirm (g : Geometry) (cylinders : ℕ) (l : LooseTrack) : Type 0 where
  pub inside : l.track < cylinders * 15
  pub home : l.firm.home ≡ cchh_of l.track
  pub fits : Fits g l.firm

-- each track of the volume fits and says where it is, there are four paths, and what is loose is so, too
pub record IsWhole (s : PlainState) : Type 0 where
  pub volume : IsVolume s.geometry s.cylinders s.volume
  pub states : length s.paths.states ≡ 4
  pub senses : length s.paths.senses ≡ 4
  pub loose : All (IsFirm s.geometry s.cylinders) s.loose

-- a word's bytes are bytes
abbrev pub GivesBytes : Ccw → Type 0
GivesBytes c = All (λ (byte : ℕ). byte < 256) c.given

-- each of a program's words gives bytes
abbrev pub GivesAll : List Ccw → Type 0
GivesAll ccws = (i : ℕ) → GivesBytes (ccw_at ccws i)

-- so do all programs of four paths
abbrev pub GiveBytes : Plans → Type 0
GiveBytes plans = (path ordinal : ℕ) → 1 ≤ path → path ≤ 4 → GivesAll (program_of plans path ordinal)
