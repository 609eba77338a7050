-- How the sides of a pair are seen.
use Rattle.std.specs.Prelude.{◌≡◌, ℕ, ◌&&◌, not, Bool, Option, None, Some, if◌then◌else◌}
use Rattle.ckd_types.specs.declared.paths.Side.{Side}
use Rattle.ckd_types.specs.declared.paths.Side.TheVariants.{A, B}
use Rattle.device_outside.specs.declared.volume.Volume.{Ghosts}
use Rattle.device_defs.specs.Store.{SideMarks, stale_at, level_at}
use Rattle.duplex_pair.specs.declared.pair.DuplexPair.{DuplexPair}
use Rattle.duplex_pair.specs.declared.pair.SideState.{SideState}
use Rattle.duplex_pair.specs.declared.pair.SideVolumes.{SideVolumes}

abbrev pub marks_of : SideState → SideMarks
marks_of x = record { up = x.up; stale = x.stale }

module _ {V : Type 0} where
  abbrev pub volume_of : SideVolumes V → Side → Option V
  volume_of x A = x.a
  volume_of x B = x.b

  abbrev pub other_of : SideVolumes V → Side → Option V
  other_of x A = x.b
  other_of x B = x.a

module _ {V : Type 0} {G : Ghosts V} where
  abbrev pub state_in : DuplexPair V G → Side → SideMarks
  state_in p A = marks_of p.a
  state_in p B = marks_of p.b

  abbrev pub other_state : DuplexPair V G → Side → SideMarks
  other_state p A = marks_of p.b
  other_state p B = marks_of p.a

-- the side that is up, not held, and has the track stale, where the other has it level
abbrev pub copies_in : SideMarks → SideMarks → Bool → ℕ → Option Side
copies_in a b held t =
    if a.up && stale_at a t && level_at b t then Some A
    else if (b.up && not held) && stale_at b t && level_at a t then Some B
    else None

-- nothing but the volumes may be another
pub record HasSides {V : Type 0} {G : Ghosts V} (old new : DuplexPair V G) : Type 0 where
  pub a : marks_of new.a ≡ marks_of old.a
  pub b : marks_of new.b ≡ marks_of old.b
  pub held : new.held ≡ old.held
  pub lent : new.lent ≡ old.lent
