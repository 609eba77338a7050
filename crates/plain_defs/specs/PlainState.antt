-- What a plain device keeps: its volume, what is kept of its paths, the tracks with data of cache fast write, and their number.
use Rattle.std.specs.Prelude.{ℕ, ◌-◌, ◌==◌, ◌||◌, Bool, List, [], replicate, slice_index_or, slice_set, Option, None, Some}
use Rattle.std.specs.List.{list_all}
use Rattle.ckd_types.specs.declared.channel.Ccw.{Ccw}
use Rattle.ckd_types.specs.declared.geometry.Geometry.{Geometry}
use Rattle.ckd_types.specs.declared.paths.Owner.{Owner}
use Rattle.ckd_types.specs.declared.paths.PathState.{PathState}
use Rattle.ckd_types.specs.declared.paths.PathState.TheVariants.{Reset}
use Rattle.ckd_types.specs.declared.sense.Sense.{Sense}
use Rattle.ckd_types.specs.declared.record.Track.{Track}
use Rattle.ckd_types.specs.Ccw.{is_transfer, ccw_at}
use Rattle.ckd_types.specs.Fixed.{Fixed}
use Rattle.ckd_types.specs.Sense.{zero_sense}
use Rattle.ckd_types.specs.Volume.{empty_volume}
use Rattle.ckd_rules.specs.Grouping.{owner_by, is_free_for, owner_after, state_in}

-- of each path a state and sense bytes, and who holds the device
pub record PathsState : Type 0 where
  pub states : List PathState
  pub owner : Option Owner
  pub senses : List Sense

-- a track with data of cache fast write, and the track that it goes back to when these are lost
pub record LooseTrack : Type 0 where
  pub track : ℕ
  pub firm : Track

pub record PlainState : Type 0 where
  pub geometry : Geometry
  pub cylinders : ℕ
  pub volume : List Track
  pub paths : PathsState
  pub loose : List LooseTrack
  pub number : ℕ

-- what of it stays while a command runs
abbrev pub fixed_of : PlainState → Fixed
fixed_of state = record { geometry = state.geometry; cylinders = state.cylinders; number = state.number }

-- no path has used anything
abbrev pub fresh_paths : PathsState
fresh_paths = record { states = replicate 4 Reset; owner = None; senses = replicate 4 zero_sense }

-- a device of empty tracks
abbrev pub empty_state : Geometry → ℕ → PlainState
empty_state g cylinders = record {
  geometry = g;
  cylinders = cylinders;
  volume = empty_volume cylinders;
  paths = fresh_paths;
  loose = [];
  number = 0;
}

abbrev pub sense_for : PathsState → ℕ → Sense
sense_for paths path = slice_index_or paths.senses (path - 1) zero_sense

-- the sense of a path, where a command's end has one
abbrev pub senses_with : List Sense → ℕ → Option Sense → List Sense
senses_with senses path (Some sense) = slice_set senses (path - 1) sense
senses_with senses path None = senses

abbrev pub with_sense : PathsState → ℕ → Option Sense → PathsState
with_sense paths path sense = record paths { senses = senses_with paths.senses path sense }

-- whom a path stands for
abbrev pub owner_of : PathsState → ℕ → Owner
owner_of paths path = owner_by (state_in paths.states path) path

abbrev pub asks_for_group : Ccw → Bool
asks_for_group c = is_transfer c || (c.command == 0x34)

-- nobody else holds the device; or the program takes it from any holder; or it only asks for its path group
abbrev pub is_admitted : PathsState → ℕ → List Ccw → Bool
is_admitted paths path ccws =
    is_free_for paths.owner (owner_of paths path) || ((ccw_at ccws 0).command == 0x14) || list_all asks_for_group ccws

-- a reset of a path: its state and its sense, and what it held
abbrev pub reset_path : PathsState → ℕ → PathsState
reset_path paths path =
    let states = slice_set paths.states (path - 1) Reset in
    record {
      states = states;
      owner = owner_after states path paths.owner;
      senses =
          slice_set paths.senses (path - 1) zero_sense;
    }
