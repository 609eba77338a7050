-- What is told at the end of a run, and what is handed out then.
use Rattle.std.specs.Prelude.{ℕ, not, ◌&&◌, Bool, List, [], ◌∷◌, ◌++◌, Option, Some, None, is_some, map, if◌then◌else◌}
use Rattle.std.specs.List.{range_with_len}
use Rattle.ckd_types.specs.declared.paths.Side.{Side}
use Rattle.ckd_types.specs.declared.paths.Side.TheVariants.{A, B}
use Rattle.ckd_types.specs.Track.{track_bytes}
use Rattle.ckd_types.specs.Volume.{track_in}
use Rattle.device_outside.specs.Pool.{Frame}
use Rattle.device_outside.specs.Told.{Calls}
use Rattle.device_defs.specs.Contents.{by_plain}
use Rattle.device_defs.specs.Marks.{MarksStore}
use Rattle.device_defs.specs.Owed.{is_modified}
use Rattle.device_defs.specs.Store.{tracks_of, side_of, level_at, frame_at, patch_at, is_lost, half_is}
use Rattle.subsystem_defs.specs.Subsystem.{Mounted, Subsystem, number_of, calls_behind}

-- What is told: of each device in rising order its calls, whatever volumes it had, and its lost tracks in rising order, or to whom it is lent

pub data DeviceEnd : Type 0 where
  Counted : ℕ → ℕ → ℕ → List ℕ → DeviceEnd  -- device, reads, writes, lost tracks
  LentTo : ℕ → ℕ → DeviceEnd

-- then the pool's frames, the most recent first
pub record RunEnding : Type 0 where
  pub devices : List DeviceEnd
  pub frames : List Frame

abbrev pub where_true : (ℕ → Bool) → List ℕ → List ℕ
where_true f [] = []
where_true f (t ∷ ts) = if f t then t ∷ where_true f ts else where_true f ts

abbrev pub lost_tracks : MarksStore → List ℕ
lost_tracks s = where_true (is_lost s) (range_with_len 0 (tracks_of s))

abbrev pub device_end_by : MarksStore → Option ℕ → DeviceEnd
device_end_by s (Some to) = LentTo s.device to
device_end_by s None = Counted s.device s.counts.reads s.counts.writes (lost_tracks s)

abbrev pub device_end : Mounted → DeviceEnd
device_end m = device_end_by m.device.store m.device.store.lent

abbrev pub ending : Subsystem → RunEnding
ending s = record { devices = map device_end s.mounted; frames = s.pool.frames }

-- What is handed out: the volumes that stand in devices, by rising number, side A before side B

-- with the calls that it has had, and the bytes of each track where they are known
pub record HandedOut : Type 0 where
  pub device : ℕ
  pub side : Side
  pub calls : Calls
  pub tracks : List (Option (List ℕ))

-- the side's bytes are those of the plain volume: it is level there, nothing newer is kept, and it isn't being written
abbrev pub is_plain_at : MarksStore → Side → ℕ → Bool
is_plain_at s side t =
    level_at (side_of s side) t && not (is_lost s t) && not (is_some (patch_at s t)) && not (is_modified by_plain (frame_at s t))
    && not (half_is s.half t)

abbrev pub known_bytes : MarksStore → Side → ℕ → Option (List ℕ)
known_bytes s side t = if is_plain_at s side t then Some (track_bytes (track_in s.plain t)) else None

abbrev pub handed_side : Mounted → Side → HandedOut
handed_side m side = record {
  device = number_of m;
  side = side;
  calls = calls_behind m side;
  tracks = map (known_bytes m.device.store side) (range_with_len 0 (tracks_of m.device.store));
}

abbrev pub handed_by : Mounted → Bool → Bool → List HandedOut
handed_by m lent paired =
    if lent then []
    else if paired then handed_side m A ∷ handed_side m B ∷ []
    else handed_side m A ∷ []

unfoldable pub handed_of : List Mounted → List HandedOut
handed_of [] = []
handed_of (m ∷ ms) = handed_by m (is_some m.device.store.lent) m.device.store.paired ++ handed_of ms

abbrev pub handed_out : Subsystem → List HandedOut
handed_out s = handed_of s.mounted
