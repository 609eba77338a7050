-- What looks find in small subsystems, computed from the definitions alone.
use Rattle.std.proofs.Common.{◌≡◌, ℕ, Bool, true, false, List, [], ◌∷◌, Some, None, set, refl}
use Rattle.std.specs.Prelude.{replicate}
use Rattle.ckd_types.specs.declared.geometry.Geometry.TheVariants.{D3390}
use Rattle.ckd_types.specs.declared.paths.Side.TheVariants.{A}
use Rattle.ckd_types.specs.Track.{empty_track}
use Rattle.track_table.specs.Tracks.{count_below}
use Rattle.track_image.specs.Image.{Image}
use Rattle.device_outside.specs.Hears.{messages}
use Rattle.device_outside.specs.Keeper.{Firm}
use Rattle.device_outside.specs.Lists.{is_in, with_number, less_one}
use Rattle.device_outside.specs.Pool.{new_pool, answer, after}
use Rattle.device_outside.specs.Told.{hold}
use Rattle.device_outside.specs.Volume.{counted}
use Rattle.device_defs.specs.Image.{level_bytes, image}
use Rattle.device_defs.specs.Losses.{over, settled, side_lost, all_firm_told}
use Rattle.device_defs.specs.Marks.{MarksStore, MarksDevice, new_device}
use Rattle.device_defs.specs.Owed.{waits, all_told}
use Rattle.device_defs.specs.Peek.{Peeked, Track, Lost, Fault, peek}
use Rattle.device_defs.specs.Store.{OfBackground}
use Rattle.subsystem_defs.specs.Looks.{Looked, looked}
use Rattle.subsystem_defs.specs.Subsystem.{Subsystem, new_calls}
use Rattle.subsystem_laws.specs.Looking.{look_messages}

-- the device of number 0, with one cylinder, where these reads of side A fail
abbrev with_device : MarksDevice → List ℕ → Subsystem
with_device d fails = record {
  pool = new_pool 4 4;
  mounted = record { device = d; a = new_calls (record { reads = fails; writes = [] }); b = new_calls (record { reads = []; writes = [] }) } ∷ [];
}

abbrev alone : MarksDevice
alone = new_device 0 D3390 1 []

abbrev with_tracks : MarksStore → MarksDevice
with_tracks s = record alone { store = s }

-- a pair, on whose side B these are stale
abbrev pair_stale : List Bool → MarksStore
pair_stale stale = record alone.store { paired = true; b = record { up = true; stale = stale } }

abbrev level_pair : MarksDevice
level_pair = with_tracks (pair_stale (replicate 15 false))

abbrev one_stale : MarksDevice
one_stale = with_tracks (pair_stale (set (replicate 15 false) 4 true))

-- the background writes track 3, which no side has any more
abbrev half_left : MarksDevice
half_left = with_tracks (record (pair_stale (set (replicate 15 false) 3 true)) {
  a = record { up = false; stale = replicate 15 false };
  half = Some (record { track = 3; origin = OfBackground; image = tt });
})

-- track 4 is loose, with a modified frame
abbrev loose_there : MarksDevice
loose_there = with_tracks (record (pair_stale (set (replicate 15 false) 4 true)) {
  frames = set (replicate 15 None) 4 (Some true);
  loose = set (replicate 15 false) 4 true;
})

abbrev empty_at : ℕ → Image
empty_at t = record { geometry = D3390; track = empty_track t }

-- what was found, and the reads
abbrev Shown : Type 0
Shown = Peeked × ℕ

abbrev shown : Looked → Shown
shown l = (l.found, l.reads)

-- a look at this track, and then one at that
abbrev both : Subsystem → ℕ → ℕ → List Shown
both s t q = let l = looked s 0 t in shown l ∷ shown (looked l.behind 0 q) ∷ []

pub found : both (with_device alone []) 3 14 ≡ (Track (empty_at 3), 1) ∷ (Track (empty_at 14), 1) ∷ []
unfolding looked peek hold answer after is_in with_number less_one counted level_bytes image over settled side_lost all_firm_told waits all_told count_below
found = refl

-- a volume that is alone isn't failed by its call
pub fails_once : both (with_device alone (1 ∷ [])) 3 3 ≡ (Fault A, 1) ∷ (Track (empty_at 3), 1) ∷ []
unfolding looked peek hold answer after is_in with_number less_one counted level_bytes image over settled side_lost all_firm_told waits all_told count_below
fails_once = refl

-- of a pair the other side has the track, and is read alone then
pub other_side : both (with_device level_pair (1 ∷ [])) 3 4 ≡ (Track (empty_at 3), 2) ∷ (Track (empty_at 4), 1) ∷ []
unfolding looked peek hold answer after is_in with_number less_one counted level_bytes image over settled side_lost all_firm_told waits all_told count_below
other_side = refl

-- what side A alone had is lost when a look fails there, at another track or at this one
pub lost_later : both (with_device one_stale (1 ∷ [])) 3 4 ≡ (Track (empty_at 3), 2) ∷ (Lost, 0) ∷ []
unfolding looked peek hold answer after is_in with_number less_one counted level_bytes image over settled side_lost all_firm_told waits all_told count_below
lost_later = refl

pub lost_here : both (with_device one_stale (1 ∷ [])) 4 4 ≡ (Fault A, 1) ∷ (Lost, 0) ∷ []
unfolding looked peek hold answer after is_in with_number less_one counted level_bytes image over settled side_lost all_firm_told waits all_told count_below
lost_here = refl

-- the half write alone has the track
pub half_found : both (with_device half_left []) 3 4 ≡ (Track (empty_at 3), 0) ∷ (Track (empty_at 4), 1) ∷ []
unfolding looked peek hold answer after is_in with_number less_one counted level_bytes image over settled side_lost all_firm_told waits all_told count_below
half_found = refl

-- nothing is found of a device that isn't there
pub not_there : shown (looked (with_device alone []) 1 3) ≡ (Lost, 0)
unfolding looked
not_there = refl

-- a keeper hears of the track that a failed look made firm, and else nothing
pub heard : look_messages (with_device loose_there (1 ∷ [])) 0 3 ≡ Firm 0 4 (empty_at 4) ∷ []
unfolding messages peek answer after is_in with_number less_one counted level_bytes image over settled side_lost all_firm_told waits all_told count_below
heard = refl

pub none_heard : look_messages (with_device loose_there []) 0 3 ≡ []
unfolding messages peek answer after is_in with_number less_one counted level_bytes image over settled side_lost all_firm_told waits all_told count_below
none_heard = refl
