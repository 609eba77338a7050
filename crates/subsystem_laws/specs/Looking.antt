-- A look at a track past the channel: where it may be, what it finds, and what it leaves.
use Rattle.std.specs.Prelude.{◌≡◌, ◌⊎◌, ℕ, ◌==◌, ◌&&◌, Bool, true, false, List, [], Option, Some, None}
use Rattle.ckd_types.specs.declared.paths.Side.{Side}
use Rattle.ckd_types.specs.Volume.{track_in}
use Rattle.track_image.specs.Image.{Image}
use Rattle.device_outside.specs.Hears.{messages}
use Rattle.device_outside.specs.Keeper.{Message, Hearing}
use Rattle.device_outside.specs.Outside.{PortView, Ran}
use Rattle.device_outside.specs.Pool.{Pool, counted_slots}
use Rattle.device_outside.specs.Told.{read_fails}
use Rattle.device_defs.specs.Background.{other}
use Rattle.device_defs.specs.Contents.{by_plain}
use Rattle.device_defs.specs.Marks.{MarksStore}
use Rattle.device_defs.specs.Owed.{is_modified}
use Rattle.device_defs.specs.Peek.{Peeked, Track, Lost, Fault, BadBytes, peek}
use Rattle.device_defs.specs.Store.{Origin, OfCommand, OfCut, OfBackground, HalfWrite, side_of, level_at, has_level, frame_at}
use Rattle.device_laws.specs.Whole.{WholeDevice}
use Rattle.subsystem_defs.specs.Happening.{told_to}
use Rattle.subsystem_defs.specs.Looks.{Looked, looked}
use Rattle.subsystem_defs.specs.Subsystem.{Mounted, Subsystem, mounted_in, calls_behind}
use Rattle.subsystem_laws.specs.WholeComes.{OwnTalk, outside_at}
use Rattle.subsystem_laws.specs.WholeStood.{Stood, AreMounted}

-- of a half write: it isn't the background's
abbrev pub is_written : Origin → Bool
is_written (OfCommand bypass e) = true
is_written (OfCut bypass) = true
is_written OfBackground = false

-- a half write of a command, or of one that was cut, is open
abbrev pub is_writing : {H : Type 0} → Option (HalfWrite H) → Bool
is_writing None = false
is_writing (Some h) = is_written h.origin

-- and on this track
abbrev pub is_written_at : {H : Type 0} → Option (HalfWrite H) → ℕ → Bool
is_written_at None t = false
is_written_at (Some h) t = (h.track == t) && is_written h.origin

-- what a look finds in a run is what was found, and it leaves what a run has mounted for what is left
pub record IsLooked (l : Looked) (seen : Peeked) (pool : Pool) (xs : List Stood) : Type 0 where
  pub found : l.found ≡ seen
  pub left : l.behind.pool ≡ counted_slots pool
  pub mounted : AreMounted pool xs l.behind.mounted

-- a track that is found is the plain one, and bytes are never bad
abbrev pub IsPlainly : Mounted → ℕ → Peeked → Type 0
IsPlainly m t (Track i) = i ≡ record { geometry = m.device.store.geometry; track = track_in m.device.store.plain t }
IsPlainly m t Lost = Unit {0}
IsPlainly m t (Fault side) = Unit {0}
IsPlainly m t (BadBytes side) = ⊥

-- what a look leaves of its device as it was
pub record LeavesOwn (m k : Mounted) : Type 0 where
  pub number : k.device.store.device ≡ m.device.store.device
  pub geometry : k.device.store.geometry ≡ m.device.store.geometry
  pub cylinders : k.device.store.cylinders ≡ m.device.store.cylinders
  pub lent : k.device.store.lent ≡ m.device.store.lent
  pub half : k.device.store.half ≡ m.device.store.half
  pub plain : k.device.store.plain ≡ m.device.store.plain
  pub plans : k.device.plans ≡ m.device.plans
  pub paths : k.device.paths ≡ m.device.paths
  pub chain : k.device.chain ≡ m.device.chain

-- and of a device whatever is answered, and whether or not memory is had
pub record KeepsOwn (d e : WholeDevice) : Type 0 where
  pub number : e.store.device ≡ d.store.device
  pub geometry : e.store.geometry ≡ d.store.geometry
  pub cylinders : e.store.cylinders ≡ d.store.cylinders
  pub lent : e.store.lent ≡ d.store.lent
  pub plans : e.plans ≡ d.plans
  pub paths : e.paths ≡ d.paths
  pub chain : e.chain ≡ d.chain

-- the device is there behind the look, and so it is left
pub record StaysOwn (s : Subsystem) (n t : ℕ) (m : Mounted) : Type 0 where
  pub mounted : Mounted
  pub there : mounted_in (looked s n t).behind.mounted n ≡ Some mounted
  pub own : LeavesOwn m mounted

-- this side had the track, the next read of its volume fails, and the other side doesn't have it or its next read fails too
pub record HasFailed (m : Mounted) (t : ℕ) (side : Side) : Type 0 where
  pub level : level_at (side_of m.device.store side) t ≡ true
  pub fails : read_fails (calls_behind m side) ≡ true
  pub other : (level_at (side_of m.device.store (other side)) t ≡ false) ⊎ (read_fails (calls_behind m (other side)) ≡ true)

-- no side has the track, and no modified frame
abbrev pub IsNowhere : MarksStore → ℕ → Type 0
IsNowhere s t = (has_level s t ≡ false) × (is_modified by_plain (frame_at s t) ≡ false)

-- A keeper

-- what it is told in a look of a run
abbrev pub messages_at : Subsystem → ℕ → Option Mounted → List (Message Image)
messages_at s t None = []
messages_at s t (Some m) = messages true (peek by_plain m.device t) (told_to s.pool m)

abbrev pub look_messages : Subsystem → ℕ → ℕ → List (Message Image)
look_messages s n t = messages_at s t (mounted_in s.mounted n)

-- a device ran this between a port that tells the one pool and one that tells the other, with a keeper that was the one and is the other, and memory was had
pub record AskedWith {K : Type 0} (hears : Hearing Image K) (keeper later : K) {A : Type 0} (talk : OwnTalk A) (answer : A) (pool : Pool) (x y : Stood)
    (new : Pool) : Type 0 where
  pub port : PortView
  pub after : PortView
  pub pool_before : port.pool ≡ Some pool
  pub pool_behind : after.pool ≡ Some new
  pub ran : Ran (λ ok. ok ≡ true) hears talk (outside_at port x keeper) y.device answer (outside_at after y later)
