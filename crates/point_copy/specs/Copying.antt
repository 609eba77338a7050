-- A session over a run: what it keeps of the old tracks of its device, and what it gives.
use Rattle.std.specs.Prelude.{◌≡◌, ◌<◌, ◌≤◌, ℕ, ◌+◌, nat_le, Bool, List, [], length, Option, Some, None, is_some, if◌then◌else◌}
use Rattle.track_image.specs.Image.{Image}
use Rattle.track_table.specs.Table.{entry_at}
use Rattle.track_table.specs.Tracks.{least}
use Rattle.device_outside.specs.Keeper.{Message}
use Rattle.device_defs.specs.Peek as peeks
use Rattle.device_defs.specs.Peek.{Peeked}
use Rattle.device_defs.specs.Store.{Store, tracks_of, is_loose, plain_at}
use Rattle.subsystem_defs.specs.declared.event.Event.{Event}
use Rattle.subsystem_defs.specs.Happening.{EventHappened, happens, replaced, unpaired}
use Rattle.subsystem_defs.specs.Looks.{Looked, looked}
use Rattle.subsystem_defs.specs.Subsystem.{Mounted, Subsystem, mounted_in, unfailing}
use Rattle.keeper_laws.specs.Messages.{event_messages}
use Rattle.keeper_laws.specs.Quiet.{IsQuiet}
use Rattle.line_drive.specs.Driven.{Occurred, Comes, Replaces, Unpairs}
use Rattle.point_copy.specs.declared.given.BeginFault.{BeginFault}
use Rattle.point_copy.specs.declared.given.BeginFault.TheVariants.{Lent, Half, Loose}
use Rattle.point_copy.specs.declared.given.Given.{Given}
use Rattle.point_copy.specs.declared.given.Given.TheVariants as gives
use Rattle.point_copy.specs.Keeping.{OldView, nothing_kept, with_image, heard_all}

-- Begin

abbrev pub loose_fault : Option ℕ → Option BeginFault
loose_fault (Some t) = Some (Loose t)
loose_fault None = None

abbrev pub fault_by : Option ℕ → Bool → Option ℕ → Option BeginFault
fault_by (Some of) half loose = Some (Lent of)
fault_by None half loose = if half then Some Half else loose_fault loose

-- why a session isn't begun: the device is lent, or a half write is open, or a track is loose, the least of them
abbrev pub begin_fault : {F P H : Type 0} → Store F P H → Option BeginFault
begin_fault s = fault_by s.lent (is_some s.half) (least 65535 (is_loose s))

-- State

-- to which device its device was lent first since then
pub record CopyState : Type 0 where
  pub run : Subsystem
  pub kept : OldView
  pub gone : Option ℕ

abbrev pub tracks_at : Option Mounted → ℕ
tracks_at (Some m) = tracks_of m.device.store
tracks_at None = 0

abbrev pub lent_at : Option Mounted → Option ℕ
lent_at (Some m) = m.device.store.lent
lent_at None = None

abbrev pub begun : Subsystem → ℕ → CopyState
begun run d = record { run = run; kept = nothing_kept d (tracks_at (mounted_in run.mounted d)); gone = None }

-- Events

abbrev pub first_lent : Option ℕ → Option ℕ → Option ℕ
first_lent (Some of) lent = Some of
first_lent None lent = lent

-- after an event in which the keeper was told this
abbrev pub went_on : CopyState → List (Message Image) → Subsystem → CopyState
went_on c ms run = record {
  run = run;
  kept = heard_all c.kept ms;
  gone = first_lent c.gone (lent_at (mounted_in run.mounted c.kept.device));
}

abbrev pub copy_event : CopyState → Event → CopyState
copy_event c e = went_on c (event_messages c.run e) (happens c.run e).behind

-- after an order for which a volume is handed in. No keeper is told of it
abbrev pub copy_order : CopyState → EventHappened → CopyState
copy_order c h = went_on c [] h.behind

abbrev pub copy_did : CopyState → Occurred → CopyState
copy_did c (Comes e) = copy_event c e
copy_did c (Replaces d side) = copy_order c (replaced c.run d side unfailing)
copy_did c (Unpairs a) = copy_order c (unpaired c.run a unfailing)

-- Looks

-- what is given, and what is left
pub record Giving : Type 0 where
  pub given : Given
  pub behind : CopyState

-- the next track counts as given
abbrev pub passed : OldView → OldView
passed k = record k { next = k.next + 1 }

abbrev pub given_by : ℕ → Peeked → Given
given_by t (peeks.Track i) = gives.Track t i
given_by t peeks.Lost = gives.Lost t
given_by t (peeks.Fault side) = gives.Fault side
given_by t (peeks.BadBytes side) = gives.BadBytes side

-- a track that is lost counts as given, one whose look failed doesn't
abbrev pub passed_by : Peeked → OldView → OldView
passed_by (peeks.Track i) k = passed k
passed_by peeks.Lost k = passed k
passed_by _ k = k

abbrev pub look_given : CopyState → Looked → Giving
look_given c l = record {
  given = given_by c.kept.next l.found;
  behind = record c { run = l.behind; kept = passed_by l.found c.kept };
}

-- a track that is kept is given without a read
abbrev pub track_given : CopyState → Option Image → Giving
track_given c (Some i) = record {
  given = gives.Track c.kept.next i;
  behind = record c { kept = passed (with_image c.kept c.kept.next None) };
}
track_given c None = look_given c (looked c.run c.kept.device c.kept.next)

abbrev pub still_given : CopyState → Option ℕ → Giving
still_given c (Some of) = record { given = gives.Gone of; behind = c }
still_given c None = track_given c (entry_at c.kept.images c.kept.next)

-- the least track that isn't given yet; nothing where all were given, nor where the device was lent since
abbrev pub next_given : CopyState → Giving
next_given c =
    if nat_le (tracks_at (mounted_in c.run.mounted c.kept.device)) c.kept.next then record { given = gives.Finished; behind = c }
    else still_given c c.gone

-- it is this track's turn, of a device that wasn't lent since, nothing is kept of it, and this is so of the device
pub record IsDue (c : CopyState) (t : ℕ) (so : Mounted → Type 0) : Type 0 where
  pub mounted : Mounted
  pub there : mounted_in c.run.mounted c.kept.device ≡ Some mounted
  pub turn : t ≡ c.kept.next
  pub below : t < tracks_of mounted.device.store
  pub home : c.gone ≡ None
  pub none : entry_at c.kept.images t ≡ None
  pub is_so : so mounted

-- What is given is old

-- the images of a plain volume
abbrev pub plain_images : Mounted → ℕ → Image
plain_images m t = plain_at m.device.store t

-- the old image of a track is kept; or nothing is kept of it, and it is still the track of the plain volume, which can't go back
abbrev pub IsOldTrack : Mounted → (ℕ → Image) → ℕ → Option Image → Type 0
IsOldTrack m old t (Some i) = i ≡ old t
IsOldTrack m old t None = IsQuiet m t × (plain_images m t ≡ old t)

-- of a device that wasn't lent since then
pub record AreOldTracks (m : Mounted) (k : OldView) (old : ℕ → Image) : Type 0 where
  pub home : m.device.store.lent ≡ None
  pub each : (t : ℕ) → k.next ≤ t → t < length k.images → IsOldTrack m old t (entry_at k.images t)

-- what a session still has to give are these old images
pub record KeepsOld (c : CopyState) (old : ℕ → Image) : Type 0 where
  pub mounted : Mounted
  pub there : mounted_in c.run.mounted c.kept.device ≡ Some mounted
  pub size : length c.kept.images ≡ tracks_of mounted.device.store
  pub tracks : c.gone ≡ None → AreOldTracks mounted c.kept old

-- a track that is given is the next one, and old
abbrev pub IsOldGiven : OldView → (ℕ → Image) → Given → Type 0
IsOldGiven k old (gives.Track t i) = (t ≡ k.next) × (i ≡ old t)
IsOldGiven k old (gives.Lost t) = t ≡ k.next
IsOldGiven k old _ = Unit {0}
