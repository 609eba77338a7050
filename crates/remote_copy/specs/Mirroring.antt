-- A mirror over a run: what was told as firm of its device since the beginning, and what its far volume is.
use Rattle.std.specs.Prelude.{◌≡◌, ◌<◌, ◌*◌, ◌==◌, ◌||◌, ℕ, ◌+◌, Bool, true, false, List, [], ◌++◌, length, Option, Some, None, IfSome, if◌then◌else◌}
use Rattle.ckd_types.specs.declared.record.Track.{Track}
use Rattle.ckd_types.specs.Volume.{track_in}
use Rattle.track_image.specs.Image.{Image}
use Rattle.device_outside.specs.declared.volume.Volume.{Ghosts}
use Rattle.device_outside.specs.Keeper.{Message}
use Rattle.device_defs.specs.Store.{Store, is_loose}
use Rattle.subsystem_core.specs.declared.subsystem.Subsystem as code
use Rattle.subsystem_defs.specs.declared.event.Event.{Event}
use Rattle.subsystem_defs.specs.declared.event.Event.TheVariants as events
use Rattle.subsystem_defs.specs.Happening.{happens, replaced, unpaired}
use Rattle.subsystem_defs.specs.Looks.{looked}
use Rattle.subsystem_defs.specs.Subsystem.{Mounted, Subsystem, mounted_in, unfailing}
use Rattle.subsystem_laws.specs.Looking.{is_written_at, look_messages}
use Rattle.keeper_laws.specs.Firmness.{has_one}
use Rattle.keeper_laws.specs.Messages.{event_messages}
use Rattle.deck_run.specs.Owning.{AreOwn}
use Rattle.deck_run.specs.Standing.{StandsAs}
use Rattle.line_drive.specs.Driven.{Occurred, Comes, Replaces, Unpairs}
use Rattle.remote_copy.specs.declared.link.Link as links
use Rattle.remote_copy.specs.declared.mirror.Mirror.{Mirror}
use Rattle.remote_copy.specs.declared.state.MirrorState.{MirrorState}
use Rattle.remote_copy.specs.declared.state.MirrorState.TheVariants.{Level, Suspended, Copying}
use Rattle.remote_copy.specs.Linking.{LinkView, PutCalls}
use Rattle.firm_laws.specs.FirmWrites.{FirmWrite, firms_in}
use Rattle.remote_copy.specs.Sending.{IsLevelled, IsReached, SenderView, put_all}

-- Over a run

pub record MirrorRun : Type 0 where
  pub run : Subsystem
  pub device : ℕ
  pub start : List Track  -- the firm volume at the beginning
  pub calls : Option PutCalls  -- which puts fail, where told, and the puts at the beginning
  pub firms : List FirmWrite  -- what was told as firm since then
  pub copied : Bool  -- a track was looked at since then, to be copied

abbrev pub mirror_begun : Subsystem → ℕ → List Track → Option PutCalls → MirrorRun
mirror_begun run d start calls = record { run = run; device = d; start = start; calls = calls; firms = []; copied = false }

-- after something in which the keeper was told this
abbrev pub with_told : MirrorRun → List (Message Image) → Subsystem → MirrorRun
with_told c ms run = record c { run = run; firms = c.firms ++ firms_in c.device ms }

-- after an event, or an order for which a volume is handed in. No keeper is told of that
abbrev pub mirror_did : MirrorRun → Occurred → MirrorRun
mirror_did c (Comes e) = with_told c (event_messages c.run e) (happens c.run e).behind
mirror_did c (Replaces d side) = record c { run = (replaced c.run d side unfailing).behind }
mirror_did c (Unpairs a) = record c { run = (unpaired c.run a unfailing).behind }

-- after a look at a track, to copy it
abbrev pub mirror_looked : MirrorRun → ℕ → MirrorRun
mirror_looked c t = record (with_told c (look_messages c.run c.device t) (looked c.run c.device t).behind) { copied = true }

-- an event lends the device of this number
abbrev pub is_lending : Event → ℕ → Bool
is_lending (events.Pair a b) d = b == d
is_lending _ d = false

-- The far volume

-- while level it is the firm volume; while tracks are copied, each that is copied is the firm one
abbrev pub IsFar : MirrorState → List Track → List Track → Type 0
IsFar Level firm far = far ≡ firm
IsFar (Suspended sent) firm far = Unit {0}
IsFar (Copying below) firm far = (t : ℕ) → t < below → track_in far t ≡ track_in firm t

-- it has the tracks of the device
pub record IsFarOf (m : Mounted) (v : LinkView) : Type 0 where
  pub geometry : v.geometry ≡ m.device.store.geometry
  pub tracks : v.tracks ≡ m.device.store.cylinders * 15
  pub long : IfSome v.far (λ far. length far ≡ v.tracks)

-- tracks are copied only after the first look for it
abbrev pub HasCopied : MirrorState → Bool → Type 0
HasCopied (Copying below) copied = copied ≡ true
HasCopied _ copied = Unit {0}

-- devices of the code and the sender among them stand as this one over a run. Before the first copy the far volume is a front of what was told
-- as firm, and where the link tells which puts fail, those before the first that fails
pub record MirrorsAs {V : Type 0} {G : Ghosts V} (sub : code.Subsystem V G) (s : SenderView) (c : MirrorRun) : Type 0 where
  pub stands : StandsAs sub c.run
  pub own : AreOwn sub.devices.items
  pub device : s.device ≡ c.device
  pub mounted : Mounted
  pub there : mounted_in c.run.mounted c.device ≡ Some mounted
  pub one : has_one c.device c.run.mounted ≡ true
  pub home : mounted.device.store.lent ≡ None
  pub firm : mounted.device.store.firm ≡ put_all c.firms c.start
  pub of : IsFarOf mounted s.link
  pub copies : HasCopied s.state c.copied
  pub far : IfSome s.link.far (IsFar s.state mounted.device.store.firm)
  pub first : c.copied ≡ false → IfSome s.link.far (IsLevelled c.firms c.start s.state s.sent)
  pub exact : c.copied ≡ false → IfSome c.calls (λ p. IfSome s.link.far (λ far. IsReached p c.firms c.start s))

-- so does a mirror
abbrev pub IsMirror : {V L : Type 0} {G : Ghosts V} {H : links.Ghosts L} → Mirror V L G H → MirrorRun → Type 0
IsMirror x c = MirrorsAs x.sub x.sender c

-- Copies

-- the next track to be copied, where it isn't level
abbrev pub next_track : MirrorState → Option ℕ
next_track Level = None
next_track (Suspended sent) = Some 0
next_track (Copying below) = Some below

-- a half write of a command, or of one that was cut, is open on the track, or it is loose
abbrev pub is_waiting : {F P H : Type 0} → Store F P H → ℕ → Bool
is_waiting s t = is_written_at s.half t || is_loose s t

abbrev pub waits_at : Option Mounted → ℕ → Bool
waits_at (Some m) t = is_waiting m.device.store t
waits_at None t = false

-- after a call of copy_one
abbrev pub mirror_copied : MirrorRun → Option ℕ → MirrorRun
mirror_copied c None = c
mirror_copied c (Some t) = if waits_at (mounted_in c.run.mounted c.device) t then c else mirror_looked c t

-- the tracks below the last one, or all of them, are copied now
abbrev pub copied_to : ℕ → ℕ → MirrorState
copied_to tracks t = if t + 1 == tracks then Level else Copying (t + 1)
