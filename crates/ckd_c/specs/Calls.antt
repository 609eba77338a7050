-- What a call comes to, between the subsystem before it and behind it.
use Rattle.std.specs.Prelude.{
  ◌≡◌,
  ℕ,
  ◌==◌,
  ◌<◌,
  ◌++◌,
  ◌||◌,
  List,
  [],
  ◌∷◌,
  Option,
  Some,
  None,
  Result,
  Ok,
  Err,
  IfSome,
  Bool,
  true,
  false,
  length,
  take,
  min,
  is_some,
  replicate,
  slice_get,
  if◌then◌else◌,
}
use Rattle.ckd_types.specs.declared.channel.Ccw.{Ccw}
use Rattle.ckd_types.specs.declared.channel.CommandEnd.{CommandEnd}
use Rattle.ckd_types.specs.declared.channel.Note.{Note}
use Rattle.ckd_types.specs.declared.channel.Note.TheVariants as notes
use Rattle.ckd_types.specs.declared.sense.Sense.{Sense}
use Rattle.ckd_types.specs.declared.geometry.Geometry.{Geometry}
use Rattle.ckd_types.specs.declared.geometry.Geometry.TheVariants as geometries
use Rattle.ckd_types.specs.declared.paths.Side.{Side}
use Rattle.ckd_types.specs.declared.paths.Side.TheVariants.{A, B}
use Rattle.deck_plan.specs.Plans.{no_plans}
use Rattle.device_outside.specs.declared.volume.Volume as volumes
use Rattle.frame_pool.specs.Shared.{Shared}
use Rattle.device_outside.specs.Disk.{new_disk}
use Rattle.device_outside.specs.Pool.{new_pool}
use Rattle.device_defs.specs.Contents.{contents}
use Rattle.device_defs.specs.Owed.{waiting_count}
use Rattle.device_defs.specs.Store.{frame_at, patch_at, tracks_of}
use Rattle.loss_model.specs.Lost.{lost_tracks}
use Rattle.track_table.specs.Tracks.{count_below}
use Rattle.device_core.specs.declared.device.Device as core
use Rattle.device_core.specs.declared.forget.NotForgotten.{NotForgotten}
use Rattle.device_core.specs.State.{device_of, last_end, opened_device, volume_a, volume_b}
use Rattle.subsystem_defs.specs.declared.event.Event.{Event}
use Rattle.subsystem_defs.specs.declared.event.Event.TheVariants as events
use Rattle.subsystem_core.specs.declared.end.EventEnd.{EventEnd}
use Rattle.subsystem_core.specs.declared.end.EventEnd.TheVariants as ends
use Rattle.subsystem_core.specs.declared.subsystem.Subsystem as core_subsystem
use Rattle.subsystem_core.specs.Comes.{AreStill, Came, Changes, Replaced, Unpaired}
use Rattle.subsystem_core.specs.Devices.{device_at, number_of}
use Rattle.subsystem_core.specs.Planned.{HasForgotten, IsPlanned}
use Rattle.subsystem_core.specs.Standing.{StayForgetting, StayPlain}
use Rattle.ckd_c.specs.declared.code.Code.{Code}
use Rattle.ckd_c.specs.declared.code.Code.TheVariants as codes
use Rattle.ckd_c.specs.declared.ending.CkdCounts.{CkdCounts}
use Rattle.ckd_c.specs.declared.ending.CkdEnd.{CkdEnd}
use Rattle.ckd_c.specs.declared.opened.Opened.{Opened}
use Rattle.ckd_c.specs.declared.volume.HostVolume.{HostVolume}
use Rattle.ckd_c.specs.declared.volume.HostVolume.TheVariants.{Memory}
use Rattle.ckd_c.specs.declared.words.CkdCcw.{CkdCcw}
use Rattle.ckd_c.specs.contracts.volume.HostVolumeVolume.TheImpl.{ghosts}
use Rattle.ckd_c.specs.Codes as numbers
use Rattle.ckd_c.specs.Codes.{IsRefusal, code_of, code_of_end, did_number}

abbrev pub Device : Type 0
Device = core.Device HostVolume ghosts

abbrev pub Subsystem : Type 0
Subsystem = core_subsystem.Subsystem HostVolume ghosts

abbrev pub How : Type 1
How = Code → Opened → Opened → Type 0

-- Any call

-- the number is that of a code, and by that code the subsystem went so
pub record Answered (how : How) (x : Opened) (n : ℕ) (y : Opened) : Type 0 where
  pub code : Code
  pub is : n ≡ numbers.number_of code
  pub came : how code x y

abbrev pub WentTo : How → Opened → Option Opened → ℕ → Type 0
WentTo how x None n = ⊥
WentTo how x (Some y) n = Answered how x n y

-- a closed one stays closed, and the call is refused; an open one stays open
abbrev pub Comes : How → Option Opened → Option Opened → ℕ → Type 0
Comes how None new n = (new ≡ None) × (n ≡ numbers.number_of codes.Closed)
Comes how (Some x) new n = WentTo how x new n

-- the same pool, and the same devices on the same volumes
abbrev pub IsSame : Opened → Opened → Type 0
IsSame x y = (y.subsystem.pool ≡ x.subsystem.pool) × AreStill x.subsystem.devices.items y.subsystem.devices.items

-- a call was refused and nothing changed, or it went so
pub data OrRefused (how : How) (code : Code) (x y : Opened) : Type 0 where
  refused : IsRefusal code → IsSame x y → OrRefused how code x y
  went : how code x y → OrRefused how code x y

abbrev pub WhenDone : (Opened → Opened → Type 0) → How
WhenDone how code x y = (code ≡ codes.Done) × how x y

-- it was refused and nothing changed, or it is done
abbrev pub Tries : (Opened → Opened → Type 0) → How
Tries how = OrRefused (WhenDone how)

-- the same of what is tried within
abbrev pub TriesTo : (Opened → Opened → Type 0) → Result (Unit {0}) Code → Opened → Opened → Type 0
TriesTo how (Ok u) x y = how x y
TriesTo how (Err code) x y = IsRefusal code × IsSame x y

abbrev pub code_told : Result (Unit {0}) Code → Code
code_told (Ok u) = codes.Done
code_told (Err code) = code

-- it is there, and is so
abbrev pub Has : {A : Type 0} → (A → Type 0) → Option A → Type 0
Has is None = ⊥
Has is (Some a) = is a

-- the device of this number is there, and is so
abbrev pub AtDevice : ℕ → (Device → Type 0) → Opened → Type 0
AtDevice n is x = Has is (device_at x.subsystem.devices.items n)

-- nothing is changed, and this is told
abbrev pub Reads : (Opened → Type 0) → Opened → Opened → Type 0
Reads tells x y = (y ≡ x) × tells x

abbrev pub Unchanged : How
Unchanged code x y = y ≡ x

-- Events

-- where memory was had, the devices that stood beside plain devices still do so
abbrev pub KeepsPlain : Option EventEnd → Opened → Opened → Type 0
KeepsPlain (Some end) x y = StayPlain x.subsystem.devices.items y.subsystem.devices.items
KeepsPlain None x y = Unit {0}

-- the event came with an answer, whose code this is, and of which this is told
pub record EventCame (e : Event) (tells : EventEnd → Type 0) (code : Code) (x y : Opened) : Type 0 where
  pub answer : Option EventEnd
  pub is : code ≡ code_of answer
  pub came : Came e x.subsystem answer y.subsystem
  pub says : IfSome answer tells
  pub plain : KeepsPlain answer x y

abbrev pub Asks : Event → (EventEnd → Type 0) → How
Asks e tells = OrRefused (EventCame e tells)

abbrev pub Silent : EventEnd → Type 0
Silent end = Unit {0}

abbrev pub TellsOrdinal : ℕ → EventEnd → Type 0
TellsOrdinal n (ends.Started m) = n ≡ m
TellsOrdinal n _ = Unit {0}

abbrev pub TellsDid : ℕ → EventEnd → Type 0
TellsDid n (ends.Back did) = n ≡ did_number did
TellsDid n (ends.Second step) = n ≡ 9
TellsDid n _ = Unit {0}

abbrev pub side_of : ℕ → Option Side
side_of n = if n == 0 then Some A else (if n == 1 then Some B else None)

-- it is the number of a side, and with that side it went so
abbrev pub OnSide : ℕ → (Side → How) → How
OnSide n how code x y = Has (λ (side : Side). how side code x y) (side_of n)

abbrev pub AsksOnSide : ℕ → (Side → Event) → How
AsksOnSide n e = OrRefused (OnSide n (λ (side : Side). EventCame (e side) Silent))

-- some steps of a device, each with its answer
pub data Steps (n : ℕ) (s : Subsystem) : Subsystem → Type 0 where
  no_step : Steps n s s
  one_more : {t u : Subsystem} (answer : Option EventEnd) → Steps n s t → Came (events.Step n) t answer u → Steps n s u

abbrev pub IsOver : ℕ → Opened → Type 0
IsOver n = AtDevice n (λ (d : Device). is_some (device_of d).history.running ≡ false)

-- done: no program runs on the device
abbrev pub RunsTo : ℕ → How
RunsTo n code x y = Steps n x.subsystem y.subsystem × (code ≡ codes.Done → IsOver n y)

abbrev pub Runs : ℕ → How
Runs n = OrRefused (RunsTo n)

-- Orders for which a volume is handed in

abbrev pub IsFor : ℕ → Opened → HostVolume → Type 0
IsFor n x volume = IfSome (device_at x.subsystem.devices.items n) (λ (d : Device). (ghosts.view volume).tracks ≡ tracks_of (device_of d).store)

-- with some volume it ended so
pub record WithVolume (how : HostVolume → Subsystem → EventEnd → Subsystem → Type 0) (code : Code) (x y : Opened) : Type 0 where
  pub volume : HostVolume
  pub end : EventEnd
  pub is : code ≡ code_of_end end
  pub came : how volume x.subsystem end y.subsystem

abbrev pub Replaces : ℕ → Side → How
Replaces n side = WithVolume (λ (v : HostVolume) (s : Subsystem) (end : EventEnd) (t : Subsystem). Replaced n side v (device_at s.devices.items n) s end t)

abbrev pub Parts : ℕ → How
Parts n = WithVolume (λ (v : HostVolume) (s : Subsystem) (end : EventEnd) (t : Subsystem). Unpaired n v (device_at s.devices.items n) s end t)

-- Plans

-- a word, with the bytes that lie where it points
abbrev pub ccw_of : CkdCcw → Ccw
ccw_of w = record { command = w.command; flags = w.flags; count = w.count; given = w.given.now }

abbrev pub OneChanges : ℕ → (Device → Device → Type 0) → Opened → Opened → Type 0
OneChanges n how x y = (y.subsystem.pool ≡ x.subsystem.pool) × Changes n how x.subsystem.devices.items y.subsystem.devices.items

-- the path has the program of these words behind those that it had, and the devices that stood beside plain devices still do so
abbrev pub Plans : ℕ → ℕ → List Ccw → Opened → Opened → Type 0
Plans n path program x y = OneChanges n (IsPlanned path program) x y × StayPlain x.subsystem.devices.items y.subsystem.devices.items

abbrev pub forgotten_well : Result (Unit {0}) NotForgotten
forgotten_well = Ok tt

-- the device forgot, and with what was put away of it each stands as it stood
abbrev pub Forgets : ℕ → Opened → Opened → Type 0
Forgets n x y = OneChanges n HasForgotten x y × StayForgetting n forgotten_well x.subsystem.devices.items y.subsystem.devices.items

-- What is told

abbrev pub note_number : Note → ℕ
note_number notes.Plain = 0
note_number notes.IncorrectLength = 1
note_number notes.Limit = 2

abbrev pub flag_of : Bool → ℕ
flag_of true = 1
flag_of false = 0

abbrev pub sense_of : Option Sense → List ℕ
sense_of (Some s) = s.bytes
sense_of None = replicate 32 0

abbrev pub end_told : CommandEnd → CkdEnd
end_told e = record {
  sent = length e.sent;
  index = e.index;
  residual = e.residual;
  status = e.status.0;
  note = note_number e.note;
  over = flag_of e.over;
  has_sense = flag_of (is_some e.sense);
  sense = sense_of e.sense;
}

-- as many of the bytes as there is room for
abbrev pub CopiesFront : List ℕ → ℕ → List ℕ → List ℕ → Type 0
CopiesFront bytes count old new = (count ≡ min (length bytes) (length old)) × (take count new ≡ take count bytes)

-- the device has an end, and this is told of it; or it has none; or it isn't there
pub data TellsLast (n : ℕ) (tells : CommandEnd → Type 0) (code : Code) (x y : Opened) : Type 0 where
  last_told : y ≡ x → code ≡ codes.Done → AtDevice n (λ (d : Device). Has tells (last_end d)) x → TellsLast n tells code x y
  no_last : y ≡ x → code ≡ codes.NoEnd → AtDevice n (λ (d : Device). last_end d ≡ None) x → TellsLast n tells code x y
  not_there : y ≡ x → IsRefusal code → TellsLast n tells code x y

abbrev pub TellsCounts : CkdCounts → Device → Type 0
TellsCounts c d = let s = (device_of d).store in
    (c.reads ≡ s.counts.reads) × (c.writes ≡ s.counts.writes) × (c.lost ≡ length (lost_tracks s.lost)) × (c.waiting ≡ waiting_count contents s)
    × (c.patched ≡ count_below 65535 (λ t. is_some (patch_at s t))) × (c.framed ≡ count_below 65535 (λ t. is_some (frame_at s t))) × (c.cylinders ≡ s.cylinders)

-- Devices that are added

abbrev pub geometry_of : ℕ → Option Geometry
geometry_of kind = if kind == 3380 then Some geometries.D3380 else (if kind == 3390 then Some geometries.D3390 else None)

-- the numbers of all of them are below this one, and none is lent
abbrev pub StandsBehind : List Device → ℕ → Type 0
StandsBehind ds n = (i : ℕ) (d : Device) → slice_get ds i ≡ Some d → (number_of d < n) × ((device_of d).store.lent ≡ None)

-- a device more, on this volume alone, on which nothing happened yet, behind those that were there
pub record IsAdded (n : ℕ) (geometry : Geometry) (cylinders : ℕ) (volume : HostVolume) (x y : Opened) : Type 0 where
  pub device : Device
  pub is : device_of device ≡ opened_device n geometry cylinders no_plans
  pub volumes : (volume_a device ≡ Some volume) × (volume_b device ≡ None)
  pub devices : y.subsystem.devices.items ≡ x.subsystem.devices.items ++ device ∷ []
  pub pool : y.subsystem.pool ≡ x.subsystem.pool

-- its volume is of empty tracks, and these calls of it fail
abbrev pub AddsMemory : ℕ → ℕ → ℕ → List ℕ → List ℕ → Opened → Opened → Type 0
AddsMemory n kind cylinders reads writes x y =
    Has (λ (g : Geometry). IsAdded n g cylinders (Memory (new_disk cylinders reads writes)) x y) (geometry_of kind)

-- of an image it isn't known which
pub record AddsImage (n : ℕ) (x y : Opened) : Type 0 where
  pub geometry : Geometry
  pub cylinders : ℕ
  pub volume : HostVolume
  pub added : IsAdded n geometry cylinders volume x y

-- Open and close

-- no devices yet, and a new pool
abbrev pub IsEmpty : ℕ → ℕ → Opened → Type 0
IsEmpty frames slots y = (y.subsystem.devices.items ≡ []) × (y.subsystem.pool ≡ record { pool = new_pool frames slots; denials = 0 })

-- none was open, and where one is now it is a new one; or one was, and stays as it is
abbrev pub OpensTo : (Opened → Type 0) → Option Opened → ℕ → Type 0
OpensTo new None n = Unit {0}
OpensTo new (Some y) n = (n ≡ numbers.number_of codes.Done) × new y

abbrev pub Opens : (Opened → Type 0) → Option Opened → Option Opened → ℕ → Type 0
Opens new None behind n = OpensTo new behind n
Opens new (Some x) behind n = (behind ≡ Some x) × (n ≡ numbers.number_of codes.Open)

abbrev pub any_runs : List Device → Bool
any_runs [] = false
any_runs (d ∷ ds) = is_some (device_of d).history.running || any_runs ds

-- one of whose devices runs a program stays open, as it is; else none is open behind it
abbrev pub ClosesBy : Bool → Opened → Option Opened → ℕ → Type 0
ClosesBy true x behind n = (behind ≡ Some x) × (n ≡ numbers.number_of codes.Running)
ClosesBy false x behind n = (behind ≡ None) × (n ≡ numbers.number_of codes.Done)

abbrev pub Closes : Option Opened → Option Opened → ℕ → Type 0
Closes None behind n = (behind ≡ None) × (n ≡ numbers.number_of codes.Closed)
Closes (Some x) behind n = ClosesBy (any_runs x.subsystem.devices.items) x behind n
