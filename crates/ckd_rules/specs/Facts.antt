-- Facts about the stance of a running chain, and about what a command makes of it.
use Rattle.std.specs.Prelude.{◌≡◌, ℕ, ◌+◌, ◌*◌, ◌<◌, ◌≤◌, [], List, length, true, false, Ok, IsSome, IfSome, ⊤}
use Rattle.ckd_types.specs.declared.geometry.Geometry.{Geometry}
use Rattle.ckd_types.specs.declared.parameters.Domain.{Domain}
use Rattle.ckd_types.specs.declared.record.Record.{Record}
use Rattle.ckd_types.specs.declared.record.Edit.{Edit}
use Rattle.ckd_types.specs.declared.record.Edit.TheVariants.{Update, Format, Zero}
use Rattle.ckd_types.specs.Parameters.{is_bad_count}
use Rattle.ckd_types.specs.Track.{IsRecord}
use Rattle.ckd_rules.specs.declared.finding.Sought.{Sought}
use Rattle.ckd_rules.specs.declared.finding.Sought.TheVariants.{Here, Onward, Nowhere}
use Rattle.ckd_rules.specs.declared.opening.Opening.{Opening}
use Rattle.ckd_rules.specs.declared.opening.Opening.TheVariants as openings
use Rattle.ckd_rules.specs.declared.order.Look.{Look}
use Rattle.ckd_rules.specs.declared.order.Look.TheVariants.{Finds, Searches, Reads, Writes}
use Rattle.ckd_rules.specs.declared.order.CommandOrder.{CommandOrder}
use Rattle.ckd_rules.specs.declared.order.CommandOrder.TheVariants.{Seeks, Defines, Locates, Looks}
use Rattle.ckd_rules.specs.declared.stance.Stance.{Stance}
use Rattle.ckd_rules.specs.declared.turned.Turned.{Turned}
use Rattle.ckd_rules.specs.declared.turned.Turned.TheVariants as turns
use Rattle.ckd_rules.specs.Finding.{track_after}
use Rattle.ckd_rules.specs.Formats.{has_room_behind}
use Rattle.ckd_rules.specs.Reads.{record_at}

-- one more command may be counted
pub record HasRoom (s : Stance) : Type 0 where
  pub commands : s.commands < 4096
  pub moved : s.moved < 1048576

-- the stance is on a device with this many tracks
pub record Stands (tracks : ℕ) (s : Stance) : Type 0 where
  pub track : s.track < tracks
  pub extent : IfSome s.extent (λ e. e.last < tracks)
  pub left : IsSome s.domain → 0 < s.left
  pub passes : s.passes ≤ 1

-- a command left a stance on its track, and was counted
pub record Stays (old new : Stance) : Type 0 where
  pub track : new.track ≡ old.track
  pub extent : new.extent ≡ old.extent
  pub left : IsSome new.domain → 0 < new.left
  pub passes : new.passes ≤ 1
  pub commands : new.commands ≡ old.commands + 1

-- a command is on another track, and was not counted yet
pub record Moves (old new : Stance) : Type 0 where
  pub extent : new.extent ≡ old.extent
  pub left : IsSome new.domain → 0 < new.left
  pub passes : new.passes ≤ 1
  pub commands : new.commands ≡ old.commands
  pub moved : new.moved ≡ old.moved

-- on a device with this many tracks, wherever the old stance is
pub record Behind (tracks : ℕ) (old new : Stance) : Type 0 where
  pub stands : Stands tracks new
  pub commands : new.commands ≡ old.commands + 1

pub record Before (tracks : ℕ) (old new : Stance) : Type 0 where
  pub stands : Stands tracks new
  pub commands : new.commands ≡ old.commands
  pub moved : new.moved ≡ old.moved

-- of the record, where it is on this track; of the next track, where the command goes on
abbrev pub IsHere : Sought → (ℕ → Type 0) → Type 0
IsHere (Here i passes) P = P i
IsHere _ P = ⊤

abbrev pub IsOnward : Sought → (ℕ → Type 0) → Type 0
IsOnward (Onward t) P = P t
IsOnward _ P = ⊤

-- where the record is on this track, its index was passed at most once
abbrev pub PassedOnce : Sought → Type 0
PassedOnce (Here i passes) = passes ≤ 1
PassedOnce _ = ⊤

-- what a locate record looks for is on the device
pub record IsSought (tracks : ℕ) (d : Domain) : Type 0 where
  pub seek : d.seek < tracks
  pub count : is_bad_count d.operation d.count ≡ false

abbrev pub IsLook : ℕ → Look → Type 0
IsLook tracks (Finds d) = IsSought tracks d
IsLook tracks (Searches x) = ⊤
IsLook tracks (Reads r) = ⊤
IsLook tracks (Writes w) = ⊤

-- an order goes to a track of the device
abbrev pub IsOrder : ℕ → CommandOrder → Type 0
IsOrder tracks (Seeks t) = t < tracks
IsOrder tracks (Defines e) = e.last < tracks
IsOrder tracks (Locates d) = IsSought tracks d
IsOrder tracks (Looks look) = IsLook tracks look
IsOrder tracks _ = ⊤

-- how a command begins leaves a stance on the device
abbrev pub Opens : ℕ → Stance → Stance → Opening → Type 0
Opens tracks old new (openings.Over e) = Behind tracks old new
Opens tracks old new (openings.Looks look) = Before tracks old new × IsLook tracks look
Opens tracks old new (openings.Asks act) = Before tracks old new

-- an update keeps the lengths of its record
pub record IsUpdate (records : List Record) (i : ℕ) (key body : List ℕ) : Type 0 where
  pub place : i < length records
  pub key_length : length key ≡ length (record_at records i).key
  pub body_length : length body ≡ length (record_at records i).body

-- a format puts a record behind one that is there, and the capacity holds it
pub record IsFormat (g : Geometry) (records : List Record) (after : ℕ) (added : Record) : Type 0 where
  pub place : after < length records
  pub ranges : IsRecord added
  pub room : has_room_behind g records after (length added.key) (length added.body) ≡ true

-- record 0 has no key and eight bytes of data
pub record IsZero (added : Record) : Type 0 where
  pub key : length added.key ≡ 0
  pub body : length added.body ≡ 8

-- a track that fits still fits with the edit
abbrev pub Suits : Geometry → List Record → Edit → Type 0
Suits g records (Update index key body) = IsUpdate records index key body
Suits g records (Format after added) = IsFormat g records after added
Suits g records (Zero added) = IsZero added

-- it is on the track behind this one
pub record GoesOn (old new : Stance) : Type 0 where
  pub next : track_after old.extent old.track ≡ Ok new.track
  pub moves : Moves old new

-- a write ended on its track, goes on to the track behind it, or edits it and sends nothing
abbrev pub Turns : Geometry → List Record → Stance → Stance → Turned → Type 0
Turns g records old new (turns.Ended e) = Stays old new
Turns g records old new turns.Onward = GoesOn old new
Turns g records old new (turns.Edits edit e) = Suits g records edit × Stays old new × (e.sent ≡ [])

-- a search or a read ended on its track or goes on to the track behind it, and edits nothing
abbrev pub LooksOn : Stance → Stance → Turned → Type 0
LooksOn old new (turns.Ended e) = Stays old new
LooksOn old new turns.Onward = GoesOn old new
LooksOn old new (turns.Edits edit e) = ⊥

-- it is on the track behind that of the old stance, on a device with this many tracks
pub record GoesFurther (tracks : ℕ) (old new : Stance) : Type 0 where
  pub next : new.track ≡ old.track + 1
  pub before : Before tracks old new

-- on a device with this many tracks
abbrev pub TurnsOn : Geometry → ℕ → List Record → Stance → Stance → Turned → Type 0
TurnsOn g tracks records old new (turns.Ended e) = Behind tracks old new
TurnsOn g tracks records old new turns.Onward = GoesFurther tracks old new
TurnsOn g tracks records old new (turns.Edits edit e) = Suits g records edit × Behind tracks old new × (e.sent ≡ [])

-- the chain goes on at a word, and one more command may be counted
pub record IsRunning (index : ℕ) (s : Stance) : Type 0 where
  pub word : index < 65536
  pub room : HasRoom s
