-- Which firm writes a device of a run has, and how it begins.
use Rattle.std.specs.Prelude.{◌≡◌, ℕ, List, [], ◌∷◌, ◌++◌, Some}
use Rattle.ckd_types.specs.declared.record.Track.{Track}
use Rattle.plain_defs.specs.History.{no_history}
use Rattle.track_image.specs.Image.{Image}
use Rattle.device_outside.specs.Keeper.{Message}
use Rattle.device_defs.specs.Marks.{MarksDevice}
use Rattle.subsystem_defs.specs.declared.event.Event.{Event}
use Rattle.subsystem_defs.specs.Decks.{Firsts, empty_firsts}
use Rattle.subsystem_defs.specs.Happening.{happens}
use Rattle.subsystem_defs.specs.Subsystem.{Mounted, Subsystem, mounted_in}
use Rattle.keeper_laws.specs.Messages.{event_messages}
use Rattle.firm_laws.specs.FirmWrites.{FirmWrite, firm_writes_on}

-- the device of this number is there, and these are its firm writes, where its volume held these tracks first
pub record HasWrittenOn (firsts : Firsts) (ws : List FirmWrite) (s : Subsystem) (n : ℕ) : Type 0 where
  pub mounted : Mounted
  pub there : mounted_in s.mounted n ≡ Some mounted
  pub writes : firm_writes_on firsts mounted.device ≡ ws

-- where it was empty
abbrev pub HasWritten : List FirmWrite → Subsystem → ℕ → Type 0
HasWritten ws s n = HasWrittenOn empty_firsts ws s n

-- nothing has happened to a device yet, and its plain and its firm volume have these tracks
pub record BeginsWith (v : List Track) (d : MarksDevice) : Type 0 where
  pub history : d.history ≡ no_history
  pub plain : d.store.plain ≡ v
  pub firm : d.store.firm ≡ v

-- Events that come one after another

-- the subsystem behind them
abbrev pub behind_all : Subsystem → List Event → Subsystem
behind_all s [] = s
behind_all s (e ∷ es) = behind_all (happens s e).behind es

-- and what keepers are told in them
abbrev pub all_messages : Subsystem → List Event → List (Message Image)
all_messages s [] = []
all_messages s (e ∷ es) = event_messages s e ++ all_messages (happens s e).behind es
