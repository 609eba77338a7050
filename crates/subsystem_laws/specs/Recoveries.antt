-- How a recovery lowers the number of tracks that wait, on all devices.
use Rattle.std.specs.Prelude.{◌≡◌, ◌≢◌, ◌<◌, ◌+◌, ℕ, true, false, ⊤, Option, Some, None}
use Rattle.device_defs.specs.declared.answers.Did.TheVariants.{Recovered, Half}
use Rattle.device_defs.specs.declared.answers.SecondEnd.TheVariants.{Finished}
use Rattle.device_defs.specs.Contents.{by_plain}
use Rattle.device_defs.specs.Marks.{MarksDevice}
use Rattle.device_defs.specs.Owed.{waits}
use Rattle.device_defs.specs.Store.{OfBackground, HalfWrite, tracks_of}
use Rattle.subsystem_defs.specs.declared.end.EventEnd.{EventEnd}
use Rattle.subsystem_defs.specs.declared.end.EventEnd.TheVariants as ends
use Rattle.subsystem_defs.specs.declared.event.Event.TheVariants as events
use Rattle.subsystem_defs.specs.Deeds.{device_in}
use Rattle.subsystem_defs.specs.Happening.{EventHappened}
use Rattle.subsystem_defs.specs.Lines.{Asked, Once, Run, Settle, Logged}
use Rattle.subsystem_defs.specs.Subsystem.{devices_of}
use Rattle.subsystem_laws.specs.Waits.{waiting_in}

-- track t waited before and doesn't behind, and of all others it is as it was
pub record Recovers (t : ℕ) (d y : MarksDevice) : Type 0 where
  pub waited : waits by_plain d.store t ≡ true
  pub done : waits by_plain y.store t ≡ false
  pub others : (q : ℕ) → q ≢ t → waits by_plain y.store q ≡ waits by_plain d.store q

abbrev pub WaitsAsBefore : MarksDevice → MarksDevice → Type 0
WaitsAsBefore d y = (q : ℕ) → waits by_plain y.store q ≡ waits by_plain d.store q

-- track t's recovery is half done: a half write of the background is open on it, and it still waits
pub record IsHalfRecovered (t : ℕ) (d : MarksDevice) : Type 0 where
  pub half : HalfWrite (Unit {0})
  pub is : d.store.half ≡ Some half
  pub background : half.origin ≡ OfBackground
  pub track : half.track ≡ t
  pub within : t < tracks_of d.store
  pub waiting : waits by_plain d.store t ≡ true

-- By an event's end, of the device that was asked, before and behind it, and of how many tracks wait before and behind it. Where a call fails in a second
-- part it may be done, too; a side is lost then, and other tracks may wait for it or be lost
abbrev pub LowersBy : EventEnd → MarksDevice → MarksDevice → ℕ → ℕ → Type 0
LowersBy (ends.Back (Recovered t)) d y before behind = (behind + 1 ≡ before) × Recovers t d y
LowersBy (ends.Back (Half t)) d y before behind = (behind ≡ before) × WaitsAsBefore d y × (waits by_plain d.store t ≡ true → IsHalfRecovered t y)
LowersBy (ends.Second (Finished t)) d y before behind =
    IsHalfRecovered t d → y.store.counts.failed ≡ d.store.counts.failed → (behind + 1 ≡ before) × Recovers t d y
LowersBy _ d y before behind = ⊤

-- the device stays where it is
abbrev pub LowersAt : EventEnd → Option MarksDevice → Option MarksDevice → ℕ → ℕ → Type 0
LowersAt end (Some d) (Some y) before behind = LowersBy end d y before behind
LowersAt end (Some d) None before behind = ⊥
LowersAt end None y before behind = ⊤

-- of the device that an event asks for a step or for work in the background
abbrev pub asks_device : Asked → Option ℕ
asks_device (Once (events.Step n)) = Some n
asks_device (Once (events.Back n)) = Some n
asks_device (Run n) = Some n
asks_device (Settle n) = Some n
asks_device _ = None

abbrev pub LowersIn : Option ℕ → EventHappened → Type 0
LowersIn (Some n) h =
    let before = devices_of h.before in
    let behind = devices_of h.behind in
    LowersAt h.end (device_in before n) (device_in behind n) (waiting_in before) (waiting_in behind)
LowersIn None h = ⊤

-- of an event of a run
abbrev pub LowersWaiting : Logged → Type 0
LowersWaiting x = LowersIn (asks_device x.asked) x.happened
