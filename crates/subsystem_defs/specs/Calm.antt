-- Whole subsystems and calm runs: each failure comes after the last one was repaired.
use Rattle.std.specs.Prelude.{
  ℕ,
  ◌+◌,
  ◌-◌,
  ◌==◌,
  ◌&&◌,
  ◌||◌,
  not,
  nat_le,
  Bool,
  true,
  false,
  List,
  [],
  ◌∷◌,
  Option,
  Some,
  None,
  is_some,
  if◌then◌else◌,
}
use Rattle.track_table.specs.Tracks.{least}
use Rattle.device_defs.specs.Contents.{by_plain}
use Rattle.device_defs.specs.Marks.{MarksDevice, MarksStore}
use Rattle.device_defs.specs.Owed.{waiting_count}
use Rattle.device_defs.specs.Store.{tracks_of, stale_at, half_is}
use Rattle.subsystem_defs.specs.declared.end.EventEnd.{EventEnd}
use Rattle.subsystem_defs.specs.declared.end.EventEnd.TheVariants as ends
use Rattle.subsystem_defs.specs.declared.event.Event.{Event}
use Rattle.subsystem_defs.specs.declared.event.Event.TheVariants as events
use Rattle.subsystem_defs.specs.Decks.{is_same}
use Rattle.subsystem_defs.specs.Deeds.{device_in}
use Rattle.subsystem_defs.specs.Lines.{Asked, Once, Logged}
use Rattle.subsystem_defs.specs.Subsystem.{Subsystem, devices_of}

-- Whole

-- stale, but not as the other part of an open half write is still to come
abbrev pub is_behind : MarksStore → ℕ → Bool
is_behind s t = (stale_at s.a t || stale_at s.b t) && not (half_is s.half t)

abbrev pub has_all_sides : MarksStore → Bool
has_all_sides s = s.a.up && (s.b.up || not s.paired)

abbrev pub has_whole_sides : MarksStore → Bool
has_whole_sides s = has_all_sides s && not s.held && not (is_some (least (tracks_of s) (is_behind s)))

-- no track waits, and unless it is lent all of its sides are up, none is held, and none is behind
abbrev pub is_whole_device : MarksDevice → Bool
is_whole_device d = (waiting_count by_plain d.store == 0) && (is_some d.store.lent || has_whole_sides d.store)

abbrev pub are_whole : List MarksDevice → Bool
are_whole [] = true
are_whole (d ∷ ds) = is_whole_device d && are_whole ds

-- everything is repaired
abbrev pub is_whole : Subsystem → Bool
is_whole s = s.pool.cache_up && s.pool.store_up && are_whole (devices_of s)

-- Losses

abbrev pub is_done : EventEnd → Bool
is_done ends.Done = true
is_done _ = false

abbrev pub is_loss_event : Event → Bool
is_loss_event events.FailCache = true
is_loss_event events.FailStore = true
is_loss_event (events.FailVolume d side) = true
is_loss_event events.Power = true
is_loss_event _ = false

abbrev pub asks_loss : Asked → Bool
asks_loss (Once e) = is_loss_event e
asks_loss _ = false

-- an order for a loss that wasn't refused
abbrev pub ordered : Logged → ℕ
ordered x = if asks_loss x.asked && is_done x.happened.end then 1 else 0

-- the calls that failed in an event, on volumes of pairs or on volumes that are alone
abbrev pub failed_calls : Bool → List MarksDevice → List MarksDevice → ℕ
failed_calls paired (x ∷ xs) (y ∷ ys) =
    (if is_same x.store.paired paired then y.store.counts.failed - x.store.counts.failed else 0) + failed_calls paired xs ys
failed_calls paired _ _ = 0

abbrev pub failed_in : Bool → Logged → ℕ
failed_in paired x = failed_calls paired (devices_of x.happened.before) (devices_of x.happened.behind)

abbrev pub losses_in : Logged → ℕ
losses_in x = ordered x + failed_in true x

-- Calm

abbrev pub is_alone : Option MarksDevice → Bool
is_alone (Some d) = not d.store.paired
is_alone None = false

abbrev pub fails_alone_by : Subsystem → Event → Bool
fails_alone_by s (events.FailVolume d side) = is_alone (device_in (devices_of s) d)
fails_alone_by s _ = false

abbrev pub fails_alone_of : Subsystem → Asked → Bool
fails_alone_of s (Once e) = fails_alone_by s e
fails_alone_of s _ = false

-- a volume that is alone is lost, by an order or by a call that failed
abbrev pub fails_alone : Logged → Bool
fails_alone x = (fails_alone_of x.happened.before x.asked && is_done x.happened.end) || not (failed_in false x == 0)

abbrev pub is_calm_event : Logged → Bool
is_calm_event x =
    nat_le (losses_in x) 1 && ((losses_in x == 0) || is_whole x.happened.before) && not (fails_alone x)

-- at most one loss in an event, and only where everything is repaired
unfoldable pub is_calm : List Logged → Bool
is_calm [] = true
is_calm (x ∷ xs) = is_calm_event x && is_calm xs
