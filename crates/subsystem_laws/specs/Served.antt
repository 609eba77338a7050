-- The decks of which it is proved that in their run each device's history is one of a plain device after every event.
use Rattle.std.specs.Prelude.{◌≤◌, All, ⊤}
use Rattle.deck_plan.specs.declared.event.EventLine.{EventLine}
use Rattle.deck_text.specs.declared.line.DeviceLine.{DeviceLine}
use Rattle.deck_text.specs.DeckLines.{DeckLines}
use Rattle.subsystem_defs.specs.declared.event.Event.{Event}
use Rattle.subsystem_defs.specs.declared.event.Event.TheVariants as events
use Rattle.subsystem_defs.specs.Lines.{Asked, Once, asked_by}

-- a path is one of four
abbrev pub IsServedEvent : Event → Type 0
IsServedEvent (events.Start path d) = (1 ≤ path) × (path ≤ 4)
IsServedEvent _ = ⊤

abbrev pub IsServed : Asked → Type 0
IsServed (Once e) = IsServedEvent e
IsServed _ = ⊤

-- each device has a cylinder. In every deck that was read that is so, and so it is with the paths
pub record IsServedDeck (deck : DeckLines) : Type 0 where
  pub devices : All (λ (d : DeviceLine). 1 ≤ d.cylinders) deck.devices
  pub events : All (λ (line : EventLine). IsServed (asked_by line)) deck.events
