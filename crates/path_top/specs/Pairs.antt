-- The event lines that a run of paths uses: the PAIR lines that stand before the first START line, in their order, and orders.
use Rattle.std.specs.Prelude.{ℕ, ◌+◌, ◌-◌, Bool, true, false, List, [], ◌∷◌, length, map, count_by, fold, Option, if◌then◌else◌}
use Rattle.deck_plan.specs.declared.event.EventLine.{EventLine}
use Rattle.deck_plan.specs.declared.event.EventLine.TheVariants as lines
use Rattle.ckd_types.specs.Volume.{IsVolume}
use Rattle.deck_text.specs.declared.line.DeviceLine.{DeviceLine}
use Rattle.deck_text.specs.DeckLines.{DeckLines}
use Rattle.subsystem_defs.specs.declared.event.Event.TheVariants as events
use Rattle.subsystem_defs.specs.Decks.{Firsts, empty_firsts, opened_on}
use Rattle.subsystem_defs.specs.Happening.{happens}
use Rattle.subsystem_defs.specs.Subsystem.{Mounted, Subsystem}
use Rattle.path_top.specs.Orders.{is_order}

abbrev pub is_start : EventLine → Bool
is_start (lines.Start path d) = true
is_start _ = false

abbrev pub is_pair : EventLine → Bool
is_pair (lines.Pair a b) = true
is_pair _ = false

abbrev pub before_start : List EventLine → List EventLine
before_start [] = []
before_start (e ∷ es) = if is_start e then [] else e ∷ before_start es

-- all others are unused
abbrev pub unused_in : List EventLine → ℕ
unused_in es = length es - (count_by is_pair (before_start es) + count_by is_order es)

-- what a line leaves of some devices
abbrev pub behind_line : Subsystem → EventLine → Subsystem
behind_line s (lines.Pair a b) = (happens s (events.Pair a b)).behind
behind_line s _ = s

abbrev pub behind_pairs : Subsystem → List EventLine → Subsystem
behind_pairs s es = fold behind_line s (before_start es)

-- the devices of a deck behind them, on volumes that hold these tracks first
abbrev pub paired_on : Firsts → DeckLines → Subsystem
paired_on firsts deck = behind_pairs (opened_on firsts deck) deck.events

-- on empty ones
abbrev pub paired : DeckLines → Subsystem
paired deck = paired_on empty_firsts deck

-- what these volumes hold fits the devices of these lines
abbrev pub AllFit : Firsts → List DeviceLine → Type 0
AllFit firsts [] = Unit {0}
AllFit firsts (d ∷ ds) = IsVolume d.geometry d.cylinders (firsts d.number d.cylinders) × AllFit firsts ds

-- of each device, to whom its volume is lent then
abbrev pub lent_of : Mounted → Option ℕ
lent_of m = m.device.store.lent

abbrev pub all_lent : Subsystem → List (Option ℕ)
all_lent s = map lent_of s.mounted
