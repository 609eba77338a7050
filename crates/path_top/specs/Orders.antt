-- The orders among event lines, which are done beside the paths: each FAIL, REPAIR, REPLACE, SUSPEND and RESUME line, in their order.
use Rattle.std.specs.Prelude.{Bool, true, false, List, Option, Some, None, if◌then◌else◌}
use Rattle.std.specs.List.{filter}
use Rattle.deck_plan.specs.declared.event.EventLine.{EventLine}
use Rattle.deck_plan.specs.declared.event.EventLine.TheVariants as lines
use Rattle.path_threads.specs.declared.orders.Order.{Order}
use Rattle.path_threads.specs.declared.orders.Order.TheVariants.{Event, Replace}
use Rattle.subsystem_defs.specs.declared.event.Event as declared
use Rattle.subsystem_defs.specs.declared.event.Event.TheVariants as events

abbrev pub is_order : EventLine → Bool
is_order lines.FailCache = true
is_order lines.FailStore = true
is_order (lines.FailVolume d side) = true
is_order lines.RepairCache = true
is_order lines.RepairStore = true
is_order (lines.Replace d side) = true
is_order (lines.Suspend a) = true
is_order (lines.Resume a) = true
is_order _ = false

abbrev pub order_line : EventLine → Option EventLine
order_line e = if is_order e then Some e else None

abbrev pub orders_in : List EventLine → List EventLine
orders_in es = filter is_order es

-- the line that asks for an event
abbrev pub event_line : declared.Event → EventLine
event_line (events.Start path d) = lines.Start path d
event_line (events.Step d) = lines.Step d
event_line (events.Back d) = lines.Back d
event_line (events.Reset path d) = lines.Reset path d
event_line events.FailCache = lines.FailCache
event_line events.FailStore = lines.FailStore
event_line (events.FailVolume d side) = lines.FailVolume d side
event_line events.RepairCache = lines.RepairCache
event_line events.RepairStore = lines.RepairStore
event_line (events.Pair a b) = lines.Pair a b
event_line (events.Suspend a) = lines.Suspend a
event_line (events.Resume a) = lines.Resume a
event_line events.Power = lines.Power

-- and for an order
abbrev pub line_of : {M : Type 0} → Order M → EventLine
line_of (Event e) = event_line e
line_of (Replace d side maker) = lines.Replace d side
