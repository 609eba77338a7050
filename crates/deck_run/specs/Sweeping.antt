-- What an event of all devices brings to them, and what is told of it.
use Rattle.std.specs.Prelude.{◌≡◌, Bool, List, [], ◌∷◌, ◌++◌, length, map}
use Rattle.device_outside.specs.declared.volume.Volume.{Ghosts}
use Rattle.device_core.specs.declared.device.Device.{Device}
use Rattle.device_core.specs.State.{device_of}
use Rattle.report_text.specs.declared.line.ReportLine.{ReportLine}
use Rattle.report_text.specs.declared.line.ReportLine.TheVariants as lines
use Rattle.report_text.specs.declared.order.Order.{Order}
use Rattle.report_text.specs.declared.order.Order.TheVariants as orders
use Rattle.run_report.specs.Answers.{order_answer}
use Rattle.run_report.specs.Events.{lines_of}
use Rattle.run_report.specs.OneDevice.{power_lines_by}
use Rattle.subsystem_core.specs.declared.end.EventEnd as core
use Rattle.subsystem_core.specs.declared.end.EventEnd.TheVariants as seen
use Rattle.subsystem_core.specs.declared.subsystem.Subsystem.{Subsystem}
use Rattle.subsystem_defs.specs.declared.end.EventEnd.{EventEnd}
use Rattle.subsystem_defs.specs.declared.end.EventEnd.TheVariants as ends
use Rattle.subsystem_defs.specs.declared.event.Event.{Event}
use Rattle.subsystem_defs.specs.declared.event.Event.TheVariants as events
use Rattle.subsystem_defs.specs.Beside.{behind_first, has_power, loose_count}
use Rattle.subsystem_defs.specs.Happening.{happens}
use Rattle.subsystem_defs.specs.Lines.{Once, logged}
use Rattle.subsystem_defs.specs.Subsystem as runs
use Rattle.deck_run.specs.declared.orders_of_all.Stock.{Stock}
use Rattle.deck_run.specs.Loosening.{acts_when, all_loosed, is_quiet}

-- the events of all devices
abbrev pub IsOpenOfAll : Event → Type 0
IsOpenOfAll events.FailCache = Unit {0}
IsOpenOfAll events.FailStore = Unit {0}
IsOpenOfAll events.RepairCache = Unit {0}
IsOpenOfAll events.RepairStore = Unit {0}
IsOpenOfAll events.Power = Unit {0}
IsOpenOfAll _ = ⊥

-- the end of an order, which no device is asked for
abbrev pub order_end : core.EventEnd → EventEnd
order_end (seen.Pending n) = ends.Pending n
order_end (seen.Refused fault) = ends.Refused fault
order_end _ = ends.Done

-- the order by which it is told
abbrev pub order_of : Event → Order
order_of events.FailCache = orders.FailCache
order_of events.FailStore = orders.FailStore
order_of events.RepairCache = orders.RepairCache
order_of events.RepairStore = orders.RepairStore
order_of _ = orders.Power

abbrev pub no_stock : Stock
no_stock = record { loose = 0; items = 0 }

abbrev pub head_or : List Stock → Stock
head_or [] = no_stock
head_or (s ∷ ss) = s

abbrev pub tail_of : List Stock → List Stock
tail_of [] = []
tail_of (s ∷ ss) = ss

module _ {V : Type 0} {G : Ghosts V} where
  -- what is counted of a device before an event
  abbrev pub stock_of : Device V G → Stock
  stock_of x = record { loose = loose_count (device_of x).store; items = length x.past.items.items }

  -- of a device that had so much before: the program that a loss of power cut, and what came of its data of cache fast write
  abbrev pub gone_one : Bool → EventEnd → Stock → Device V G → List ReportLine
  gone_one quiet end s y =
      let items = behind_first s.items (device_of y).history.items in
      power_lines_by (device_of y).store.device
      (all_loosed (device_of y).store.device s.loose (device_of y).store.number (acts_when quiet end (device_of y)) (has_power items)) items

  -- of each in rising order
  abbrev pub gone_lines : Bool → EventEnd → List Stock → List (Device V G) → List ReportLine
  gone_lines quiet end ss [] = []
  gone_lines quiet end ss (y ∷ ys) = gone_one quiet end (head_or ss) y ++ gone_lines quiet end (tail_of ss) ys

  -- an event of all devices that ended so tells this
  pub record TellsAll (old new : Subsystem V G) (e : Event) (run : runs.Subsystem) (end : EventEnd) : Type 0 where
    pub lines : lines_of (logged (Once e) (happens run e))
        ≡ gone_lines (is_quiet e) end (map stock_of old.devices.items) new.devices.items ++ lines.Order (order_of e) (order_answer end) ∷ []
