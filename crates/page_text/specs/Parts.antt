-- The rows of the subsystem: orders that name no device, the cache and the store.
use Rattle.std.specs.Prelude.{ℕ, ◌-◌, List, [], ◌∷◌, codes, decimal, Option, Some, None}
use Rattle.report_text.specs.declared.answers.OrderAnswer.{OrderAnswer}
use Rattle.report_text.specs.declared.answers.OrderAnswer.TheVariants as answers
use Rattle.report_text.specs.declared.line.ReportLine.{ReportLine}
use Rattle.report_text.specs.declared.line.ReportLine.TheVariants as lines
use Rattle.report_text.specs.declared.order.Order.{Order}
use Rattle.report_text.specs.declared.order.Order.TheVariants as orders
use Rattle.page_text.specs.Lanes.{mark_or_none}
use Rattle.page_text.specs.Lines.{order_device}
use Rattle.page_text.specs.Marks.{shape_if_done, x_of}
use Rattle.page_text.specs.Pieces.{joined}
use Rattle.page_text.specs.declared.lines.ShownLine.{ShownLine}
use Rattle.page_text.specs.declared.marks.Mark.{Mark}
use Rattle.page_text.specs.declared.parts.Part.{Part}
use Rattle.page_text.specs.declared.parts.Part.TheVariants as parts
use Rattle.page_text.specs.declared.parts.PartLane.{PartLane}
use Rattle.page_text.specs.declared.parts.PartState.{PartState}
use Rattle.page_text.specs.declared.parts.PartState.TheVariants as states

abbrev pub part_y : Part → ℕ
part_y parts.Cache = 24
part_y parts.Store = 46

abbrev pub state_class : PartState → List ℕ
state_class states.Up = codes "up"
state_class states.Down = codes "down"
state_class states.Pending = codes "pending"

abbrev pub state_name : PartState → List ℕ
state_name states.Up = codes "up"
state_name states.Down = codes "down"
state_name states.Pending = codes "down, repair waits"

abbrev pub fail_state : OrderAnswer → Option PartState
fail_state answers.Done = Some states.Down
fail_state (answers.Pending n) = None
fail_state (answers.Refused fault) = None

abbrev pub repair_state : OrderAnswer → Option PartState
repair_state answers.Done = Some states.Up
repair_state (answers.Pending n) = Some states.Pending
repair_state (answers.Refused fault) = None

abbrev pub cache_change : Order → OrderAnswer → Option PartState
cache_change orders.FailCache answer = fail_state answer
cache_change orders.RepairCache answer = repair_state answer
cache_change _ answer = None

abbrev pub store_change : Order → OrderAnswer → Option PartState
store_change orders.FailStore answer = fail_state answer
store_change orders.RepairStore answer = repair_state answer
store_change _ answer = None

abbrev pub change_by : Part → Order → OrderAnswer → Option PartState
change_by parts.Cache order answer = cache_change order answer
change_by parts.Store order answer = store_change order answer

abbrev pub change_in : Part → ReportLine → Option PartState
change_in part (lines.Order order answer) = change_by part order answer
change_in part _ = None

abbrev pub change_if : Part → Option ReportLine → Option PartState
change_if part (Some line) = change_in part line
change_if part None = None

-- how a part is after a line, where the line changes it
abbrev pub part_change : Part → ShownLine → Option PartState
part_change part shown = change_if part shown.line

unfoldable pub part_by : List ℕ → ℕ → ℕ → ℕ → List ℕ → List ℕ
part_by class from y width name =
    joined (codes "<svg x='" ∷ decimal from ∷ codes "' y='" ∷ decimal y ∷ codes "' width='" ∷ decimal width
    ∷ codes "' height='18'><rect class='" ∷ class ∷ codes "' width='100%' height='100%'/><text x='2' y='13'>" ∷ name
    ∷ codes "</text></svg>\n" ∷ [])

-- how it was up to some place
abbrev pub part_span : PartLane → ℕ → List ℕ
part_span lane to = part_by (state_class lane.state) lane.from (part_y lane.part) (to - lane.from) (state_name lane.state)

abbrev pub part_span_if : PartLane → ℕ → Option PartState → List ℕ
part_span_if lane to (Some state) = part_span lane to
part_span_if lane to None = []

abbrev pub part_text : PartLane → ℕ → ShownLine → List ℕ
part_text lane i shown = part_span_if lane (x_of lane.more i) (part_change lane.part shown)

abbrev pub part_with : PartLane → ℕ → Option PartState → PartLane
part_with lane x (Some state) = record { part = lane.part; more = lane.more; state = state; from = x }
part_with lane x None = lane

abbrev pub part_next : PartLane → ℕ → ShownLine → PartLane
part_next lane i shown = part_with lane (x_of lane.more i) (part_change lane.part shown)

abbrev pub system_if : Option ℕ → Order → OrderAnswer → Option Mark
system_if (Some device) order answer = None
system_if None order answer = Some (record { y = 11; shape = shape_if_done order answer })

-- the mark of an order that names no device
abbrev pub system_by : Order → OrderAnswer → Option Mark
system_by order answer = system_if (order_device order) order answer

abbrev pub system_in : ReportLine → Option Mark
system_in (lines.Order order answer) = system_by order answer
system_in _ = None

abbrev pub system_of : Option ReportLine → Option Mark
system_of (Some line) = system_in line
system_of None = None

abbrev pub system_mark : ShownLine → Option Mark
system_mark shown = system_of shown.line

abbrev pub system_text : ℕ → ℕ → ShownLine → List ℕ
system_text more i shown = mark_or_none more i (system_mark shown) shown.text
