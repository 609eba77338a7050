-- The row of a device's sides, as far as orders tell: which are there, up, held or lent.
use Rattle.std.specs.Prelude.{ℕ, ◌==◌, ◌-◌, not, Bool, true, false, List, [], ◌∷◌, codes, decimal, Option, Some, None, if◌then◌else◌}
use Rattle.ckd_types.specs.declared.paths.Side.{Side}
use Rattle.ckd_types.specs.declared.paths.Side.TheVariants.{A, B}
use Rattle.report_text.specs.declared.answers.OrderAnswer.{OrderAnswer}
use Rattle.report_text.specs.declared.answers.OrderAnswer.TheVariants as answers
use Rattle.report_text.specs.declared.line.ReportLine.{ReportLine}
use Rattle.report_text.specs.declared.line.ReportLine.TheVariants as lines
use Rattle.report_text.specs.declared.order.Order.{Order}
use Rattle.report_text.specs.declared.order.Order.TheVariants as orders
use Rattle.page_text.specs.Lanes.{is_at}
use Rattle.page_text.specs.Lines.{order_device}
use Rattle.page_text.specs.Marks.{x_of}
use Rattle.page_text.specs.Pieces.{joined}
use Rattle.page_text.specs.declared.lines.ShownLine.{ShownLine}
use Rattle.page_text.specs.declared.sides.PairLane.{PairLane}
use Rattle.page_text.specs.declared.sides.Sides.{Sides}

abbrev pub side_down : Sides → Side → Bool → Sides
side_down sides A down = record sides { first_down = down }
side_down sides B down = record sides { second_down = down }

-- the first device of a pair gets a side B that is up; the second one is lent to it
abbrev pub paired : ℕ → Sides → ℕ → Sides
paired device sides first =
    if first == device then record sides { second = true; second_down = false; held = false } else record sides { lent = Some first }

abbrev pub unpaired : ℕ → Sides → ℕ → Sides
unpaired device sides first =
    if first == device then record sides { second = false; second_down = false; held = false } else record sides { lent = None }

-- the sides after an order that was done and touches them
abbrev pub after_order : ℕ → Sides → Order → Sides
after_order device sides (orders.Pair first second) = paired device sides first
after_order device sides (orders.Unpair first) = unpaired device sides first
after_order device sides (orders.Suspend first) = record sides { held = true }
after_order device sides (orders.Resume first) = record sides { held = false }
after_order device sides (orders.FailVolume first side) = side_down sides side true
after_order device sides (orders.Replace first side) = side_down sides side false
after_order device sides order = sides

abbrev pub touches_other : ℕ → Sides → Order → Bool
touches_other device sides (orders.Pair first second) = second == device
touches_other device sides (orders.Unpair first) = is_at first sides.lent
touches_other device sides order = false

-- an order touches the device that it names first, and the one that is lent by it or was
abbrev pub touches : ℕ → Sides → Order → Bool
touches device sides order = if is_at device (order_device order) then true else touches_other device sides order

abbrev pub changed_by : ℕ → Sides → Order → Option Sides
changed_by device sides order = if touches device sides order then Some (after_order device sides order) else None

abbrev pub changed_if_done : PairLane → Order → OrderAnswer → Option Sides
changed_if_done lane order answers.Done = changed_by lane.device lane.sides order
changed_if_done lane order _ = None

abbrev pub changed_in : PairLane → ReportLine → Option Sides
changed_in lane (lines.Order order answer) = changed_if_done lane order answer
changed_in lane _ = None

abbrev pub changed_if : PairLane → Option ReportLine → Option Sides
changed_if lane (Some line) = changed_in lane line
changed_if lane None = None

-- the sides after a line, where it tells an order that is done and touches them
abbrev pub changed : PairLane → ShownLine → Option Sides
changed lane shown = changed_if lane shown.line

abbrev pub first_name_by : Option ℕ → Bool → List ℕ
first_name_by (Some first) down = codes "lent"
first_name_by None down = if down then codes "A down" else codes "A up"

abbrev pub first_name : Sides → List ℕ
first_name sides = first_name_by sides.lent sides.first_down

abbrev pub second_name : Sides → List ℕ
second_name sides = if not sides.second then [] else if sides.second_down then codes ", B down" else codes ", B up"

abbrev pub held_name : Sides → List ℕ
held_name sides = if sides.held then codes ", B held" else []

unfoldable pub span_by : ℕ → ℕ → List ℕ → List ℕ → List ℕ → List ℕ
span_by from width first second held =
    joined (codes "<svg x='" ∷ decimal from ∷ codes "' y='46' width='" ∷ decimal width
    ∷ codes "' height='18'><rect class='side' width='100%' height='100%'/><text x='2' y='13'>" ∷ first ∷ second ∷ held
    ∷ codes "</text></svg>\n" ∷ [])

-- what the sides were up to some place
abbrev pub span_text : PairLane → ℕ → List ℕ
span_text lane to = span_by lane.from (to - lane.from) (first_name lane.sides) (second_name lane.sides) (held_name lane.sides)

abbrev pub span_if : PairLane → ℕ → Option Sides → List ℕ
span_if lane to (Some sides) = span_text lane to
span_if lane to None = []

abbrev pub pair_text : PairLane → ℕ → ShownLine → List ℕ
pair_text lane i shown = span_if lane (x_of lane.more i) (changed lane shown)

abbrev pub lane_with : PairLane → ℕ → Option Sides → PairLane
lane_with lane x (Some sides) = record { device = lane.device; more = lane.more; sides = sides; from = x }
lane_with lane x None = lane

abbrev pub pair_next : PairLane → ℕ → ShownLine → PairLane
pair_next lane i shown = lane_with lane (x_of lane.more i) (changed lane shown)
