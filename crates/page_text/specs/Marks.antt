-- The marks of a timeline: which shape stands for a line, in which row, and where.
use Rattle.std.specs.Prelude.{ℕ, ◌==◌, ◌+◌, ◌*◌, ◌/◌, min, List, [], ◌∷◌, codes, decimal, Option, Some, None, if◌then◌else◌}
use Rattle.ckd_types.specs.declared.status.UnitStatus.{UnitStatus}
use Rattle.ckd_types.specs.Status.{has_unit_check, has_unit_exception}
use Rattle.report_text.specs.declared.answers.BackAnswer.{BackAnswer}
use Rattle.report_text.specs.declared.answers.BackAnswer.TheVariants as backs
use Rattle.report_text.specs.declared.answers.HowOver.{HowOver}
use Rattle.report_text.specs.declared.answers.HowOver.TheVariants as hows
use Rattle.report_text.specs.declared.answers.LooseAnswer.{LooseAnswer}
use Rattle.report_text.specs.declared.answers.LooseAnswer.TheVariants as looses
use Rattle.report_text.specs.declared.answers.OrderAnswer.{OrderAnswer}
use Rattle.report_text.specs.declared.answers.OrderAnswer.TheVariants as answers
use Rattle.report_text.specs.declared.answers.StartAnswer.{StartAnswer}
use Rattle.report_text.specs.declared.answers.StartAnswer.TheVariants as starts
use Rattle.report_text.specs.declared.line.ReportLine.{ReportLine}
use Rattle.report_text.specs.declared.line.ReportLine.TheVariants as lines
use Rattle.report_text.specs.declared.order.Order.{Order}
use Rattle.report_text.specs.declared.order.Order.TheVariants as orders
use Rattle.page_text.specs.Pieces.{joined, shown_text}
use Rattle.page_text.specs.declared.lines.ShownLine.{ShownLine}
use Rattle.page_text.specs.declared.marks.Mark.{Mark}
use Rattle.page_text.specs.declared.marks.Shape.{Shape}
use Rattle.page_text.specs.declared.marks.Shape.TheVariants as shapes

abbrev pub shape_name : Shape → List ℕ
shape_name shapes.Begin = codes "begin"
shape_name shapes.Refused = codes "refused"
shape_name shapes.Ended = codes "ended"
shape_name shapes.Exception = codes "exception"
shape_name shapes.Check = codes "check"
shape_name shapes.Half = codes "half"
shape_name shapes.Over = codes "over"
shape_name shapes.Cut = codes "cut"
shape_name shapes.Reset = codes "reset"
shape_name shapes.Nothing = codes "nothing"
shape_name shapes.Recovered = codes "recovered"
shape_name shapes.Copied = codes "copied"
shape_name shapes.Staged = codes "staged"
shape_name shapes.Skipped = codes "skipped"
shape_name shapes.Destaged = codes "destaged"
shape_name shapes.Finished = codes "finished"
shape_name shapes.Unwritten = codes "unwritten"
shape_name shapes.Fault = codes "fault"
shape_name shapes.Harden = codes "harden"
shape_name shapes.Loosen = codes "loosen"
shape_name shapes.Loss = codes "loss"
shape_name shapes.Read = codes "read"
shape_name shapes.Write = codes "write"
shape_name shapes.Both = codes "both"
shape_name shapes.Pair = codes "pair"
shape_name shapes.Unpair = codes "unpair"
shape_name shapes.Hold = codes "hold"
shape_name shapes.Resume = codes "resume"
shape_name shapes.Replace = codes "replace"
shape_name shapes.Repair = codes "repair"
shape_name shapes.Wait = codes "wait"
shape_name shapes.Power = codes "power"

-- a start that isn't accepted is refused
abbrev pub start_shape : StartAnswer → Shape
start_shape (starts.Accepted n) = shapes.Begin
start_shape _ = shapes.Refused

abbrev pub end_shape : UnitStatus → Shape
end_shape status = if has_unit_check status then shapes.Check else if has_unit_exception status then shapes.Exception else shapes.Ended

abbrev pub over_shape : HowOver → Shape
over_shape hows.Full = shapes.Over
over_shape hows.Checked = shapes.Over
over_shape (hows.Cut k) = shapes.Cut

abbrev pub back_shape : BackAnswer → Shape
back_shape backs.Nothing = shapes.Nothing
back_shape (backs.Recovered t) = shapes.Recovered
back_shape (backs.Copied t) = shapes.Copied
back_shape (backs.Staged t) = shapes.Staged
back_shape (backs.Skipped t) = shapes.Skipped
back_shape (backs.Destaged t) = shapes.Destaged
back_shape (backs.Half t) = shapes.Half
back_shape (backs.Finished t) = shapes.Finished
back_shape (backs.Unwritten t) = shapes.Unwritten
back_shape (backs.Fault side) = shapes.Fault
back_shape (backs.BadBytes side) = shapes.Fault

abbrev pub loose_shape : LooseAnswer → Shape
loose_shape (looses.Harden t) = shapes.Harden
loose_shape (looses.Loosen t) = shapes.Loosen
loose_shape (looses.Lost count id) = shapes.Loss

abbrev pub io_shape : ℕ → ℕ → Shape
io_shape reads writes = if writes == 0 then shapes.Read else if reads == 0 then shapes.Write else shapes.Both

abbrev pub order_shape : Order → Shape
order_shape orders.FailCache = shapes.Loss
order_shape orders.FailStore = shapes.Loss
order_shape (orders.FailVolume device side) = shapes.Loss
order_shape orders.RepairCache = shapes.Repair
order_shape orders.RepairStore = shapes.Repair
order_shape (orders.Replace device side) = shapes.Replace
order_shape (orders.Pair device other) = shapes.Pair
order_shape (orders.Unpair device) = shapes.Unpair
order_shape (orders.Suspend device) = shapes.Hold
order_shape (orders.Resume device) = shapes.Resume
order_shape orders.Power = shapes.Power

abbrev pub shape_if_done : Order → OrderAnswer → Shape
shape_if_done order answers.Done = order_shape order
shape_if_done order (answers.Pending n) = shapes.Wait
shape_if_done order (answers.Refused fault) = shapes.Refused

-- the rows of a device from above: orders, own work, sides, volumes, and four paths
abbrev pub path_y : ℕ → ℕ
path_y path = 77 + 22 * path

abbrev pub path_mark : ℕ → Shape → Option Mark
path_mark path shape = Some (record { y = path_y path; shape = shape })

abbrev pub mark_in : ReportLine → Option Mark
mark_in (lines.Order order answer) = Some (record { y = 11; shape = shape_if_done order answer })
mark_in (lines.Back device answer) = Some (record { y = 33; shape = back_shape answer })
mark_in (lines.Loose device answer) = Some (record { y = 33; shape = loose_shape answer })
mark_in (lines.Io reads writes) = Some (record { y = 77; shape = io_shape reads writes })
mark_in (lines.Start path device answer) = path_mark path (start_shape answer)
mark_in (lines.End end) = path_mark end.path (end_shape end.status)
mark_in (lines.Half path device track) = path_mark path shapes.Half
mark_in (lines.Over path device ordinal how) = path_mark path (over_shape how)
mark_in (lines.Reset path device) = path_mark path shapes.Reset
mark_in _ = None

abbrev pub mark_if : Option ReportLine → Option Mark
mark_if (Some line) = mark_in line
mark_if None = None

-- the mark of a line in the rows of its device
abbrev pub mark_of : ShownLine → Option Mark
mark_of shown = mark_if shown.line

-- how far to the right a line stands, where each column has so many lines and one more
abbrev pub x_of : ℕ → ℕ → ℕ
x_of more i = 10 + 12 * min (i / (more + 1)) 2000

unfoldable pub mark_by : ℕ → List ℕ → List ℕ → ℕ → ℕ → List ℕ
mark_by i text name x y =
    joined (codes "<a href='#l" ∷ decimal i ∷ codes "'><title>" ∷ decimal i ∷ codes ": " ∷ shown_text text
    ∷ codes "</title><use href='#s-" ∷ name ∷ codes "' x='" ∷ decimal x ∷ codes "' y='" ∷ decimal y ∷ codes "'/></a>\n" ∷ [])

-- a mark, which leads to its line
abbrev pub mark_text : ℕ → ℕ → Mark → List ℕ → List ℕ
mark_text more i mark text = mark_by i text (shape_name mark.shape) (x_of more i) mark.y
