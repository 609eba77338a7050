-- The lines of a text, and what a line of a report is shown as.
use Rattle.std.specs.Prelude.{ℕ, ◌==◌, ◌&&◌, ◌-◌, nat_lt, Bool, slice_index, take, List, [], ◌∷◌, slice_get, slice_index_or, length, Option, Some, None, Result, Ok, Err, if◌then◌else◌}
use Rattle.std.specs.List.{slice_split}
use Rattle.ckd_types.specs.declared.channel.Ccw.{Ccw}
use Rattle.deck_plan.specs.Plans.{PlansByPath, plan_of}
use Rattle.deck_text.specs.DeckLines.{DeckLines}
use Rattle.deck_text.specs.Plans.{plans_of}
use Rattle.report_text.specs.declared.line.EndLine.{EndLine}
use Rattle.report_text.specs.declared.line.ReportLine.{ReportLine}
use Rattle.report_text.specs.declared.line.ReportLine.TheVariants as lines
use Rattle.report_text.specs.declared.order.Order.{Order}
use Rattle.report_text.specs.declared.order.Order.TheVariants as orders
use Rattle.report_reading.specs.declared.fault.LineFault.{LineFault}
use Rattle.report_reading.specs.Reading.{line_of}
use Rattle.page_text.specs.declared.lines.ShownLine.{ShownLine}

-- a text is cut at each line feed
unfoldable pub pieces_in : List ℕ → List (List ℕ)
pieces_in text = slice_split (λ b. b == 10) text

-- but for one at its end
abbrev pub is_fed : List ℕ → Bool
is_fed text = nat_lt 0 (length text) && (slice_index text (length text - 1) == 10)

abbrev pub without_feed : List ℕ → List ℕ
without_feed text = if is_fed text then take (length text - 1) text else text

abbrev pub lines_in : List ℕ → List (List ℕ)
lines_in text = pieces_in (without_feed text)

abbrev pub line_if : Result ReportLine LineFault → Option ReportLine
line_if (Ok line) = Some line
line_if (Err fault) = None

-- what a text says, if it is a line of a report
abbrev pub line_in : List ℕ → Option ReportLine
line_in text = line_if (line_of text)

-- the device that an order names first
abbrev pub order_device : Order → Option ℕ
order_device (orders.FailVolume device side) = Some device
order_device (orders.Replace device side) = Some device
order_device (orders.Pair device other) = Some device
order_device (orders.Unpair device) = Some device
order_device (orders.Suspend device) = Some device
order_device (orders.Resume device) = Some device
order_device orders.FailCache = None
order_device orders.FailStore = None
order_device orders.RepairCache = None
order_device orders.RepairStore = None
order_device orders.Power = None

-- the device that a line names first
abbrev pub device_in : ReportLine → Option ℕ
device_in (lines.Start path device answer) = Some device
device_in (lines.End end) = Some end.device
device_in (lines.Half path device track) = Some device
device_in (lines.Back device answer) = Some device
device_in (lines.StepIdle device) = Some device
device_in (lines.RunIdle device) = Some device
device_in (lines.Loose device answer) = Some device
device_in (lines.Over path device ordinal how) = Some device
device_in (lines.Reset path device) = Some device
device_in (lines.Order order answer) = order_device order
device_in (lines.Device device totals) = Some device
device_in (lines.Lost device track) = Some device
device_in (lines.Frame device track modified) = Some device
device_in (lines.Fresh device) = Some device
device_in (lines.Left path device n) = Some device
device_in (lines.Data bytes) = None
device_in (lines.Sense sense) = None
device_in (lines.Io reads writes) = None
device_in (lines.Unused n) = None
device_in lines.Finish = None
device_in (lines.Sum of n) = None

abbrev pub device_or : Option ℕ → Option ℕ → Option ℕ
device_or (Some device) before = Some device
device_or None before = before

-- the device of a line's event: that of the line before, where it names none
abbrev pub device_after : Option ℕ → Option ReportLine → Option ℕ
device_after before (Some line) = device_or (device_in line) before
device_after before None = before

abbrev pub code_in : Option Ccw → Option ℕ
code_in (Some ccw) = Some ccw.command
code_in None = None

abbrev pub word_code : List Ccw → ℕ → Option ℕ
word_code program i = code_in (slice_get program i)

-- the code of a word of a path's program, which are numbered from 1
abbrev pub code_at : PlansByPath → ℕ → ℕ → ℕ → Option ℕ
code_at plans path ordinal i =
    if ordinal == 0 then None
    else if nat_lt (length (plan_of plans path)) ordinal then None
    else word_code (slice_index_or (plan_of plans path) (ordinal - 1) []) i

abbrev pub code_of_end : DeckLines → EndLine → Option ℕ
code_of_end d end = code_at (plans_of d.programs end.device) end.path end.ordinal end.index

abbrev pub code_of_line : DeckLines → ReportLine → Option ℕ
code_of_line d (lines.End end) = code_of_end d end
code_of_line d _ = None

-- the code of the command that a line says the end of
abbrev pub code_for : DeckLines → Option ReportLine → Option ℕ
code_for d (Some line) = code_of_line d line
code_for d None = None

abbrev pub shown_of : DeckLines → Option ℕ → List ℕ → ShownLine
shown_of d before text = record {
  text = text;
  line = line_in text;
  device = device_after before (line_in text);
  code = code_for d (line_in text);
}

-- all lines of a report, behind a line of this device
abbrev pub shown_all : DeckLines → Option ℕ → List (List ℕ) → List ShownLine
shown_all d before [] = []
shown_all d before (text ∷ texts) = shown_of d before text ∷ shown_all d (device_after before (line_in text)) texts
