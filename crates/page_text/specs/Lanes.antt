-- The rows of a device in the timeline.
use Rattle.std.specs.Prelude.{ℕ, ◌==◌, ◌-◌, Bool, false, List, [], ◌∷◌, ◌++◌, codes, decimal, Option, Some, None, if◌then◌else◌}
use Rattle.report_text.specs.declared.answers.StartAnswer.{StartAnswer}
use Rattle.report_text.specs.declared.answers.StartAnswer.TheVariants as starts
use Rattle.report_text.specs.declared.line.ReportLine.{ReportLine}
use Rattle.report_text.specs.declared.line.ReportLine.TheVariants as lines
use Rattle.page_text.specs.Lines.{order_device}
use Rattle.page_text.specs.Marks.{mark_of, mark_text, path_y, x_of}
use Rattle.page_text.specs.Pieces.{joined}
use Rattle.page_text.specs.declared.lanes.DeviceLane.{DeviceLane}
use Rattle.page_text.specs.declared.lanes.Since.{Since}
use Rattle.page_text.specs.declared.lines.ShownLine.{ShownLine}
use Rattle.page_text.specs.declared.marks.Mark.{Mark}

-- up to where the bar of a path's program is drawn
abbrev pub since_of : Since → ℕ → ℕ
since_of since path =
    if path == 1 then since.first else if path == 2 then since.second else if path == 3 then since.third else since.fourth

abbrev pub since_with : Since → ℕ → ℕ → Since
since_with since path x =
    if path == 1 then record since { first = x }
    else if path == 2 then record since { second = x }
    else if path == 3 then record since { third = x }
    else record since { fourth = x }

abbrev pub is_at : ℕ → Option ℕ → Bool
is_at device (Some other) = other == device
is_at device None = false

-- a line is drawn in the rows of its event's device, an order at the one that it names first
abbrev pub is_line_here : ℕ → ReportLine → Option ℕ → Bool
is_line_here device (lines.Order order answer) of = is_at device (order_device order)
is_line_here device _ of = is_at device of

abbrev pub is_here_if : ℕ → Option ReportLine → Option ℕ → Bool
is_here_if device (Some line) of = is_line_here device line of
is_here_if device None of = false

abbrev pub is_here : ℕ → ShownLine → Bool
is_here device shown = is_here_if device shown.line shown.device

-- the path whose program runs up to a line
abbrev pub bar_in : ReportLine → Option ℕ
bar_in (lines.End end) = Some end.path
bar_in (lines.Half path device track) = Some path
bar_in (lines.Over path device ordinal how) = Some path
bar_in _ = None

abbrev pub path_if : ℕ → StartAnswer → Option ℕ
path_if path (starts.Accepted n) = Some path
path_if path _ = None

-- the path whose program runs from a line on
abbrev pub path_in : ReportLine → Option ℕ
path_in (lines.Start path device answer) = path_if path answer
path_in (lines.End end) = Some end.path
path_in (lines.Half path device track) = Some path
path_in (lines.Over path device ordinal how) = Some path
path_in _ = None

abbrev pub if_line : (ReportLine → Option ℕ) → Option ReportLine → Option ℕ
if_line f (Some line) = f line
if_line f None = None

abbrev pub bar_of : ShownLine → Option ℕ
bar_of shown = if_line bar_in shown.line

abbrev pub path_of : ShownLine → Option ℕ
path_of shown = if_line path_in shown.line

unfoldable pub bar_text : ℕ → ℕ → ℕ → List ℕ
bar_text from to y =
    joined (codes "<rect class='bar' x='" ∷ decimal from ∷ codes "' y='" ∷ decimal (y - 3) ∷ codes "' width='" ∷ decimal (to - from)
    ∷ codes "' height='6'/>\n" ∷ [])

abbrev pub bar_if : DeviceLane → ℕ → Option ℕ → List ℕ
bar_if lane i (Some path) = bar_text (since_of lane.since path) (x_of lane.more i) (path_y path)
bar_if lane i None = []

-- the bar of a path's program, up to a line
abbrev pub lane_bar : DeviceLane → ℕ → ShownLine → List ℕ
lane_bar lane i shown = bar_if lane i (bar_of shown)

abbrev pub mark_or_none : ℕ → ℕ → Option Mark → List ℕ → List ℕ
mark_or_none more i (Some mark) text = mark_text more i mark text
mark_or_none more i None text = []

abbrev pub lane_mark : ℕ → ℕ → ShownLine → List ℕ
lane_mark more i shown = mark_or_none more i (mark_of shown) shown.text

-- what a line adds to the rows of a device
abbrev pub lane_text : DeviceLane → ℕ → ShownLine → List ℕ
lane_text lane i shown = if is_here lane.device shown then lane_bar lane i shown ++ lane_mark lane.more i shown else []

abbrev pub since_if : DeviceLane → ℕ → Option ℕ → Since
since_if lane i (Some path) = since_with lane.since path (x_of lane.more i)
since_if lane i None = lane.since

abbrev pub since_after : DeviceLane → ℕ → ShownLine → Since
since_after lane i shown = since_if lane i (path_of shown)

abbrev pub lane_next : DeviceLane → ℕ → ShownLine → DeviceLane
lane_next lane i shown =
    if is_here lane.device shown then record { device = lane.device; more = lane.more; since = since_after lane i shown } else lane
