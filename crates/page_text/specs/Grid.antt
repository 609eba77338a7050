-- The tracks of a device at the end, as far as the report's last lines tell: lost, or with a frame that is clean or modified.
use Rattle.std.specs.Prelude.{ℕ, ◌==◌, ◌*◌, ◌/◌, ◌%◌, Bool, List, [], ◌∷◌, codes, decimal, Option, Some, None, if◌then◌else◌}
use Rattle.deck_text.specs.declared.line.DeviceLine.{DeviceLine}
use Rattle.report_text.specs.declared.line.ReportLine.{ReportLine}
use Rattle.report_text.specs.declared.line.ReportLine.TheVariants as lines
use Rattle.page_text.specs.Pieces.{joined, track_text}
use Rattle.page_text.specs.declared.grid.Cell.{Cell}
use Rattle.page_text.specs.declared.grid.CellState.{CellState}
use Rattle.page_text.specs.declared.grid.CellState.TheVariants as states
use Rattle.page_text.specs.declared.lines.ShownLine.{ShownLine}

abbrev pub cell_class : CellState → List ℕ
cell_class states.Clean = codes "clean"
cell_class states.Modified = codes "modified"
cell_class states.Lost = codes "lost"

abbrev pub cell_letter : CellState → List ℕ
cell_letter states.Clean = codes "C"
cell_letter states.Modified = codes "M"
cell_letter states.Lost = codes "L"

abbrev pub frame_cell : Bool → CellState
frame_cell modified = if modified then states.Modified else states.Clean

abbrev pub cell_at : Bool → ℕ → CellState → Option Cell
cell_at here track state = if here then Some (record { track = track; state = state }) else None

-- the cell of a device that a line tells of
abbrev pub cell_in : ℕ → ReportLine → Option Cell
cell_in device (lines.Lost of track) = cell_at (of == device) track states.Lost
cell_in device (lines.Frame of track modified) = cell_at (of == device) track (frame_cell modified)
cell_in device _ = None

abbrev pub cell_if : ℕ → Option ReportLine → Option Cell
cell_if device (Some line) = cell_in device line
cell_if device None = None

abbrev pub cell_of : ℕ → ShownLine → Option Cell
cell_of device shown = cell_if device shown.line

-- how far across a track's cell is: by its cylinder; and how far down: by its head
abbrev pub cell_x : ℕ → ℕ
cell_x track = track / 15 * 16

abbrev pub cell_y : ℕ → ℕ
cell_y track = track % 15 * 16

unfoldable pub cell_by : ℕ → ℕ → ℕ → ℕ → List ℕ → List ℕ → List ℕ
cell_by i track x y class letter =
    joined (codes "<a href='#l" ∷ decimal i ∷ codes "'><title>" ∷ track_text track ∷ codes "</title><g transform='translate("
    ∷ decimal x ∷ codes " " ∷ decimal y ∷ codes ")'><rect class='" ∷ class ∷ codes "' width='16' height='16'/><text x='8' y='12'>" ∷ letter
    ∷ codes "</text></g></a>\n" ∷ [])

-- a cell, which leads to its line
abbrev pub cell_text : ℕ → Cell → List ℕ
cell_text i cell = cell_by i cell.track (cell_x cell.track) (cell_y cell.track) (cell_class cell.state) (cell_letter cell.state)

abbrev pub cell_or_none : ℕ → Option Cell → List ℕ
cell_or_none i (Some cell) = cell_text i cell
cell_or_none i None = []

abbrev pub grid_cell : ℕ → ℕ → ShownLine → List ℕ
grid_cell device i shown = cell_or_none i (cell_of device shown)

abbrev pub width_of : ℕ → ℕ
width_of cylinders = cylinders * 16

unfoldable pub head_by : ℕ → ℕ → List ℕ
head_by device width =
    joined (codes "<h3>Device " ∷ decimal device ∷ codes ", cylinders across, heads down</h3>\n<svg class='grid' width='" ∷ decimal width
    ∷ codes "' height='240'><rect class='cells' width='100%' height='100%'/>\n" ∷ [])

-- the head of a device's grid, and its empty cells
abbrev pub grid_head : DeviceLine → List ℕ
grid_head line = head_by line.number (width_of line.cylinders)

unfoldable pub grid_end : List ℕ
grid_end = joined (codes "</svg>\n" ∷ [])
