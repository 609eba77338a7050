-- The page of a deck's text, of the deck that it is, and of a report or history.
use Rattle.std.specs.Prelude.{ℕ, List, [], ◌∷◌, ◌++◌, codes, None}
use Rattle.std.specs.List.{flat_map}
use Rattle.deck_text.specs.DeckLines.{DeckLines}
use Rattle.deck_text.specs.declared.line.DeviceLine.{DeviceLine}
use Rattle.page_text.specs.DeckRows.{deck_programs, deck_row}
use Rattle.page_text.specs.Drawing.{drawn}
use Rattle.page_text.specs.Fixed.{head_text, key_text, shapes_text, tail_text}
use Rattle.page_text.specs.Grid.{grid_cell, grid_end, grid_head}
use Rattle.page_text.specs.Lines.{lines_in, shown_all}
use Rattle.page_text.specs.Pieces.{joined}
use Rattle.page_text.specs.ReportRows.{row_text}
use Rattle.page_text.specs.Timeline.{timeline_text}
use Rattle.page_text.specs.declared.deck_rows.DeckRows.{DeckRows}
use Rattle.page_text.specs.declared.grid.GridCells.{GridCells}
use Rattle.page_text.specs.declared.lines.ShownLine.{ShownLine}
use Rattle.page_text.specs.declared.report_rows.ReportRows.{ReportRows}

-- Heads and ends

unfoldable pub deck_head : List ℕ
deck_head = joined (codes "<div class='beside'>\n<section id='deck'><h2>Deck</h2>\n<table><thead><tr><th>Line</th>" ∷ codes "<th>Text</th></tr></thead><tbody>\n" ∷ [])

unfoldable pub report_head : List ℕ
report_head = joined (codes "<section id='report'><h2>Report</h2>\n<table><thead><tr><th>Line</th><th>Text</th>" ∷ codes "<th>In words</th></tr></thead><tbody>\n" ∷ [])

unfoldable pub programs_head : List ℕ
programs_head = joined (codes "</div>\n<section id='programs'><h2>Programs</h2>\n<table><thead><tr><th>Word</th><th>Code</th><th>Command</th>" ∷ codes "<th>Flags</th><th>Count</th><th>Parameters</th><th>Bytes</th></tr></thead><tbody>\n" ∷ [])

unfoldable pub table_end : List ℕ
table_end = joined (codes "</tbody></table></section>\n" ∷ [])

unfoldable pub grids_head : List ℕ
grids_head = joined (codes "<section id='tracks'><h2>Tracks at the end</h2>\n" ∷ [])

unfoldable pub section_end : List ℕ
section_end = joined (codes "</section>\n" ∷ [])

-- Parts

-- the deck's text, line by line
abbrev pub deck_section : List (List ℕ) → List ℕ
deck_section lines = deck_head ++ (drawn (λ (s : DeckRows) i it. deck_row i it) (λ s i it. s) (record {}) 1 lines ++ table_end)

-- the report, line by line, with what each line says
abbrev pub report_section : List ShownLine → List ℕ
report_section shown = report_head ++ (drawn (λ (s : ReportRows) i it. row_text i it) (λ s i it. s) (record {}) 1 shown ++ table_end)

-- the words of all programs, decoded
abbrev pub programs_section : DeckLines → List ℕ
programs_section d = programs_head ++ (deck_programs d ++ table_end)

-- the tracks of a device
abbrev pub grid_text : List ShownLine → DeviceLine → List ℕ
grid_text shown line =
    grid_head line
    ++ (drawn (λ (s : GridCells) i it. grid_cell s.device i it) (λ s i it. s) (record { device = line.number }) 1 shown ++ grid_end)

-- the tracks of all devices at the end
abbrev pub grids_section : List DeviceLine → List ShownLine → List ℕ
grids_section devices shown = grids_head ++ (flat_map (grid_text shown) devices ++ section_end)

abbrev pub page_front : List (List ℕ) → DeckLines → List ShownLine → List ℕ
page_front lines d shown =
    head_text ++ (shapes_text ++ (timeline_text d.devices shown ++ (deck_section lines ++ report_section shown)))

abbrev pub page_back : DeckLines → List ShownLine → List ℕ
page_back d shown = programs_section d ++ (grids_section d.devices shown ++ (key_text ++ tail_text))

abbrev pub page_text : List (List ℕ) → DeckLines → List ShownLine → List ℕ
page_text lines d shown = page_front lines d shown ++ page_back d shown

abbrev pub page_of : List ℕ → DeckLines → List ℕ → List ℕ
page_of text d report = page_text (lines_in text) d (shown_all d None (lines_in report))
