-- The timeline: the rows of the subsystem, and of each device.
use Rattle.std.specs.Prelude.{ℕ, ◌+◌, ◌/◌, nat_lt, false, List, [], ◌∷◌, ◌++◌, codes, decimal, length, None, if◌then◌else◌}
use Rattle.std.specs.List.{flat_map}
use Rattle.deck_text.specs.declared.line.DeviceLine.{DeviceLine}
use Rattle.page_text.specs.Drawing.{drawn, drawn_to}
use Rattle.page_text.specs.Lanes.{lane_next, lane_text}
use Rattle.page_text.specs.Marks.{x_of}
use Rattle.page_text.specs.Parts.{part_next, part_span, part_text, system_text}
use Rattle.page_text.specs.Pieces.{joined}
use Rattle.page_text.specs.Sides.{pair_next, pair_text, span_text}
use Rattle.page_text.specs.declared.lanes.DeviceLane.{DeviceLane}
use Rattle.page_text.specs.declared.lines.ShownLine.{ShownLine}
use Rattle.page_text.specs.declared.parts.Part.{Part}
use Rattle.page_text.specs.declared.parts.Part.TheVariants as parts
use Rattle.page_text.specs.declared.parts.PartLane.{PartLane}
use Rattle.page_text.specs.declared.parts.PartState.TheVariants as states
use Rattle.page_text.specs.declared.parts.SystemMarks.{SystemMarks}
use Rattle.page_text.specs.declared.sides.PairLane.{PairLane}

-- how many lines a column has beside its first one, so that there are about 2,000 columns at most
abbrev pub more_for : ℕ → ℕ
more_for n = if nat_lt 4294967295 (n / 2000) then 4294967295 else n / 2000

-- what is said of the columns
unfoldable pub note_text : ℕ → ℕ → List ℕ
note_text n more =
    joined (codes "<section id='timeline'><h2>Timeline</h2>\n<p>Lines of the report: " ∷ decimal n ∷ codes ". Lines in each column: "
    ∷ decimal (more + 1) ∷ codes ".</p>\n<div class='lanes'>\n" ∷ [])

-- Before the first line

abbrev pub first_device : ℕ → ℕ → DeviceLane
first_device device more = record { device = device; more = more; since = record { first = 10; second = 10; third = 10; fourth = 10 } }

abbrev pub first_pair : ℕ → ℕ → PairLane
first_pair device more = record {
  device = device;
  more = more;
  sides = record { first_down = false; second = false; second_down = false; held = false; lent = None };
  from = 0;
}

abbrev pub first_part : Part → ℕ → PartLane
first_part part more = record { part = part; more = more; state = states.Up; from = 0 }

-- Rows

unfoldable pub lane_head : DeviceLine → ℕ → List ℕ
lane_head line to =
    joined (codes "<h3>Device " ∷ decimal line.number
    ∷ codes "</h3>\n<div class='lane'><div class='rows'>orders<br/>own work<br/>sides<br/>volumes<br/>path 1<br/>path 2<br/>path 3<br/>path 4</div>"
    ∷ codes "<svg width='" ∷ decimal to ∷ codes "' height='176'>\n" ∷ [])

unfoldable pub system_head : ℕ → List ℕ
system_head to =
    joined (codes "<h3>Cache and store</h3>\n<div class='lane'><div class='rows'>orders<br/>cache<br/>store</div><svg width='" ∷ decimal to
    ∷ codes "' height='66'>\n" ∷ [])

unfoldable pub lane_end : List ℕ
lane_end = joined (codes "</svg></div>\n" ∷ [])

-- the row of a device's sides, to its end
abbrev pub pair_rows : PairLane → ℕ → List ShownLine → List ℕ
pair_rows first to shown = drawn pair_text pair_next first 1 shown ++ span_text (drawn_to pair_next first 1 shown) to

-- the row of the cache or the store, to its end
abbrev pub part_rows : PartLane → ℕ → List ShownLine → List ℕ
part_rows first to shown = drawn part_text part_next first 1 shown ++ part_span (drawn_to part_next first 1 shown) to

abbrev pub system_rows : ℕ → List ShownLine → List ℕ
system_rows more shown = drawn (λ (s : SystemMarks) i it. system_text s.more i it) (λ s i it. s) (record { more = more }) 1 shown

abbrev pub system_section : ℕ → ℕ → List ShownLine → List ℕ
system_section more to shown =
    system_head to
    ++ (part_rows (first_part parts.Cache more) to shown
    ++ (part_rows (first_part parts.Store more) to shown ++ (system_rows more shown ++ lane_end)))

-- the rows of a device
abbrev pub section_text : ℕ → ℕ → List ShownLine → DeviceLine → List ℕ
section_text more to shown line =
    lane_head line to
    ++ (pair_rows (first_pair line.number more) to shown
    ++ (drawn lane_text lane_next (first_device line.number more) 1 shown ++ lane_end))

abbrev pub lanes_text : List DeviceLine → ℕ → ℕ → List ShownLine → List ℕ
lanes_text devices more to shown = flat_map (section_text more to shown) devices

unfoldable pub lanes_end : List ℕ
lanes_end = joined (codes "</div></section>\n" ∷ [])

-- where the rows end
abbrev pub to_of : ℕ → ℕ → ℕ
to_of more n = x_of more n + 20

abbrev pub timeline_by : ℕ → ℕ → ℕ → List DeviceLine → List ShownLine → List ℕ
timeline_by n more to devices shown =
    note_text n more ++ (system_section more to shown ++ (lanes_text devices more to shown ++ lanes_end))

abbrev pub timeline_text : List DeviceLine → List ShownLine → List ℕ
timeline_text devices shown =
    timeline_by (length shown) (more_for (length shown)) (to_of (more_for (length shown)) (length shown)) devices shown
