-- The report of the run of a deck.
use Rattle.std.specs.Prelude.{ℕ, List, ◌++◌}
use Rattle.std.specs.List.{flat_map}
use Rattle.deck_text.specs.DeckLines.{DeckLines}
use Rattle.report_text.specs.declared.line.ReportLine.{ReportLine}
use Rattle.report_text.specs.Ends.{lines_text}
use Rattle.run_report.specs.Closing.{ending_lines}
use Rattle.run_report.specs.Events.{lines_of}
use Rattle.subsystem_defs.specs.Closing.{ending}
use Rattle.subsystem_defs.specs.Decks.{DeckRun, Firsts, run_of, run_on}

-- of all its events
abbrev pub lines_of_run : DeckRun → List ReportLine
lines_of_run r = flat_map lines_of r.events

-- and of its end
abbrev pub report_lines : DeckRun → List ReportLine
report_lines r = lines_of_run r ++ ending_lines (ending r.behind)

abbrev pub report_of : DeckLines → List ℕ
report_of deck = lines_text (report_lines (run_of deck))

-- the report of its run on volumes that hold these tracks
abbrev pub report_on : Firsts → DeckLines → List ℕ
report_on firsts deck = lines_text (report_lines (run_on firsts deck))
