-- The text of a deck and of the report of its run, as an audit is given it.
use Rattle.std.specs.Prelude.{◌≡◌, ◌≤◌, ◌+◌, ◌++◌, ℕ, List, codes, drop, length, map, Some, Ok}
use Rattle.std.specs.List.{flat_map}
use Rattle.deck_text.specs.DeckLines.{DeckLines}
use Rattle.deck_text.specs.Parse.{parsed}
use Rattle.report_text.specs.Lines.{text_of}
use Rattle.deck_audit.specs.Verdict.{cut_lines, deck_part, ended_line, report_from}
use Rattle.run_report.specs.Report.{report_lines, report_of}
use Rattle.subsystem_defs.specs.Decks.{run_of}

-- so many lines are the deck's, then comes REPORT, and behind it the text of each line of the run's report
pub record IsOwnReport (text : List ℕ) (deck : DeckLines) : Type 0 where
  pub lines : ℕ
  pub size : length text ≤ 268435456
  pub found : report_from 0 (cut_lines text) ≡ Some lines
  pub parses : parsed (deck_part text (Some lines)) ≡ Ok deck
  pub says : drop (lines + 1) (cut_lines text) ≡ map text_of (report_lines (run_of deck))

-- each line is ended
abbrev pub IsEnded : List ℕ → Type 0
IsEnded text = flat_map ended_line (cut_lines text) ≡ text

-- behind the deck's text a line REPORT, and the report of its run
abbrev pub own_text : List ℕ → DeckLines → List ℕ
own_text text deck = text ++ (codes "REPORT\n" ++ report_of deck)
