-- Counts of lines, one line on.
use Rattle.std.proofs.Common.{◌≡◌, ◌≤◌, ◌+◌, Bool, ℕ, List}
use Rattle.std.specs.Prelude.{count_by}
use Rattle.report_text.specs.declared.line.ReportLine.{ReportLine}
use Rattle.report_text.specs.declared.summary.LineCounts.{LineCounts}
use Rattle.report_text.specs.Counting.{is_check, is_end, is_start}

-- of so many lines that are counted, n pass, and with those that are left as many as of all
pub record Passed (p : ReportLine → Bool) (n : ℕ) (left all : List ReportLine) (i : ℕ) : Type 0 where
  pub so_far : n + count_by p left ≡ count_by p all
  pub few : n ≤ i

pub record Counted (counts : LineCounts) (left all : List ReportLine) (i : ℕ) : Type 0 where
  pub programs : Passed is_start counts.programs left all i
  pub commands : Passed is_end counts.commands left all i
  pub checks : Passed is_check counts.checks left all i
