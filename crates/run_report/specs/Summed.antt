-- What a run comes to: its summary.
use Rattle.std.specs.Prelude.{count_by, sum_by}
use Rattle.device_defs.specs.Excused.{count_lost}
use Rattle.device_defs.specs.Marks.{MarksDevice}
use Rattle.report_text.specs.Counting.{is_start, is_end, is_check}
use Rattle.report_text.specs.declared.summary.Summary.{Summary}
use Rattle.run_report.specs.Report.{lines_of_run}
use Rattle.subsystem_defs.specs.Decks.{DeckRun}
use Rattle.subsystem_defs.specs.Subsystem.{devices_of}

-- the programs that were started, the commands that ended, and the calls and lost tracks of all devices, lent ones among them
abbrev pub summary_of : DeckRun → Summary
summary_of r = record {
  programs = count_by is_start (lines_of_run r);
  commands = count_by is_end (lines_of_run r);
  checks = count_by is_check (lines_of_run r);
  reads = sum_by (λ (d : MarksDevice). d.store.counts.reads) (devices_of r.behind);
  writes = sum_by (λ (d : MarksDevice). d.store.counts.writes) (devices_of r.behind);
  lost = sum_by (λ (d : MarksDevice). count_lost d.store.lost) (devices_of r.behind);
}
