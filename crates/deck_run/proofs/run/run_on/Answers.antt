use Rattle.std.proofs.Common.{◌∙◌, ◌++◌, ap, map}
use Rattle.frame_pool.specs.Shared.{Shared}
use Rattle.run_report.specs.Closing.{frame_line}
use Rattle.std.specs.List.{flat_map}
use Rattle.subsystem_defs.specs.Decks.{run_on}
use Rattle.subsystem_laws.proofs.SlotsApart.{slots_apart}
use Rattle.subsystem_laws.proofs.MovedRuns.{run_moves}
use Rattle.deck_run.specs.Ending.{end_lines_of}
use Rattle.deck_run.proofs.Closing.{report_whole}
use Rattle.deck_run.proofs.run.run_on.Goals as goal

pub returns-clause-lines : goal.returns-clause-lines
returns-clause-lines g c = λ firsts all.
    report_whole c.in_ok-ran.ran.sub (run_on firsts c.args.deck.now) c.in_ok-ran.ran.report c.record_devices.new.report c.record_frames.new.report
    (c.in_ok-ran.ensures.stands firsts all) (c.in_ok-ran.ensures.lines firsts all)
    (c.in_ok-record_devices.ensures ∙ ap (λ l. c.in_ok-ran.ran.report ++ flat_map end_lines_of l) c.devices.ensures)
    (c.in_ok-record_frames.ensures ∙ ap (λ (p : Shared). c.record_devices.new.report ++ map frame_line p.pool.frames) c.pool.ensures)

pub returns-clause-slots : goal.returns-clause-slots
returns-clause-slots g c = λ firsts all. slots_apart (c.in_ok-ran.ensures.stands firsts all).mounted

pub returns-clause-transfers : goal.returns-clause-transfers
returns-clause-transfers g c = λ firsts. run_moves firsts c.args.deck.now
