use Rattle.std.proofs.Common.{[]}
use Rattle.report_text.specs.Report.{report_text}
use Rattle.image_runner.proofs.Told.{is_report, report_told}
use Rattle.image_runner.proofs.top.run.Goals as goal

pub returns-clause-told : goal.returns-clause-told
returns-clause-told g c = λ holding names hold.
    report_told c.write_ran.result holding names c.args.deck.now (report_text c.in-Ok.ran.report [] []) _ _
    (is_report holding names c.args.deck.now c.in-Ok.ran.report hold c.in-Ok.ensures.lines) c.write_ran.ensures.told
