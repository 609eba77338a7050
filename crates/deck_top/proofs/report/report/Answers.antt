use Rattle.std.proofs.Common.{[], rules, sym}
use Rattle.report_text.specs.Report.{report_text}
use Rattle.deck_top.proofs.Told.{ran_told}
use Rattle.deck_top.proofs.report.report.Goals as goal

pub returns-in-Ok-write_report-clause-told : goal.returns-in-Ok-write_report-clause-told
returns-in-Ok-write_report-clause-told g c =
    ran_told g.V.Volume.view (g.B.VolumeBay.view c.args.bay.now) (g.B.VolumeBay.view c.take_back.new.bay) c.args.deck.now (g.K.Sink.held c.args.sink.now)
    (g.K.Sink.held c.write_report.new.sink) (report_text c.in-Ok.ran.report [] []) c.in-Ok.ensures.text (search rules) c.in-Ok.ensures.well
    (c.take_back.ensures.volumes (g.B.VolumeBay.view c.args.bay.now) (sym c.run_deck.ensures.taken) c.in-Ok.ensures.stands)
