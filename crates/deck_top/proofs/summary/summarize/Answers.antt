use Rattle.std.proofs.Common.{rules}
use Rattle.deck_top.proofs.Told.{summed_front}
use Rattle.deck_top.proofs.summary.summarize.Goals as goal

pub returns-in-Err-clause-told : goal.returns-in-Err-clause-told
returns-in-Err-clause-told g c = λ seed count.
    summed_front g.V.Volume.view (g.B.VolumeBay.view c.args.bay.now) (g.B.VolumeBay.view c.args.bay.now) c.args.deck.now (g.K.Sink.held c.args.sink.now)
    (g.K.Sink.held c.write_summary.new.sink) seed count c.in-Ok.ran.summary c.in-Ok.ensures.summary (search rules)
