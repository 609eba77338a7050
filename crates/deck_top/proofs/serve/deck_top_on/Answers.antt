use Rattle.run_report.specs.Report.{report_on}
use Rattle.deck_top.proofs.Complete.{complete}
use Rattle.deck_top.proofs.Facts as facts
use Rattle.deck_top.specs.Answers.{RunsAsPromisedOn}
use Rattle.deck_top.specs.Answers as told
use Rattle.deck_top.proofs.serve.deck_top_on.Goals as goal

pub returns-clause-reported : goal.returns-clause-reported
returns-clause-reported g c = λ firsts is run hands.
    facts.run_reported (told.IsOutputOn (g.B.VolumeBay.view c.args.bay.now))
    (told.RanOn g.V.Volume.view (g.B.VolumeBay.view c.args.bay.now) (g.B.VolumeBay.view c.serve.new.bay)) _ _ _ _ is run c.serve.ensures.told (report_on firsts) (λ d text out. out firsts hands)

pub returns-clause-plain : goal.returns-clause-plain
returns-clause-plain g c = λ firsts whole is run hands.
    facts.run_plain (told.IsOutputOn (g.B.VolumeBay.view c.args.bay.now))
    (told.RanOn g.V.Volume.view (g.B.VolumeBay.view c.args.bay.now) (g.B.VolumeBay.view c.serve.new.bay)) _ _ _ _ is run c.serve.ensures.told firsts (c.report_on_volumes_is_plain.ensures firsts whole) (λ d text out. out firsts hands)

pub returns-clause-promised : goal.returns-clause-promised
returns-clause-promised g c = λ firsts whole is run.
    facts.run_so (told.IsOutputOn (g.B.VolumeBay.view c.args.bay.now))
    (told.RanOn g.V.Volume.view (g.B.VolumeBay.view c.args.bay.now) (g.B.VolumeBay.view c.serve.new.bay)) _ _ _ _ is run c.serve.ensures.told (RunsAsPromisedOn firsts) (λ d r. r.promised firsts whole)

pub returns-clause-volumes : goal.returns-clause-volumes
returns-clause-volumes g c = λ is run.
    facts.run_so (told.IsOutputOn (g.B.VolumeBay.view c.args.bay.now))
    (told.RanOn g.V.Volume.view (g.B.VolumeBay.view c.args.bay.now) (g.B.VolumeBay.view c.serve.new.bay)) _ _ _ _ is run c.serve.ensures.told _ (λ d r. r.volumes)

pub returns-clause-complete : goal.returns-clause-complete
returns-clause-complete g c = λ text task d is names parses calm_source calm_sink.
    complete (told.IsOutputOn (g.B.VolumeBay.view c.args.bay.now))
    (told.RanOn g.V.Volume.view (g.B.VolumeBay.view c.args.bay.now) (g.B.VolumeBay.view c.serve.new.bay)) _ _ _ _ _ _ _ text d is names parses c.serve.ensures.told
    (λ r. calm_source (c.serve.ensures.read r)) (λ w. calm_sink (c.serve.ensures.write w))
