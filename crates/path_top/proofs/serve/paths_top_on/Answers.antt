use Rattle.path_top.specs.Answers.{IsHistoryOver}
use Rattle.path_top.proofs.Facts as facts
use Rattle.path_top.proofs.Told.{history_on}
use Rattle.path_top.proofs.serve.paths_top_on.Goals as goal

pub returns-clause-reported : goal.returns-clause-reported
returns-clause-reported g c = λ firsts is paths hands.
    facts.paths_reported (IsHistoryOver (g.B.VolumeBay.view c.args.bay.now)) _ _ _ _ firsts (history_on (g.B.VolumeBay.view c.args.bay.now) firsts hands) is paths
    c.serve_words.ensures.told

pub returns-clause-complete : goal.returns-clause-complete
returns-clause-complete g c = λ text d is names parses calm_source calm_sink.
    facts.deck_is_run (IsHistoryOver (g.B.VolumeBay.view c.args.bay.now)) _ _ _ _ text d is names parses c.serve_words.ensures.told
    (λ r. calm_source (c.serve_words.ensures.read r)) (λ w. calm_sink (c.serve_words.ensures.write w))
