use Rattle.volume_tool.proofs.Complete.{complete}
use Rattle.volume_tool.proofs.SaveComplete.{saves}
use Rattle.volume_tool.proofs.top.volume_top.Goals as goal

pub returns-clause-complete : goal.returns-clause-complete
returns-clause-complete g c = λ v whole is names calm_source calm_sink.
    complete _ _ _ _ _ _ v whole is names c.serve.ensures.told (λ r. calm_source (c.serve.ensures.read r)) (λ w. calm_sink (c.serve.ensures.write w))

pub returns-clause-saves : goal.returns-clause-saves
returns-clause-saves g c = λ text d n is names parses calm_source calm_sink.
    saves _ _ n _ _ _ _ text d is names parses c.serve.ensures.told (λ r. calm_source (c.serve.ensures.read r)) (λ w. calm_sink (c.serve.ensures.write w))
