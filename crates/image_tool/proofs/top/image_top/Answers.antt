use Rattle.image_tool.proofs.Complete.{complete}
use Rattle.image_tool.proofs.top.image_top.Goals as goal

pub returns-clause-complete : goal.returns-clause-complete
returns-clause-complete g c = λ task named suits calm_source calm_sink calm_file.
    complete _ _ task _ _ named suits c.serve.ensures.told (λ r. calm_source (c.serve.ensures.read r)) (λ w. calm_sink (c.serve.ensures.write w))
    (λ f. calm_file (c.serve.ensures.file f))
