use Rattle.copy_tool.proofs.Complete.{completes}
use Rattle.copy_tool.proofs.top.copy_top.Goals as goal

pub returns-clause-complete : goal.returns-clause-complete
returns-clause-complete g c = λ text deck task is names parses calm_source calm_sink.
    completes _ _ task _ _ _ _ text deck is names parses c.serve.ensures.told (λ r. calm_source (c.serve.ensures.read r))
    (λ w. calm_sink (c.serve.ensures.write w))
