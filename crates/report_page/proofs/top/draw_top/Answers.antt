use Rattle.report_page.proofs.Complete.{draws}
use Rattle.report_page.proofs.top.draw_top.Goals as goal

pub returns-clause-complete : goal.returns-clause-complete
returns-clause-complete g c = λ text page is named has calm_source calm_sink.
    draws _ _ _ _ _ _ text page is named has c.serve.ensures.told (λ r. calm_source (c.serve.ensures.read r))
    (λ w. calm_sink (c.serve.ensures.write w))
