use Rattle.deck_runner.proofs.serve.Goals as goal

pub returns-clause-told : goal.returns-clause-told
returns-clause-told g c = record { before = _; behind = _; is_new = c.new-bay.ensures; is_so = c.deck_top.ensures.told }
