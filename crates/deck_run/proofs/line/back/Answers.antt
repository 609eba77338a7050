use Rattle.deck_run.proofs.line.back.Goals as goal

pub returns-clause-recorded : goal.returns-clause-recorded
returns-clause-recorded g c = c.in_ok-_settled.ensures.recorded
