use Rattle.std.proofs.Common.{◌∙◌, sym}
use Rattle.path_workers.proofs.Visiting.{if_yes, nothing_ran}
use Rattle.path_workers.proofs.background.background_event.Goals as goal

pub returns-then-is_lent-clause-run : goal.returns-then-is_lent-clause-run
returns-then-is_lent-clause-run g c k = if_yes _ _ _ (sym c.is_lent.ensures ∙ c.if-is_lent.true) nothing_ran
