use Rattle.std.proofs.Common.{◌∙◌, sym}
use Rattle.path_workers.proofs.Keeping.{none_moves}
use Rattle.path_workers.proofs.Visiting.{if_yes, nothing_ran}
use Rattle.path_workers.proofs.events.path_event.Goals as goal

pub returns-then-is_lent-clause-run : goal.returns-then-is_lent-clause-run
returns-then-is_lent-clause-run g c k = if_yes _ _ _ (sym c.is_lent.ensures ∙ c.if-is_lent.true) nothing_ran

pub returns-then-is_lent-clause-moves : goal.returns-then-is_lent-clause-moves
returns-then-is_lent-clause-moves g c =
    let visitor = c.args.visitor.now in none_moves c.args.device.now visitor.path visitor.least visitor.most
