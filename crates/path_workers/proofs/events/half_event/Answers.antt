use Rattle.std.proofs.Common.{◌∙◌, sym}
use Rattle.path_workers.proofs.Keeping.{none_moves}
use Rattle.path_workers.proofs.Visiting.{if_no, nothing_ran}
use Rattle.path_workers.proofs.events.half_event.Goals as goal

pub returns-clause-run : goal.returns-clause-run
returns-clause-run g c k = if_no _ _ _ (sym c.has_own_half.ensures ∙ c.if-has_own_half.false) nothing_ran

pub returns-clause-moves : goal.returns-clause-moves
returns-clause-moves g c =
    let visitor = c.args.visitor.now in none_moves c.args.device.now visitor.path visitor.least visitor.most
