use Rattle.std.proofs.Common.{◌∙◌, sym}
use Rattle.path_workers.proofs.Keeping.{no_keep, own_second_moves, with_own, with_some}
use Rattle.path_workers.proofs.Visiting.{if_no, if_yes, nothing_ran, whatever_ran}
use Rattle.path_workers.proofs.background.half_work.Goals as goal

pub returns-then-is_own-clause-run : goal.returns-then-is_own-clause-run
returns-then-is_own-clause-run g c k =
    if_yes _ _ _ (sym c.is_own.ensures ∙ c.if-is_own.true) (with_some _ _ c.second.ensures.seen (λ e is. whatever_ran (c.second.ensures.run k e is)))

pub returns-then-is_own-clause-moves : goal.returns-then-is_own-clause-moves
returns-then-is_own-clause-moves g c =
    with_own _ _ (sym c.is_own.ensures ∙ c.if-is_own.true) (λ h half own.
    with_some _ _ c.second.ensures.seen (λ e is.
    own_second_moves c.args.device.now c.second.new.self (g.P.Port.view c.args.port.now) (g.P.Port.view c.second.new.port) c.requires.home
    h half own (c.second.ensures.run no_keep e is)))

pub returns-clause-run : goal.returns-clause-run
returns-clause-run g c k = if_no _ _ _ (sym c.is_own.ensures ∙ c.if-is_own.false) nothing_ran
