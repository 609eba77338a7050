use Rattle.std.proofs.Common.{◌∙◌, inr}
use Rattle.path_workers.proofs.Leaving.{may_leave, out_kept}
use Rattle.path_workers.proofs.turns.path_turn.Goals as goal

pub leave-requires-clause-keeps : goal.leave-requires-clause-keeps
leave-requires-clause-keeps g c =
    may_leave c.args.visitor.now.path c.args.seat.now.seat.me c.enter.new.seat.seat.me c.in-Got.device c.path_visit.new.device c.in-Got.ensures.entered
    (c.enter.new.seat.numbered ∙ (c.in-Got.ensures.own.2 ∙ c.requires.at.number_is)) c.in_ok-came-in-Got.ensures.moves

pub returns-in_ok-came-in-Got-clause-came : goal.returns-in_ok-came-in-Got-clause-came
returns-in_ok-came-in-Got-clause-came g c =
    inr (
      c.in-Got.device.value,
      out_kept c.args.seat.now.seat.me c.enter.new.seat.seat.me c.in-Got.device c.in-Got.ensures.entered,
      c.in_ok-came-in-Got.ensures.came,
    )
