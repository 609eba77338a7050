use Rattle.std.proofs.Common.{◌∙◌}
use Rattle.path_workers.proofs.Leaving.{back_kept, may_leave}
use Rattle.path_workers.proofs.turns.background_turn.Goals as goal

pub leave-requires-clause-keeps : goal.leave-requires-clause-keeps
leave-requires-clause-keeps g c =
    may_leave 5 c.args.seat.now.seat.me c.enter.new.seat.seat.me c.in-Got.device c.background_visit.new.device c.in-Got.ensures.entered
    (c.enter.new.seat.numbered ∙ (c.in-Got.ensures.own.2 ∙ c.requires.at.number_is)) c.in_ok-came-in-Got.ensures.moves

pub returns-in_ok-came-in-Got-clause-over : goal.returns-in_ok-came-in-Got-clause-over
returns-in_ok-came-in-Got-clause-over g c is = (
  c.background_visit.new.device.value,
  back_kept 5 c.args.seat.now.seat.me c.enter.new.seat.seat.me c.in-Got.device c.background_visit.new.device c.in-Got.ensures.entered
      (c.enter.new.seat.numbered ∙ (c.in-Got.ensures.own.2 ∙ c.requires.at.number_is)) c.in_ok-came-in-Got.ensures.moves,
  c.in_ok-came-in-Got.ensures.over is,
)
