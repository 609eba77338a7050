use Rattle.std.proofs.Common.{arith}
use mathlib.Core.Option.{none}
use Rattle.atomic_table.specs.Table.{step}
use Rattle.device_turn.proofs.Moves.{takes_turn}
use Rattle.device_turn.proofs.place.Turn.take.Goals as goal

pub compare_exchange-requires : goal.compare_exchange-requires
compare_exchange-requires g c =
    let seat = c.args.seat.now in
    let words = c.args.self.now.seven_words in
    rw (← seat.numbered) (c.requires.own, omega arith, takes_turn _ _ _ _ (step 1 0 0 0 none) _ _ seat.live c.requires.away)
