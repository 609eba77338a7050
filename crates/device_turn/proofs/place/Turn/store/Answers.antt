use Rattle.std.proofs.Common.{◌<◌, arith}
use mathlib.Core.Option.{none}
use Rattle.atomic_table.specs.Table.{step}
use Rattle.device_turn.proofs.Moves.{stores_word}
use Rattle.device_turn.proofs.place.Turn.store.Goals as goal

pub store-requires : goal.store-requires
store-requires g c =
    let seat = c.args.seat.now in
    let words = c.args.self.now.seven_words in
    let small : seat.seat.me.0.number < 6 = omega (arith, seat.numbered, seat.small) in
    rw (← seat.numbered) (c.requires.own, omega arith, stores_word _ _ _ _ (step 1 0 0 0 none) _ _ c.args.word seat.live small c.requires.out)
