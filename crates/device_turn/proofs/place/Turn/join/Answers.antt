use Rattle.std.proofs.Common.{None, arith}
use Rattle.device_turn.proofs.Members.{joins_seat}
use Rattle.device_turn.proofs.place.Turn.join.Goals as goal

pub join_seat-requires : goal.join_seat-requires
join_seat-requires g c =
    let words = c.args.self.now.seven_words in (
      c.requires.own.0,
      c.requires.own.1,
      c.requires.rests.2,
      omega arith,
      joins_seat _ _ None _ _ _ _ _
          c.args.seat.now.live c.args.gone.live c.requires.rests.0,
    )
