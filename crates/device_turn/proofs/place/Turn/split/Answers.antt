use Rattle.std.proofs.Common.{◌<◌, ◌∙◌, arith}
use Rattle.device_turn.proofs.Members.{splits_seat}
use Rattle.device_turn.proofs.place.Turn.split.Goals as goal

pub split_seat-other-requires : goal.split_seat-other-requires
split_seat-other-requires g c =
    let seat = c.args.seat.now in
    let words = c.args.self.now.seven_words in
    let room : seat.seat.me.0.made < 6 = omega (arith, seat.counted, c.requires.room) in
    (c.requires.own, omega arith, splits_seat _ _ _ _ _ seat.live (seat.numbered ∙ c.requires.first) room)
