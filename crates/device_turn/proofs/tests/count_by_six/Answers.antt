use Rattle.std.proofs.Common.{◌≡◌, ◌∙◌, rules, arith}
use Rattle.device_turn.proofs.Members.{owns_all}
use Rattle.device_turn.proofs.tests.count_by_six.Goals as goal

pub close-requires-clause-all : goal.close-requires-clause-all
close-requires-clause-all g c k low =
    let seat = c.take_in-5.new.seat in
    let zero_number : seat.number ≡ 0 = search rules in
    let last : c.six_count-zero.result.1.1.number ≡ 5 = search rules in
    let made : seat.made ≡ 6 = search rules in
    owns_all seat.seat.me.0 6 seat.live (seat.numbered ∙ zero_number) (λ j some less. c.take_in-5.ensures.after j some (omega arith)) k (omega arith)
