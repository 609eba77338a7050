use Rattle.std.proofs.Common.{◌<◌, ◌∙◌, ℕ, arith, subst}
use Rattle.device_turn.proofs.Members.{owns_all}
use Rattle.device_turn.proofs.seating.clear.Goals as goal

pub close-requires-clause-all : goal.close-requires-clause-all
close-requires-clause-all g c k low =
    let seat = c.take_in-5.new.operator in
    let home = c.take_in-5.ensures.operator in
    let last : k < 6 = subst (λ (n : ℕ). k < n) home.made_is low in
    owns_all seat.seat.me.0 6 seat.live (seat.numbered ∙ home.at.number_is) (λ j some less. c.take_in-5.ensures.after j some (omega (arith, less))) k last
