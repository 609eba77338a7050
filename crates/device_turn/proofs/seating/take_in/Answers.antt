use Rattle.std.proofs.Common.{List, ◌≡◌, ◌<◌, ℕ, ◌+◌, true, ap, subst, sym, ◌∙◌}
use Rattle.device_turn.specs.Rule.{has}
use Rattle.device_turn.proofs.Members.{has_next}
use Rattle.device_turn.proofs.seating.take_in.Goals as goal

pub returns-clause-after : goal.returns-clause-after
returns-clause-after g c k some low =
    let gone = c.args.gone in
    let joined = ap (λ m. m.0.joined) c.join.ensures.both in
    let is : gone.seat.me.0.number ≡ c.args.number = gone.numbered ∙ c.requires.gone.number_is in
    let all = has_next k gone.seat.me.0.number gone.seat.me.0.word gone.seat.me.0.joined
    c.args.operator.now.seat.me.0.joined (subst (λ n. k < n + 1) (sym is) low)
    (λ less. c.requires.before k some (subst (λ n. k < n) is less)) in
    subst (λ (es : List (ℕ × ℕ)). has k es ≡ true) (sym joined) all
