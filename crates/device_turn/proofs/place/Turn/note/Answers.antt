use Rattle.std.proofs.Common.{◌≢◌, ◌+◌, ◌∙◌, arith, ap, refl}
use mathlib.Core.Option.{none}
use Rattle.atomic_table.specs.Table.{step}
use Rattle.device_turn.proofs.Moves.{notes_word}
use Rattle.device_turn.proofs.place.Turn.note.Goals as goal

pub load-requires : goal.load-requires
load-requires g c =
    let seat = c.args.seat.now in
    let words = c.args.self.now.seven_words in
    let low = c.requires.other.0 in
    let other : c.args.other ≢ seat.seat.me.0.number = λ e. c.requires.other.1 (e ∙ seat.numbered) in
    (c.requires.own, omega arith, notes_word _ _ _ _ (step 1 (c.args.other + 1) 0 0 none) _ _ c.args.other refl c.requires.turn other)

pub returns-clause-noted : goal.returns-clause-noted
returns-clause-noted g c = (c.load.result, c.load.ensures.2 c.args.other refl)

pub invariant_of-seat : goal.invariant_of-seat
invariant_of-seat g c =
    let seat = c.args.seat.now in
    let e = c.load.ensures.2 c.args.other refl in
    record {
      numbered = ap (λ m. m.0.number) e ∙ seat.numbered;
      small = seat.small;
      live =
          ap (λ m. m.0.live) e ∙ seat.live;
      counted = ap (λ m. m.0.made) e ∙ seat.counted;
    }
