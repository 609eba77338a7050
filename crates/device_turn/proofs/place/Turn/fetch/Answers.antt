use Rattle.std.proofs.Common.{◌∙◌, Some, arith, ap, refl}
use mathlib.Core.Option.{none}
use Rattle.atomic_table.specs.Table.{step}
use Rattle.device_turn.proofs.Moves.{fetches_device}
use Rattle.device_turn.proofs.place.Turn.fetch.Goals as goal

pub load-requires : goal.load-requires
load-requires g c =
    let words = c.args.self.now.seven_words in
    (c.requires.own, omega arith, fetches_device _ _ _ _ (step 1 0 0 0 none) _ _ c.args.seat.now.live c.requires.turn.0)

pub exchange-found-requires : goal.exchange-found-requires
exchange-found-requires g c =
    let got = c.load.ensures.2 in
    let held = ap (λ m. m.1) got.1 in
    (c.load.ensures.0 ∙ c.requires.own, (Some got.0, rw held refl))
