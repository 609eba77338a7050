use Rattle.std.proofs.Common.{◌+◌, arith, refl}
use mathlib.Core.Option.{none}
use Rattle.atomic_table.specs.Table.{step}
use Rattle.device_turn.proofs.Moves.{looks}
use Rattle.device_turn.proofs.place.Turn.seen.Goals as goal

pub load-requires : goal.load-requires
load-requires g c =
    let words = c.args.self.now.seven_words in
    let low = c.requires.other in
    (c.requires.own, omega arith, looks _ _ _ _ (step 1 (c.args.other + 1) 0 0 none) _ _ c.args.other refl)

pub returns-clause-loaded : goal.returns-clause-loaded
returns-clause-loaded g c = (c.load.ensures.2.1 c.args.other refl).0

pub returns-clause-owned : goal.returns-clause-owned
returns-clause-owned g c = (c.load.ensures.2.1 c.args.other refl).1
