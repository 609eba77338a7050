use Rattle.device_outside.specs.Outside.{done}
use Rattle.device_outside.proofs.Runs.{joined}
use Rattle.device_defs.specs.Contents.{contents}
use Rattle.device_store.proofs.Moves.{weaker}
use Rattle.device_store.proofs.store.DeviceStore.miss.Goals as goal
use Rattle.device_defs.specs.Image.{missed}

pub returns-then-got-clause-run : goal.returns-then-got-clause-run
returns-then-got-clause-run g c =
    joined (λ z got. missed contents c.args.usage.now c.args.t z got got.bytes) (weaker c.deliver.result (c.level_bytes-got.ensures.run _))
    (rw c.if-got.true (c.deliver.ensures.run _))

pub returns-clause-run : goal.returns-clause-run
returns-clause-run g c =
    joined (λ z got. missed contents c.args.usage.now c.args.t z got got.bytes) (c.level_bytes-got.ensures.run _) (rw c.if-got.false done)

pub deliver-requires-clause-firm : goal.deliver-requires-clause-firm
deliver-requires-clause-firm g c =
    c.level_bytes-got.ensures.firm c.args.t (c.requires.firm (c.level_bytes-got.ensures.here c.if-got.true).0)

pub deliver-requires-clause-here : goal.deliver-requires-clause-here
deliver-requires-clause-here g c = (c.level_bytes-got.ensures.here c.if-got.true).1
