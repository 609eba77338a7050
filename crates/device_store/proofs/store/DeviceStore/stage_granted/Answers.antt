use Rattle.std.proofs.Common.{refl, ap, sym, Some}
use Rattle.device_outside.proofs.Runs.{ended, joined, asks}
use Rattle.device_defs.specs.Background.{staged_bytes}
use Rattle.device_defs.specs.Contents.{contents}
use Rattle.device_store.proofs.Moves.{weaker}
use Rattle.device_store.proofs.store.DeviceStore.stage_granted.Goals as goal

pub returns-then-got-clause-run : goal.returns-then-got-clause-run
returns-then-got-clause-run g c =
    joined (λ z got. staged_bytes contents c.args.t z got got.bytes) (weaker c.stage_bytes.result (c.level_bytes-got.ensures.run _))
    (rw c.if-got.true (rw c.if-got.true at c.stage_bytes.ensures.run _))

pub returns-clause-run : goal.returns-clause-run
returns-clause-run g c =
    joined (λ z got. staged_bytes contents c.args.t z got got.bytes) (c.level_bytes-got.ensures.run _)
    (rw c.if-got.false (asks c.drop_frame.ensures (ended refl (ap Some (sym c.did.ensures)))))

pub stage_bytes-requires-clause-firm : goal.stage_bytes-requires-clause-firm
stage_bytes-requires-clause-firm g c =
    c.level_bytes-got.ensures.firm c.args.t (c.requires.firm (c.level_bytes-got.ensures.here c.if-got.true).0)
