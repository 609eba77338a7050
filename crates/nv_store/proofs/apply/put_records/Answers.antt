use Rattle.std.proofs.Common.{◌≡◌, ◌+◌, ◌-◌, length, arith}
use Rattle.nv_store.proofs.Fits.{rest_fits}
use Rattle.nv_store.proofs.apply.put_records.Goals as goal

pub put_behind-requires : goal.put_behind-requires
put_behind-requires c =
    let image = c.loop-record.image in
    let ends : c.len-last.result - 1 + 1 ≡ length image.track.records =
    omega (arith, c.len-last.ensures.value, c.len-last.ensures.least) in
    rest_fits image.geometry image.track.records c.args.records.now _ c.loop-record.record-index
    (c.len-last.result - 1) c.record-item.result ends (omega arith) c.record-item.is
    c.loop-record.invariant.records (rw c.loop-record.invariant.geometry c.requires)
