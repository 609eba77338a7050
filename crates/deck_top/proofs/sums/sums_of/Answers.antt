use Rattle.std.proofs.Common.{◌∙◌, ap}
use Rattle.device_defs.specs.Excused.{count_lost}
use Rattle.deck_top.specs.declared.sums.Sums.{Sums}
use Rattle.deck_top.specs.Summing.{lost_in, reads_in, writes_in}
use Rattle.deck_top.proofs.Summed.{sums_are, total_more}
use Rattle.deck_top.proofs.sums.sums_of.Goals as goal

pub loop-device-preserved : goal.loop-device-preserved
loop-device-preserved g c =
    let i = c.loop-device.device-index in
    let xs = c.args.devices.now in
    let x = c.device-item.result in
    let inside = c.loop-device-test.true in
    sums_are _ _ _ _ _ _
    (total_more reads_in xs i x _ _ _ inside c.device-item.is (ap (λ (s : Sums). s.reads) c.loop-device.invariant) c.reads.ensures c.added.ensures)
    (total_more writes_in xs i x _ _ _ inside c.device-item.is (ap (λ (s : Sums). s.writes) c.loop-device.invariant) c.writes.ensures
    c.added-in-loop-device.ensures)
    (total_more lost_in xs i x _ _ _ inside c.device-item.is (ap (λ (s : Sums). s.lost) c.loop-device.invariant)
    (c.count_lost.ensures ∙ ap count_lost c.lost.ensures) c.added-in-loop-device-2.ensures)
