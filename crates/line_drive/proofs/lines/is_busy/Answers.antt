use Rattle.std.proofs.Common.{◌∙◌, Bool, ap, sym}
use Rattle.std.specs.Prelude.{◌||◌}
use Rattle.deck_run.proofs.Going.{busy_is}
use Rattle.line_drive.proofs.lines.is_busy.Goals as goal

pub returns-then-half : goal.returns-then-half
returns-then-half c = λ run all.
    c.if-half.true ∙ ap (λ (b : Bool). b || c.is_some-runs.result) (sym c.if-half.true)
    ∙ busy_is c.args.sub.now run c.args.d c.device-device.result.now c.half_open-half.result c.active.result c.is_some-runs.result all
    c.device-device.ensures c.half_open-half.ensures c.active.ensures c.is_some-runs.ensures

pub returns-else-half : goal.returns-else-half
returns-else-half c = λ run all.
    ap (λ (b : Bool). b || c.is_some-runs.result) (sym c.if-half.false)
    ∙ busy_is c.args.sub.now run c.args.d c.device-device.result.now c.half_open-half.result c.active.result c.is_some-runs.result all
    c.device-device.ensures c.half_open-half.ensures c.active.ensures c.is_some-runs.ensures
