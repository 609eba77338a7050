use Rattle.std.proofs.Common.{◌∙◌, arith, refl, sym}
use Rattle.std.proofs.lemmas.List.{length-set}
use Rattle.std.proofs.lemmas.List.Elements.{AllWithin-more_set}
use Rattle.path_workers.specs.Keeping.{IsFinished}
use Rattle.path_workers.proofs.Finishing.{all_same, one_more}
use Rattle.path_workers.proofs.ending.finish_all.Goals as goal

pub loop-i-init : goal.loop-i-init
loop-i-init g c = (all_same c.args.devices.now, λ k d least low. absurd (omega (arith, low)), refl, refl)

pub loop-i-preserved : goal.loop-i-preserved
loop-i-preserved g c =
    let l = c.loop-i in
    let new = c.finish.new.device in
    let low = c.loop-i-test.true in
    let kept = length-set l.devices l.i new in (
      one_more c.args.devices.now l.devices l.i c.index-devices-i.result new l.invariant.0 low c.in_ok-finish.ensures.stays,
      AllWithin-more_set l.devices l.i new (omega (arith, low, l.invariant.2)) IsFinished l.invariant.1 c.in_ok-finish.ensures.finished,
      kept ∙ l.invariant.2,
      l.invariant.3 ∙ sym kept,
    )

pub returns-clause-finished : goal.returns-clause-finished
returns-clause-finished g c k d low =
    let l = c.loop-i in l.invariant.1 k d (omega arith) (omega (arith, low, c.loop-i-test.false, l.invariant.2))
