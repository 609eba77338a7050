use Rattle.std.proofs.lemmas.Result.{IfOk-weaker, on_err_weaker}
use Rattle.std.proofs.Common.{◌<◌, ◌*◌, ◌∙◌, refl, ap, sym, subst, true, false, Some}
use Rattle.ckd_chain.specs.Steps.{again_from}
use Rattle.ckd_chain.specs.Facts.{NeedsTrack, SuitsTrack}
use Rattle.device_outside.specs.Outside.{done}
use Rattle.device_outside.proofs.Runs.{ended, tries}
use Rattle.device_defs.specs.Command.{Over}
use Rattle.device_defs.specs.Contents.{contents}
use Rattle.device_store.specs.State.{state_of}
use Rattle.device_store.proofs.Moves.{had_ok, from_equal}
use Rattle.device_core.specs.TrackWalk.{Left, Waits}
use Rattle.device_core.proofs.Stepping.{begun_opened, waits_as, goes_from}
use Rattle.device_defs.specs.Command.{went_by}
use Rattle.device_defs.specs.Outcomes.{usage_of}
use Rattle.ckd_chain.specs.Steps.{stepped}
use Rattle.device_core.proofs.track_walk.on_image.Goals as goal

pub returns-in-Err-clause-run : goal.returns-in-Err-clause-run
returns-in-Err-clause-run g c = tries false tt done

pub returns-in-Err-clause-hand : goal.returns-in-Err-clause-hand
returns-in-Err-clause-hand g c = record { again = ap again_from (c.in-Err.ensures.same ∙ begun_opened c.args.chain.now c.requires.at.begun) }

pub returns-in-Ended-clause-run : goal.returns-in-Ended-clause-run
returns-in-Ended-clause-run g c =
    rw (← c.seen-image.ensures.image) (tries true refl (rw (← c.in-Ok.ensures.progress, c.in-Ended.is, ← c.in-Ok.ensures.chain) done))

pub returns-in-Need-clause-run : goal.returns-in-Need-clause-run
returns-in-Need-clause-run g c =
    rw (← c.seen-image.ensures.image) (tries true refl (rw (← c.in-Ok.ensures.progress, c.in-Need.is, ← c.in-Ok.ensures.chain) done))

pub returns-in-Local-clause-run : goal.returns-in-Local-clause-run
returns-in-Local-clause-run g c =
    rw (← c.seen-image.ensures.image) (tries true refl
    (from_equal (λ x. went_by contents (usage_of c.args.chain.now) c.args.first c.args.t (state_of c.args.store.now) c.seen-image.result.now x
    (stepped c.args.chain.now (Some c.seen-image.result.now)).progress) c.in-Ok.ensures.chain refl
    (from_equal (λ p. went_by contents (usage_of c.args.chain.now) c.args.first c.args.t (state_of c.args.store.now) c.seen-image.result.now c.step.new.self p)
    (sym c.in-Local.is ∙ c.in-Ok.ensures.progress) refl (ended refl (ap (λ x. Some (Over x)) (sym c.check.ensures.turn))))))

pub returns-in-Write-clause-run : goal.returns-in-Write-clause-run
returns-in-Write-clause-run g c =
    tries true (had_ok c.write_edit.result)
    (rw (← c.seen-image.ensures.image) (rw (← c.in-Ok.ensures.progress, c.in-Write.is, ← c.in-Ok.ensures.chain, ← c.requires.usage)
    (rw (← c.seen-image.ensures.image) at c.write_edit.ensures.run)))

pub check-requires : goal.check-requires
check-requires g c =
    let w = waits_as c.args.store.now.cylinders c.args.chain.now c.step.new.self c.seen-image.result.now c.in-Ok.progress c.requires.at
    c.in-Ok.ensures.progress c.in-Ok.ensures.chain in
    (subst (λ p. Waits c.args.store.now.cylinders c.args.chain.now c.step.new.self p) c.in-Local.is w).running

pub write_edit-requires-clause-at : goal.write_edit-requires-clause-at
write_edit-requires-clause-at g c =
    let w = waits_as c.args.store.now.cylinders c.args.chain.now c.step.new.self c.seen-image.result.now c.in-Ok.progress c.requires.at
    c.in-Ok.ensures.progress c.in-Ok.ensures.chain in
    (subst (λ p. Waits c.args.store.now.cylinders c.args.chain.now c.step.new.self p) c.in-Write.is w).0

pub write_edit-requires-clause-written : goal.write_edit-requires-clause-written
write_edit-requires-clause-written g c =
    let w = waits_as c.args.store.now.cylinders c.args.chain.now c.step.new.self c.seen-image.result.now c.in-Ok.progress c.requires.at
    c.in-Ok.ensures.progress c.in-Ok.ensures.chain in
    (subst (λ p. Waits c.args.store.now.cylinders c.args.chain.now c.step.new.self p) c.in-Write.is w).2

pub returns-in-Ended-clause-goes : goal.returns-in-Ended-clause-goes
returns-in-Ended-clause-goes g c =
    let w = waits_as c.args.store.now.cylinders c.args.chain.now c.step.new.self c.seen-image.result.now c.in-Ok.progress c.requires.at
    c.in-Ok.ensures.progress c.in-Ok.ensures.chain in
    subst (λ p. Waits c.args.store.now.cylinders c.args.chain.now c.step.new.self p) c.in-Ended.is w

pub returns-in-Need-clause-goes : goal.returns-in-Need-clause-goes
returns-in-Need-clause-goes g c =
    let w = waits_as c.args.store.now.cylinders c.args.chain.now c.step.new.self c.seen-image.result.now c.in-Ok.progress c.requires.at
    c.in-Ok.ensures.progress c.in-Ok.ensures.chain in
    let on = subst (λ p. Waits c.args.store.now.cylinders c.args.chain.now c.step.new.self p) c.in-Need.is w in (
      on.0,
      on.1,
      subst (λ n. c.in-Need.next < n * 15) c.requires.at.cylinders_are
          (subst (λ p. NeedsTrack (c.args.chain.now.fixed.cylinders * 15) p) c.in-Need.is c.in-Ok.ensures.needs),
    )

pub returns-in-Local-clause-goes : goal.returns-in-Local-clause-goes
returns-in-Local-clause-goes g c =
    let w = waits_as c.args.store.now.cylinders c.args.chain.now c.step.new.self c.seen-image.result.now c.in-Ok.progress c.requires.at
    c.in-Ok.ensures.progress c.in-Ok.ensures.chain in
    subst (λ n. Left n c.check.new.chain c.check.result)
    (subst (λ p. Waits c.args.store.now.cylinders c.args.chain.now c.step.new.self p) c.in-Local.is w).cylinders_are c.check.ensures.left

pub returns-in-Write-clause-goes : goal.returns-in-Write-clause-goes
returns-in-Write-clause-goes g c =
    let w = waits_as c.args.store.now.cylinders c.args.chain.now c.step.new.self c.seen-image.result.now c.in-Ok.progress c.requires.at
    c.in-Ok.ensures.progress c.in-Ok.ensures.chain in
    IfOk-weaker c.write_edit.result _ _ (goes_from c.args.store.now.cylinders c.args.chain.now c.step.new.self c.write_edit.new.chain
    (subst (λ p. Waits c.args.store.now.cylinders c.args.chain.now c.step.new.self p) c.in-Write.is w).1) c.write_edit.ensures.goes

pub returns-in-Write-clause-hand : goal.returns-in-Write-clause-hand
returns-in-Write-clause-hand g c =
    let w = waits_as c.args.store.now.cylinders c.args.chain.now c.step.new.self c.seen-image.result.now c.in-Ok.progress c.requires.at
    c.in-Ok.ensures.progress c.in-Ok.ensures.chain in
    let same = (subst (λ p. Waits c.args.store.now.cylinders c.args.chain.now c.step.new.self p) c.in-Write.is w).1 in
    on_err_weaker c.write_edit.result (λ h. record { again = h.again ∙ same.again }) c.write_edit.ensures.hand

pub write_edit-requires-clause-suits : goal.write_edit-requires-clause-suits
write_edit-requires-clause-suits g c =
    rw (← c.seen-image.ensures.image) (subst (λ p. SuitsTrack (Some c.seen-image.result.now) p) c.in-Write.is c.in-Ok.ensures.suits)
