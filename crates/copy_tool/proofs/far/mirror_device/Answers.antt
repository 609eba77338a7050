use Rattle.std.proofs.Common.{◌≡◌, ◌∙◌, ◌<◌, ◌^◌, ℕ, List, map, refl, subst, sym, arith}
use Rattle.deck_plan.specs.declared.event.EventLine.{EventLine}
use Rattle.subsystem_core.specs.Devices.{device_at}
use Rattle.subsystem_defs.specs.Lines.{asked_by}
use Rattle.line_drive.specs.Driven.{Goes, driven}
use Rattle.line_drive.specs.Staging.{LinesMay}
use Rattle.deck_run.proofs.Ready.{read_lines}
use Rattle.remote_copy.specs.Mirrored.{mirror_course}
use Rattle.remote_copy.specs.Mirroring.{IsMirror, MirrorRun}
use Rattle.copy_tool.specs.MirrorStanding.{IsKept, mirror_from}
use Rattle.copy_tool.proofs.Firms.{over_so}
use Rattle.copy_tool.proofs.FarVolumes.{found_so, small_far}
use Rattle.copy_tool.proofs.MirrorStaged.{lines_kept}
use Rattle.copy_tool.proofs.far.mirror_device.Goals as goal
use Rattle.copy_tool.proofs.far.mirror_device.Goals.{In-Ok-drive}

pub drive-requires-clause-here : goal.drive-requires-clause-here
drive-requires-clause-here c =
    rw (c.in-Ok.ensures.numbers, c.as_slice.ensures ∙ c.schedule.ensures) (read_lines c.requires.read.0 c.args.deck.now c.requires.read.1)

pub drive-requires-clause-asked : goal.drive-requires-clause-asked
drive-requires-clause-asked c =
    subst (λ (n : ℕ). LinesMay (IsKept n) (map asked_by c.as_slice.result.now)) (sym c.in-Ok.ensures.device)
    (subst (λ (es : List EventLine). LinesMay (IsKept c.args.d) (map asked_by es)) (sym (c.as_slice.ensures ∙ c.schedule.ensures))
    (lines_kept c.args.d c.args.deck.now.events c.requires.kept))

pub far_volume-requires-clause-here : goal.far_volume-requires-clause-here
far_volume-requires-clause-here c = rw (c.in-Ok-drive.ensures.goes_on.same ∙ c.in-Ok.ensures.numbers) c.requires.here

-- all lines are done, and the mirror stands behind them
goes_so : (c : In-Ok-drive) → (z : MirrorRun) × (driven mirror_course (map asked_by c.args.deck.now.events) (mirror_from c.args.deck.now c.args.d c.args.put) ≡ Goes z)
    × IsMirror c.drive.new.stage.mirror z
goes_so c =
    let so = c.in-Ok-drive.ensures.reaches (mirror_from c.args.deck.now c.args.d c.args.put) c.in-Ok.ensures.stands in (
      so.0,
      subst (λ (es : List EventLine). driven mirror_course (map asked_by es) (mirror_from c.args.deck.now c.args.d c.args.put) ≡ Goes so.0)
          (c.as_slice.ensures ∙ c.schedule.ensures) so.1,
      so.2,
    )

pub far_volume-requires-clause-stands : goal.far_volume-requires-clause-stands
far_volume-requires-clause-stands c =
    let so = goes_so (goal.at.far_volume-requires-clause-stands c).In-Ok-drive in
    (so.0, (over_so c.args.deck.now c.args.d c.args.put so.0 so.1).device, so.2)

pub far_volume-requires-clause-small : goal.far_volume-requires-clause-small
far_volume-requires-clause-small c =
    let so = goes_so (goal.at.far_volume-requires-clause-small c).In-Ok-drive in
    small_far c.drive.new.stage.mirror c.args.deck.now c.args.d c.args.put so.0 c.requires.read so.1 so.2
    (device_at c.drive.new.stage.mirror.sub.devices.items c.args.d) refl

pub returns-clause-found : goal.returns-clause-found
returns-clause-found c =
    let so = goes_so (goal.at.returns-clause-found c).In-Ok-drive in
    let begun = c.in-Ok.ensures.stands in
    let small : c.args.put < 2 ^ 32 = omega arith in
    let f = c.in-Ok-far_volume.ensures.far so.0 so.2 (over_so c.args.deck.now c.args.d c.args.put so.0 so.1).device in
    found_so c.drive.new.stage.mirror c.args.deck.now c.args.d c.args.put so.0 c.requires.read so.1 so.2 begun.mounted begun.there small f.far f.told
    c.in-Ok-far_volume.volume f.is
