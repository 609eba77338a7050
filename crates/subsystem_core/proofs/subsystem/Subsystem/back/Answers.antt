use Rattle.std.proofs.Common.{◌∙◌, sym}
use Rattle.device_defs.specs.Contents.{contents}
use Rattle.subsystem_defs.specs.declared.event.Event.TheVariants as events
use Rattle.device_defs.specs.Events.{second}
use Rattle.device_defs.specs.Events.{background}
use Rattle.subsystem_core.proofs.Coming.{seconded, work_lacked, worked}
use Rattle.subsystem_core.proofs.Deeds as deeds
use Rattle.subsystem_core.proofs.Found.{found_in}
use Rattle.subsystem_core.proofs.subsystem.Subsystem.back.Goals as goal

pub returns-then-half_open-clause-came : goal.returns-then-half_open-clause-came
returns-then-half_open-clause-came g c =
    seconded c.args.self.now _ (events.Back c.args.d) c.args.d c.device.result.now (second contents) c.second_at.result c.device.ensures
    (deeds.back_second contents _ _ _ _ (found_in c.args.self.now.devices.items c.args.d _ c.device.ensures)
    (sym c.half_open.ensures ∙ c.if-half_open.true)) c.second_at.ensures.asked

pub returns-in-Err-clause-came : goal.returns-in-Err-clause-came
returns-in-Err-clause-came g c =
    work_lacked c.args.self.now _ (events.Back c.args.d) c.args.d c.device.result.now (background contents) _ c.device.ensures
    (deeds.worked contents _ _ _ _ (found_in c.args.self.now.devices.items c.args.d _ c.device.ensures)
    (sym c.half_open.ensures ∙ c.if-half_open.false)) c.in-Err.ensures.asked

pub returns-in-Ok-clause-came : goal.returns-in-Ok-clause-came
returns-in-Ok-clause-came g c =
    worked c.args.self.now _ (events.Back c.args.d) c.args.d c.device.result.now (background contents) c.in-Ok.did c.device.ensures
    (deeds.worked contents _ _ _ _ (found_in c.args.self.now.devices.items c.args.d _ c.device.ensures)
    (sym c.half_open.ensures ∙ c.if-half_open.false)) c.in-Ok.ensures.asked

pub background_at-requires-clause-whole : goal.background_at-requires-clause-whole
background_at-requires-clause-whole g c = rw c.device.ensures (sym c.half_open.ensures ∙ c.if-half_open.false)

pub second_at-requires-clause-open : goal.second_at-requires-clause-open
second_at-requires-clause-open g c = rw c.device.ensures (sym c.half_open.ensures ∙ c.if-half_open.true)
