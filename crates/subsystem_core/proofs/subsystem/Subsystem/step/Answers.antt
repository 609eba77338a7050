use Rattle.std.proofs.Common.{◌∙◌, refl, sym}
use Rattle.device_outside.specs.Keeper.{Heard}
use Rattle.device_defs.specs.Contents.{contents}
use Rattle.subsystem_defs.specs.declared.end.EventEnd.TheVariants as answers
use Rattle.subsystem_core.specs.declared.end.EventEnd.TheVariants as ends
use Rattle.subsystem_defs.specs.declared.event.Event.TheVariants as events
use Rattle.device_defs.specs.Events.{second}
use Rattle.device_defs.specs.Command.{command}
use Rattle.subsystem_core.proofs.Coming.{commanded, command_lacked, ended, open_none, open_some, runs, seconded}
use Rattle.device_core.specs.State.{device_of}
use Rattle.subsystem_core.proofs.Deeds as deeds
use Rattle.subsystem_core.proofs.Found.{found_in}
use Rattle.subsystem_core.proofs.subsystem.Subsystem.step.Goals as goal

pub command_at-requires-clause-running : goal.command_at-requires-clause-running
command_at-requires-clause-running g c =
    rw c.device-device.ensures (runs (device_of c.device-device.result.now).history.running _ (sym c.active.ensures ∙ c.in-Some.is))

pub command_at-requires-clause-whole : goal.command_at-requires-clause-whole
command_at-requires-clause-whole g c = rw c.device-device.ensures (sym c.half_open.ensures ∙ c.if-half_open.false)

pub returns-then-half_open-clause-came : goal.returns-then-half_open-clause-came
returns-then-half_open-clause-came g c =
    seconded c.args.self.now _ (events.Step c.args.d) c.args.d c.device-device.result.now (second contents) c.second_at.result c.device-device.ensures
    (deeds.second_first contents _ _ _ _ (found_in c.args.self.now.devices.items c.args.d _ c.device-device.ensures)
    (sym c.half_open.ensures ∙ c.if-half_open.true)) c.second_at.ensures.asked

pub returns-in-None-clause-came : goal.returns-in-None-clause-came
returns-in-None-clause-came g c =
    ended (Heard g.K.Keep.hears g.K.Keep.takes) c.args.keep.now c.args.self.now _ (events.Step c.args.d) answers.Idle ends.Idle
    (deeds.idle contents _ _ _ _ (found_in c.args.self.now.devices.items c.args.d _ c.device-device.ensures)
    (sym c.half_open.ensures ∙ c.if-half_open.false) (open_none (device_of c.device-device.result.now).history.running (sym c.active.ensures ∙ c.in-None.is)))
    (λ p. refl) (refl, refl)

pub returns-in-Err-clause-came : goal.returns-in-Err-clause-came
returns-in-Err-clause-came g c =
    command_lacked c.args.self.now _ (events.Step c.args.d) c.args.d c.device-device.result.now (command contents) _ c.device-device.ensures
    (deeds.commanded contents _ _ _ _ (found_in c.args.self.now.devices.items c.args.d _ c.device-device.ensures)
    (sym c.half_open.ensures ∙ c.if-half_open.false) (open_some (device_of c.device-device.result.now).history.running _
    (sym c.active.ensures ∙ c.in-Some.is))) c.in-Err.ensures.asked

pub returns-in-Ok-clause-came : goal.returns-in-Ok-clause-came
returns-in-Ok-clause-came g c =
    commanded c.args.self.now _ (events.Step c.args.d) c.args.d c.device-device.result.now (command contents) c.in-Ok.step c.device-device.ensures
    (deeds.commanded contents _ _ _ _ (found_in c.args.self.now.devices.items c.args.d _ c.device-device.ensures)
    (sym c.half_open.ensures ∙ c.if-half_open.false) (open_some (device_of c.device-device.result.now).history.running _
    (sym c.active.ensures ∙ c.in-Some.is))) c.in-Ok.ensures.asked

pub second_at-requires-clause-open : goal.second_at-requires-clause-open
second_at-requires-clause-open g c = rw c.device-device.ensures (sym c.half_open.ensures ∙ c.if-half_open.true)
