use Rattle.device_core.specs.State.{device_of}
use Rattle.subsystem_core.proofs.Standing.{loses_home}
use Rattle.std.proofs.Common.{◌∙◌, refl, sym}
use Rattle.device_outside.specs.Keeper.{Heard}
use Rattle.device_defs.specs.Contents.{contents}
use Rattle.subsystem_defs.specs.declared.end.EventEnd.TheVariants as answers
use Rattle.subsystem_core.specs.declared.end.EventEnd.TheVariants as ends
use Rattle.subsystem_defs.specs.declared.event.Event.TheVariants as events
use Rattle.loss_model.specs.declared.Loss.TheVariants as losses
use Rattle.device_defs.specs.Events.{lose}
use Rattle.subsystem_core.proofs.Coming.{was_done, ended}
use Rattle.subsystem_core.proofs.Deeds as deeds
use Rattle.subsystem_core.proofs.Found.{found_in}
use Rattle.subsystem_core.proofs.subsystem.Subsystem.fail_volume.Goals as goal

pub returns-in-Some-clause-came : goal.returns-in-Some-clause-came
returns-in-Some-clause-came g c =
    ended (Heard g.K.Keep.hears g.K.Keep.takes) c.args.keep.now c.args.self.now _ (events.FailVolume c.args.d c.args.side)
    (answers.Refused c.in-Some.fault) (ends.Refused c.in-Some.fault)
    (deeds.loss_refused contents _ _ _ _ (found_in c.args.self.now.devices.items c.args.d _ c.device.ensures) c.args.side c.in-Some.fault
    (sym c.fail_fault.ensures ∙ c.in-Some.is)) (λ p. refl) (refl, refl)

pub returns-clause-came : goal.returns-clause-came
returns-clause-came g c =
    was_done c.args.self.now _ (events.FailVolume c.args.d c.args.side) c.args.d c.device.result.now (λ x. lose contents x
    (losses.Side c.args.side)) c.device.ensures
    (deeds.side_lost contents _ _ _ _ (found_in c.args.self.now.devices.items c.args.d _ c.device.ensures) c.args.side
    (sym c.fail_fault.ensures ∙ c.in_default.is)) c.lose_at.ensures.asked

pub lose_at-requires-clause-home : goal.lose_at-requires-clause-home
lose_at-requires-clause-home g c =
    rw c.device.ensures (loses_home (device_of c.device.result.now) c.args.side (sym c.fail_fault.ensures ∙ c.in_default.is))
