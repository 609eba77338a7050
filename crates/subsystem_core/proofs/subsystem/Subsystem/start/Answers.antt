use Rattle.std.proofs.Common.{◌∙◌, refl, sym}
use Rattle.device_outside.specs.Keeper.{Heard}
use Rattle.device_defs.specs.Contents.{contents}
use Rattle.device_core.specs.State.{device_of}
use Rattle.subsystem_defs.specs.declared.end.EventEnd.TheVariants as answers
use Rattle.subsystem_core.specs.declared.end.EventEnd.TheVariants as ends
use Rattle.subsystem_defs.specs.declared.event.Event.TheVariants as events
use Rattle.device_defs.specs.Start.{start}
use Rattle.subsystem_core.proofs.Coming.{became_none, ended, has_started, same_number}
use Rattle.subsystem_core.proofs.Deeds as deeds
use Rattle.subsystem_core.proofs.Found.{found_in}
use Rattle.subsystem_core.proofs.subsystem.Subsystem.start.Goals as goal

pub start_at-requires-clause-idle : goal.start_at-requires-clause-idle
start_at-requires-clause-idle g c =
    rw c.device-device.ensures (sym c.is_own.ensures ∙ c.if-is_own.false)

pub start_at-requires-clause-free : goal.start_at-requires-clause-free
start_at-requires-clause-free g c =
    rw c.device-device.ensures (sym c.start_fault.ensures ∙ c.in_default.is)

pub returns-then-is_own-clause-came : goal.returns-then-is_own-clause-came
returns-then-is_own-clause-came g c =
    λ k. ended (Heard g.K.Keep.hears g.K.Keep.takes) k c.args.self.now _ (events.Start c.args.path c.args.d) answers.Running ends.Running
    (deeds.own_runs contents _ _ _ _ (found_in c.args.self.now.devices.items c.args.d _ c.device-device.ensures) c.args.path
    (sym c.is_own.ensures ∙ c.if-is_own.true)) (λ p. refl) (refl, refl)

pub returns-in-Some-clause-came : goal.returns-in-Some-clause-came
returns-in-Some-clause-came g c =
    λ k. ended (Heard g.K.Keep.hears g.K.Keep.takes) k c.args.self.now _ (events.Start c.args.path c.args.d) (answers.NotStarted c.in-Some.fault)
    (ends.NotStarted c.in-Some.fault)
    (deeds.start_refused contents _ _ _ _ (found_in c.args.self.now.devices.items c.args.d _ c.device-device.ensures) c.args.path c.in-Some.fault
    (sym c.is_own.ensures ∙ c.if-is_own.false) (sym c.start_fault.ensures ∙ c.in-Some.is)) (λ p. refl) (refl, refl)

pub returns-in-Err-clause-came : goal.returns-in-Err-clause-came
returns-in-Err-clause-came g c =
    λ k. became_none (Heard g.K.Keep.hears g.K.Keep.takes) k c.args.self.now _ (events.Start c.args.path c.args.d) c.args.d c.device-device.result.now (start
    (device_of c.device-device.result.now) c.args.path) _ c.device-device.ensures
    (deeds.started contents _ _ _ _ (found_in c.args.self.now.devices.items c.args.d _ c.device-device.ensures) c.args.path
    (sym c.is_own.ensures ∙ c.if-is_own.false) (sym c.start_fault.ensures ∙ c.in_default.is))
    (same_number c.device-device.result.now c.args.path) c.in-Err.ensures.pool c.in-Err.ensures.done

pub returns-in-Ok-clause-came : goal.returns-in-Ok-clause-came
returns-in-Ok-clause-came g c =
    λ k. has_started (Heard g.K.Keep.hears g.K.Keep.takes) k c.args.self.now _ (events.Start c.args.path c.args.d) c.args.d c.device-device.result.now
    c.args.path c.in-Ok.ordinal
    c.device-device.ensures
    (deeds.started contents _ _ _ _ (found_in c.args.self.now.devices.items c.args.d _ c.device-device.ensures) c.args.path
    (sym c.is_own.ensures ∙ c.if-is_own.false) (sym c.start_fault.ensures ∙ c.in_default.is)) c.in-Ok.ensures.pool c.in-Ok.ensures.done
