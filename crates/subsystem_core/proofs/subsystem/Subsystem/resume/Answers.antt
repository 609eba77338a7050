use Rattle.subsystem_core.proofs.Standing.{resumed_pair}
use Rattle.std.proofs.Common.{◌∙◌, refl, sym}
use Rattle.device_outside.specs.Keeper.{Heard}
use Rattle.device_defs.specs.Contents.{contents}
use Rattle.device_defs.specs.Orders.{resume}
use Rattle.device_core.specs.State.{device_of}
use Rattle.subsystem_defs.specs.declared.end.EventEnd.TheVariants as answers
use Rattle.subsystem_core.specs.Comes.{IsNow}
use Rattle.subsystem_core.specs.declared.end.EventEnd.TheVariants as ends
use Rattle.subsystem_defs.specs.declared.event.Event.TheVariants as events
use Rattle.subsystem_core.proofs.Coming.{became, ended}
use Rattle.subsystem_core.proofs.Deeds as deeds
use Rattle.subsystem_core.proofs.Found.{found_in}
use Rattle.subsystem_core.proofs.subsystem.Subsystem.resume.Goals as goal

pub returns-in-Some-clause-came : goal.returns-in-Some-clause-came
returns-in-Some-clause-came g c =
    λ k. ended (Heard g.K.Keep.hears g.K.Keep.takes) k c.args.self.now _ (events.Resume c.args.d) (answers.Refused c.in-Some.fault)
    (ends.Refused c.in-Some.fault)
    (deeds.resume_refused contents _ _ _ _ (found_in c.args.self.now.devices.items c.args.d _ c.device.ensures) c.in-Some.fault
    (sym c.resume_fault.ensures ∙ c.in-Some.is)) (λ p. refl) (refl, refl)

pub returns-clause-came : goal.returns-clause-came
returns-clause-came g c =
    λ k. became (Heard g.K.Keep.hears g.K.Keep.takes) k c.args.self.now _ (events.Resume c.args.d) c.args.d
    c.device.result.now (resume (device_of c.device.result.now))
    answers.Done ends.Done (λ x y. IsNow (resume (device_of x)) x y) c.device.ensures
    (deeds.resumed contents _ _ _ _ (found_in c.args.self.now.devices.items c.args.d _ c.device.ensures)
    (sym c.resume_fault.ensures ∙ c.in_default.is)) refl (λ p. refl) c.resume_at.ensures.pool (λ y is. is) c.resume_at.ensures.resumed

pub resume_at-requires-clause-two : goal.resume_at-requires-clause-two
resume_at-requires-clause-two g c =
    rw c.device.ensures (resumed_pair (device_of c.device.result.now) (sym c.resume_fault.ensures ∙ c.in_default.is))
