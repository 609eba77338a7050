use Rattle.device_defs.specs.Contents.{contents}
use Rattle.subsystem_defs.specs.declared.event.Event.TheVariants as events
use Rattle.device_defs.specs.Cutting.{reset}
use Rattle.subsystem_core.proofs.Coming.{was_done}
use Rattle.subsystem_core.proofs.Deeds as deeds
use Rattle.subsystem_core.proofs.Found.{found_in}
use Rattle.subsystem_core.proofs.subsystem.Subsystem.reset.Goals as goal

pub returns-clause-came : goal.returns-clause-came
returns-clause-came g c =
    was_done c.args.self.now _ (events.Reset c.args.path c.args.d) c.args.d c.reset_at.ensures.asked.before
    (λ x. reset contents x c.args.path) c.reset_at.ensures.asked.stood
    (deeds.was_reset contents _ _ _ _ (found_in c.args.self.now.devices.items c.args.d _ c.reset_at.ensures.asked.stood) c.args.path) c.reset_at.ensures.asked
