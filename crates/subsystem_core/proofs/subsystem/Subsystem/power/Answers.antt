use Rattle.device_defs.specs.Contents.{contents}
use Rattle.subsystem_defs.specs.declared.event.Event.TheVariants as events
use Rattle.device_outside.specs.Pool.{power_lost}
use Rattle.device_defs.specs.Cutting.{power}
use Rattle.subsystem_core.proofs.Coming.{all_swept}
use Rattle.subsystem_core.proofs.Deeds as deeds
use Rattle.subsystem_core.proofs.subsystem.Subsystem.power.Goals as goal

pub returns-clause-came : goal.returns-clause-came
returns-clause-came g c =
    all_swept c.args.self.now _ (events.Power) (power_lost c.args.self.now.pool.pool) (power contents) _
    (deeds.power_came contents _ _) c.power.ensures c.power_all.ensures.each
