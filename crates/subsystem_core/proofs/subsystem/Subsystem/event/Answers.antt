use Rattle.subsystem_core.proofs.Hearing.{came_plain, none_takes}
use Rattle.subsystem_core.proofs.subsystem.Subsystem.event.Goals as goal

pub event_with-requires-clause-takes : goal.event_with-requires-clause-takes
event_with-requires-clause-takes g c = none_takes _ _

pub returns-clause-came : goal.returns-clause-came
returns-clause-came g c =
    came_plain c.args.e c.args.self.now c.event_with.new.self _ c.event_with.new.keep _ c.event_with.ensures.came
