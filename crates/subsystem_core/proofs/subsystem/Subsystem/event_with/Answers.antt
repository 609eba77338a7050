use Rattle.subsystem_core.proofs.Standing.{stay_plain}
use Rattle.subsystem_core.proofs.Hearing.{came_still, numbers_by_spans, takes_on}
use Rattle.subsystem_core.proofs.subsystem.Subsystem.event_with.Goals as goal

pub returns-clause-numbers : goal.returns-clause-numbers
returns-clause-numbers g c = numbers_by_spans _ _ c.happen.ensures.spans

pub returns-clause-takes : goal.returns-clause-takes
returns-clause-takes g c =
    takes_on c.args.keep.now c.happen.new.keep c.args.self.now.devices.items c.happen.new.self.devices.items
    (came_still g.K.Keep.hears g.K.Keep.takes c.args.e c.args.self.now c.happen.new.self c.args.keep.now c.happen.new.keep _ c.happen.ensures.came)
    c.happen.ensures.spans c.requires.takes

pub returns-clause-plain : goal.returns-clause-plain
returns-clause-plain g c = λ none. stay_plain _ _ (c.happen.ensures.stands none)
