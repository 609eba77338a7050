use Rattle.subsystem_core.proofs.Hearing.{numbers_by_spans, ran_still, takes_at, takes_on}
use Rattle.subsystem_core.proofs.Standing.{stay_plain}
use Rattle.subsystem_core.proofs.subsystem.Subsystem.peek_track_with.Goals as goal

pub peek_at-requires-clause-takes : goal.peek_at-requires-clause-takes
peek_at-requires-clause-takes g c = takes_at c.args.keep.now c.args.self.now.devices.items c.args.d c.requires.takes

pub returns-clause-numbers : goal.returns-clause-numbers
returns-clause-numbers g c = numbers_by_spans _ _ c.peek_at.ensures.spans

pub returns-clause-takes : goal.returns-clause-takes
returns-clause-takes g c =
    takes_on c.args.keep.now c.peek_at.new.keep c.args.self.now.devices.items c.peek_at.new.self.devices.items
    (ran_still g.K.Keep.takes c.peek_at.ensures.asked.is_so.1) c.peek_at.ensures.spans c.requires.takes

pub returns-clause-plain : goal.returns-clause-plain
returns-clause-plain g c = λ unwritten. stay_plain _ _ (c.peek_at.ensures.stands unwritten)
