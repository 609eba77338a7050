use Rattle.subsystem_defs.specs.Happening.{happens}
use Rattle.line_drive.specs.Ending.{EndsAs}
use Rattle.point_copy.proofs.Calls.{all_takes, event_copies, event_ends}
use Rattle.point_copy.proofs.session.Session.event.Goals as goal

pub do_event_with-end-requires-clause-takes : goal.do_event_with-end-requires-clause-takes
do_event_with-end-requires-clause-takes g c = all_takes _ _

pub returns-clause-copies : goal.returns-clause-copies
returns-clause-copies g c = λ s old copy.
    let end = c.do_event_with-end in
    event_copies (λ z. EndsAs c.args.e end.new.sub z (happens s.run c.args.e).end) c.args.self.now c.note_lent.new.self end.new.sub end.new.keep s c.args.e
    old end.result copy (end.ensures.own copy.own) (end.ensures.happened s.run copy.stands copy.own) (end.ensures.heard s.run copy.stands copy.own)
    c.note_lent.ensures.sub c.note_lent.ensures.kept c.note_lent.ensures.noted

pub returns-clause-ended : goal.returns-clause-ended
returns-clause-ended g c = λ s old copy.
    let end = c.do_event_with-end in
    event_ends (λ z a. EndsAs c.args.e z a (happens s.run c.args.e).end) _ c.note_lent.new.self.sub end.new.sub end.result c.note_lent.ensures.sub
    (end.ensures.happened s.run copy.stands copy.own)

pub returns-clause-settled : goal.returns-clause-settled
returns-clause-settled g c = λ s old copy. c.do_event_with-end.ensures.settled s.run copy.stands copy.own
