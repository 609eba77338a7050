use Rattle.std.proofs.Common.{Some, refl}
use Rattle.subsystem_core.specs.Ends.{Answers}
use Rattle.subsystem_defs.specs.Happening.{unpaired}
use Rattle.subsystem_defs.specs.Subsystem.{unfailing}
use Rattle.line_drive.specs.Driven.{Unpairs}
use Rattle.point_copy.proofs.Calls.{order_copies}
use Rattle.point_copy.proofs.session.Session.unpair.Goals as goal

pub returns-clause-copies : goal.returns-clause-copies
returns-clause-copies g c = λ s old copy fresh.
    let end = c.do_unpair-end in
    let noted = c.note_lent.ensures in
    order_copies (λ z. Answers (Some z) (unpaired s.run c.args.a unfailing).end) c.args.self.now c.note_lent.new.self end.new.sub s
    (Unpairs c.args.a) old end.result copy (end.ensures.own copy.own) (end.ensures.happened s.run copy.stands copy.own fresh) noted.sub
    noted.kept refl noted.noted
