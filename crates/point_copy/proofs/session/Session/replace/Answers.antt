use Rattle.std.proofs.Common.{Some, refl}
use Rattle.subsystem_core.specs.Ends.{Answers}
use Rattle.subsystem_defs.specs.Happening.{replaced}
use Rattle.subsystem_defs.specs.Subsystem.{unfailing}
use Rattle.line_drive.specs.Driven.{Replaces}
use Rattle.point_copy.proofs.Calls.{order_copies}
use Rattle.point_copy.proofs.session.Session.replace.Goals as goal

pub returns-clause-copies : goal.returns-clause-copies
returns-clause-copies g c = λ s old copy fresh.
    let end = c.do_replace-end in
    let noted = c.note_lent.ensures in
    order_copies (λ z. Answers (Some z) (replaced s.run c.args.d c.args.side unfailing).end) c.args.self.now c.note_lent.new.self end.new.sub s
    (Replaces c.args.d c.args.side) old end.result copy (end.ensures.own copy.own) (end.ensures.happened s.run copy.stands copy.own fresh) noted.sub
    noted.kept refl noted.noted
