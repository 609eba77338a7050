use Rattle.line_drive.proofs.lines.is_busy_at.Goals as goal

pub is_busy-requires : goal.is_busy-requires
is_busy-requires g c = rw c.sub.ensures.there c.requires

pub returns : goal.returns
returns g c = λ w stand. c.is_busy.ensures (g.S.Stage.course.sub w) (c.sub.ensures.stood w stand)
