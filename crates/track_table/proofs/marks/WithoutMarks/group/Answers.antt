use Rattle.std.proofs.Common.{refl}
use Rattle.track_table.proofs.marks.WithoutMarks.group.Goals as goal

pub returns-clause-last : goal.returns-clause-last
returns-clause-last g c = λ q past. rw (c.group.ensures.last q past) refl
