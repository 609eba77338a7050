use Rattle.std.proofs.Common.{refl}
use Rattle.track_table.proofs.marks.WithoutMarks.groups.Goals as goal

pub returns : goal.returns
returns g c = λ j q inside below none. rw (c.groups.ensures j q inside below none) refl
