use Rattle.std.proofs.Common.{refl}
use Rattle.track_table.proofs.AskedWords.{and_none}
use Rattle.track_table.proofs.marks.AndMarks.group.Goals as goal

pub returns-clause-words : goal.returns-clause-words
returns-clause-words g c = λ i p small below.
    and_none c.group.result c.group-2.result i _ _ (c.group.ensures.words i p small below) (c.group-2.ensures.words i p small below)

pub returns-clause-last : goal.returns-clause-last
returns-clause-last g c = λ q past. rw (c.group.ensures.last q past) refl
