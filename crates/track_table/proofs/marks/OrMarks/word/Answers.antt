use Rattle.std.proofs.Common.{refl, ◌∙◌}
use Rattle.track_table.proofs.Words.{or_bit}
use Rattle.track_table.proofs.marks.OrMarks.word.Goals as goal

pub returns-clause-marks : goal.returns-clause-marks
returns-clause-marks g c = λ i below.
    or_bit c.word.result c.word-2.result i ∙ rw (c.word.ensures.marks i below, c.word-2.ensures.marks i below) refl

pub returns-clause-last : goal.returns-clause-last
returns-clause-last g c = λ q past. rw (c.word.ensures.last q past, c.word-2.ensures.last q past) refl
