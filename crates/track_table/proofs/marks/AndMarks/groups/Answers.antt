use Rattle.track_table.proofs.AskedWords.{and_none}
use Rattle.track_table.proofs.marks.AndMarks.groups.Goals as goal

pub returns : goal.returns
returns g c = λ j q inside below.
    and_none c.groups.result c.groups-2.result j _ _ (c.groups.ensures j q inside below) (c.groups-2.ensures j q inside below)
