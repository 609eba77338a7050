use Rattle.track_table.proofs.Words.{from_bit}
use Rattle.track_table.proofs.marks.bits_from.Goals as goal

pub returns : goal.returns
returns c = λ i below. from_bit c.args.word c.args.place i c.requires below
