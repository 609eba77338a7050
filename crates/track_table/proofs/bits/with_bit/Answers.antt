use Rattle.track_table.proofs.Words.{set_bit, clear_bit}
use Rattle.track_table.proofs.bits.with_bit.Goals as goal

pub returns-then-marked : goal.returns-then-marked
returns-then-marked c = λ i below. rw c.if-marked.true (set_bit c.args.word c.args.place i c.requires below)

pub returns-else-marked : goal.returns-else-marked
returns-else-marked c = λ i below. rw c.if-marked.false (clear_bit c.args.word c.args.place i c.requires below)
