use Rattle.path_top.proofs.Paired.{before_open}
use Rattle.path_top.proofs.pairs.pair_first.Goals as goal

pub pair_lines-requires-clause-here : goal.pair_lines-requires-clause-here
pair_lines-requires-clause-here g c = rw c.before_start.ensures (before_open _ c.args.lines.now c.requires.here)
