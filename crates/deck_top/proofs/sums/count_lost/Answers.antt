use Rattle.std.proofs.Common.{◌∙◌}
use Rattle.deck_top.proofs.Summed.{marked_long}
use Rattle.deck_top.proofs.sums.count_lost.Goals as goal

pub returns : goal.returns
returns c = c.len.ensures ∙ marked_long 0 c.args.lost.now
