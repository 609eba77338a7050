use Rattle.std.proofs.Common.{◌∙◌, ap, take}
use Rattle.path_top.proofs.Paired.{are_first, no_more}
use Rattle.path_top.proofs.pairs.before_start.Goals as goal

pub split_at-requires : goal.split_at-requires
split_at-requires c = rw c.start_at.ensures (no_more c.args.lines.now)

pub returns : goal.returns
returns c = c.split_at.ensures.front ∙ ap (λ n. take n c.args.lines.now) c.start_at.ensures ∙ are_first c.args.lines.now
