use Rattle.std.proofs.Common.{arith, length, ◌-◌}
use Rattle.std.proofs.lemmas.Grind.{common_steps}
use Rattle.deck_text.proofs.LineLemmas.{return_cut, return_kept}
use Rattle.deck_text.proofs.lines.without_return.Goals as goal

pub returns-then-line-last-eq13 : goal.returns-then-line-last-eq13
returns-then-line-last-eq13 c = return_cut c.args.line.now (length c.args.line.now - 1) (grind (arith, common_steps)) c.if-line-last-eq13.true

pub returns-else-line-last-eq13 : goal.returns-else-line-last-eq13
returns-else-line-last-eq13 c = return_kept c.args.line.now (length c.args.line.now - 1) (grind (arith, common_steps)) c.if-line-last-eq13.false
