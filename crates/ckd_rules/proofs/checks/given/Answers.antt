use Rattle.std.proofs.Common.{refl, arith}
use Rattle.std.proofs.lemmas.Grind.{common_steps}
use Rattle.ckd_rules.proofs.Lists.{padded}
use Rattle.ckd_rules.proofs.checks.given.Goals as goal

pub returns : goal.returns
returns c =
    padded 16 c.min-count.result c.args.ccw.now.given c.copy_from_slice.new.self _ refl (grind (arith, common_steps)) (grind (arith, common_steps))
