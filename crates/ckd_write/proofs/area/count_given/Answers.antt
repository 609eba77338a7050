use Rattle.std.proofs.Common.{ℕ, List, refl, arith, ap, ◌∙◌}
use Rattle.std.proofs.lemmas.Grind.{common_steps}
use Rattle.ckd_rules.specs.Area
use Rattle.ckd_rules.proofs.Lists.{padded}
use Rattle.ckd_write.proofs.area.count_given.Goals as goal

pub returns : goal.returns
returns c =
    padded 8 c.min-count.result c.given_taken-from.result.now c.copy_from_slice.new.self _ refl (grind (arith, common_steps)) (grind (arith, common_steps))
    ∙ ap (λ (l : List ℕ). Area.padded 8 l) c.given_taken-from.ensures
