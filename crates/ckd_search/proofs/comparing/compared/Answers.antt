use Rattle.std.proofs.Common.{ℕ, min, length, ap, ◌∙◌}
use Rattle.ckd_search.proofs.AreaOrder.{compared_is}
use Rattle.ckd_search.proofs.comparing.compared.Goals as goal

pub returns : goal.returns
returns c =
    compared_is c.args.ccw.now c.min.result c.min-count.result c.args.area.now c.given_taken-given.result.now c.cmp.result c.against_zeros.result c.then.result
    (c.min.ensures ∙ ap (λ (n : ℕ). min n (length c.args.area.now)) c.from.ensures) c.given_taken-given.ensures
    c.min-count.ensures c.cmp.ensures c.against_zeros.ensures c.then.ensures
