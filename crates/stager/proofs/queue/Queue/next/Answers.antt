use Rattle.std.proofs.Common.{◌<◌, arith, rules, sym, ap, ◌∙◌, drop}
use Rattle.stager.proofs.Window.{window_before_pop}
use Rattle.stager.proofs.queue.Queue.next.Goals as goal

pub returns-clause-rest : goal.returns-clause-rest
returns-clause-rest c =
    let q = c.self.inside in
    let v = c.self.invariant in
    let some : 0 < q.len = grind (arith, c.if-self-eq0.false) in
    ap (drop 1) (sym (window_before_pop 64 _ _ q.slots v.0 v.1 (search rules) some) ∙ c.self.view_is)
