use Rattle.std.proofs.Common.{◌≡◌, ◌≤◌, ◌∙◌, ◌<◌, ◌==◌, not, length, ap, sym, arith}
use Rattle.std.specs.List.{list_all}
use Rattle.std.proofs.lemmas.List.{take_all}
use Rattle.nv_store.specs.declared.patch.Replacement.{Replacement}
use Rattle.nv_store.specs.Patch.{with_replacement}
use Rattle.nv_store.proofs.Reduced.{replaced_at, replaced_behind}
use Rattle.nv_store.proofs.patch.put_replacement.Goals as goal

pub returns-then-index-new : goal.returns-then-index-new
returns-then-index-new c =
    let inside : c.loop-i.i < length c.loop-i.replaced.items = rw c.loop-i.invariant.same (omega (arith, c.loop-i-test.true, c.len-i-end.ensures)) in
    rw (← c.loop-i.invariant.same) (replaced_at c.loop-i.replaced.items c.loop-i.i c.index.result.now c.args.new
    (rw c.loop-i.invariant.same c.requires.once) inside c.index.ensures (omega (arith, c.if-index-new.true)) c.loop-i.invariant.others)

pub returns : goal.returns
returns c =
    let items = c.loop-i.replaced.items in
    let past : length items ≤ c.loop-i.i = rw c.loop-i.invariant.same (omega (arith, c.loop-i-test.false, c.len-i-end.ensures)) in
    let others = sym (ap (list_all (λ (r : Replacement). not (r.index == c.args.new.index))) (take_all c.loop-i.i items past)) ∙ c.loop-i.invariant.others in
    c.push_reserved.ensures.items ∙ replaced_behind items c.args.new others ∙ ap (λ v. with_replacement c.args.new v.items) c.loop-i.invariant.same
