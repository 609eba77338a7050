use Rattle.std.proofs.Common.{◌≡◌, ◌==◌, not, true, take}
use Rattle.std.specs.List.{list_all}
use Rattle.nv_store.specs.declared.patch.Replacement.{Replacement}
use Rattle.nv_store.proofs.patch.put_replacement.Given as goal

abbrev pub invariant-loop-i : goal.invariant-loop-i
invariant-loop-i l = record {
  same : l.replaced ≡ l.fn.replaced;
  others : list_all (λ (r : Replacement). not (r.index == l.fn.new.index)) (take l.i l.replaced.items) ≡ true;
}
