use Rattle.std.proofs.Common.{sym}
use Rattle.nv_store.proofs.Reduced.{still_so, same_view}
use Rattle.nv_store.proofs.patch.Patch.add_within.Goals as goal

pub invariant_of-self : goal.invariant_of-self
invariant_of-self c = still_so _ _ _ c.args.e c.self.invariant
    (same_view _ _ c.self.inside.kept _ _ (sym c.serve.ensures.replaced) (sym c.serve.ensures.behind))
    c.put_edit.ensures
