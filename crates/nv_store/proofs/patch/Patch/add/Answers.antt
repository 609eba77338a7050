use Rattle.std.proofs.Common.{sym}
use Rattle.nv_store.proofs.Reduced.{still_so, same_view}
use Rattle.nv_store.proofs.patch.Patch.add.Goals as goal

pub invariant_of-self-2 : goal.invariant_of-self-2
invariant_of-self-2 c = still_so _ _ _ c.args.e c.self.invariant
    (same_view _ _ c.self.inside.kept _ _ (sym c.reserve.ensures.items) (sym c.reserve-2.ensures.items))
    c.put_edit.ensures
