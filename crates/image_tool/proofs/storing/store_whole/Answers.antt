use Rattle.std.proofs.Common.{refl}
use Rattle.std.proofs.lemmas.Result.{err_from_is_err_and}
use Rattle.image_tool.proofs.Stored.{has_volume, partly}
use Rattle.image_tool.proofs.storing.store_whole.Goals as goal

pub returns-in_err-room-clause-stored : goal.returns-in_err-room-clause-stored
returns-in_err-room-clause-stored g c =
    let p = err_from_is_err_and c.from_residual.result c.from_residual.ensures.1 in
    rw (p.1, p.2) refl

pub returns-in_err-store_volume-clause-stored : goal.returns-in_err-store_volume-clause-stored
returns-in_err-store_volume-clause-stored g c =
    let p = err_from_is_err_and c.from_residual-in_err-store_volume.result c.from_residual-in_err-store_volume.ensures.1 in
    rw (p.1, p.2) c.in_err-store_volume.ensures.stores

pub returns-in_err-sync-clause-stored : goal.returns-in_err-sync-clause-stored
returns-in_err-sync-clause-stored g c =
    let p = err_from_is_err_and c.from_residual-in_err-sync.result c.from_residual-in_err-sync.ensures.1 in
    rw (p.1, p.2) (partly _ _ _ _ c.in_ok-store_volume.ensures.stores c.in_err-sync.ensures.same)

pub returns-clause-stored : goal.returns-clause-stored
returns-clause-stored g c = has_volume _ _ _ _ c.requires.opened c.in_ok-store_volume.ensures.stores c.in_ok-sync.ensures.same
