use Rattle.std.proofs.Common.{sym, subst}
use Rattle.image_tool.specs.declared.status.ImageStatus.{ImageStatus}
use Rattle.image_tool.specs.Storing.{StoredBy}
use Rattle.image_tool.proofs.Stored.{stored_by}
use Rattle.image_tool.proofs.storing.store.Goals as goal

pub returns-in-Err-clause-stored : goal.returns-in-Err-clause-stored
returns-in-Err-clause-stored g c =
    subst
    (λ (s : ImageStatus). StoredBy s c.args.volume.now (g.F.DiskFile.held c.args.file.now) (g.F.DiskFile.held c.store_whole.new.file))
    (sym c.refused_by.ensures.value)
    (stored_by c.args.volume.now c.in-Err.fault _ _ c.in-Err.ensures.stored)
