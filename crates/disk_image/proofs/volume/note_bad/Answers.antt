use Rattle.disk_image.proofs.Found.{early_handed}
use Rattle.disk_image.proofs.volume.note_bad.Goals as goal

pub returns-in-Err-clause-early : goal.returns-in-Err-clause-early
returns-in-Err-clause-early g c = early_handed _ _ _ c.in-Err.fault _ _ c.in-Err.ensures.bad c.note_fault.ensures.handed
