use Rattle.disk_image.proofs.Found.{handed_on}
use Rattle.disk_image.proofs.volume.note_fault.Goals as goal

pub returns-in_default-clause-handed : goal.returns-in_default-clause-handed
returns-in_default-clause-handed c = handed_on c.args.fault c.in_default.not-BadTrack
