use Rattle.audit_laws.proofs.own.FramesOwned.{frames_are_declared}
use Rattle.audit_laws.proofs.own_report.frames_are_declared.Goals as goal

pub returns : goal.returns
returns c = frames_are_declared
