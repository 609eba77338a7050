use Rattle.subsystem_core.specs.Devices.{device_at}
use Rattle.copy_tool.proofs.Staged.{sizes_so}
use Rattle.copy_tool.proofs.mirroring.MirrorStageStageInfallible.sub.Goals as goal

pub returns-clause-sizes : goal.returns-clause-sizes
returns-clause-sizes c = λ d. rw c.subsystem.ensures (sizes_so (device_at c.args.self.now.mirror.sub.devices.items d))

pub returns-clause-stood : goal.returns-clause-stood
returns-clause-stood c = λ w is. rw c.subsystem.ensures is.stands
