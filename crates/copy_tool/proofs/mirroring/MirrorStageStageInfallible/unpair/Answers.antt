use Rattle.std.proofs.Common.{ap}
use Rattle.subsystem_core.specs.Devices.{device_at}
use Rattle.remote_copy.specs.Sending.{SenderView}
use Rattle.copy_tool.proofs.MirrorStaged.{mirror_goes_on}
use Rattle.copy_tool.proofs.Staged.{new_for, size_for}
use Rattle.copy_tool.proofs.mirroring.MirrorStageStageInfallible.unpair.Goals as goal

pub unpair-requires-clause-size : goal.unpair-requires-clause-size
unpair-requires-clause-size c =
    size_for c.args.volume (device_at c.args.self.now.mirror.sub.devices.items c.args.a) c.requires.size

pub returns-clause-goes_on : goal.returns-clause-goes_on
returns-clause-goes_on c = mirror_goes_on _ _ c.in-Ok.ensures.numbers (ap (λ (s : SenderView). s.device) c.in-Ok.ensures.sender)

pub returns-clause-did : goal.returns-clause-did
returns-clause-did c = λ w is.
    c.in-Ok.ensures.mirrors w is (new_for c.args.volume (device_at c.args.self.now.mirror.sub.devices.items c.args.a) c.requires.empty)
