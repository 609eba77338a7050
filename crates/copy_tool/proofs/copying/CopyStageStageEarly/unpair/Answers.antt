use Rattle.std.proofs.Common.{refl}
use Rattle.subsystem_core.specs.Devices.{device_at}
use Rattle.line_drive.specs.Driven.{Unpairs}
use Rattle.copy_tool.proofs.Staged.{did_so, goes_on, new_for, size_for}
use Rattle.copy_tool.proofs.copying.CopyStageStageEarly.unpair.Goals as goal

pub unpair-requires-clause-size : goal.unpair-requires-clause-size
unpair-requires-clause-size c =
    size_for c.args.volume (device_at c.args.self.now.session.sub.devices.items c.args.a) c.requires.size

pub returns-clause-goes_on : goal.returns-clause-goes_on
returns-clause-goes_on c = goes_on _ _ c.in-Ok.ensures.numbers

pub returns-clause-did : goal.returns-clause-did
returns-clause-did c = λ w is.
    did_so c.args.self.now _ (Unpairs c.args.a) w is refl
    (c.in-Ok.ensures.copies w.state is.old is.copy
    (new_for c.args.volume (device_at c.args.self.now.session.sub.devices.items c.args.a) c.requires.empty))
