use Rattle.std.proofs.Common.{refl}
use Rattle.subsystem_core.specs.Devices.{device_at}
use Rattle.line_drive.specs.Driven.{Replaces}
use Rattle.copy_tool.proofs.Staged.{did_so, goes_on, new_for, size_for}
use Rattle.copy_tool.proofs.copying.CopyStageStageEarly.replace.Goals as goal

pub replace-requires-clause-size : goal.replace-requires-clause-size
replace-requires-clause-size c =
    size_for c.args.volume (device_at c.args.self.now.session.sub.devices.items c.args.d) c.requires.size

pub returns-clause-goes_on : goal.returns-clause-goes_on
returns-clause-goes_on c = goes_on _ _ c.in-Ok.ensures.numbers

pub returns-clause-did : goal.returns-clause-did
returns-clause-did c = λ w is.
    did_so c.args.self.now _ (Replaces c.args.d c.args.side) w is refl
    (c.in-Ok.ensures.copies w.state is.old is.copy
    (new_for c.args.volume (device_at c.args.self.now.session.sub.devices.items c.args.d) c.requires.empty))
