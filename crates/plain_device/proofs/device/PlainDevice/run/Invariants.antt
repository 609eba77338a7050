use Rattle.std.proofs.Common.{◌-◌, ◌≤◌, length}
use Rattle.plain_device.proofs.Running.{IsRunningOn}
use Rattle.plain_device.proofs.device.PlainDevice.run.Given as goal

abbrev pub invariant-loop-alloc : goal.invariant-loop-alloc
invariant-loop-alloc l = IsRunningOn l.fn.self l.fn.path l.fn.program l.device l.chain l.ends.items
    × (length l.ends.items ≤ 4096)

abbrev pub decreases-loop-alloc : goal.decreases-loop-alloc
decreases-loop-alloc l = 4096 - l.chain.at.stance.commands
