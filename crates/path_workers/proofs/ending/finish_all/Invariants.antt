use Rattle.std.proofs.Common.{◌≡◌, length}
use Rattle.std.specs.List.{AllWithin, AllZip}
use Rattle.path_workers.specs.Keeping.{IsFinished, StaysKept}
use Rattle.path_workers.proofs.ending.finish_all.Given as goal

abbrev pub invariant-loop-i : goal.invariant-loop-i
invariant-loop-i g l =
    AllZip StaysKept l.fn.devices l.devices × AllWithin IsFinished l.devices 0 l.i × (length l.devices ≡ length l.fn.devices) × (l.i-end ≡ length l.devices)
