use Rattle.std.proofs.Common.{◌≡◌, drop}
use Rattle.ckd_types.specs.Program.{fault_from}
use Rattle.ckd_ccw.proofs.program.first_bad.Given as goal

-- the first fault of the words from here on is that of all
abbrev pub invariant-loop-i : goal.invariant-loop-i
invariant-loop-i l = fault_from l.ccws l.i (drop l.i l.ccws) ≡ fault_from l.ccws 0 l.ccws
