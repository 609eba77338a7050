use Rattle.std.proofs.Common.{◌≡◌}
use Rattle.plain_defs.specs.Program.{part_of}
use Rattle.plain_device.specs.Parts.{IsAtPart}
use Rattle.plain_device.proofs.device.PlainDevice.run_part.Given as goal

abbrev pub invariant-loop-command : goal.invariant-loop-command
invariant-loop-command l = IsAtPart (part_of l.fn.self l.fn.path l.fn.program l.fn.acts l._command) l.fn.program
    l.device l.chain l.ends.items × (l.device.cylinders ≡ l.fn.self.cylinders)
