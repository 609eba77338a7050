use Rattle.std.proofs.Common.{◌≡◌, drop, take}
use Rattle.plain_defs.specs.Program.{acts_at, acts_done}
use Rattle.plain_device.proofs.device.PlainDevice.act_behind.Given as goal

abbrev pub invariant-loop-acted : goal.invariant-loop-acted
invariant-loop-acted l =
    (acts_done l.self (acts_at (drop l.acted-index l.acts) l.ends) ≡ acts_done l.fn.self (acts_at l.fn.acts l.ends))
    × (l.self.geometry ≡ l.fn.self.geometry)
    × (l.self.cylinders ≡ l.fn.self.cylinders)
    × (l.self ≡ acts_done l.fn.self (acts_at (take l.acted-index l.fn.acts) l.ends))
