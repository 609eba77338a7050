use Rattle.std.proofs.Common.{◌≡◌, true}
use Rattle.device_outside.specs.Lists.{is_in}
use Rattle.subsystem_core.specs.Devices.{numbers_of}
use Rattle.ckd_c.specs.Calls.{Steps}
use Rattle.ckd_c.proofs.opened.Opened.run.Given as goal

abbrev pub invariant-loop-step : goal.invariant-loop-step
invariant-loop-step l = record {
  here : is_in l.number (numbers_of l.self.subsystem.devices.items) ≡ true;
  steps : Steps l.number l.fn.self.subsystem l.self.subsystem;
}
