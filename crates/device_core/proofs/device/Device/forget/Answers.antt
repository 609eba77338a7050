use Rattle.std.proofs.Common.{ap, sym}
use Rattle.std.specs.Prelude.{option_map}
use Rattle.device_core.specs.Kept.{open_of}
use Rattle.device_core.proofs.Forgetting.{forgets_nothing}
use Rattle.device_core.proofs.Halves.{none_by}
use Rattle.device_core.proofs.device.Device.forget.Goals as goal

pub returns-in-Ok-clause-forgets : goal.returns-in-Ok-clause-forgets
returns-in-Ok-clause-forgets g c =
    forgets_nothing c.args.self.now _ (ap (option_map open_of) (none_by c.args.self.now.past.running (sym c.if-is_running.ensures)))
    c.in-Ok.ensures.device c.forget_past.ensures.store
