use Rattle.plain_device.proofs.Wholes.{whole_reset, whole_fresh, whole_act, whole_power}
use Rattle.plain_device.proofs.law.is_whole_behind_an_event.Goals as goal

pub returns : goal.returns
returns c = record { reset = whole_reset; fresh = whole_fresh; act = whole_act; power = whole_power }
