use Rattle.std.proofs.Common.{length}
use Rattle.deck_top.proofs.give.+give_devices.Given as goal

abbrev pub decreases-give_devices : goal.decreases-give_devices
decreases-give_devices g l = length l.devices.items
