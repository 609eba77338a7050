use Rattle.std.proofs.Common.{◌≡◌, take}
use Rattle.plain_device.proofs.volume.Images.copy.Given as goal

abbrev pub invariant-loop-image : goal.invariant-loop-image
invariant-loop-image l = l.images.items ≡ take l.image-index l.image-items
