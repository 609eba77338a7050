use Rattle.volume_file.proofs.EmptyImages.{empty_has_all}
use Rattle.volume_file.proofs.volume.DeviceVolume.new.Goals as goal

pub invariant_of-result : goal.invariant_of-result
invariant_of-result c =
    empty_has_all c.args.geometry c.args.cylinders c.in_ok-images.images.items c.requires.least c.requires.most c.in_ok-images.ensures.images
    c.in_ok-images.ensures.placed
