-- Which images are mounted.
use Rattle.disk_image.specs.declared.fault.ImageFault.{ImageFault}
use Rattle.disk_image.specs.declared.fault.ImageFault.TheVariants as images
use Rattle.image_runner.specs.declared.mounting.MountFault.{MountFault}
use Rattle.image_runner.specs.declared.mounting.MountFault.TheVariants as faults

abbrev pub mount_fault_of : ImageFault → MountFault
mount_fault_of images.FileFault = faults.File
mount_fault_of images.NoMemory = faults.NoMemory
mount_fault_of (images.BadHead offset) = faults.Bad (images.BadHead offset)
mount_fault_of (images.BadLength size) = faults.Bad (images.BadLength size)
mount_fault_of (images.BadTrack track offset) = faults.Bad (images.BadTrack track offset)
mount_fault_of (images.ManyCylinders n) = faults.Bad (images.ManyCylinders n)
mount_fault_of images.Compressed = faults.Bad images.Compressed
mount_fault_of images.Parts = faults.Bad images.Parts
