use Rattle.std.proofs.Common.{◌≡◌, ◌≤◌, length}
use Rattle.disk_image.specs.File.{room_size}
use Rattle.disk_image.specs.Image.{HasEmpty}
use Rattle.disk_image.proofs.creating.create.Given as goal

abbrev pub invariant-loop-n : goal.invariant-loop-n
invariant-loop-n g l =
    HasEmpty l.geometry l.n (g.F.DiskFile.held l.file)
    × (length l.room ≡ room_size l.geometry)
    × (g.F.DiskFile.faults l.fn.file ≤ g.F.DiskFile.faults l.file)
