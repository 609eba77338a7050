use Rattle.std.proofs.Common.{◌≡◌, ◌≤◌, ◌*◌, length}
use Rattle.disk_image.specs.File.{room_size}
use Rattle.disk_image.specs.Storing.{StoredSo}
use Rattle.disk_image.proofs.storing.store_volume.Given as goal

abbrev pub invariant-loop-n : goal.invariant-loop-n
invariant-loop-n g l = record {
  so : StoredSo l.volume l.n (g.F.DiskFile.held l.fn.file) (g.F.DiskFile.held l.file);
  size : length l.room ≡ room_size l.volume.geometry;
  later : g.F.DiskFile.faults l.fn.file ≤ g.F.DiskFile.faults l.file;
  model : l.geometry ≡ l.volume.geometry;
  count : l.n-end ≡ l.volume.cylinders * 15;
}
