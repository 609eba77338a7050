use Rattle.std.proofs.Common.{◌≡◌, ◌≤◌, ◌*◌, [], length}
use Rattle.disk_image.specs.File.{room_size}
use Rattle.disk_image.specs.Volume.{HasTracks, Told, faults_in}
use Rattle.disk_image.proofs.volume.load_volume.Given as goal

abbrev pub invariant-loop-n : goal.invariant-loop-n
invariant-loop-n g l = record {
  so : Told (g.F.DiskFile.held l.fn.file) (HasTracks l.volume l.n);
  good : Told (g.F.DiskFile.held l.fn.file) (λ all. faults_in l.geometry l.n all ≡ []);
  held : g.F.DiskFile.held l.file ≡ g.F.DiskFile.held l.fn.file;
  size : length l.room ≡ room_size l.geometry;
  later : g.F.DiskFile.faults l.fn.file ≤ g.F.DiskFile.faults l.file;
  model : l.volume.geometry ≡ l.geometry;
  cylinders : l.volume.cylinders ≡ l.fn.layout.cylinders;
  images : length l.volume.images ≡ l.fn.layout.cylinders * 15;
  count : l.n-end ≡ l.fn.layout.cylinders * 15;
}
