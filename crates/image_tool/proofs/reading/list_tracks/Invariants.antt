use Rattle.std.proofs.Common.{◌≡◌, ◌≤◌, ◌*◌, [], length}
use Rattle.disk_image.specs.File.{room_size}
use Rattle.disk_image.specs.Volume.{Told, faults_in}
use Rattle.image_tool.specs.Reading.{AreRows}
use Rattle.image_tool.proofs.reading.list_tracks.Given as goal

abbrev pub invariant-loop-n : goal.invariant-loop-n
invariant-loop-n g l = record {
  so : AreRows l.fn.layout l.n (g.F.DiskFile.held l.fn.file) l.rows.items;
  good : Told (g.F.DiskFile.held l.fn.file) (λ all. faults_in l.fn.layout.geometry l.n all ≡ []);
  held : g.F.DiskFile.held l.file ≡ g.F.DiskFile.held l.fn.file;
  size : length l.room ≡ room_size l.fn.layout.geometry;
  later : g.F.DiskFile.faults l.fn.file ≤ g.F.DiskFile.faults l.file;
  model : l.geometry ≡ l.fn.layout.geometry;
  count : l.n-end ≡ l.fn.layout.cylinders * 15;
}
