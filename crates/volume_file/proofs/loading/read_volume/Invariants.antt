use Rattle.std.proofs.Common.{◌≡◌, ◌*◌}
use Rattle.volume_file.proofs.ReadSo.{ReadSo}
use Rattle.volume_file.proofs.loading.read_volume.Given as goal

abbrev pub invariant-tracks : goal.invariant-tracks
invariant-tracks g l = record {
  so : ReadSo (g.S.Source.left l.fn.source) (g.S.Source.left l.source) l.file l.images.items;
  next : l.file.next ≡ l.counter;
  count : l.end ≡ l.file.cylinders * 15;
  calm : g.S.Faulty.faults l.source ≡ g.S.Faulty.faults l.fn.source;
}
