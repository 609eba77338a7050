use Rattle.std.proofs.Common.{◌≡◌, ◌*◌}
use Rattle.volume_tool.proofs.Listed.{Listed}
use Rattle.volume_tool.proofs.listing.read_listing.Given as goal

abbrev pub invariant-tracks : goal.invariant-tracks
invariant-tracks g l = record {
  so : Listed (g.S.Source.left l.fn.source) (g.S.Source.left l.source) l.file l.rows.items;
  next : l.file.next ≡ l.track;
  count : l.track-end ≡ l.file.cylinders * 15;
  calm : g.S.Faulty.faults l.source ≡ g.S.Faulty.faults l.fn.source;
}
