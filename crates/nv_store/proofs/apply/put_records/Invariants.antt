use Rattle.std.proofs.Common.{◌≡◌, ◌++◌, drop}
use Rattle.nv_store.proofs.apply.put_records.Given as goal

abbrev pub invariant-loop-record : goal.invariant-loop-record
invariant-loop-record l = record {
  records : l.image.track.records ++ drop l.record-index l.records ≡ l.fn.image.track.records ++ l.records;
  geometry : l.image.geometry ≡ l.fn.image.geometry;
  home : l.image.track.home ≡ l.fn.image.track.home;
}
