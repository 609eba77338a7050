use Rattle.std.proofs.Common.{◌≡◌, true, drop}
use Rattle.std.specs.List.{list_all}
use Rattle.nv_store.specs.Patch.{is_replaceable, revised}
use Rattle.nv_store.proofs.apply.revise.Given as goal

abbrev pub invariant-loop-r : goal.invariant-loop-r
invariant-loop-r l = record {
  records : revised (drop l.r-index l.replaced) l.image.track.records ≡ revised l.replaced l.fn.image.track.records;
  rest : list_all (is_replaceable l.fn.kept l.image.track.records) (drop l.r-index l.replaced) ≡ true;
  geometry : l.image.geometry ≡ l.fn.image.geometry;
  home : l.image.track.home ≡ l.fn.image.track.home;
}
