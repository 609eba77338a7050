use Rattle.std.proofs.Common.{◌≡◌, ◌≤◌, drop}
use Rattle.ckd_types.specs.Geometry.{capacity}
use Rattle.nv_store.specs.Fit.{fit_units}
use Rattle.nv_store.proofs.fit.fit_behind.Given as goal

abbrev pub invariant-loop-record : goal.invariant-loop-record
invariant-loop-record l = record {
  rest : fit_units l.geometry l.units (drop l.record-index l.records) ≡ fit_units l.geometry l.spent l.records;
  few : l.units ≤ capacity l.geometry;
}
