-- What of a device stays while a program runs.
use Rattle.std.specs.Prelude.{ℕ}
use Rattle.ckd_types.specs.declared.geometry.Geometry.{Geometry}

-- its geometry, its cylinders, and the number of its cache fast write data
pub record Fixed : Type 0 where
  pub geometry : Geometry
  pub cylinders : ℕ
  pub number : ℕ
