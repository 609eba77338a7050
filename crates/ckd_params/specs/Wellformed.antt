-- Which extents and domains parameters have on a device.
use Rattle.std.specs.Prelude.{◌≡◌, ℕ, ◌*◌, ◌<◌, ◌≤◌, true, false}
use Rattle.ckd_types.specs.declared.parameters.Extent.{Extent}
use Rattle.ckd_types.specs.declared.parameters.Domain.{Domain}
use Rattle.ckd_types.specs.Mask.{is_mask}
use Rattle.ckd_types.specs.Parameters.{is_bad_count}

-- an extent of a device with this many cylinders
pub record IsExtent (cylinders : ℕ) (e : Extent) : Type 0 where
  pub mask : is_mask e.mask ≡ true
  pub order : e.first ≤ e.last
  pub range : e.last < cylinders * 15

-- a domain of a device with this many cylinders
pub record IsDomain (cylinders : ℕ) (d : Domain) : Type 0 where
  pub count : is_bad_count d.operation d.count ≡ false
  pub range : d.seek < cylinders * 15
