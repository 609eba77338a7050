-- What the volume of a side tells, where there is one.
use Rattle.std.specs.Prelude.{◌≡◌, ℕ, true, List, Option, None, Some, is_some}
use Rattle.device_outside.specs.Volume.{VolumeView}

-- what a side tells that isn't there
abbrev pub no_volume : VolumeView (List ℕ)
no_volume = record { contents = None; tracks = 0; delivered = None; reads = 0; writes = 0; faults = 0; plan = None; allowance = None }

-- what a volume tells by this view, where there is one
abbrev pub view_in : {V : Type 0} → (V → VolumeView (List ℕ)) → Option V → VolumeView (List ℕ)
view_in view None = no_volume
view_in view (Some v) = view v

abbrev pub IsThere : {V : Type 0} → Option V → Type 0
IsThere v = is_some v ≡ true
