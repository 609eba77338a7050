-- What the outside tells of a device's volumes and of the numbers of tracks that wait.
use Rattle.std.specs.Prelude.{◌≡◌, ℕ, ◌+◌, List, [], Option, Some, None, slice_index_or, slice_set}
use Rattle.device_outside.specs.Outside.{Outside}
use Rattle.device_outside.specs.Pool.{Pool}
use Rattle.device_outside.specs.Volume.{VolumeView}
use Rattle.device_defs.specs.Device.{Device}
use Rattle.device_defs.specs.Pledge.{Handed, Keeps, Pledge}

-- how many calls of its volumes may still fail, where both tell it
abbrev pub allowance_of : {R : Type 0} → Option (VolumeView R) → Option ℕ
allowance_of None = Some 0
allowance_of (Some v) = v.allowance

abbrev pub in_all : Option ℕ → Option ℕ → Option ℕ
in_all (Some x) (Some y) = Some (x + y)
in_all (Some x) None = None
in_all None y = None

abbrev pub allowance_in : {R K : Type 0} → Outside R K → Option ℕ
allowance_in u = in_all (allowance_of u.a) (allowance_of u.b)

-- In a turn it keeps its pledge, with volumes that tell this, and no reset waits

pub record StaysInTurn {F P H R K : Type 0} (p : Pledge) (d : Device F P H) (v : Handed) (u : Outside R K) : Type 0 where
  pub keeps : Keeps p d v
  pub allowance : v.allowance ≡ allowance_in u
  pub none : d.history.waiting ≡ []

-- with what its volumes tell then
abbrev pub handed_then : {R K : Type 0} → Handed → Outside R K → Handed
handed_then v u = record v { allowance = allowance_in u }

-- Of each device, how many of its tracks wait

abbrev pub waiting_of : Option Pool → Option (List ℕ)
waiting_of None = None
waiting_of (Some p) = Some p.waiting

abbrev pub waiting_in : {R K : Type 0} → Outside R K → Option (List ℕ)
waiting_in u = waiting_of u.port.pool

-- a device's number, where told
abbrev pub HasWaiting : Option (List ℕ) → ℕ → ℕ → Type 0
HasWaiting None d n = Unit {0}
HasWaiting (Some ws) d n = slice_index_or ws d 0 ≡ n

-- with another number of one device
abbrev pub with_waiting : Option (List ℕ) → ℕ → ℕ → Option (List ℕ)
with_waiting None d n = None
with_waiting (Some ws) d n = Some (slice_set ws d n)
