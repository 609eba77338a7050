-- What calls of a volume in front of another one do, which count apart.
use Rattle.std.proofs.Common.{ℕ, Bool, true, false, List, Option, Some, None, refl, ap, sym}
use Rattle.std.proofs.lemmas.List.{set-get_or}
use Rattle.std.specs.Prelude.{is_some, not, slice_index_or}
use Rattle.device_outside.specs.Volume.{Delivers, ReadOf, Spent, Stores, VolumeView, WriteOf, counted, counted_if}
use Rattle.image_runner.specs.Planned.{planned_view}

none_spent : (ok : Bool) → Spent ok None None
none_spent true = tt
none_spent false = tt

none_delivered : {R : Type 0} (held : Option (List R)) (t : ℕ) → Delivers held t None
none_delivered None t = tt
none_delivered (Some all) t = tt

as_it_was : {R : Type 0} (held : Option (List R)) (t : ℕ) (r : R) → Stores held t r false held
as_it_was None t r = refl
as_it_was (Some all) t r = (slice_index_or all t r, ap Some (sym (set-get_or all t r)))

pub read_behind : {R : Type 0} (v w : VolumeView R) (t : ℕ) (got : Option R) (reads writes faults : ℕ) → ReadOf v t got w
    → ReadOf (planned_view v reads writes faults) t got (planned_view w (counted reads) writes (counted_if (not (is_some got)) faults))
read_behind v w t got reads writes faults read = record {
  delivers = read.delivers;
  planned = tt;
  spent = none_spent (is_some got);
  after = ap (λ x. planned_view x (counted reads) writes (counted_if (not (is_some got)) faults)) read.after;
}

pub read_refused : {R : Type 0} (v : VolumeView R) (t reads writes faults : ℕ)
    → ReadOf (planned_view v reads writes faults) t None (planned_view v (counted reads) writes (counted faults))
read_refused v t reads writes faults = record { delivers = none_delivered v.contents t; planned = tt; spent = tt; after = refl }

pub write_behind : {R : Type 0} (v w : VolumeView R) (t : ℕ) (r : R) (ok : Bool) (reads writes faults : ℕ) → WriteOf v t r ok w
    → WriteOf (planned_view v reads writes faults) t r ok (planned_view w reads (counted writes) (counted_if (not ok) faults))
write_behind v w t r ok reads writes faults wrote = record {
  stores = wrote.stores;
  planned = tt;
  spent = none_spent ok;
  after = ap (λ x. planned_view x reads (counted writes) (counted_if (not ok) faults)) wrote.after;
}

pub write_refused : {R : Type 0} (v : VolumeView R) (t : ℕ) (r : R) (reads writes faults : ℕ)
    → WriteOf (planned_view v reads writes faults) t r false (planned_view v reads (counted writes) (counted faults))
write_refused v t r reads writes faults = record { stores = as_it_was v.contents t r; planned = tt; spent = tt; after = refl }
