-- What a reset makes of a device, as the audit has it.
use Rattle.std.proofs.Common.{arith, ◌≡◌, ◌==◌, ℕ, Bool, true, false, Option, Some, None, refl, if◌then◌else◌}
use Rattle.std.proofs.lemmas.Bool.{cond_both}
use Rattle.plain_defs.specs.History.{History, OpenEntry}
use Rattle.device_outside.specs.Interaction.{Done}
use Rattle.device_defs.specs.Contents.{by_plain}
use Rattle.device_defs.specs.Cutting as K
use Rattle.device_defs.specs.Cutting.{half_cut, origin_cut, path_cut, reset, reset_by, reset_noted}
use Rattle.device_defs.specs.Marks.{MarksDevice, MarksStore}
use Rattle.device_defs.specs.Store.{Origin, OfCommand, OfCut, OfBackground}
use Rattle.device_defs.specs.Store as store
use Rattle.device_laws.proofs.Always.{Always, always_done, always_tell, always_then}
use Rattle.deck_audit.specs.declared.state.HalfWrite.{HalfWrite}
use Rattle.deck_audit.specs.History.{cut_half}
use Rattle.audit_laws.specs.Standing.{audited, half_by}

-- a device by its parts
pub record HasParts (x y : MarksDevice) (half : HalfWrite) : Type 0 where
  pub number : y.store.device ≡ x.store.device
  pub geometry : y.store.geometry ≡ x.store.geometry
  pub cylinders : y.store.cylinders ≡ x.store.cylinders
  pub plans : y.plans ≡ x.plans
  pub lent : y.store.lent ≡ x.store.lent
  pub half_is : half_by y.store.half ≡ half

module _ (x y : MarksDevice) (half : HalfWrite) (h : History) where
  pub audited_by : HasParts x y half → y.history ≡ h → audited y ≡ record (audited x) { history = h; half = half }
  audited_by p is = grind arith

-- the half write of a command that is cut
record IsCutOf (s z : MarksStore) : Type 0 where
  number : z.device ≡ s.device
  geometry : z.geometry ≡ s.geometry
  cylinders : z.cylinders ≡ s.cylinders
  lent : z.lent ≡ s.lent
  half_is : half_by z.half ≡ cut_half (half_by s.half)

module _ (s : MarksStore) where
  by_half : (h : Option (store.HalfWrite (Unit {0}))) → s.half ≡ h → Always (half_cut by_plain s h) (λ z (_ : Unit {0}). IsCutOf s z)
  by_half h kept = search (arith, always_done, always_tell)

abbrev pub reset_half : MarksDevice → ℕ → Option OpenEntry → HalfWrite
reset_half x path (Some o) = if o.path == path then cut_half (half_by x.store.half) else half_by x.store.half
reset_half x path None = half_by x.store.half

module _ (x : MarksDevice) (path : ℕ) where
  same_parts : (y : MarksDevice) → y.store ≡ x.store → y.plans ≡ x.plans → HasParts x y (half_by x.store.half)
  same_parts y is plans = search arith

  by_running : (r : Option OpenEntry) → Always (reset_by by_plain x path r) (λ y (_ : Unit {0}). HasParts x y (reset_half x path r))
  by_running (Some o) = by_test (o.path == path) where
    by_test : (b : Bool) → Always (if b then path_cut by_plain x path else Done (reset_noted by_plain x path 0) tt)
        (λ y (_ : Unit {0}). HasParts x y (if b then cut_half (half_by x.store.half) else half_by x.store.half))
    by_test true =
        always_then (by_half x.store x.store.half refl) (λ z a cut. always_done (record {
          number = cut.number;
          geometry = cut.geometry;
          cylinders = cut.cylinders;
          plans = refl;
          lent = cut.lent;
          half_is = cut.half_is;
        }))
    by_test false = always_done (same_parts (reset_noted by_plain x path 0) refl refl)
  by_running None = search (arith, cond_both, always_done, same_parts)

  pub reset_parts : Always (reset by_plain x path) (λ y (_ : Unit {0}). HasParts x y (reset_half x path x.history.running))
  unfolding K.reset
  reset_parts = by_running x.history.running
