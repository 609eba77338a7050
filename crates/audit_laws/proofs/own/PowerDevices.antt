-- What a loss of power makes of a device, and what is told of it.
use Rattle.std.proofs.Common.{arith, ◌≡◌, ℕ, Bool, true, [], Option, None, get_or, refl, if◌then◌else◌}
use Rattle.loss_model.specs.declared.Loss.TheVariants as losses
use Rattle.plain_defs.specs.History.{lost_power}
use Rattle.plain_defs.specs.PlainState.{PlainState}
use Rattle.device_defs.specs.Contents.{by_plain}
use Rattle.device_defs.specs.Cutting as K
use Rattle.device_defs.specs.Cutting.{counts_one_by, half_cut, half_ended, half_lost, loose_gone, origin_cut, power, powered_off, powerless}
use Rattle.device_defs.specs.Device.{event_begun, event_ended}
use Rattle.device_defs.specs.Effects.{gone_back}
use Rattle.device_defs.specs.Events.{with_loss}
use Rattle.device_defs.specs.Losses.{settled, without_frame}
use Rattle.device_defs.specs.Marks.{MarksDevice, MarksStore}
use Rattle.device_defs.specs.Owed.{noted_begin, waiting_count}
use Rattle.device_defs.specs.Store.{Origin, OfCommand, OfCut, OfBackground, has_loose, patch_at, tracks_of}
use Rattle.device_defs.specs.Store as store
use Rattle.device_laws.proofs.Had.{Had, had_done, had_tell, had_then}
use Rattle.device_laws.proofs.PlainCuts.{CutSo, half_so, taken_by}
use Rattle.device_laws.proofs.PlainEvents.{had_both}
use Rattle.device_laws.proofs.PlainStores.{Core, IsOf, core_of, hardened_core, loose_at, with_half}
use Rattle.device_laws.proofs.PlainTurns.{Follows}
use Rattle.device_laws.proofs.PlainWalks.{ended_same, over_holds, patch_same, settled_holds}
use Rattle.audit_laws.proofs.own.LossDevices.{number_behind, unframed_core}

-- What is cut of an open half write leaves all but its track

record Spares (s z : MarksStore) : Type 0 where
  device : z.device ≡ s.device
  geometry : z.geometry ≡ s.geometry
  cylinders : z.cylinders ≡ s.cylinders
  lent : z.lent ≡ s.lent
  number : z.number ≡ s.number
  loose : z.loose ≡ s.loose

half_spares : (s : MarksStore) (h : Option (store.HalfWrite (Unit {0}))) → Had (half_cut by_plain s h) (λ z (_ : Unit {0}). Spares s z)
half_spares s h = search (arith, had_tell, had_done)

-- All frames go, and data of cache fast write where there are some

record OffCore (x : MarksStore) (n : ℕ) (c : Core) : Type 0 where
  device : c.device ≡ x.device
  geometry : c.geometry ≡ x.geometry
  cylinders : c.cylinders ≡ x.cylinders
  lent : c.lent ≡ x.lent
  number : c.number ≡ n
  half : c.half ≡ None

off_hard : (x : MarksStore) (n : ℕ) (c : Core) (t : ℕ) → OffCore x n c → loose_at c t ≡ true → OffCore x n (hardened_core c t)
off_hard x n c t w is = search arith

lost_core : (z : MarksStore) (h : Option (store.HalfWrite (Unit {0}))) → z.half ≡ h → core_of (half_lost by_plain z h) ≡ with_half (core_of z) None
lost_core z h is = grind (arith, with_half, core_of, patch_same)

gone_off : (s : MarksStore) (b : Bool) → OffCore s (number_behind b s.number) (with_half (core_of (if b then gone_back s else s)) None)
gone_off s b = search arith

gone_half : (s : MarksStore) (b : Bool) → (if b then gone_back s else s).half ≡ s.half
gone_half s b = grind arith

powerless_off : (s : MarksStore) → OffCore s (number_behind (has_loose s) s.number) (core_of (powerless by_plain s))
powerless_off s =
    let n = number_behind (has_loose s) s.number in
    let z = loose_gone by_plain s in
    over_holds (OffCore s n) (off_hard s n) (tracks_of s) (λ t y. settled by_plain (without_frame y t) t) (λ t y w. settled_holds (OffCore s n)
    (off_hard s n) (without_frame y t) t (rw (unframed_core y t) w)) (record (half_lost by_plain z s.half) { queue = [] }) (rw (lost_core z s.half
    (gone_half s (has_loose s))) (gone_off s (has_loose s)))

-- The device

pub record IsOff (num : ℕ) (empty : PlainState) (x : MarksDevice) (f : Follows num empty x) (y : MarksDevice) : Type 0 where
  pub number : y.store.device ≡ x.store.device
  pub geometry : y.store.geometry ≡ x.store.geometry
  pub cylinders : y.store.cylinders ≡ x.store.cylinders
  pub plans : y.plans ≡ x.plans
  pub lent : y.store.lent ≡ x.store.lent
  pub half : y.store.half ≡ None
  pub data_number : y.store.number ≡ number_behind (has_loose x.store) x.store.number
  pub history : y.history ≡ lost_power x.history (counts_one_by x.store.half)
  -- of the plain device behind what was cut
  pub cut : Core
  pub taken : IsOf (taken_by num empty x f x.history.running (counts_one_by x.store.half)) cut
  pub cut_loose : cut.loose ≡ x.store.loose
  pub cut_number : cut.number ≡ x.store.number

module _ (num : ℕ) (empty : PlainState) (x : MarksDevice) (f : Follows num empty x) where
  off_same : (y : MarksDevice) (z : MarksStore) → core_of z ≡ core_of y.store → IsOff num empty x f y → IsOff num empty x f (record y { store = z })
  off_same y z e g = search arith

  off_first : (s : MarksStore) → CutSo num empty x f x.history.running (counts_one_by x.store.half) (noted_begin x.store) s → Spares (noted_begin x.store) s →
      IsOff num empty x f (powered_off by_plain (event_begun x) s)
  off_first s cut k = grind (arith, powerless_off (with_loss s losses.Cache), get_or, core_of)

  pub power_makes : Had (power by_plain x) (λ y (_ : Unit {0}). IsOff num empty x f y)
  unfolding K.power
  power_makes =
      had_then {S = MarksDevice} {A = Unit {0}} {f = event_ended by_plain x} {p = λ y _. IsOff num empty x f y}
      (had_then
      (had_both (half_so num empty x f (noted_begin x.store) refl x.history.running refl x.store.half refl refl)
      (half_spares (noted_begin x.store) x.store.half))
      (λ s _ g. had_done (off_first s g.0 g.1)))
      (λ y a g. had_then (ended_same (waiting_count by_plain x.store) y.store) (λ z _ e. had_done (off_same y z e g)))
