-- A device that is lent: no side of it is up, nothing is kept of its tracks, and no program runs.
use Rattle.std.specs.Prelude.{◌≡◌, ℕ, true, false, List, [], None, is_some}
use Rattle.ckd_types.specs.declared.record.Track.{Track}
use Rattle.device_defs.specs.Sound.{DeviceStore}
use Rattle.device_defs.specs.Store.{frame_at, patch_at, is_lost, owed_at}
use Rattle.device_laws.specs.Agrees.{Held, IsGround}
use Rattle.device_laws.specs.InOrder.{IsInOrder}
use Rattle.device_laws.specs.Whole.{WholeDevice}

pub record IsLentStore (v w : List Track) (s : DeviceStore) (h : Held) : Type 0 where
  pub ground : IsGround v w s h
  pub told : (t : ℕ) → (owed_at s t).firm ≡ false
  pub lent : is_some s.lent ≡ true
  pub single : s.paired ≡ false
  pub down_a : s.a.up ≡ false
  pub down_b : s.b.up ≡ false
  pub half : s.half ≡ None
  pub queue : s.queue ≡ []
  pub frame : (t : ℕ) → frame_at s t ≡ None
  pub patch : (t : ℕ) → patch_at s t ≡ None
  pub lost : (t : ℕ) → is_lost s t ≡ false

pub record IsLent (v w : List Track) (d : WholeDevice) (h : Held) : Type 0 where
  pub store : IsLentStore v w d.store h
  pub idle : d.history.running ≡ None

-- a device as it stands between two events: in order, or lent
pub data Stands (v w : List Track) (d : WholeDevice) (h : Held) : Type 0 where
  in_order : IsInOrder v w d.store h → Stands v w d h
  is_away : IsLent v w d h → Stands v w d h
