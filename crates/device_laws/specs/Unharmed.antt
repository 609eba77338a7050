-- Marks of a device that are good, and a device of which no side was lost, no call failed and whose store was never lost.
use Rattle.std.specs.Prelude.{◌≡◌, ◌<◌, ◌⊎◌, ℕ, true, false, Some, is_some, ◌≤◌, ◌+◌, Option, None, Bool, ◌&&◌, ◌||◌}
use Rattle.device_defs.specs.Between.{HasSizes}
use Rattle.device_defs.specs.Contents.{Contents}
use Rattle.device_defs.specs.Sound.{has_sound_marks}
use Rattle.device_defs.specs.Store.{HalfWrite, Store, tracks_of, has_level, is_lost, stale_at, takes_b, half_is, frame_at, patch_at}
use Rattle.plain_defs.specs.declared.journal.Item.{Item}
use Rattle.plain_defs.specs.declared.journal.Item.TheVariants as items
use Rattle.plain_defs.specs.History.{OpenEntry, History}
use Rattle.plain_defs.specs.Journal.{last_sense}
use Rattle.device_defs.specs.Command.{has_loss}
use Rattle.device_defs.specs.Device.{Device}
use Rattle.device_defs.specs.Excused.{losses_in, loose_losses, is_checked, is_equipment_check}
use Rattle.device_laws.specs.InOrder.{AreBelow}

-- it isn't lent, and its marks are sound
pub record MarksAreGood {F P H R : Type 0} (c : Contents F P H R) (s : Store F P H) : Type 0 where
  pub sizes : HasSizes s
  pub free : is_some s.lent ≡ false
  pub alone : s.paired ≡ false → s.b.up ≡ false
  pub whole : s.paired ≡ false → s.half ≡ None
  pub marks : (t : ℕ) → t < tracks_of s → has_sound_marks c s t ≡ true
  pub queued : AreBelow (tracks_of s) s.queue
  pub nowhere : (t : ℕ) → t < tracks_of s → is_lost s t ≡ true → has_level s t ≡ false
  pub within : (h : HalfWrite H) → s.half ≡ Some h → h.track < tracks_of s
  pub there : (h : HalfWrite H) → s.half ≡ Some h → is_lost s h.track ≡ false

module _ {F P H : Type 0} where
  -- no side was lost, no call failed, and the store wasn't lost
  pub record NothingLost (s : Store F P H) : Type 0 where
    pub sides : s.counts.losses.sides ≡ 0
    pub failed : s.counts.failed ≡ 0
    pub store : s.counts.losses.store ≡ 0

  -- then side A is up and has each track, and none is lost
  pub record IsWholeOnA (s : Store F P H) : Type 0 where
    pub up : s.a.up ≡ true
    pub level : (t : ℕ) → stale_at s.a t ≡ false
    pub kept : (t : ℕ) → is_lost s t ≡ false

  abbrev pub IsUnharmed : Store F P H → Type 0
  IsUnharmed s = NothingLost s → IsWholeOnA s

  -- of an open half write, side B is tried, or some side has the track
  abbrev pub HalfIsTried : Store F P H → Type 0
  HalfIsTried s = (h : HalfWrite H) → s.half ≡ Some h → (takes_b s ≡ true) ⊎ (has_level s h.track ≡ true)

  -- no side was lost, no call failed, and neither the cache nor the power was lost
  pub record CacheKept (s : Store F P H) : Type 0 where
    pub sides : s.counts.losses.sides ≡ 0
    pub failed : s.counts.failed ≡ 0
    pub cache : s.counts.losses.cache ≡ 0

  -- then side A is up and has the track of an open half write, none is lost, and each other track with a patch has a frame
  pub record IsFramed (s : Store F P H) : Type 0 where
    pub up : s.a.up ≡ true
    pub kept : (t : ℕ) → is_lost s t ≡ false
    pub half : (h : HalfWrite H) → s.half ≡ Some h → stale_at s.a h.track ≡ false
    pub framed : (t : ℕ) → half_is s.half t ≡ false → is_some (patch_at s t) ≡ true → is_some (frame_at s t) ≡ true

  abbrev pub IsUncached : Store F P H → Type 0
  IsUncached s = CacheKept s → IsFramed s

-- Losses of data of cache fast write

abbrev pub running_losses : Option OpenEntry → ℕ
running_losses (Some o) = losses_in o.acts
running_losses None = 0

-- in the journal and in the running program
abbrev pub all_losses : History → ℕ
all_losses h = loose_losses h.items + running_losses h.running

-- each came of a loss of the cache that was counted
abbrev pub LossesAreCounted : {F P H : Type 0} → Device F P H → Type 0
LossesAreCounted d = all_losses d.history ≤ d.store.counts.losses.cache

-- Checks

-- side A is up, or side B is up and not held
abbrev pub some_takes : {F P H : Type 0} → Store F P H → Bool
some_takes s = s.a.up || takes_b s

abbrev pub ends_with_equipment_check : Item → Bool
ends_with_equipment_check (items.Program e) = is_checked e.how && is_equipment_check (last_sense e.ends)
ends_with_equipment_check _ = false

-- of the running program no data of cache fast write were lost
abbrev pub RunsUnharmed : Option OpenEntry → Type 0
RunsUnharmed (Some o) = has_loss o.acts ≡ false
RunsUnharmed None = Unit {0}

-- some side takes writes, and no track is lost
abbrev pub IsCalm : {F P H : Type 0} → Store F P H → Type 0
IsCalm s = (some_takes s ≡ true) × ((t : ℕ) → is_lost s t ≡ false)
