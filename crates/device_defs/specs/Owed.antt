-- How an event begins and ends: the notices that a device takes, what it still owes the port, and how many tracks wait.
use Rattle.std.specs.Prelude.{ℕ, zero, suc, ◌==◌, ◌&&◌, ◌||◌, not, Bool, false, [], Option, None, Some, is_some, if◌then◌else◌}
use Rattle.track_image.specs.Image.{Image}
use Rattle.track_table.specs.Tracks.{count_below}
use Rattle.device_outside.specs.Pool.{NextNotice, SetModified, DropFrame, FreeSlot, TellWaiting}
use Rattle.device_outside.specs.Interaction.{Interaction, Done, Ask, and_then}
use Rattle.device_defs.specs.declared.owed.Owed.{Owed}
use Rattle.device_defs.specs.Contents.{Contents}
use Rattle.device_defs.specs.Store.{Store, no_debt, tracks_of, frame_at, patch_at, is_lost, is_loose, owed_at, with_frame, with_owed}

module _ {F P H : Type 0} where
  -- an event begins
  abbrev pub noted_begin : Store F P H → Store F P H
  noted_begin s = record s { acts = [] }

module _ {F P H R : Type 0} (c : Contents F P H R) where
  abbrev pub is_modified : Option F → Bool
  is_modified None = false
  is_modified (Some f) = c.modified f

  abbrev pub is_clean : Option F → Bool
  is_clean None = false
  is_clean (Some f) = not (c.modified f)

  abbrev pub waits_by : Store F P H → ℕ → Option F → Bool
  waits_by s t None = is_some (patch_at s t)
  waits_by s t (Some f) = c.modified f && not (is_some (patch_at s t)) && not (is_loose s t)

  -- a track waits for recovery where it has a patch and no frame, or a modified frame and no patch and isn't loose
  unfoldable pub waits : Store F P H → ℕ → Bool
  waits s t = not (is_lost s t) && waits_by s t (frame_at s t)

  abbrev pub waiting_count : Store F P H → ℕ
  waiting_count s = count_below (tracks_of s) (waits s)

  -- a note of a track that the device hasn't, or of which it has no clean frame, changes nothing
  abbrev pub dropped : Store F P H → ℕ → Store F P H
  dropped s t = if is_clean (frame_at s t) then with_frame s t None else s

  abbrev pub heard : (Store F P H → Interaction R Image (Store F P H) (Unit {0})) → Store F P H → Option ℕ →
      Interaction R Image (Store F P H) (Unit {0})
  heard rest s None = Done s tt
  heard rest s (Some t) = rest (dropped s t)

  -- it takes its notes, at most so many, and drops the clean frames that they name
  unfoldable pub hear : ℕ → Store F P H → Interaction R Image (Store F P H) (Unit {0})
  hear zero s = Done s tt
  hear (suc n) s = Ask (NextNotice s.device) (heard (hear n) s)

  -- a frame that a loss marked modified is told as that only where it still is: a later write may have made it clean
  abbrev pub modified_told : ℕ → Store F P H → Interaction R Image (Store F P H) (Unit {0})
  modified_told t s =
      if (owed_at s t).modified && is_modified (frame_at s t) then Ask (SetModified s.device t) (λ _. Done s tt)
      else Done s tt

  abbrev pub dropped_told : ℕ → Store F P H → Interaction R Image (Store F P H) (Unit {0})
  dropped_told t s = if (owed_at s t).dropped then Ask (DropFrame s.device t) (λ _. Done s tt) else Done s tt

  abbrev pub freed_told : Store F P H → Option ℕ → Interaction R Image (Store F P H) (Unit {0})
  freed_told s None = Done s tt
  freed_told s (Some slot) = Ask (FreeSlot slot) (λ _. Done s tt)

  abbrev pub settles_debt : ℕ → Store F P H → Interaction R Image (Store F P H) (Unit {0})
  settles_debt t s =
      and_then (modified_told t s) (λ z _. and_then (dropped_told t z) (λ y _. and_then (freed_told y (owed_at y t).freed)
      (λ x _. Done (with_owed x t no_debt) tt)))

  abbrev pub is_owed : Owed → Bool
  is_owed o = o.modified || o.dropped || is_some o.freed

  abbrev pub track_told : ℕ → Store F P H → Interaction R Image (Store F P H) (Unit {0})
  track_told t s = if is_owed (owed_at s t) then settles_debt t s else Done s tt

  -- the port is told what it is owed of the first n tracks, in rising order
  unfoldable pub all_told : ℕ → Store F P H → Interaction R Image (Store F P H) (Unit {0})
  all_told zero s = Done s tt
  all_told (suc n) s = and_then (all_told n s) (λ z _. track_told n z)

  abbrev pub waiting_told : ℕ → Store F P H → Interaction R Image (Store F P H) (Unit {0})
  waiting_told before s =
      if waiting_count s == before then Done s tt
      else Ask (TellWaiting s.device (waiting_count s)) (λ _. Done s tt)

  -- the end of an event before which so many tracks waited: what is owed, then the number where it is another
  abbrev pub noted_end : ℕ → Store F P H → Interaction R Image (Store F P H) (Unit {0})
  noted_end before s = and_then (all_told (tracks_of s) s) (λ z _. waiting_told before z)
