-- Where a write goes: to the frame alone, to frame and patch, or to the volumes.
use Rattle.std.specs.Prelude.{ℕ, ◌&&◌, not, Bool, true, Option, Some, None, is_some, if◌then◌else◌}
use Rattle.ckd_types.specs.declared.record.Edit.{Edit}
use Rattle.ckd_types.specs.Parameters.{is_bypass}
use Rattle.track_image.specs.Image.{Image}
use Rattle.device_outside.specs.declared.port.SlotGrant.{SlotGrant}
use Rattle.device_outside.specs.declared.port.SlotGrant.TheVariants as grants
use Rattle.device_outside.specs.Pool.{SetModified, WantSlot, FreeSlot}
use Rattle.device_outside.specs.Interaction.{Interaction, Done, Ask}
use Rattle.device_defs.specs.declared.answers.Choice.{Choice}
use Rattle.device_defs.specs.declared.answers.Choice.TheVariants.{Provisional, Fast, Through}
use Rattle.device_defs.specs.declared.usage.Usage.{Usage}
use Rattle.device_defs.specs.Contents.{Contents}
use Rattle.device_defs.specs.Effects.{with_edit, with_loose_edit, loosened}
use Rattle.device_defs.specs.Owed.{is_clean}
use Rattle.device_defs.specs.Store.{Store, frame_at, patch_at, is_loose, with_frame, with_patch}

module _ {F P H R : Type 0} (c : Contents F P H R) where
  -- The fast write

  abbrev pub slot_by : Store F P H → ℕ → SlotGrant → Interaction R Image (Store F P H) Choice
  slot_by s t (grants.Given slot) =
      Ask (SetModified s.device t)
      (λ listed. if listed then Done s (Fast (Some slot)) else Ask (FreeSlot slot) (λ _. Done s Through))
  slot_by s t grants.Denied = Done s Through
  slot_by s t grants.Down = Done s Through

  -- a patch that is held has its slot
  abbrev pub fast_by : Store F P H → ℕ → Bool → Interaction R Image (Store F P H) Choice
  fast_by s t patched =
      if patched then Ask (SetModified s.device t) (λ listed. Done s (if listed then Fast None else Through))
      else Ask WantSlot (slot_by s t)

  abbrev pub may_be_fast : Store F P H → Usage → ℕ → Bool
  may_be_fast s u t = not (is_bypass u.mode) && not u.inhibit && is_some (frame_at s t)

  -- a write is fast on a held frame, with a slot for its patch, where the pool still lists the frame
  abbrev pub fast_or_through : Store F P H → Usage → ℕ → Interaction R Image (Store F P H) Choice
  fast_or_through s u t = if may_be_fast s u t then fast_by s t (is_some (patch_at s t)) else Done s Through

  -- The provisional write

  -- a loose track is written provisionally or through, and never fast
  abbrev pub choose_loose : Store F P H → Usage → ℕ → Interaction R Image (Store F P H) Choice
  choose_loose s u t =
      if u.provisional then Ask (SetModified s.device t) (λ listed. Done s (if listed then Provisional else Through))
      else Done s Through

  abbrev pub choose_firm : Store F P H → Usage → ℕ → Interaction R Image (Store F P H) Choice
  choose_firm s u t =
      if u.provisional && is_clean c (frame_at s t) then
      Ask (SetModified s.device t) (λ listed. if listed then Done s Provisional else fast_or_through s u t)
      else fast_or_through s u t

  -- writes of cache fast write data stay in a frame that is clean or loose
  unfoldable pub choose : Store F P H → Usage → ℕ → Interaction R Image (Store F P H) Choice
  choose s u t = if is_loose s t then choose_loose s u t else choose_firm s u t

  -- Their effects, where i is the new image

  abbrev pub patch_with : Edit → Option ℕ → Option P → Option P
  patch_with e (Some slot) p = Some (c.patch p e slot)
  patch_with e None None = None
  patch_with e None (Some p) = Some (c.patch (Some p) e (c.slot p))

  abbrev pub fast_written : Store F P H → ℕ → Image → Edit → Option ℕ → Store F P H
  fast_written s t i e slot =
      with_edit (with_patch (with_frame s t (Some (c.frame i true))) t (patch_with e slot (patch_at s t))) t e

  -- where the track isn't loose it becomes that first
  abbrev pub provisionally_written : Store F P H → ℕ → Image → Edit → Store F P H
  provisionally_written s t i e =
      let z = if is_loose s t then s else loosened s t in
      with_loose_edit (with_frame z t (Some (c.frame i true))) t e
