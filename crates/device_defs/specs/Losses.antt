-- What becomes of a track that is level on no side, and what each loss takes.
use Rattle.std.specs.Prelude.{ℕ, zero, suc, ◌==◌, true, false, [], Option, None, Some, is_some, if◌then◌else◌}
use Rattle.ckd_types.specs.declared.paths.Side.{Side}
use Rattle.ckd_types.specs.declared.paths.Side.TheVariants.{A, B}
use Rattle.track_image.specs.Image.{Image}
use Rattle.device_outside.specs.Keeper.{Firm}
use Rattle.device_outside.specs.Interaction.{Interaction, Done, Tell, and_then}
use Rattle.device_defs.specs.Contents.{Contents}
use Rattle.device_defs.specs.Effects.{hardened, loose_lost}
use Rattle.device_defs.specs.Store.{
  Store,
  tracks_of,
  side_of,
  with_side,
  has_level,
  frame_at,
  patch_at,
  is_lost,
  is_loose,
  half_is,
  owed_at,
  plain_at,
  with_stale,
  with_frame,
  with_patch,
  with_lost,
  with_owed,
}

module _ {F P H : Type 0} where
  -- the frame was marked modified
  abbrev pub owes_modified : Store F P H → ℕ → Store F P H
  owes_modified s t = with_owed s t (record (owed_at s t) { modified = true })

  -- the frame is given up
  abbrev pub without_frame : Store F P H → ℕ → Store F P H
  without_frame s t =
      if is_some (frame_at s t) then with_owed (with_frame s t None) t (record (owed_at s t) { dropped = true })
      else s

  -- the patch is given up with its slot
  abbrev pub gives_up : Store F P H → ℕ → Option ℕ → Store F P H
  gives_up s t None = s
  gives_up s t (Some slot) = with_owed (with_patch s t None) t (record (owed_at s t) { freed = Some slot })

  -- the track becomes firm where it is kept by its frame alone
  abbrev pub hardened_by_loss : Store F P H → ℕ → Store F P H
  hardened_by_loss s t = let z = hardened s t in with_owed z t (record (owed_at z t) { firm = true })

  abbrev pub stale_everywhere : Store F P H → ℕ → Store F P H
  stale_everywhere s t = let z = with_stale s A t true in if s.paired then with_stale z B t true else z

  -- each of the first n tracks, in rising order
  unfoldable pub over : ℕ → (ℕ → Store F P H → Store F P H) → Store F P H → Store F P H
  over zero f s = s
  over (suc n) f s = f n (over n f s)

  abbrev pub down : Store F P H → Side → Store F P H
  down s side = record (with_side s side (record (side_of s side) { up = false })) { held = false }

module _ {F P H R : Type 0} (c : Contents F P H R) where
  abbrev pub slot_in : Option P → Option ℕ
  slot_in None = None
  slot_in (Some p) = Some (c.slot p)

  abbrev pub without_patch : Store F P H → ℕ → Store F P H
  without_patch s t = gives_up s t (slot_in (patch_at s t))

  abbrev pub lost_now : Store F P H → ℕ → Store F P H
  lost_now s t = without_patch (with_lost s t) t

  abbrev pub kept_by_frame : Store F P H → ℕ → F → Store F P H
  kept_by_frame s t f = if c.modified f then s else owes_modified (with_frame s t (Some (c.marked f true))) t

  -- a loose track's frame is modified already
  abbrev pub by_frame : Store F P H → ℕ → Option F → Store F P H
  by_frame s t (Some f) = if is_loose s t then hardened_by_loss s t else kept_by_frame s t f
  by_frame s t None = if half_is s.half t then s else lost_now s t

  -- a track that is level on no side is kept by its frame, which is then modified, or by an open half write, or is lost
  unfoldable pub settled : Store F P H → ℕ → Store F P H
  settled s t =
      if is_some s.lent then s
      else if is_lost s t then s
      else if has_level s t then s
      else by_frame s t (frame_at s t)

  abbrev pub settled_but : Option ℕ → ℕ → Store F P H → Store F P H
  settled_but None q s = settled s q
  settled_but (Some t) q s = if q == t then s else settled s q

  -- a side is lost, and a held mark ends. A track that is being written is settled by its write
  unfoldable pub side_lost : Store F P H → Side → Option ℕ → Store F P H
  side_lost s side writing = over (tracks_of s) (settled_but writing) (down s side)

  -- all frames and queued tracks go, and so do data of cache fast write
  unfoldable pub cache_lost : Store F P H → Store F P H
  cache_lost s = over (tracks_of s) (λ t z. settled (without_frame z t) t) (record (loose_lost s) { queue = [] })

  -- the volumes haven't what the patch had, but for what an open half write wrote
  abbrev pub patch_lost : ℕ → Store F P H → Store F P H
  patch_lost t s =
      if is_some (patch_at s t) then
      (if half_is s.half t then without_patch s t else settled (stale_everywhere (without_patch s t) t) t)
      else s

  -- all patches go
  unfoldable pub store_lost : Store F P H → Store F P H
  store_lost s = over (tracks_of s) patch_lost s

  -- the image that a track has by its frame
  abbrev pub framed_image : Store F P H → ℕ → Option F → Image
  framed_image s t (Some f) = c.image f (plain_at s t)
  framed_image s t None = plain_at s t

  abbrev pub firm_told : ℕ → Store F P H → Interaction R Image (Store F P H) (Unit {0})
  firm_told t s =
      if (owed_at s t).firm then
      Tell (Firm s.device t (framed_image s t (frame_at s t))) (λ _. Done (with_owed s t (record (owed_at s t) { firm = false })) tt)
      else Done s tt

  -- the keeper is told of the first n tracks those that a loss made firm
  unfoldable pub all_firm_told : ℕ → Store F P H → Interaction R Image (Store F P H) (Unit {0})
  all_firm_told zero s = Done s tt
  all_firm_told (suc n) s = and_then (all_firm_told n s) (λ z _. firm_told n z)

  -- a failed call fails the side of a pair, as a loss of it does. A volume that is alone isn't failed by its call
  abbrev pub call_failed : Store F P H → Side → Option ℕ → Interaction R Image (Store F P H) (Unit {0})
  call_failed s side writing = if s.paired then all_firm_told (tracks_of s) (side_lost s side writing) else Done s tt
