-- A write to the volumes: its first part, its second part, what follows once it is done, and a write that is half done.
use Rattle.std.specs.Prelude.{ℕ, not, Bool, true, false, Option, Some, None, is_some, if◌then◌else◌}
use Rattle.ckd_types.specs.declared.paths.Side.{Side}
use Rattle.ckd_types.specs.declared.paths.Side.TheVariants.{A, B}
use Rattle.track_image.specs.Image.{Image}
use Rattle.device_outside.specs.Keeper.{Firm}
use Rattle.device_outside.specs.Pool.{SetClean, DropFrame, FreeSlot}
use Rattle.device_outside.specs.Volume.{counted, counted_if}
use Rattle.device_outside.specs.Interaction.{Interaction, Done, Ask, Write, Tell, and_then}
use Rattle.device_defs.specs.declared.answers.Took.{Took}
use Rattle.device_defs.specs.declared.answers.Took.TheVariants.{Whole, Opened, Unwritten}
use Rattle.device_defs.specs.Contents.{Contents}
use Rattle.device_defs.specs.Effects.{hardened}
use Rattle.device_defs.specs.Losses.{slot_in, stale_everywhere, settled, framed_image, call_failed}
use Rattle.device_defs.specs.Store.{Origin, Store, takes_b, frame_at, patch_at, is_loose, with_stale, with_frame, with_patch}

-- what came of a first part, and the first side that failed in it
pub record Wrote : Type 0 where
  pub took : Took
  pub fault : Option Side

abbrev pub wrote : Took → Option Side → Wrote
wrote took fault = record { took = took; fault = fault }

module _ {F P H : Type 0} where
  abbrev pub write_counted : Store F P H → Bool → Store F P H
  write_counted s ok = record s { counts = record s.counts { writes = counted s.counts.writes; failed = counted_if (not ok) s.counts.failed } }

  -- side A took the track: it is stale on an up side B, one that is held or one that is still to be tried
  abbrev pub taken_a : Store F P H → ℕ → Store F P H
  taken_a s t = let z = with_stale s A t false in if s.b.up then with_stale z B t true else z

  abbrev pub taken_b : Store F P H → ℕ → Store F P H
  taken_b s t = with_stale s B t false

module _ {F P H R : Type 0} (c : Contents F P H R) where
  -- The first part

  abbrev pub write_side : {A : Type 0} → Store F P H → Side → ℕ → R → (Store F P H → Bool → Interaction R Image (Store F P H) A) →
      Interaction R Image (Store F P H) A
  write_side s side t r k = Write side t r (λ ok. k (write_counted s ok) ok)

  -- before the first write of a loose track it becomes firm, and no side holds it. Whether it was loose
  abbrev pub firm_first : Store F P H → ℕ → Interaction R Image (Store F P H) Bool
  firm_first s t =
      if is_loose s t then
      Tell (Firm s.device t (framed_image c s t (frame_at s t))) (λ _. Done (stale_everywhere (hardened s t) t) true)
      else Done s false

  -- no side took it. On a volume that is alone the track is stale then: the failed write may have left anything there
  abbrev pub unwritten : Store F P H → ℕ → Store F P H
  unwritten s t = settled c (if s.paired then s else with_stale s A t true) t

  -- the last side is tried, where the first one that failed would be `first`
  abbrev pub alone_b : ℕ → Option Side → Side → Store F P H → Bool → Interaction R Image (Store F P H) Wrote
  alone_b t fault first s ok =
      if ok then Done (taken_b s t) (wrote Whole fault)
      else and_then (call_failed c s B (Some t)) (λ z _. Done (unwritten z t) (wrote Unwritten (Some first)))

  -- side B where it took writes as this one began
  abbrev pub failed_a : ℕ → R → Bool → Store F P H → Interaction R Image (Store F P H) Wrote
  failed_a t r takes s =
      if takes then write_side s B t r (alone_b t (Some A) A)
      else Done (unwritten s t) (wrote Unwritten (Some A))

  abbrev pub first_a : ℕ → R → Store F P H → Bool → Interaction R Image (Store F P H) Wrote
  first_a t r s ok =
      if ok then Done (taken_a s t) (wrote (if takes_b s then Opened else Whole) None)
      else and_then (call_failed c s A (Some t)) (λ z _. failed_a t r (takes_b s) z)

  -- the sides that are up and not held as the write begins, A before B; both in one event only where A fails
  unfoldable pub write_first : Store F P H → ℕ → R → Interaction R Image (Store F P H) Wrote
  write_first s t r =
      if s.a.up then write_side s A t r (first_a t r)
      else if takes_b s then write_side s B t r (alone_b t None B)
      else Done (settled c s t) (wrote Unwritten None)

  -- What the first part left

  abbrev pub tried_b : ℕ → Store F P H → Bool → Interaction R Image (Store F P H) (Unit {0})
  tried_b t s ok = if ok then Done (taken_b s t) tt else call_failed c s B (Some t)

  -- side B where it is up and not held
  unfoldable pub write_second : Store F P H → ℕ → R → Interaction R Image (Store F P H) (Unit {0})
  write_second s t r = if takes_b s then write_side s B t r (tried_b t) else Done s tt

  -- A write that is done: the frame, and then the patch

  abbrev pub slot_freed : Store F P H → ℕ → Option ℕ → Interaction R Image (Store F P H) (Unit {0})
  slot_freed s t None = Done s tt
  slot_freed s t (Some slot) = Ask (FreeSlot slot) (λ _. Done (with_patch s t None) tt)

  abbrev pub unpatched : Store F P H → ℕ → Interaction R Image (Store F P H) (Unit {0})
  unpatched s t = slot_freed s t (slot_in c (patch_at s t))

  abbrev pub done_by : Store F P H → ℕ → Image → Bool → Bool → Interaction R Image (Store F P H) (Unit {0})
  done_by s t i bypass framed =
      if framed then (if bypass then Ask (DropFrame s.device t) (λ _. unpatched (with_frame s t None) t)
      else Ask (SetClean s.device t) (λ _. unpatched (with_frame s t (Some (c.frame i false))) t))
      else unpatched s t

  -- a held frame becomes the new image and clean, or in bypass mode is dropped; the patch goes with its slot
  unfoldable pub write_done : Store F P H → ℕ → Image → Bool → Interaction R Image (Store F P H) (Unit {0})
  write_done s t i bypass = done_by s t i bypass (is_some (frame_at s t))

  -- A half write is opened

  abbrev pub half_opened : Store F P H → ℕ → Image → Origin → Store F P H
  half_opened s t i origin = record s { half = Some (record { track = t; origin = origin; image = c.half i }) }

  abbrev pub cleaned : Option F → Option F
  cleaned None = None
  cleaned (Some f) = Some (c.marked f false)

  -- side A has the track that was loose as this write began, so its frame is clean
  abbrev pub write_opened : Store F P H → ℕ → Image → Origin → Bool → Interaction R Image (Store F P H) (Unit {0})
  write_opened s t i origin was_loose =
      if was_loose then
      Ask (SetClean s.device t) (λ _. Done (half_opened (with_frame s t (cleaned (frame_at s t))) t i origin) tt)
      else Done (half_opened s t i origin) tt
