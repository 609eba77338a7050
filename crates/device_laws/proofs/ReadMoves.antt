-- The reads of a missed track: of its level sides, side B's in the same event only where side A's failed. A hit reads nothing.
use Rattle.std.proofs.Common.{◌≡◌, ℕ, Bool, true, false, Option, Some, None, is_some, arith}
use Rattle.std.specs.Prelude.{if◌then◌else◌}
use Rattle.ckd_types.specs.declared.parameters.Mode.{Mode}
use Rattle.ckd_types.specs.declared.paths.Side.{Side}
use Rattle.track_image.specs.Image.{Image}
use Rattle.device_outside.specs.Interaction.{Done}
use Rattle.device_defs.specs.declared.usage.Usage.{Usage}
use Rattle.device_defs.specs.Contents.{Contents}
use Rattle.device_defs.specs.Image as I
use Rattle.device_defs.specs.Image.{Got, ahead, loads, level_bytes, image_of, filled, granted, loaded, delivered, missed, miss, image}
use Rattle.device_defs.specs.Store.{Store, frame_at, patch_at}
use Rattle.device_defs.specs.Transfers as M
use Rattle.device_defs.specs.Transfers.{Moves, Hit, Miss, Within, Makes}
use Rattle.device_laws.proofs.QuietParts.{Quiet, quiet_done, quiet_try, quiet_ask, quiet_then, quiet_if, then_quiet}
use Rattle.device_laws.proofs.counted.ReadCounts.{level_moves}

module _ {F P H R : Type 0} (c : Contents F P H R) where
  pub filled_quiet : (s : Store F P H) (t : ℕ) (i : Image) → Quiet (filled c s t i)
  filled_quiet s t i = quiet_if (is_some (patch_at s t)) (quiet_ask (λ _. quiet_done)) quiet_done

  granted_quiet : (s : Store F P H) (t : ℕ) (i : Image) (given : Bool) → Quiet (granted c s t i given)
  granted_quiet s t i true = quiet_then (λ z _. Done z _) (filled_quiet s t i) (λ z _. quiet_done)
  granted_quiet s t i false = quiet_done

  loaded_quiet : (s : Store F P H) (t : ℕ) (i : Image) (mode : Mode) → Quiet (loaded c s t i mode)
  loaded_quiet s t i mode =
      quiet_if (loads mode) (quiet_try (λ ok. quiet_if ok (quiet_ask (λ given. granted_quiet s t i given)) quiet_done)) quiet_done

  delivered_quiet : (u : Usage) (t : ℕ) (side : Side) (s : Store F P H) (i : Option Image) → Quiet (delivered c u t side s i)
  delivered_quiet u t side s None = quiet_done
  delivered_quiet u t side s (Some i) = loaded_quiet (ahead u s t) t i u.mode

  missed_quiet : (u : Usage) (t : ℕ) (s : Store F P H) (g : Got R) (bytes : Option R) → Quiet (missed c u t s g bytes)
  missed_quiet u t s g None = quiet_done
  missed_quiet u t s g (Some r) = quiet_try (λ ok. quiet_if ok (delivered_quiet u t g.side s (image_of c s t r)) quiet_done)

  miss_moves : (s : Store F P H) (u : Usage) (t : ℕ) → Moves (Within s (Miss t)) 0 0 (miss c s u t)
  miss_moves s u t =
      then_quiet (Within s (Miss t)) 0 0 (level_bytes c s t) (λ z g. missed c u t z g g.bytes) (level_moves c s t) (λ z g. missed_quiet u t z g g.bytes)

  -- a track without a frame is read
  pub image_missed : (s : Store F P H) (u : Usage) (t : ℕ) → frame_at s t ≡ None → Makes s (Miss t) (image c s u t)
  unfolding I.image
  image_missed s u t e = record {
    moves = rw e (miss_moves s u t);
  }

  hit_moves : (s : Store F P H) (u : Usage) (t : ℕ) (f : F) (b : Bool) → b ≡ true →
      Moves (Within s Hit) 0 0 (if b then I.hit c s t f else I.clean_image c s u t f)
  unfolding M.Moves
  hit_moves s u t f true e =
      record { least_reads = omega arith; most_reads = omega arith; least_writes = omega arith; most_writes = omega arith }
  hit_moves s u t f false e = absurd (cc)

  -- and one with a modified frame isn't
  pub image_hit : (s : Store F P H) (u : Usage) (t : ℕ) (f : F) → frame_at s t ≡ Some f → c.modified f ≡ true → Makes s Hit (image c s u t)
  unfolding I.image
  image_hit s u t f e is = record {
    moves = rw e (hit_moves s u t f (c.modified f) is);
  }
