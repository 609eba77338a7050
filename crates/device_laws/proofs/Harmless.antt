-- The losses of the cache and of power take no track that side A has.
use Rattle.std.proofs.Common.{◌≡◌, ◌==◌, zero, suc, ℕ, Bool, true, false, not, Option, Some, None, get_or, refl, ◌∙◌}
use Rattle.std.specs.Prelude.{◌&&◌, ◌||◌}
use Rattle.ckd_types.specs.declared.paths.Side.{Side}
use Rattle.loss_model.specs.declared.Loss.TheVariants as losses
use Rattle.plain_defs.specs.History.{OpenEntry, has_used}
use Rattle.device_defs.specs.Contents.{Contents}
use Rattle.device_defs.specs.Cutting as U
use Rattle.device_defs.specs.Cutting.{origin_cut, half_cut, reset_by, reset, power}
use Rattle.device_defs.specs.Device.{Device}
use Rattle.device_defs.specs.Events.{lose}
use Rattle.device_defs.specs.Losses as L
use Rattle.device_defs.specs.Losses.{firm_told, all_firm_told}
use Rattle.device_defs.specs.Owed.{noted_begin}
use Rattle.device_defs.specs.Second.{half_closed}
use Rattle.device_defs.specs.Store.{with_stale, with_lost, Origin, OfCommand, OfCut, OfBackground, HalfWrite, Store, stale_at, level_at, owed_at}
use Rattle.device_laws.specs.Unharmed.{IsWholeOnA}
use Rattle.device_laws.proofs.Lucky.{lucky_done, lucky_tell, lucky_then, lucky_if}
use Rattle.device_laws.proofs.TrackMarks.{IsFaithful}
use Rattle.device_laws.proofs.Unlost.{Core, core_of, Fine, fine, fine_on, side_fine, closed_fine, opened_fine, cut_fine}
use Rattle.device_laws.proofs.UnlostParts.{Goes, goes_then, DeviceGoes}
use Rattle.device_laws.proofs.walks.Within.{lucky, within_lucky, within_weaker}
use Rattle.device_laws.proofs.walks.Moves.{Losing, IsBare, Ends, IsKept, IsEnded, ends_keep}
use Rattle.device_laws.proofs.walks.Events.{lose_leads, power_leads}

-- side A is up and has each track
record OnA (x : Core) : Type 0 where
  up : x.up ≡ true
  level : (q : ℕ) → get_or x.stale q false ≡ false

on_still : (x y : Core) → OnA x → Fine x y → OnA y
on_still x y o f = record { up = f.up ∙ o.up; level = λ q. f.level o.up q (o.level q) }

module _ {F P H R : Type 0} (c : Contents F P H R) where
  has_a : (up stale b : Bool) → up ≡ true → stale ≡ false → ((up && not stale) || b) ≡ false → ⊥
  has_a true true b e f g = absurd (cc)
  has_a true false b e f g = absurd (cc)
  has_a false stale b e f g = absurd (cc)

  module _ (s : Store F P H) (o : OnA (core_of s)) where
    abbrev So : Store F P H → Type 0
    So z = Fine (core_of s) (core_of z)

    level_fine : (z : Store F P H) (side : Side) (t : ℕ) → So z → So (with_stale z side t false)
    level_fine z side t f = fine_on (core_of s) (core_of z) (core_of (with_stale z side t false)) f (side_fine z side t)

    not_lost : (z : Store F P H) (t : ℕ) → IsBare z t → So z → So (with_lost z t)
    not_lost z t bare f =
        let x = on_still (core_of s) (core_of z) o f in absurd (has_a z.a.up (stale_at z.a t) (level_at z.b t) x.up (x.level t) bare.none)

    fine_kept : IsKept lucky (Losing losses.Cache) c (λ n z. Fine (core_of s) (core_of z))
    fine_kept = record {
      reads = λ m n z ok is f. f;
      writes = λ m n z ok is f. f;
      falls_reading = λ m n z side pair is f. absurd (cc);
      falls_writing = λ m n z side pair is f. absurd (cc);
      falls = λ n z side lost f. absurd (cc);
      takes = λ n z t is up f. absurd (cc);
      levels = λ n z side t f. level_fine z side t f;
      spoils = λ n z t is alone why f. absurd (cc);
      stales = λ n z t other away f. absurd away;
      firms = λ n z t is loose why f. absurd (cc);
      firms_taken = λ m n z t is loose up wrote f. absurd (cc);
      marks = λ n z t g bare is clean f. f;
      hardens = λ n z t bare loose f. f;
      loses = λ n z t bare none half f. not_lost z t bare f;
      drops = λ n z t clean f. f;
      fills = λ n z t i patched is level f. f;
      frames = λ n z t p bare why f. f;
      renews = λ n z t i g bare is f. f;
      unframes = λ n z t may f. f;
      patches = λ n z t f. f;
      unpatches = λ n z t slot f. f;
      queues = λ n z t room f. f;
      dequeues = λ n z ts less f. f;
      edits = λ n z t e f. f;
      goes_fast = λ n z t i e slot there f. f;
      goes_provisionally = λ n z t i e is f. absurd (cc);
      goes_back = λ n z may some f. f;
      loses_loose = λ n z lossy some f. f;
      closes = λ n z why f. fine_on (core_of s) (core_of z) (core_of (half_closed z)) f (closed_fine z);
      cuts = λ n z h bypass e is f. fine_on (core_of s) (core_of z) (record (core_of z) { half = Some h.track }) f (cut_fine z h is);
      notes = λ n z loss lossy f. f;
      pays = λ n z t p f. f;
    }

    fine_ended : IsEnded lucky (Losing losses.Cache) c (λ n z. Fine (core_of s) (core_of z)) (λ n z. Fine (core_of s) (core_of z))
    fine_ended = record {
      weaker = λ n z f. f;
      opens = λ n z t i origin is may firm f. fine_on (core_of s) (core_of z) (record (core_of z) { half = Some t }) f (opened_fine z t may);
      opens_cleaned = λ n z t i origin is may firm f. fine_on (core_of s) (core_of z) (record (core_of z) { half = Some t }) f (opened_fine z t may);
      pays = λ n z t p f. f;
    }

    ends_fine : {n : Unit {0}} {z : Store F P H} → Ends lucky (Losing losses.Cache) c tt s n z → Fine (core_of s) (core_of z)
    ends_fine m = ends_keep fine_kept fine_ended (fine (core_of s)) m

  whole_on : (s : Store F P H) → IsWholeOnA s → OnA (core_of s)
  whole_on s w = record { up = w.up; level = w.level }

  pub firm_goes : (n : ℕ) (s : Store F P H) → Goes s (all_firm_told c n s)
  unfolding L.all_firm_told
  firm_goes zero s = lucky_done (fine (core_of s))
  firm_goes (suc n) s =
      goes_then s (λ z _. firm_told c n z) (firm_goes n s)
      (λ z _. lucky_if (owed_at z n).firm (λ _. lucky_tell (λ _. lucky_done (fine (core_of z)))) (λ _. lucky_done (fine (core_of z))))

  -- the events

  pub cache_goes : (d : Device F P H) → IsWholeOnA d.store → DeviceGoes c d.store (lose c d losses.Cache)
  cache_goes d whole =
      within_lucky (within_weaker (lose_leads lucky c tt d losses.Cache) (λ n e a m. ends_fine (noted_begin d.store) (whole_on d.store whole) m))

  pub power_goes : (d : Device F P H) → IsWholeOnA d.store → DeviceGoes c d.store (power c d)
  power_goes d whole = within_lucky (within_weaker (power_leads lucky c tt d) (λ n e a m. ends_fine (noted_begin d.store) (whole_on d.store whole) m))

  module _ (faithful : IsFaithful c) where
    -- the reset of a path

    cut_only : (s : Store F P H) (h : HalfWrite H) (origin : Origin) → s.half ≡ Some h → Goes s (origin_cut c s h origin)
    cut_only s h (OfCommand bypass e) is = lucky_tell (λ _. lucky_done (cut_fine s h is))
    cut_only s h (OfCut bypass) is = lucky_done (fine (core_of s))
    cut_only s h OfBackground is = lucky_done (fine (core_of s))

    half_cut_goes : (s : Store F P H) (o : Option (HalfWrite H)) → s.half ≡ o → Goes s (half_cut c s o)
    half_cut_goes s (Some h) is = cut_only s h h.origin is
    half_cut_goes s None is = lucky_done (fine (core_of s))

    reset_by_goes : (d : Device F P H) (path : ℕ) (o : Option OpenEntry) → DeviceGoes c d.store (reset_by c d path o)
    reset_by_goes d path (Some o) =
        lucky_if (o.path == path)
        (λ _. lucky_then _ (half_cut_goes d.store d.store.half refl) (λ s _ f. lucky_done f))
        (λ _. lucky_done (fine (core_of d.store)))
    reset_by_goes d path None =
        lucky_if (has_used d.history path) (λ _. lucky_done (fine (core_of d.store))) (λ _. lucky_done (fine (core_of d.store)))

    pub reset_goes : (d : Device F P H) (path : ℕ) → DeviceGoes c d.store (reset c d path)
    unfolding U.reset
    reset_goes d path = reset_by_goes d path d.history.running
