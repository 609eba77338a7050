-- What a device does by itself, in its order: it leaves less to do, unless its answer is one that stops.
use Rattle.std.proofs.Common.{◌≡◌, ◌≢◌, ◌≤◌, ◌+◌, ◌⊎◌, ℕ, zero, suc, Bool, true, false, List, [], ◌∷◌, Option, Some, None, is_some, length, get_or, set, refl, sym, ap, ◌∙◌, arith, inl, inr}
use Rattle.std.proofs.lemmas.Bool.{cases_eq, or_left, or_right}
use Rattle.std.specs.Prelude.{◌&&◌, ◌||◌, if◌then◌else◌, not}
use Rattle.device_defs.specs.Background as G
use Rattle.device_defs.specs.Background.{copies_to, copy_first, destage_first, did, is_destaged, recover_first, stage, stage_first, staged_bytes, to_copy, to_destage, to_recover, work}
use Rattle.device_defs.specs.Contents.{by_plain}
use Rattle.device_defs.specs.Image.{Got}
use Rattle.device_defs.specs.Marks.{MarksStore}
use Rattle.device_defs.specs.Owed as O
use Rattle.device_defs.specs.Owed.{waits, waits_by}
use Rattle.device_defs.specs.Store.{frame_at, is_lost, is_loose, patch_at, tracks_of, with_frame}
use Rattle.device_laws.proofs.Had.{Had, had_ask, had_done, had_if, had_then, had_try}
use Rattle.device_laws.proofs.Working.{least_found}
use Rattle.audit_laws.proofs.own.Weights.{Spot, copies, due_by, modified_by, one, sides, spot_at, sum_least, weight_at, works}
use Rattle.audit_laws.proofs.own.Lighter.{GotSo, Lower, WorkSo, as_least, stopped, copy_so, level_so, lower_all, near_frame, recover_so, same_least, same_weight, saved_so}

-- Staging

set_there : (l : List (Option Bool)) (t : ℕ) (x : Option Bool) → (get_or (set l t x) t None ≡ x) ⊎ (get_or (set l t x) t None ≡ get_or l t None)
set_there [] t x = inr refl
set_there (y ∷ l) zero x = inl refl
set_there (y ∷ l) (suc t) x = set_there l t x

abbrev pub works_by : Bool → Option Bool → Bool → Bool → Bool
works_by lost f p l = (not lost && due_by f p l) || (l || (modified_by f && p))

filled_works : (lost p l : Bool) → lost ≡ false → works_by lost (Some p) p l ≡ works_by lost None p l
filled_works lost p l e = grind arith

-- the weight by whether there is work
abbrev pub weight_if : Spot → Bool → ℕ
weight_if p b = if p.half then one (p.a && p.a_stale) else (if b then sides p else 0) + one (copies p)

framed_least : (z : MarksStore) (t : ℕ) (m : Bool) → is_some (patch_at z t) ≡ m → frame_at z t ≡ None → is_lost z t ≡ false →
    (q : ℕ) → weight_at (with_frame z t (Some m)) q ≤ weight_at z q
framed_least z t m patched bare here q = by_place (cases_eq q t) (set_there z.frames t (Some m)) where
  v : MarksStore
  v = with_frame z t (Some m)

  at : (f : Option Bool) → frame_at v t ≡ f → works_by (is_lost z t) f (is_some (patch_at z t)) (is_loose z t) ≡ works (spot_at z t) → weight_at v t ≤ weight_at z t
  at f is same = as_least (weight_at v t) (weight_at z t)
      (ap (λ (o : Option Bool). weight_if (spot_at z t) (works_by (is_lost z t) o (is_some (patch_at z t)) (is_loose z t))) is
      ∙ ap (weight_if (spot_at z t)) same)

  by_place : ((q ≡ t) ⊎ (q ≢ t)) → ((frame_at v t ≡ Some m) ⊎ (frame_at v t ≡ frame_at z t)) → weight_at v q ≤ weight_at z q
  by_place (inr ne) there = same_weight z v q ((near_frame z t (Some m)).others q ne)
  by_place (inl is) (inl there) =
      rw is
      (at (Some m) there
      (ap (λ (k : Bool). works_by (is_lost z t) (Some k) (is_some (patch_at z t)) (is_loose z t)) (sym patched)
      ∙ filled_works (is_lost z t) (is_some (patch_at z t)) (is_loose z t) here
      ∙ ap (λ (o : Option Bool). works_by (is_lost z t) o (is_some (patch_at z t)) (is_loose z t)) (sym bare)))
  by_place (inl is) (inr there) = rw is (at (frame_at z t) there refl)

module _ (s : MarksStore) (t : ℕ) (ts : List ℕ) (queue : s.queue ≡ t ∷ ts) where
  abbrev shorter : MarksStore
  shorter = record s { queue = ts }

  one_shorter : Lower s shorter
  one_shorter = lower_all s shorter refl (λ q _. as_least (weight_at s q) (weight_at s q) refl) (omega (arith, ap length queue))

  bytes_staged : (z : MarksStore) (g : Got Bool) → GotSo shorter z g.fault → frame_at s t ≡ None → is_lost s t ≡ false → (o : Option Bool) →
      Had (staged_bytes by_plain t z g o) (WorkSo s)
  bytes_staged z g e bare here o =
      search (arith, had_ask, had_done, had_try, had_then, had_if, is_some, one_shorter, same_least, sum_least, weight_at, framed_least, stopped)

  none_framed : (o : Option Bool) (lost : Bool) → (is_some o || lost) ≡ false → (o ≡ None) × (lost ≡ false)
  none_framed o lost e = grind arith

  stage_so : Had (stage by_plain shorter t) (WorkSo s)
  stage_so = grind (arith, had_if, had_done, had_try, had_ask, had_then, level_so shorter t, bytes_staged)

-- The order

waits_works : (s : MarksStore) (t : ℕ) → waits by_plain s t ≡ true → works (spot_at s t) ≡ true
unfolding O.waits
waits_works s t e = grind (arith, or_left)

destage_so : (s : MarksStore) → s.half ≡ None → (o : Option ℕ) → to_destage by_plain s ≡ o → Had (destage_first by_plain s o) (WorkSo s)
destage_so s whole None is = had_done (λ e. absurd (cc))
destage_so s whole (Some t) is = grind (arith, saved_so, or_right, least_found)

stages_so : (s : MarksStore) → s.half ≡ None → (l : List ℕ) → s.queue ≡ l → Had (stage_first by_plain s l) (WorkSo s)
stages_so s whole [] is = destage_so s whole (to_destage by_plain s) refl
stages_so s whole (t ∷ ts) is = stage_so s t ts is

copy_first_so : (s : MarksStore) → s.half ≡ None → (o : Option ℕ) → to_copy s ≡ o → Had (copy_first by_plain s o) (WorkSo s)
copy_first_so s whole None is = stages_so s whole s.queue refl
copy_first_so s whole (Some t) is = copy_so s t whole (least_found (tracks_of s) (λ q. is_some (copies_to s q)) t is).0 (copies_to s t) refl

recover_first_so : (s : MarksStore) → s.half ≡ None → (o : Option ℕ) → to_recover by_plain s ≡ o → Had (recover_first by_plain s o) (WorkSo s)
recover_first_so s whole None is = copy_first_so s whole (to_copy s) refl
recover_first_so s whole (Some t) is = grind (arith, recover_so, waits_works, least_found)

pub work_so : (s : MarksStore) → s.half ≡ None → Had (work by_plain s) (WorkSo s)
unfolding G.work
work_so s whole = recover_first_so s whole (to_recover by_plain s) refl
