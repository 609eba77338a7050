-- The second part of a write leaves less to do, also where its call fails and takes side B down.
use Rattle.std.proofs.Common.{◌≡◌, ◌≤◌, ◌+◌, ◌⊎◌, ℕ, Bool, true, false, Option, Some, None, is_some, get_or, set, refl, ap, ◌∙◌, arith, inl, inr}
use Rattle.std.proofs.lemmas.List.{get_or-set_other}
use Rattle.std.specs.Prelude.{◌&&◌, ◌||◌, if◌then◌else◌, not}
use Rattle.device_defs.specs.Contents.{by_plain}
use Rattle.device_defs.specs.Losses as L
use Rattle.device_defs.specs.Losses.{by_frame, gives_up, hardened_by_loss, kept_by_frame, lost_now, settled, slot_in}
use Rattle.device_defs.specs.Marks.{MarksStore}
use Rattle.device_defs.specs.Store.{frame_at, has_level, is_lost, is_loose, patch_at, with_lost}
use Rattle.device_laws.proofs.HeldPlaces.{none_at}
use Rattle.audit_laws.proofs.own.Weights.{Spot, one, spot_at, weight, whole_weight, works}
use Rattle.audit_laws.proofs.own.Lighter.{Written, written_by, half_off, half_on, near_firm, near_frame, some_at}
use Rattle.device_laws.proofs.Unlost.{clear}

-- Settling of a track

-- what it makes of the track
abbrev pub is_level : Spot → Bool
is_level p = (p.a && not p.a_stale) || (p.b && not p.b_stale)

abbrev pub BecomesFirm : Spot → Spot → Type 0
BecomesFirm p r = (p.loose ≡ true) × (r ≡ record p { loose = false })

abbrev pub BecomesModified : Spot → Spot → Type 0
BecomesModified p r = (p.frame ≡ Some false) × (p.loose ≡ false) × (p.lost ≡ false) × (is_level p ≡ false) × (r ≡ record p { frame = Some true })

abbrev pub BecomesLost : Spot → Spot → Type 0
BecomesLost p r = (p.frame ≡ None) × ((x : Bool) × (r ≡ record p { lost = x; patched = false }))

abbrev pub Made : Spot → Spot → Type 0
Made p r = (r ≡ p) ⊎ (BecomesFirm p r ⊎ (BecomesModified p r ⊎ BecomesLost p r))

abbrev pub Settled : MarksStore → MarksStore → ℕ → Type 0
Settled s z t = Written s z t × Made (spot_at s t) (spot_at z t)

unchanged : (s : MarksStore) (t : ℕ) → Settled s s t
unchanged s t = (written_by refl refl refl (λ q ne. refl), inl refl)

settled_if : (s y z : MarksStore) (t : ℕ) (b : Bool) → (b ≡ true → Settled s y t) → (b ≡ false → Settled s z t) → Settled s (if b then y else z) t
settled_if s y z t b f g = grind arith

firm_settled : (s : MarksStore) (t : ℕ) → is_loose s t ≡ true → Settled s (hardened_by_loss s t) t
firm_settled s t e =
    (written_by refl refl refl (near_firm s t).others, inr (inl (e, ap (λ (x : Bool). record (spot_at s t) { loose = x }) (clear s.loose t))))

lost_given : (s : MarksStore) (t : ℕ) (o : Option (Unit {0})) → patch_at s t ≡ o → frame_at s t ≡ None →
    Settled s (gives_up (with_lost s t) t (slot_in by_plain o)) t
lost_given s t None e bare = (
  written_by refl refl refl (λ q ne. ap (λ (x : Bool). record (spot_at s q) { lost = x }) (get_or-set_other s.lost t q true false ne)),
  inr (inr (inr (bare, (is_lost (with_lost s t) t, ap (λ (x : Option (Unit {0})). record (spot_at (with_lost s t) t) { patched = is_some x }) e)))),
)
lost_given s t (Some p) e bare = (
  written_by refl refl refl (λ q ne. ap (λ (x : Bool). record (spot_at s q) { lost = x; patched = is_some (get_or (set s.patches t None) q None) })
      (get_or-set_other s.lost t q true false ne)
      ∙ ap (λ (x : Option (Unit {0})). record (spot_at s q) { patched = is_some x }) (get_or-set_other s.patches t q None None ne)),
  inr (inr (inr (bare, (is_lost (with_lost s t) t, ap (λ (x : Option (Unit {0})). record (spot_at (with_lost s t) t) { patched = is_some x }) (none_at s.patches t))))),
)

frame_settled : (s : MarksStore) (t : ℕ) → is_lost s t ≡ false → has_level s t ≡ false → (o : Option Bool) → frame_at s t ≡ o → Settled s (by_frame by_plain s t o) t
frame_settled s t here off (Some m) is =
    settled_if s (hardened_by_loss s t) (kept_by_frame by_plain s t m) t (is_loose s t) (firm_settled s t)
    (λ firm. kept m is firm)
  where
    kept : (k : Bool) → frame_at s t ≡ Some k → is_loose s t ≡ false → Settled s (kept_by_frame by_plain s t k) t
    kept true e firm = unchanged s t
    kept false e firm =
        let there = some_at s.frames t true (ap (λ (x : Option Bool). is_some x) e) in
        let made = ap (λ (x : Option Bool). record (spot_at s t) { frame = x }) there in
        (written_by refl refl refl (near_frame s t (Some true)).others, inr (inr (inl (e, firm, here, off, made))))
frame_settled s t here off None is = grind (arith, settled_if, unchanged, lost_given)

pub settled_so : (s : MarksStore) (t : ℕ) → Settled s (settled by_plain s t) t
unfolding L.settled
settled_so s t = grind (arith, settled_if, is_some, unchanged, frame_settled)

-- Side B falls: what only it had is modified in its frame, so it waits in place of being copied

abbrev weight_from : Bool → Bool → Bool → Bool → Bool → Bool → ℕ
weight_from work a a_stale b b_stale held =
    (if work then one a + one (b && not held) else 0) + one ((a && a_stale && (b && not b_stale)) || ((b && not held) && b_stale && (a && not a_stale)))

fallen_least : (after before a a_stale b b_stale held : Bool) → b ≡ true →
    (a ≡ true → after ≡ true → (before ≡ true) ⊎ ((a_stale ≡ true) × (b_stale ≡ false))) →
    weight_from after a a_stale false b_stale false ≤ weight_from before a a_stale b b_stale held
fallen_least after before a a_stale b b_stale held up how = grind (arith, half_on)

abbrev pub fell : Spot → Spot
fell p = record p { b = false; held = false }

abbrev pub IsSafe : Spot → Type 0
IsSafe p = p.frame ≡ Some false → p.loose ≡ false → p.lost ≡ false → is_level p ≡ false → ⊥

how_made : (p r : Spot) → IsSafe p → Made (fell p) r → p.a ≡ true → works r ≡ true → (works p ≡ true) ⊎ ((p.a_stale ≡ true) × (p.b_stale ≡ false))
how_made p r safe x4 up on = grind arith

-- what else the weight goes by is as it was
sides_made : (d r : Spot) → Made d r → (r.half ≡ d.half) × (r.a ≡ d.a) × (r.a_stale ≡ d.a_stale) × (r.b ≡ d.b) × (r.b_stale ≡ d.b_stale) × (r.held ≡ d.held)
sides_made d r x3 = grind arith

pub made_least : (p r : Spot) → p.half ≡ false → p.b ≡ true → IsSafe p → Made (fell p) r → weight r ≤ weight p
made_least p r whole up safe m =
    let e = sides_made (fell p) r m in
    omega (
      arith,
      half_off p.half (one (p.a && p.a_stale)) (whole_weight p) whole,
      (half_off r.half (one (r.a && r.a_stale)) (whole_weight r) (e.0 ∙ whole)),
      (ap (λ (x : Bool). weight_from (works r) x r.a_stale r.b r.b_stale r.held) e.1 ∙ ap (λ (x : Bool). weight_from (works r) p.a x r.b r.b_stale r.held) e.2
          ∙ ap (λ (x : Bool). weight_from (works r) p.a p.a_stale x r.b_stale r.held) e.3 ∙ ap (λ (x : Bool). weight_from
          (works r) p.a p.a_stale false x r.held) e.4 ∙ ap (λ (x : Bool). weight_from (works r) p.a p.a_stale false p.b_stale x) e.5),
      (fallen_least (works r)
          (works p) p.a p.a_stale p.b p.b_stale p.held up (how_made p r safe m)),
    )
