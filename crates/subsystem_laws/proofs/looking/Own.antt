-- What settling, a failed call and the end of an event leave of a store over marks as it was.
use Rattle.std.proofs.Common.{◌≡◌, ◌==◌, ◌&&◌, zero, suc, ℕ, Bool, true, false, List, Option, Some, None, is_some, refl, ap, ◌∙◌}
use Rattle.std.specs.Prelude.{if◌then◌else◌}
use Rattle.ckd_types.specs.declared.geometry.Geometry.{Geometry}
use Rattle.ckd_types.specs.declared.paths.Side.{Side}
use Rattle.ckd_types.specs.declared.paths.Side.TheVariants.{A, B}
use Rattle.ckd_types.specs.declared.record.Track.{Track}
use Rattle.ckd_types.specs.Volume.{track_in}
use Rattle.device_outside.specs.Interaction.{Done, and_then}
use Rattle.device_outside.specs.Told.{Calls}
use Rattle.device_defs.specs.declared.owed.Owed.{Owed}
use Rattle.device_defs.specs.Contents.{by_plain}
use Rattle.device_defs.specs.Image.{read_counted}
use Rattle.device_defs.specs.Losses as L
use Rattle.device_defs.specs.Losses.{
  gives_up,
  hardened_by_loss,
  over,
  down,
  slot_in,
  lost_now,
  kept_by_frame,
  by_frame,
  settled,
  settled_but,
  side_lost,
  firm_told,
  all_firm_told,
  call_failed,
}
use Rattle.device_defs.specs.Marks.{MarksStore}
use Rattle.device_defs.specs.Owed as O
use Rattle.device_defs.specs.Owed.{
  noted_begin,
  is_modified,
  modified_told,
  dropped_told,
  freed_told,
  settles_debt,
  track_told,
  all_told,
  waiting_count,
  waiting_told,
  noted_end,
  is_owed,
}
use Rattle.device_defs.specs.Store.{HalfWrite, tracks_of, has_level, frame_at, patch_at, is_lost, is_loose, half_is, owed_at, plain_at, with_frame, with_lost, with_owed, no_debt}
use Rattle.subsystem_laws.proofs.looking.Seen.{Seen, seen_done, seen_ask, seen_tell, seen_then, seen_weaker, seen_if}

pub record Own : Type 0 where
  pub device : ℕ
  pub geometry : Geometry
  pub cylinders : ℕ
  pub lent : Option ℕ
  pub half : Option (HalfWrite (Unit {0}))
  pub plain : List Track

unfoldable pub own_of : MarksStore → Own
own_of s = record { device = s.device; geometry = s.geometry; cylinders = s.cylinders; lent = s.lent; half = s.half; plain = s.plain }

module _ (s z : MarksStore) (e : own_of z ≡ own_of s) where
  pub same_device : z.device ≡ s.device
  unfolding own_of
  same_device = ap (λ (o : Own). o.device) e

  pub same_geometry : z.geometry ≡ s.geometry
  unfolding own_of
  same_geometry = ap (λ (o : Own). o.geometry) e

  pub same_cylinders : z.cylinders ≡ s.cylinders
  unfolding own_of
  same_cylinders = ap (λ (o : Own). o.cylinders) e

  pub same_lent : z.lent ≡ s.lent
  unfolding own_of
  same_lent = ap (λ (o : Own). o.lent) e

  pub same_half : z.half ≡ s.half
  unfolding own_of
  same_half = ap (λ (o : Own). o.half) e

  pub same_plain : z.plain ≡ s.plain
  unfolding own_of
  same_plain = ap (λ (o : Own). o.plain) e

  pub same_image : (t : ℕ) → plain_at z t ≡ plain_at s t
  unfolding own_of
  same_image t = ap (λ (o : Own). record { geometry = o.geometry; track = track_in o.plain t }) e

pub counted_own : (s : MarksStore) (ok : Bool) → own_of (read_counted s ok) ≡ own_of s
unfolding own_of
counted_own s ok = refl

pub unframed_own : (s : MarksStore) (t : ℕ) → own_of (with_frame s t None) ≡ own_of s
unfolding own_of
unframed_own s t = refl

pub begun_own : (s : MarksStore) → own_of (noted_begin s) ≡ own_of s
unfolding own_of
begun_own s = refl

-- Settling

-- side B stays as well
record Same (s z : MarksStore) : Type 0 where
  own : own_of z ≡ own_of s
  b : z.b ≡ s.b

same_on : (s z y : MarksStore) → Same s z → Same z y → Same s y
same_on s z y f g = record { own = g.own ∙ f.own; b = g.b ∙ f.b }

itself : (s : MarksStore) → Same s s
itself s = record { own = refl; b = refl }

same_if : (c : Bool) (s x y : MarksStore) → Same s x → Same s y → Same s (if c then x else y)
same_if true s x y f g = f
same_if false s x y f g = g

given_up : (s : MarksStore) (t : ℕ) (o : Option ℕ) → Same s (gives_up s t o)
unfolding own_of
given_up s t None = record { own = refl; b = refl }
given_up s t (Some slot) = record { own = refl; b = refl }

lost_same : (s : MarksStore) (t : ℕ) → Same s (with_lost s t)
unfolding own_of
lost_same s t = record { own = refl; b = refl }

hardened_same : (s : MarksStore) (t : ℕ) → Same s (hardened_by_loss s t)
unfolding own_of
hardened_same s t = record { own = refl; b = refl }

kept_same : (s : MarksStore) (t : ℕ) (f : Bool) → Same s (kept_by_frame by_plain s t f)
unfolding own_of
kept_same s t true = record { own = refl; b = refl }
kept_same s t false = record { own = refl; b = refl }

by_frame_same : (s : MarksStore) (t : ℕ) (o : Option Bool) → Same s (by_frame by_plain s t o)
by_frame_same s t (Some f) = same_if (is_loose s t) s (hardened_by_loss s t) (kept_by_frame by_plain s t f) (hardened_same s t) (kept_same s t f)
by_frame_same s t None =
    same_if (half_is s.half t) s s (lost_now by_plain s t) (itself s)
    (same_on s (with_lost s t) (lost_now by_plain s t) (lost_same s t)
    (given_up (with_lost s t) t (slot_in by_plain (patch_at s t))))

settled_same : (s : MarksStore) (t : ℕ) → Same s (settled by_plain s t)
unfolding L.settled
settled_same s t =
    same_if (is_some s.lent) s s _ (itself s)
    (same_if (is_lost s t) s s _ (itself s)
    (same_if (has_level s t) s s (by_frame by_plain s t (frame_at s t)) (itself s) (by_frame_same s t (frame_at s t))))

over_same : (n : ℕ) (s : MarksStore) → Same s (over n (settled_but by_plain None) s)
unfolding L.over
over_same zero s = itself s
over_same (suc n) s =
    let z = over n (settled_but by_plain None) s in same_on s z (settled by_plain z n) (over_same n s) (settled_same z n)

-- A failed call

-- what is left, and that no call was made meanwhile
record Hushed (a b : Calls) (s : MarksStore) (x y : Calls) (z : MarksStore) : Type 0 where
  same : Same s z
  first : x ≡ a
  second : y ≡ b

owed_same : (s : MarksStore) (t : ℕ) (o : Owed) → Same s (with_owed s t o)
unfolding own_of
owed_same s t o = record { own = refl; b = refl }

firm_seen : (t : ℕ) (a b x y : Calls) (s z : MarksStore) → Hushed a b s x y z →
    Seen (λ u v w (_ : Unit {0}). Hushed a b s u v w) x y (firm_told by_plain t z)
firm_seen t a b x y s z h =
    let o : Owed = record (owed_at z t) { firm = false } in
    seen_if (owed_at z t).firm
    (λ _. seen_tell (seen_done (record { same = same_on s z (with_owed z t o) h.same (owed_same z t o); first = h.first; second = h.second })))
    (λ _. seen_done h)

told_seen : (n : ℕ) (a b : Calls) (s : MarksStore) → Seen (λ u v w (_ : Unit {0}). Hushed a b s u v w) a b (all_firm_told by_plain n s)
unfolding L.all_firm_told
told_seen zero a b s = seen_done (record { same = itself s; first = refl; second = refl })
told_seen (suc n) a b s = seen_then (λ z _. firm_told by_plain n z) (told_seen n a b s) (λ x y z _ h. firm_seen n a b x y s z h)

-- the side that failed may be down; where it is A, side B is as it was
pub record Fails (a b : Calls) (s : MarksStore) (side : Side) (x y : Calls) (z : MarksStore) : Type 0 where
  pub own : own_of z ≡ own_of s
  pub first : x ≡ a
  pub second : y ≡ b
  pub kept : side ≡ A → z.b ≡ s.b

down_own : (s : MarksStore) (side : Side) → own_of (down s side) ≡ own_of s
unfolding own_of
down_own s A = refl
down_own s B = refl

down_b : (s : MarksStore) (side : Side) → side ≡ A → (down s side).b ≡ s.b
down_b s A e = refl
down_b s B e = absurd (cc)

side_same : (s : MarksStore) (side : Side) → Same (down s side) (side_lost by_plain s side None)
unfolding L.side_lost
side_same s side = over_same (tracks_of s) (down s side)

pub failed_seen : (a b : Calls) (s : MarksStore) (side : Side) →
    Seen (λ x y z (_ : Unit {0}). Fails a b s side x y z) a b (call_failed by_plain s side None)
failed_seen a b s side =
    seen_if s.paired
    (λ _. seen_weaker (told_seen (tracks_of s) a b (side_lost by_plain s side None))
    (λ x y z _ h.
    let f = same_on (down s side) (side_lost by_plain s side None) z (side_same s side) h.same in
    record { own = f.own ∙ down_own s side; first = h.first; second = h.second; kept = λ e. f.b ∙ down_b s side e }))
    (λ _. seen_done (record { own = refl; first = refl; second = refl; kept = λ e. refl }))

-- The end of an event

module _ (u : MarksStore) where
  abbrev Ends : Calls → Calls → MarksStore → Unit {0} → Type 0
  Ends a b z _ = own_of z ≡ own_of u

  paid_own : (s : MarksStore) (t : ℕ) (o : Owed) → own_of (with_owed s t o) ≡ own_of s
  unfolding own_of
  paid_own s t o = refl

  modified_seen : (t : ℕ) (a b : Calls) (s : MarksStore) → own_of s ≡ own_of u → Seen Ends a b (modified_told by_plain t s)
  modified_seen t a b s e =
      seen_if ((owed_at s t).modified && is_modified by_plain (frame_at s t)) (λ _. seen_ask (λ _. seen_done e)) (λ _. seen_done e)

  dropped_seen : (t : ℕ) (a b : Calls) (s : MarksStore) → own_of s ≡ own_of u → Seen Ends a b (dropped_told by_plain t s)
  dropped_seen t a b s e = seen_if (owed_at s t).dropped (λ _. seen_ask (λ _. seen_done e)) (λ _. seen_done e)

  freed_seen : (a b : Calls) (s : MarksStore) (o : Option ℕ) → own_of s ≡ own_of u → Seen Ends a b (freed_told by_plain s o)
  freed_seen a b s None e = seen_done e
  freed_seen a b s (Some slot) e = seen_ask (λ _. seen_done e)

  settles_seen : (t : ℕ) (a b : Calls) (s : MarksStore) → own_of s ≡ own_of u → Seen Ends a b (settles_debt by_plain t s)
  settles_seen t a b s e =
      seen_then (λ z _. and_then (dropped_told by_plain t z) (λ y _. and_then (freed_told by_plain y (owed_at y t).freed)
      (λ x _. Done (with_owed x t no_debt) tt))) (modified_seen t a b s e)
      (λ a b z _ e. seen_then (λ y _. and_then (freed_told by_plain y (owed_at y t).freed) (λ x _. Done (with_owed x t no_debt) tt)) (dropped_seen t a b z e)
      (λ a b y _ e. seen_then (λ x _. Done (with_owed x t no_debt) tt) (freed_seen a b y (owed_at y t).freed e)
      (λ a b x _ e. seen_done (paid_own x t no_debt ∙ e))))

  all_told_seen : (n : ℕ) (a b : Calls) (s : MarksStore) → own_of s ≡ own_of u → Seen Ends a b (all_told by_plain n s)
  unfolding O.all_told
  all_told_seen zero a b s e = seen_done e
  all_told_seen (suc n) a b s e =
      seen_then (λ z _. track_told by_plain n z) (all_told_seen n a b s e)
      (λ a b z _ e. seen_if (is_owed by_plain (owed_at z n)) (λ _. settles_seen n a b z e) (λ _. seen_done e))

  pub ended_seen : (n : ℕ) (a b : Calls) (s : MarksStore) → own_of s ≡ own_of u → Seen Ends a b (noted_end by_plain n s)
  ended_seen n a b s e =
      seen_then (λ z _. waiting_told by_plain n z) (all_told_seen (tracks_of s) a b s e)
      (λ a b z _ e. seen_if (waiting_count by_plain z == n) (λ _. seen_done e) (λ _. seen_ask (λ _. seen_done e)))
