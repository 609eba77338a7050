-- The tracks that an event noted as firm and those that were told, and what the changes of a device's marks make of both.
use Rattle.std.proofs.Common.{◌≡◌, ◌≢◌, ◌<◌, ◌≤◌, ◌*◌, ◌==◌, ℕ, zero, suc, Bool, true, false, List, [], ◌∷◌, ◌++◌, Option, Some, None, is_some, length, set, append_assoc, refl, sym, ap, subst, ◌∙◌, arith, inl, inr}
use Rattle.std.specs.Prelude.{◌⊎◌, if◌then◌else◌}
use Rattle.std.proofs.lemmas.Bool.{cond_both}
use Rattle.std.proofs.lemmas.List.{append-nil, length-set, get_or-set_same, get_or-set_other}
use Rattle.ckd_types.specs.declared.geometry.Geometry.{Geometry}
use Rattle.ckd_types.specs.declared.paths.Side.{Side}
use Rattle.ckd_types.specs.declared.record.Track.{Track}
use Rattle.ckd_types.specs.Volume.{track_in}
use Rattle.device_defs.specs.declared.owed.Owed.{Owed}
use Rattle.device_defs.specs.Contents.{by_plain}
use Rattle.device_defs.specs.Effects.{hardened}
use Rattle.device_defs.specs.Losses as L
use Rattle.device_defs.specs.Losses.{settled, settled_but, by_frame, kept_by_frame, hardened_by_loss, lost_now, slot_in, without_frame, without_patch, patch_lost, stale_everywhere, over, down, side_lost}
use Rattle.device_defs.specs.Marks.{MarksStore}
use Rattle.device_defs.specs.Store.{HalfWrite, no_debt, tracks_of, has_level, frame_at, patch_at, is_lost, is_loose, half_is, owed_at, with_lost}
use Rattle.device_laws.proofs.PlainStores.{Core, core_of}
use Rattle.device_laws.proofs.PlainWalks.{framed_same, patch_same, everywhere_same, down_same}
use Rattle.keeper_laws.proofs.FirmStores.{NotLoose, still_firm, like_owed, like_everywhere, like_down, like_unframed, like_unpatched}
use Rattle.firm_laws.specs.FirmWrites.{FirmWrite}
use Rattle.firm_laws.proofs.HistoryWrites.{firmings, firmings_more, Takes, takes_more}

-- Stores that differ in nothing of this

pub record Same (s z : MarksStore) : Type 0 where
  pub core : core_of z ≡ core_of s
  pub room : length z.owed ≡ length s.owed
  pub free : (u : ℕ) → (owed_at z u).firm ≡ (owed_at s u).firm

pub same_itself : (s : MarksStore) → Same s s
same_itself s = record { core = refl; room = refl; free = λ u. refl }

pub same_then : (s z y : MarksStore) → Same s z → Same z y → Same s y
same_then s z y a b = record { core = b.core ∙ a.core; room = b.room ∙ a.room; free = λ u. b.free u ∙ a.free u }

pub same_everywhere : (s : MarksStore) (t : ℕ) → Same s (stale_everywhere s t)
same_everywhere s t = record { core = everywhere_same s t; room = (like_everywhere s t).6; free = (like_everywhere s t).7 }

pub same_down : (s : MarksStore) (side : Side) → Same s (down s side)
same_down s side = record { core = down_same s side; room = (like_down s side).6; free = (like_down s side).7 }

pub same_unframed : (s : MarksStore) (t : ℕ) → Same s (without_frame s t)
same_unframed s t = record {
  core = cond_both (is_some (frame_at s t)) _ s (λ (z : MarksStore). core_of z ≡ core_of s) (λ _. framed_same s t None) (λ _. refl);
  room = (like_unframed s t).6;
  free = (like_unframed s t).7;
}

pub same_unpatched : (s : MarksStore) (t : ℕ) → Same s (without_patch by_plain s t)
same_unpatched s t = record {
  core = patch_same s t (slot_in by_plain (patch_at s t));
  room = (like_unpatched s t).6;
  free = (like_unpatched s t).7;
}

same_lost : (s : MarksStore) (t : ℕ) → Same s (lost_now by_plain s t)
same_lost s t = record {
  core = patch_same (with_lost s t) t (slot_in by_plain (patch_at s t));
  room = (like_unpatched (with_lost s t) t).6;
  free = (like_unpatched (with_lost s t) t).7;
}

same_framed : (s : MarksStore) (t : ℕ) (f : Bool) → Same s (kept_by_frame by_plain s t f)
same_framed s t f =
    let o = like_owed s t (record (owed_at s t) { modified = true }) refl in
    cond_both f s _ (Same s) (λ _. same_itself s) (λ _. record { core = framed_same s t (Some true); room = o.6; free = o.7 })

-- A track that is settled

-- it becomes firm at most, and is to be told then
pub data Step (t : ℕ) (s : MarksStore) : MarksStore → Type 0 where
  stays : (z : MarksStore) → Same s z → Step t s z
  firms : (y z : MarksStore) → Same s y → z ≡ hardened_by_loss y t → Step t s z

step_then : (t : ℕ) (s y z : MarksStore) → Same s y → Step t y z → Step t s z
step_then t s y z same (stays _ b) = stays z (same_then s y z same b)
step_then t s y z same (firms x _ b is) = firms x z (same_then s y x same b) is

step_frame : (s : MarksStore) (t : ℕ) (f : Option Bool) → Step t s (by_frame by_plain s t f)
step_frame s t (Some f) =
    cond_both (is_loose s t) (hardened_by_loss s t) (kept_by_frame by_plain s t f) (Step t s)
    (λ _. firms s (hardened_by_loss s t) (same_itself s) refl) (λ _. stays (kept_by_frame by_plain s t f) (same_framed s t f))
step_frame s t None =
    cond_both (half_is s.half t) s (lost_now by_plain s t) (Step t s) (λ _. stays s (same_itself s)) (λ _. stays (lost_now by_plain s t) (same_lost s t))

pub step_settled : (s : MarksStore) (t : ℕ) → Step t s (settled by_plain s t)
unfolding L.settled
step_settled s t =
    cond_both (is_some s.lent) s (if is_lost s t then s else if has_level s t then s else by_frame by_plain s t (frame_at s t)) (Step t s)
    (λ _. stays s (same_itself s))
    (λ _. cond_both (is_lost s t) s (if has_level s t then s else by_frame by_plain s t (frame_at s t)) (Step t s) (λ _. stays s (same_itself s))
    (λ _. cond_both (has_level s t) s (by_frame by_plain s t (frame_at s t)) (Step t s) (λ _. stays s (same_itself s)) (λ _. step_frame s t (frame_at s t))))

step_but : (writing : Option ℕ) (t : ℕ) (s : MarksStore) → Step t s (settled_but by_plain writing t s)
step_but None t s = step_settled s t
step_but (Some q) t s = cond_both (t == q) s (settled by_plain s t) (Step t s) (λ _. stays s (same_itself s)) (λ _. step_settled s t)

pub step_patch : (t : ℕ) (s : MarksStore) → Step t s (patch_lost by_plain t s)
step_patch t s =
    let x = without_patch by_plain s t in
    let y = stale_everywhere x t in
    let same = same_unpatched s t in
    cond_both (is_some (patch_at s t)) (if half_is s.half t then x else settled by_plain y t) s (Step t s)
    (λ _. cond_both (half_is s.half t) x (settled by_plain y t) (Step t s) (λ _. stays x same)
    (λ _. step_then t s y (settled by_plain y t) (same_then s x y same (same_everywhere x t)) (step_settled y t)))
    (λ _. stays s (same_itself s))

-- one that isn't loose, or has no frame, becomes firm in none
calm_frame : (s : MarksStore) (t : ℕ) (f : Option Bool) → (f ≡ None) ⊎ (is_loose s t ≡ false) → Same s (by_frame by_plain s t f)
calm_frame s t None c =
    cond_both (half_is s.half t) s (lost_now by_plain s t) (Same s) (λ _. same_itself s) (λ _. same_lost s t)
calm_frame s t (Some f) (inl c) = absurd (cc)
calm_frame s t (Some f) (inr c) =
    cond_both (is_loose s t) (hardened_by_loss s t) (kept_by_frame by_plain s t f) (Same s)
    (λ is. absurd (let no : true ≡ false = sym is ∙ c in cc)) (λ _. same_framed s t f)

pub calm_settled : (s : MarksStore) (t : ℕ) → (frame_at s t ≡ None) ⊎ (is_loose s t ≡ false) → Same s (settled by_plain s t)
unfolding L.settled
calm_settled s t c =
    cond_both (is_some s.lent) s (if is_lost s t then s else if has_level s t then s else by_frame by_plain s t (frame_at s t)) (Same s)
    (λ _. same_itself s)
    (λ _. cond_both (is_lost s t) s (if has_level s t then s else by_frame by_plain s t (frame_at s t)) (Same s) (λ _. same_itself s)
    (λ _. cond_both (has_level s t) s (by_frame by_plain s t (frame_at s t)) (Same s) (λ _. same_itself s) (λ _. calm_frame s t (frame_at s t) c)))

pub over_same : (n : ℕ) (f : ℕ → MarksStore → MarksStore) → ((t : ℕ) (z : MarksStore) → Same z (f t z)) → (s : MarksStore) → Same s (over n f s)
unfolding L.over
over_same zero f h s = same_itself s
over_same (suc n) f h s = same_then s (over n f s) (f n (over n f s)) (over_same n f h s) (h n (over n f s))

-- What is so along an event

-- h is the half write, o a track that isn't loose, b the plain volume
module _ (h : Option (HalfWrite (Unit {0}))) (o : Option ℕ) (b : List Track) (g : Geometry) where
  -- what was told is what was noted, and nothing is owed
  pub record On (w : List FirmWrite) (s : MarksStore) : Type 0 where
    pub said : w ≡ firmings b s.acts
    pub takes : Takes s.acts
    pub free : (t : ℕ) → (owed_at s t).firm ≡ false
    pub half : s.half ≡ h
    pub firm : NotLoose o s.loose
    pub room : length s.owed ≡ tracks_of s
    pub plain : s.plain ≡ b
    pub geometry : s.geometry ≡ g

  pub on_same : {w : List FirmWrite} (s z : MarksStore) → Same s z → On w s → On w z
  on_same s z e x = record {
    said = x.said ∙ ap (λ (c : Core). firmings b c.acts) (sym e.core);
    takes = subst (λ (c : Core). Takes c.acts) (sym e.core) x.takes;
    free = λ t. e.free t ∙ x.free t;
    half = ap (λ (c : Core). c.half) e.core ∙ x.half;
    firm = subst (λ (c : Core). NotLoose o c.loose) (sym e.core) x.firm;
    room = e.room ∙ x.room ∙ ap (λ (c : Core). c.cylinders * 15) (sym e.core);
    plain = ap (λ (c : Core). c.plain) e.core ∙ x.plain;
    geometry = ap (λ (c : Core). c.geometry) e.core ∙ x.geometry;
  }

  pub on_hardened : {w : List FirmWrite} (s : MarksStore) (q : ℕ) → On w s → On (w ++ (q, track_in b q) ∷ []) (hardened s q)
  on_hardened s q x = record {
    said = ap (λ (l : List FirmWrite). l ++ (q, track_in b q) ∷ []) x.said ∙ sym (firmings_more b s.acts q);
    takes = takes_more s.acts q x.takes;
    free = x.free;
    half = x.half;
    firm = still_firm o s.loose q x.firm;
    room = x.room;
    plain = x.plain;
    geometry = x.geometry;
  }

  -- Tracks that are still to be told

  abbrev pub owed_write : Bool → ℕ → List FirmWrite
  owed_write owed t = if owed then (t, track_in b t) ∷ [] else []

  -- of the first n tracks
  abbrev pub owed_writes : ℕ → MarksStore → List FirmWrite
  owed_writes zero s = []
  owed_writes (suc n) s = owed_writes n s ++ owed_write (owed_at s n).firm n

  owed_same : (n : ℕ) (s z : MarksStore) → ((t : ℕ) → t < n → (owed_at z t).firm ≡ (owed_at s t).firm) → owed_writes n z ≡ owed_writes n s
  owed_same zero s z e = refl
  owed_same (suc n) s z e =
      ap (λ (l : List FirmWrite). l ++ owed_write (owed_at z n).firm n) (owed_same n s z (λ t lt. e t (omega (arith, lt))))
      ∙ ap (λ (x : Bool). owed_writes n s ++ owed_write x n) (e n (omega arith))

  module _ (m : ℕ) where
    -- of the first n of m tracks some are owed, and no other
    pub record Owes (w : List FirmWrite) (n : ℕ) (s : MarksStore) : Type 0 where
      pub said : w ++ owed_writes n s ≡ firmings b s.acts
      pub takes : Takes s.acts
      pub free : (t : ℕ) → n ≤ t → (owed_at s t).firm ≡ false
      pub half : s.half ≡ h
      pub firm : NotLoose o s.loose
      pub room : length s.owed ≡ m
      pub tracks : tracks_of s ≡ m
      pub plain : s.plain ≡ b
      pub geometry : s.geometry ≡ g

    pub owes_none : (w : List FirmWrite) (s : MarksStore) → tracks_of s ≡ m → On w s → Owes w 0 s
    owes_none w s many x = record {
      said = append-nil w ∙ x.said;
      takes = x.takes;
      free = λ t le. x.free t;
      half = x.half;
      firm = x.firm;
      room = x.room ∙ many;
      tracks = many;
      plain = x.plain;
      geometry = x.geometry;
    }

    module _ (w : List FirmWrite) (n : ℕ) (inside : n < m) where
      owes_same : (s z : MarksStore) → Same s z → Owes w n s → Owes w n z
      owes_same s z e x = record {
        said = ap (λ (l : List FirmWrite). w ++ l) (owed_same n s z (λ t lt. e.free t)) ∙ x.said ∙ ap (λ (c : Core). firmings b c.acts) (sym e.core);
        takes = subst (λ (c : Core). Takes c.acts) (sym e.core) x.takes;
        free = λ t le. e.free t ∙ x.free t le;
        half = ap (λ (c : Core). c.half) e.core ∙ x.half;
        firm = subst (λ (c : Core). NotLoose o c.loose) (sym e.core) x.firm;
        room = e.room ∙ x.room;
        tracks = ap (λ (c : Core). c.cylinders * 15) e.core ∙ x.tracks;
        plain = ap (λ (c : Core). c.plain) e.core ∙ x.plain;
        geometry = ap (λ (c : Core). c.geometry) e.core ∙ x.geometry;
      }

      -- the next track isn't owed
      owes_further : (s : MarksStore) → Owes w n s → Owes w (suc n) s
      owes_further s x = record {
        said = ap (λ (f : Bool). w ++ (owed_writes n s ++ owed_write f n)) (x.free n (omega arith))
            ∙ ap (λ (l : List FirmWrite). w ++ l) (append-nil (owed_writes n s)) ∙ x.said;
        takes = x.takes;
        free = λ t le. x.free t (omega (arith, le));
        half = x.half;
        firm = x.firm;
        room = x.room;
        tracks = x.tracks;
        plain = x.plain;
        geometry = x.geometry;
      }

      -- or it becomes firm by the loss
      owes_hardened : (s : MarksStore) → Owes w n s → Owes w (suc n) (hardened_by_loss s n)
      owes_hardened s x =
          let z = hardened_by_loss s n in
          let now : Owed = record (owed_at s n) { firm = true } in
          let room = x.room in
          let here : (owed_at z n).firm ≡ true = ap (λ (d : Owed). d.firm) (get_or-set_same s.owed n now no_debt (omega (arith, inside, room))) in
          let others : (t : ℕ) → t ≢ n → (owed_at z t).firm ≡ (owed_at s t).firm = λ t ne.
          ap (λ (d : Owed). d.firm) (get_or-set_other s.owed n t now no_debt ne) in record {
            said =
                ap (λ (f : Bool). w ++ (owed_writes n z ++ owed_write f n)) here
                ∙ ap (λ (l : List FirmWrite). w ++ (l ++ (n, track_in b n) ∷ [])) (owed_same n s z (λ t lt. others t (λ is. omega (arith, lt, is))))
                ∙ sym (append_assoc w (owed_writes n s) ((n, track_in b n) ∷ []))
                ∙ ap (λ (l : List FirmWrite). l ++ (n, track_in b n) ∷ []) x.said
                ∙ sym (firmings_more b s.acts n);
            takes = takes_more s.acts n x.takes;
            free = λ t le. others t (λ is. omega (arith, le, is)) ∙ x.free t (omega (arith, le));
            half = x.half;
            firm = still_firm o s.loose n x.firm;
            room = length-set s.owed n now ∙ x.room;
            tracks = x.tracks;
            plain = x.plain;
            geometry = x.geometry;
          }

      owes_step : (s z : MarksStore) → Step n s z → Owes w n s → Owes w (suc n) z
      owes_step s z (stays _ same) x = owes_further z (owes_same s z same x)
      owes_step s z (firms y _ same is) x = subst (Owes w (suc n)) (sym is) (owes_hardened y (owes_same s y same x))

    pub owes_over : (w : List FirmWrite) (n : ℕ) (f : ℕ → MarksStore → MarksStore) → n ≤ m → ((t : ℕ) (z : MarksStore) → Step t z (f t z)) →
        (s : MarksStore) → Owes w 0 s → Owes w n (over n f s)
    unfolding L.over
    owes_over w zero f le step s x = x
    owes_over w (suc n) f le step s x =
        owes_step w n (omega (arith, le)) (over n f s) (f n (over n f s)) (step n (over n f s)) (owes_over w n f (omega (arith, le)) step s x)

  pub owes_side : (w : List FirmWrite) (s : MarksStore) (side : Side) (writing : Option ℕ) → On w s →
      Owes (tracks_of s) w (tracks_of s) (side_lost by_plain s side writing)
  unfolding L.side_lost
  owes_side w s side writing x =
      owes_over (tracks_of s) w (tracks_of s) (settled_but by_plain writing) (omega arith) (step_but writing) (down s side)
      (owes_none (tracks_of s) w (down s side) (ap (λ (c : Core). c.cylinders * 15) (same_down s side).core) (on_same s (down s side) (same_down s side) x))
