-- The parts of an event tell what they note as firm.
use Rattle.std.proofs.Common.{◌≡◌, ◌<◌, ◌≤◌, ◌*◌, ℕ, zero, suc, Bool, true, false, List, [], ◌∷◌, ◌++◌, Option, Some, None, length, set, get_or, append_assoc, refl, sym, ap, subst, ◌∙◌, arith, inl, inr}
use Rattle.std.specs.Prelude.{◌⊎◌}
use Rattle.std.proofs.lemmas.Bool.{cases_lt}
use Rattle.std.proofs.lemmas.List.{append-nil, length-set, get_or-set_other}
use Rattle.ckd_types.specs.declared.geometry.Geometry.{Geometry}
use Rattle.ckd_types.specs.declared.record.Track.{Track}
use Rattle.ckd_types.specs.Volume.{track_in}
use Rattle.track_image.specs.Image.{Image}
use Rattle.device_outside.specs.Interaction.{Interaction, Done}
use Rattle.device_defs.specs.declared.owed.Owed.{Owed}
use Rattle.device_defs.specs.Contents.{by_plain}
use Rattle.device_defs.specs.Effects.{hardened}
use Rattle.device_defs.specs.Image.{Imaged}
use Rattle.device_defs.specs.Losses as L
use Rattle.device_defs.specs.Losses.{settled, stale_everywhere, all_firm_told, side_lost}
use Rattle.device_defs.specs.Marks.{MarksStore}
use Rattle.device_defs.specs.Store.{HalfWrite, no_debt, tracks_of, frame_at, is_loose, owed_at, plain_at, with_frame, with_owed}
use Rattle.device_laws.proofs.PlainStores.{Core, core_of, put_false}
use Rattle.device_laws.proofs.PlainWalks.{framed_same}
use Rattle.keeper_laws.proofs.FirmStores.{NotLoose, framed_track, free_more, free_freed}
use Rattle.keeper_laws.proofs.FirmWalk.{IsSaying, ImagedSo}
use Rattle.firm_laws.specs.FirmWrites.{FirmWrite}
use Rattle.firm_laws.proofs.HistoryWrites.{firmings, Takes}
use Rattle.firm_laws.proofs.SaidStores.{Same, same_everywhere, calm_settled, On, on_same, on_hardened, owed_write, owed_writes, Owes, owes_side}
use Rattle.keeper_laws.proofs.Firms.{firms_done, firms_told, firms_then, firms_weaker, firms_if}
use Rattle.firm_laws.proofs.Tells.{Tells}

-- a change of frames, patches and side marks alone
same_by : (s z : MarksStore) → core_of z ≡ core_of s → z.owed ≡ s.owed → Same s z
same_by s z e owed = record {
  core = e;
  room = ap (λ (l : List Owed). length l) owed;
  free = λ u. ap (λ (l : List Owed). (get_or l u no_debt).firm) owed;
}

pub at_firm : {h : Option (HalfWrite (Unit {0}))} {b : List Track} {g : Geometry} {w : List FirmWrite} (q : ℕ) (s : MarksStore) → is_loose s q ≡ false →
    On h None b g w s → On h (Some q) b g w s
at_firm q s e x = record {
  said = x.said;
  takes = x.takes;
  free = x.free;
  half = x.half;
  firm = e;
  room = x.room;
  plain = x.plain;
  geometry = x.geometry;
}

pub at_none : {h : Option (HalfWrite (Unit {0}))} {b : List Track} {g : Geometry} {w : List FirmWrite} (o : Option ℕ) (s : MarksStore) →
    On h o b g w s → On h None b g w s
at_none o s x = record {
  said = x.said;
  takes = x.takes;
  free = x.free;
  half = x.half;
  firm = tt;
  room = x.room;
  plain = x.plain;
  geometry = x.geometry;
}

module _ (h : Option (HalfWrite (Unit {0}))) (o : Option ℕ) (b : List Track) (g : Geometry) where
  abbrev Is : List FirmWrite → MarksStore → Type 0
  Is w s = On h o b g w s

  -- it tells what it notes
  abbrev pub Goes : {X : Type 0} → List FirmWrite → Interaction Bool Image MarksStore X → Type 0
  Goes w i = Tells (λ u z _. On h o b g u z) w i

  pub on_by : {w : List FirmWrite} (s z : MarksStore) → core_of z ≡ core_of s → z.owed ≡ s.owed → Is w s → Is w z
  on_by s z e owed x = on_same h o b g s z (same_by s z e owed) x

  pub on_framed : {w : List FirmWrite} (s : MarksStore) (q : ℕ) (f : Option Bool) → Is w s → Is w (with_frame s q f)
  on_framed s q f x = on_by s (with_frame s q f) (framed_same s q f) refl x

  -- A failed call

  module _ (w : List FirmWrite) (m : ℕ) (s : MarksStore) (owes : Owes h o b g m w m s) where
    -- the first n tracks were told, where they were owed
    record ToldTo (n : ℕ) (u : List FirmWrite) (z : MarksStore) : Type 0 where
      said : u ≡ w ++ owed_writes h o b g n s
      core : core_of z ≡ core_of s
      room : length z.owed ≡ length s.owed
      below : (t : ℕ) → t < n → (owed_at z t).firm ≡ false
      above : (t : ℕ) → n ≤ t → (owed_at z t).firm ≡ (owed_at s t).firm

    abbrev Telling : {X : Type 0} → ℕ → List FirmWrite → Interaction Bool Image MarksStore X → Type 0
    Telling n u i = Tells (λ v z _. ToldTo n v z) u i

    now_told : (n : ℕ) (u : List FirmWrite) (z : MarksStore) → (owed_at z n).firm ≡ true → ToldTo n u z →
        ToldTo (suc n) (u ++ (n, track_in z.plain n) ∷ []) (with_owed z n (record (owed_at z n) { firm = false }))
    now_told n u z owed x =
        let now : Owed = record (owed_at z n) { firm = false } in
        let plain : z.plain ≡ b = ap (λ (c : Core). c.plain) x.core ∙ owes.plain in
        let flag : (owed_at s n).firm ≡ true = sym (x.above n (omega arith)) ∙ owed in record {
          said =
              ap (λ (l : List FirmWrite). l ++ (n, track_in z.plain n) ∷ []) x.said
              ∙ append_assoc w (owed_writes h o b g n s) ((n, track_in z.plain n) ∷ [])
              ∙ ap (λ (v : List Track). w ++ (owed_writes h o b g n s ++ (n, track_in v n) ∷ [])) plain
              ∙ ap (λ (f : Bool). w ++ (owed_writes h o b g n s ++ owed_write h o b g f n)) (sym flag);
          core = x.core;
          room = length-set z.owed n now ∙ x.room;
          below = free_freed 0 ⊥ None None [] 0 n z x.below;
          above = λ t le. ap (λ (d : Owed). d.firm) (get_or-set_other z.owed n t now no_debt (λ is. omega (arith, le, is)))
              ∙ x.above t (omega (arith, le));
        }

    not_owed : (n : ℕ) (u : List FirmWrite) (z : MarksStore) → (owed_at z n).firm ≡ false → ToldTo n u z → ToldTo (suc n) u z
    not_owed n u z free x = record {
      said =
          x.said
          ∙ ap (λ (l : List FirmWrite). w ++ l) (sym (append-nil (owed_writes h o b g n s)))
          ∙ ap (λ (f : Bool). w ++ (owed_writes h o b g n s ++ owed_write h o b g f n)) (sym (sym (x.above n (omega arith)) ∙ free));
      core = x.core;
      room = x.room;
      below = free_more 0 ⊥ None None [] 0 n z free x.below;
      above = λ t le. x.above t (omega (arith, le));
    }

    one_told : (n : ℕ) (u : List FirmWrite) (z : MarksStore) → ToldTo n u z → Telling (suc n) u (L.firm_told by_plain n z)
    one_told n u z x =
        firms_if (owed_at z n).firm
        (λ owed. firms_told tt
        (subst (λ (t : Track). Telling (suc n) (u ++ (n, t) ∷ []) (Done (with_owed z n (record (owed_at z n) { firm = false })) (tt {0})))
        (sym (framed_track z n (frame_at z n))) (firms_done (now_told n u z owed x))))
        (λ free. firms_done (not_owed n u z free x))

    told_goes : (n : ℕ) → Telling n w (all_firm_told by_plain n s)
    unfolding L.all_firm_told
    told_goes zero = firms_done (record {
      said = sym (append-nil w);
      core = refl;
      room = refl;
      below = λ t lt. absurd (omega (arith, lt));
      above = λ t le. refl;
    })
    told_goes (suc n) = firms_then (λ z _. L.firm_told by_plain n z) (told_goes n) (λ u z _ y. one_told n u z y)

    all_told : (u : List FirmWrite) (z : MarksStore) → ToldTo m u z → On h o b g u z
    all_told u z x = record {
      said = x.said ∙ owes.said ∙ ap (λ (c : Core). firmings b c.acts) (sym x.core);
      takes = subst (λ (c : Core). Takes c.acts) (sym x.core) owes.takes;
      free = λ t. by_place t (cases_lt t m);
      half = ap (λ (c : Core). c.half) x.core ∙ owes.half;
      firm = subst (λ (c : Core). NotLoose o c.loose) (sym x.core) owes.firm;
      room = x.room ∙ owes.room ∙ sym (ap (λ (c : Core). c.cylinders * 15) x.core ∙ owes.tracks);
      plain = ap (λ (c : Core). c.plain) x.core ∙ owes.plain;
      geometry = ap (λ (c : Core). c.geometry) x.core ∙ owes.geometry;
    } where
      by_place : (t : ℕ) → (t < m) ⊎ (m ≤ t) → (owed_at z t).firm ≡ false
      by_place t (inl lt) = x.below t lt
      by_place t (inr le) = x.above t le ∙ owes.free t le

    pub all_told_goes : Goes w (all_firm_told by_plain m s)
    all_told_goes = firms_weaker (told_goes m) (λ u z _ y. all_told u z y)

-- a track that isn't loose is settled as it is
here_settled : (h : Option (HalfWrite (Unit {0}))) (b : List Track) (g : Geometry) (q : ℕ) {w : List FirmWrite} (s : MarksStore) →
    On h (Some q) b g w s → On h (Some q) b g w (settled by_plain s q)
here_settled h b g q s x = on_same h (Some q) b g s (settled by_plain s q) (calm_settled s q (inr x.firm)) x

hardened_on : (h : Option (HalfWrite (Unit {0}))) (b : List Track) (g : Geometry) (q : ℕ) {w : List FirmWrite} (s : MarksStore) → On h None b g w s →
    On h (Some q) b g (w ++ (q, track_in s.plain q) ∷ []) (stale_everywhere (hardened s q) q)
hardened_on h b g q {w = w} s x =
    subst (λ (l : List Track). On h (Some q) b g (w ++ (q, track_in l q) ∷ []) (stale_everywhere (hardened s q) q)) (sym x.plain)
    (on_same h (Some q) b g (hardened s q) (stale_everywhere (hardened s q) q) (same_everywhere (hardened s q) q)
    (at_firm q (hardened s q) (put_false s.loose q) (on_hardened h None b g s q x)))

abbrev pub PlainIn : List Track → Geometry → ℕ → Image → Type 0
PlainIn b g q i = i ≡ record { geometry = g; track = track_in b q }

plain_is : {h : Option (HalfWrite (Unit {0}))} {o : Option ℕ} {w : List FirmWrite} (b : List Track) (g : Geometry) (s : MarksStore) (q : ℕ) →
    On h o b g w s → PlainIn b g q (plain_at s q)
plain_is b g s q x =
    ap (λ (y : Geometry). record { geometry = y; track = track_in s.plain q }) x.geometry
    ∙ ap (λ (l : List Track). record { geometry = g; track = track_in l q }) x.plain

pub saying : (b : List Track) (g : Geometry) →
    IsSaying (Unit {0}) (λ (d : ℕ). Unit {0}) (λ (u : List FirmWrite) t x. u ++ (t, x) ∷ []) (PlainIn b g) (λ h o w s. On h o b g w s)
saying b g = record {
  owned = λ h o w s x. tt;
  same = λ h o w s z e owed x. on_by h o b g s z e owed x;
  firm = λ h q w s off x. at_firm q s off x;
  hardens = λ h q w s is x. hardened_on h b g q s x;
  settles = λ h q w s x. here_settled h b g q s x;
  fails = λ h o w s side writing x.
      all_told_goes h o b g w (tracks_of s) (side_lost by_plain s side writing) (owes_side h o b g w s side writing x);
  pictures = λ h o w s q x. plain_is b g s q x;
}

-- an image that is the plain one
abbrev pub Imaging : (h : Option (HalfWrite (Unit {0}))) (o : Option ℕ) (b : List Track) (g : Geometry) → ℕ → List FirmWrite → MarksStore →
    Option Imaged → Type 0
Imaging h o b g q u z a = ImagedSo (PlainIn b g) (On h o b g) q u z a
