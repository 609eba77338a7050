-- The choice of a write asks the pool and changes no mark. It fits the track; so a write to the frame keeps good marks good.
use Rattle.std.proofs.Common.{◌≡◌, ◌<◌, ℕ, Bool, true, false, Option, Some, None, is_some, refl, sym, ap, subst, ◌∙◌, ◌⊎◌, inl, inr}
use Rattle.std.specs.Prelude.{if◌then◌else◌, ◌&&◌}
use Rattle.ckd_types.specs.declared.record.Edit.{Edit}
use Rattle.track_image.specs.Image.{Image}
use Rattle.device_outside.specs.declared.port.SlotGrant.{SlotGrant}
use Rattle.device_outside.specs.declared.port.SlotGrant.TheVariants as grants
use Rattle.device_outside.specs.Interaction.{Done, Ask}
use Rattle.device_outside.specs.Pool.{SetModified, FreeSlot}
use Rattle.device_defs.specs.declared.answers.Choice.{Choice}
use Rattle.device_defs.specs.declared.answers.Choice.TheVariants.{Provisional, Fast, Through}
use Rattle.device_defs.specs.declared.usage.Usage.{Usage}
use Rattle.device_defs.specs.Choosing as G
use Rattle.device_defs.specs.Choosing.{
  slot_by,
  fast_by,
  may_be_fast,
  fast_or_through,
  choose_loose,
  choose_firm,
  choose,
  patch_with,
  fast_written,
  provisionally_written,
}
use Rattle.device_defs.specs.Contents.{Contents}
use Rattle.device_defs.specs.Effects.{with_edit, with_loose_edit, loosened}
use Rattle.device_defs.specs.Owed.{is_clean}
use Rattle.device_defs.specs.Store.{Store, tracks_of, frame_at, patch_at, is_loose, with_frame}
use Rattle.device_laws.proofs.Bools.{and_right, not_true}
use Rattle.device_laws.proofs.Always.{Always, always_done, always_ask}
use Rattle.device_laws.proofs.Changes as C
use Rattle.device_laws.proofs.Changes.{Changed, rest_of, changed_twice, changed_frame, changed_patch, changed_loose}
use Rattle.device_laws.proofs.Done.{Keeps, none_is}
use Rattle.device_laws.proofs.FailedCall.{IsKept, IsWell, Goes, changed_goes}
use Rattle.device_laws.proofs.Others.{opens, others_changed, shut_well}
use Rattle.device_laws.proofs.TrackMarks as M
use Rattle.device_laws.proofs.TrackMarks.{TrackMarks, IsFaithful, is_good, frame_mark, track_at}
use Rattle.device_laws.proofs.WriteMarks.{framed_is_there, fast_good, again_good, loosened_good}

module _ {F P H R : Type 0} (c : Contents F P H R) where
  -- a fast write is of a track that has a frame and isn't loose; a provisional one of a track that is loose, or has a clean frame
  abbrev pub Fits : Store F P H → ℕ → Choice → Type 0
  Fits s t (Fast (Some slot)) = (is_loose s t ≡ false) × (is_some (frame_at s t) ≡ true)
  Fits s t (Fast None) = (is_loose s t ≡ false) × (is_some (frame_at s t) ≡ true) × (is_some (patch_at s t) ≡ true)
  Fits s t Provisional = (is_loose s t ≡ true) ⊎ (is_clean c (frame_at s t) ≡ true)
  Fits s t Through = Unit {0}

  pub record Chosen (s : Store F P H) (t : ℕ) (z : Store F P H) (choice : Choice) : Type 0 where
    pub same : z ≡ s
    pub fit : Fits s t choice

  module _ (s : Store F P H) (u : Usage) (t : ℕ) where
    listed_again : (listed : Bool) → is_loose s t ≡ false → is_some (frame_at s t) ≡ true → is_some (patch_at s t) ≡ true →
        Chosen s t s (if listed then Fast None else Through)
    listed_again true firm framed patched = record { same = refl; fit = (firm, framed, patched) }
    listed_again false firm framed patched = record { same = refl; fit = tt }

    listed_first : (slot : ℕ) (listed : Bool) → is_loose s t ≡ false → is_some (frame_at s t) ≡ true →
        Always {R = R} {I = Image} (if listed then Done s (Fast (Some slot)) else Ask (FreeSlot slot) (λ _. Done s Through)) (λ z choice. Chosen s t z choice)
    listed_first slot true firm framed = always_done (record { same = refl; fit = (firm, framed) })
    listed_first slot false firm framed = always_ask (λ _. always_done (record { same = refl; fit = tt }))

    by_grant : (g : SlotGrant) → is_loose s t ≡ false → is_some (frame_at s t) ≡ true → Always (slot_by c s t g) (λ z choice. Chosen s t z choice)
    by_grant (grants.Given slot) firm framed = always_ask (λ listed. listed_first slot listed firm framed)
    by_grant grants.Denied firm framed = always_done (record { same = refl; fit = tt })
    by_grant grants.Down firm framed = always_done (record { same = refl; fit = tt })

    by_patch : (b : Bool) → is_some (patch_at s t) ≡ b → is_loose s t ≡ false → is_some (frame_at s t) ≡ true →
        Always (fast_by c s t b) (λ z choice. Chosen s t z choice)
    by_patch true e firm framed = always_ask (λ listed. always_done (listed_again listed firm framed e))
    by_patch false e firm framed = always_ask (λ g. by_grant g firm framed)

    by_room : (b : Bool) → may_be_fast c s u t ≡ b → is_loose s t ≡ false →
        Always (if b then fast_by c s t (is_some (patch_at s t)) else Done s Through) (λ z choice. Chosen s t z choice)
    by_room true e firm = by_patch (is_some (patch_at s t)) refl firm (and_right _ (is_some (frame_at s t)) e)
    by_room false e firm = always_done (record { same = refl; fit = tt })

    fast_fits : is_loose s t ≡ false → Always (fast_or_through c s u t) (λ z choice. Chosen s t z choice)
    fast_fits firm = by_room (may_be_fast c s u t) refl firm

    listed_clean : (listed : Bool) → is_loose s t ≡ false → is_clean c (frame_at s t) ≡ true →
        Always (if listed then Done s Provisional else fast_or_through c s u t) (λ z choice. Chosen s t z choice)
    listed_clean true firm clean = always_done (record { same = refl; fit = inr clean })
    listed_clean false firm clean = fast_fits firm

    firm_by : (b : Bool) → (u.provisional && is_clean c (frame_at s t)) ≡ b → is_loose s t ≡ false →
        Always (if b then Ask (SetModified s.device t) (λ listed. if listed then Done s Provisional else fast_or_through c s u t)
        else fast_or_through c s u t) (λ z choice. Chosen s t z choice)
    firm_by true e firm = always_ask (λ listed. listed_clean listed firm (and_right u.provisional _ e))
    firm_by false e firm = fast_fits firm

    listed_loose : (listed : Bool) → is_loose s t ≡ true → Chosen s t s (if listed then Provisional else Through)
    listed_loose true loose = record { same = refl; fit = inl loose }
    listed_loose false loose = record { same = refl; fit = tt }

    loose_by : (b : Bool) → is_loose s t ≡ true →
        Always {R = R} {I = Image} (if b then Ask (SetModified s.device t) (λ listed. Done s (if listed then Provisional else Through)) else Done s Through)
        (λ z choice. Chosen s t z choice)
    loose_by true loose = always_ask (λ listed. always_done (listed_loose listed loose))
    loose_by false loose = always_done (record { same = refl; fit = tt })

    choose_by : (b : Bool) → is_loose s t ≡ b → Always (if b then choose_loose c s u t else choose_firm c s u t) (λ z choice. Chosen s t z choice)
    choose_by true e = loose_by u.provisional e
    choose_by false e = firm_by (u.provisional && is_clean c (frame_at s t)) refl e

    -- the choice
    pub choice_fits : Always (choose c s u t) (λ z choice. Chosen s t z choice)
    unfolding G.choose
    choice_fits = choose_by (is_loose s t) refl

  -- an edit changes no mark
  pub changed_edit : {s z : Store F P H} {t : ℕ} {x : TrackMarks} (q : ℕ) (e : Edit) → Changed c s z t x → Changed c s (with_edit z q e) t x
  unfolding M.track_at C.rest_of
  changed_edit q e f = record { sizes = record { are = f.sizes.are }; rest = f.rest; elsewhere = f.elsewhere; here = f.here }

  changed_loose_edit : {s z : Store F P H} {t : ℕ} {x : TrackMarks} (q : ℕ) (e : Edit) → Changed c s z t x → Changed c s (with_loose_edit z q e) t x
  unfolding M.track_at C.rest_of
  changed_loose_edit q e f = record { sizes = record { are = f.sizes.are }; rest = f.rest; elsewhere = f.elsewhere; here = f.here }

  some_mark : (f : Option F) → is_some f ≡ true → is_some (frame_mark c f) ≡ true
  some_mark (Some f) e = refl
  some_mark None e = absurd (cc)

  clean_mark : (f : Option F) → is_clean c f ≡ true → frame_mark c f ≡ Some false
  clean_mark None e = absurd (cc)
  clean_mark (Some f) e = ap Some (not_true (c.modified f) e)

  module _ (faithful : IsFaithful c) (s : Store F P H) (t : ℕ) (lt : t < tracks_of s) (w : IsWell c s) where
    abbrev x : TrackMarks
    x = track_at c s t

    framed_there : is_some (frame_at s t) ≡ true → x.lost ≡ false
    unfolding M.track_at
    framed_there some = framed_is_there x (w.good t lt) (some_mark (frame_at s t) some)

    loose_of : (b : Bool) → is_loose s t ≡ b → x.loose ≡ b
    unfolding M.track_at
    loose_of b e = e

    frame_of : is_clean c (frame_at s t) ≡ true → x.frame ≡ Some false
    unfolding M.track_at
    frame_of clean = clean_mark (frame_at s t) clean

    half_of : s.half ≡ None → x.half ≡ false
    unfolding M.track_at
    half_of none = none_is c faithful s.half t none

    -- a fast write, the patch of which is there then
    fast_goes : (i : Image) (e : Edit) (slot : Option ℕ) → is_some (patch_with c e slot (patch_at s t)) ≡ true → is_loose s t ≡ false →
        is_some (frame_at s t) ≡ true → Goes c s (fast_written c s t i e slot)
    fast_goes i e slot patched firm framed =
        let f = changed_frame c s t (Some (c.frame i true)) lt w.sizes in
        let z = with_frame s t (Some (c.frame i true)) in
        let g = changed_patch c z t (patch_with c e slot (patch_at s t)) lt f.sizes in
        let here = g.here ∙ ap (λ (y : TrackMarks). record y { patched = is_some (patch_with c e slot (patch_at s t)) }) f.here
        ∙ ap (λ (b : Bool). record x { frame = Some b; patched = is_some (patch_with c e slot (patch_at s t)) }) (faithful.made i true)
        ∙ ap (λ (b : Bool). record x { frame = Some true; patched = b }) patched in
        let h = changed_twice c f (record { sizes = g.sizes; rest = g.rest; elsewhere = g.elsewhere; here = here }) in
        changed_goes c s (fast_written c s t i e slot) t _ w (changed_edit t e h)
        (fast_good x (framed_there framed) (loose_of false firm)) (w.kept t lt) (λ k. k)

    still_patched : (e : Edit) (p : Option P) → is_some p ≡ true → is_some (patch_with c e None p) ≡ true
    still_patched e (Some p) some = refl
    still_patched e None some = absurd (cc)

    pub fast_keeps_good : (i : Image) (e : Edit) (slot : Option ℕ) → Fits s t (Fast slot) → Goes c s (fast_written c s t i e slot)
    fast_keeps_good i e (Some slot) fit = fast_goes i e (Some slot) refl fit.0 fit.1
    fast_keeps_good i e None fit = fast_goes i e None (still_patched e (patch_at s t) fit.2) fit.0 fit.1

    changed_keeps : (z : Store F P H) (y : TrackMarks) → Changed c s z t y → is_good y ≡ true → IsKept y → Keeps c faithful s z
    changed_keeps z y e good kept =
        let o = others_changed c t s s z y (opens c s t lt w).others e in
        record { well = shut_well c t s z o (ap is_good e.here ∙ good) (subst IsKept (sym e.here) kept); tracks = o.tracks }

    again_keeps : (i : Image) (e : Edit) → is_loose s t ≡ true →
        Keeps c faithful s (with_loose_edit (with_frame s t (Some (c.frame i true))) t e)
    again_keeps i e loose =
        let f = changed_frame c s t (Some (c.frame i true)) lt w.sizes in
        let here = f.here ∙ ap (λ (b : Bool). record x { frame = Some b }) (faithful.made i true) in
        changed_keeps _ _ (changed_loose_edit t e (record { sizes = f.sizes; rest = f.rest; elsewhere = f.elsewhere; here = here }))
        (again_good x (w.good t lt) (loose_of true loose)) (w.kept t lt)

    changed_loosened : Changed c s (loosened s t) t (record x { loose = true })
    unfolding M.track_at C.rest_of
    changed_loosened = let f = changed_loose c s t true lt w.sizes in
        record { sizes = record { are = f.sizes.are }; rest = f.rest; elsewhere = f.elsewhere; here = f.here }

    first_keeps : (i : Image) (e : Edit) → is_clean c (frame_at s t) ≡ true → s.half ≡ None →
        Keeps c faithful s (with_loose_edit (with_frame (loosened s t) t (Some (c.frame i true))) t e)
    first_keeps i e clean none =
        let g = changed_loosened in
        let f = changed_frame c (loosened s t) t (Some (c.frame i true)) lt g.sizes in
        let here = f.here ∙ ap (λ (y : TrackMarks). record y { frame = Some (c.modified (c.frame i true)) }) g.here
        ∙ ap (λ (b : Bool). record x { frame = Some b; loose = true }) (faithful.made i true) in
        let h = changed_twice c g (record { sizes = f.sizes; rest = f.rest; elsewhere = f.elsewhere; here = here }) in
        changed_keeps _ _ (changed_loose_edit t e h) (loosened_good x (w.good t lt) (frame_of clean) (half_of none)) (w.kept t lt)

    by_loose : (i : Image) (e : Edit) (b : Bool) → is_loose s t ≡ b → s.half ≡ None → ((b ≡ true) ⊎ (is_clean c (frame_at s t) ≡ true)) →
        Keeps c faithful s (with_loose_edit (with_frame (if b then s else loosened s t) t (Some (c.frame i true))) t e)
    by_loose i e true is none fit = again_keeps i e is
    by_loose i e false is none (inl f) = absurd (cc)
    by_loose i e false is none (inr clean) = first_keeps i e clean none

    -- a provisional write, while no half write is open
    pub provisional_keeps_good : (i : Image) (e : Edit) → Fits s t Provisional → s.half ≡ None →
        Keeps c faithful s (provisionally_written c s t i e)
    provisional_keeps_good i e fit none = by_loose i e (is_loose s t) refl none fit
