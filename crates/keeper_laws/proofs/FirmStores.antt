-- The firm volume of a run's device and the tracks of it that are still owed, and what the changes of a device's marks make of both.
use Rattle.std.proofs.Common.{
  ◌≡◌,
  ◌≢◌,
  ◌<◌,
  ◌≤◌,
  ◌*◌,
  ◌==◌,
  ℕ,
  zero,
  suc,
  Bool,
  true,
  false,
  List,
  [],
  ◌∷◌,
  Option,
  Some,
  None,
  is_some,
  length,
  set,
  get_or,
  refl,
  sym,
  ap,
  subst,
  ◌∙◌,
  arith,
  inl,
  inr,
}
use Rattle.std.specs.Prelude.{◌⊎◌, ⊤}
use Rattle.std.proofs.lemmas.Bool.{cond_both, cases_lt, eqb-true, eqb-false}
use Rattle.std.proofs.lemmas.List.{length-set, get_or_past, get_or-set_same, get_or-set_other}
use Rattle.ckd_types.specs.declared.paths.Side.{Side}
use Rattle.ckd_types.specs.declared.paths.Side.TheVariants.{A, B}
use Rattle.ckd_types.specs.declared.record.Track.{Track}
use Rattle.ckd_types.specs.Track.{empty_track}
use Rattle.ckd_types.specs.Volume.{track_in}
use Rattle.device_defs.specs.declared.owed.Owed.{Owed}
use Rattle.device_defs.specs.Contents.{by_plain}
use Rattle.device_defs.specs.Effects.{hardened}
use Rattle.device_defs.specs.Losses as L
use Rattle.device_defs.specs.Losses.{
  settled,
  settled_but,
  by_frame,
  kept_by_frame,
  hardened_by_loss,
  lost_now,
  gives_up,
  slot_in,
  without_frame,
  without_patch,
  stale_everywhere,
  framed_image,
  over,
  down,
  side_lost,
}
use Rattle.device_defs.specs.Marks.{MarksStore}
use Rattle.device_defs.specs.Store.{
  HalfWrite,
  no_debt,
  tracks_of,
  has_level,
  frame_at,
  patch_at,
  is_lost,
  is_loose,
  half_is,
  owed_at,
  with_lost,
  with_owed,
  with_stale,
}
use Rattle.device_laws.proofs.PlainStores.{put_keeps}

-- Lists

same_or_other : (q t : ℕ) → (q ≡ t) ⊎ (q ≢ t)
same_or_other q t = by_test (q == t) refl where
  by_test : (b : Bool) → (q == t) ≡ b → (q ≡ t) ⊎ (q ≢ t)
  by_test true e = inl (eqb-true q t e)
  by_test false e = inr (eqb-false q t e)

same_lists : (f : ℕ → Track) (a b : List Track) → length a ≡ length b → ((t : ℕ) → get_or a t (f t) ≡ get_or b t (f t)) → a ≡ b
same_lists f [] [] e h = refl
same_lists f [] (y ∷ ys) e h = absurd (omega (arith, e))
same_lists f (x ∷ xs) [] e h = absurd (omega (arith, e))
same_lists f (x ∷ xs) (y ∷ ys) e h =
    ap (λ (z : Track). z ∷ xs) (h zero) ∙ ap (λ (zs : List Track). y ∷ zs) (same_lists (λ n. f (suc n)) xs ys (omega (arith, e)) (λ n. h (suc n)))

same_put : (a b : List Track) (t : ℕ) (p : Track) → length a ≡ length b → track_in (set a t p) t ≡ track_in (set b t p) t
same_put a b t p e = by_place (cases_lt t (length a)) where
  by_place : (t < length a) ⊎ (length a ≤ t) → track_in (set a t p) t ≡ track_in (set b t p) t
  by_place (inl lt) = get_or-set_same a t p (empty_track t) lt ∙ sym (get_or-set_same b t p (empty_track t) (omega (arith, lt, e)))
  by_place (inr le) =
      let x = length-set a t p in
      let y = length-set b t p in
      get_or_past (set a t p) t (empty_track t) (omega (arith, le, x)) ∙ sym (get_or_past (set b t p) t (empty_track t) (omega (arith, le, y, e)))

owed_same : (l : List Owed) (t u : ℕ) (x : Owed) → x.firm ≡ (get_or l t no_debt).firm → (get_or (set l t x) u no_debt).firm ≡ (get_or l u no_debt).firm
owed_same [] t u x e = refl
owed_same (y ∷ ys) zero zero x e = e
owed_same (y ∷ ys) zero (suc u) x e = refl
owed_same (y ∷ ys) (suc t) zero x e = refl
owed_same (y ∷ ys) (suc t) (suc u) x e = owed_same ys t u x e

-- one that isn't owed any more
pub owed_put : (l : List Owed) (t u : ℕ) (x : Owed) → x.firm ≡ false → (get_or l u no_debt).firm ≡ false → (get_or (set l t x) u no_debt).firm ≡ false
owed_put [] t u x e f = f
owed_put (y ∷ ys) zero zero x e f = e
owed_put (y ∷ ys) zero (suc u) x e f = f
owed_put (y ∷ ys) (suc t) zero x e f = f
owed_put (y ∷ ys) (suc t) (suc u) x e f = owed_put ys t u x e f

owed_here : (l : List Owed) (t : ℕ) (x : Owed) → x.firm ≡ false → (get_or (set l t x) t no_debt).firm ≡ false
owed_here [] t x e = refl
owed_here (y ∷ ys) zero x e = e
owed_here (y ∷ ys) (suc t) x e = owed_here ys t x e

-- Stores that differ in nothing of this

abbrev pub Like : MarksStore → MarksStore → Type 0
Like s z =
    (z.device ≡ s.device) × (z.firm ≡ s.firm) × (z.plain ≡ s.plain) × (z.loose ≡ s.loose) × (z.half ≡ s.half) × (z.cylinders ≡ s.cylinders)
    × (length z.owed ≡ length s.owed) × ((u : ℕ) → (owed_at z u).firm ≡ (owed_at s u).firm)

pub like_same : (s : MarksStore) → Like s s
like_same s = (refl, refl, refl, refl, refl, refl, refl, λ u. refl)

pub like_then : (s z y : MarksStore) → Like s z → Like z y → Like s y
like_then s z y a b =
    (b.0 ∙ a.0, b.1 ∙ a.1, b.2 ∙ a.2, b.3 ∙ a.3, b.4 ∙ a.4, b.5 ∙ a.5, b.6 ∙ a.6, λ u. b.7 u ∙ a.7 u)

pub like_owed : (s : MarksStore) (t : ℕ) (x : Owed) → x.firm ≡ (owed_at s t).firm → Like s (with_owed s t x)
like_owed s t x e = (refl, refl, refl, refl, refl, refl, length-set s.owed t x, λ u. owed_same s.owed t u x e)

pub like_everywhere : (s : MarksStore) (t : ℕ) → Like s (stale_everywhere s t)
like_everywhere s t =
    let z = with_stale s A t true in cond_both s.paired (with_stale z B t true) z (Like s) (λ _. like_same s) (λ _. like_same s)

pub like_down : (s : MarksStore) (side : Side) → Like s (down s side)
like_down s A = like_same s
like_down s B = like_same s

pub like_unframed : (s : MarksStore) (t : ℕ) → Like s (without_frame s t)
like_unframed s t = cond_both (is_some (frame_at s t)) _ s (Like s) (λ _. like_owed s t (record (owed_at s t) { dropped = true }) refl) (λ _. like_same s)

like_given_up : (s : MarksStore) (t : ℕ) (o : Option ℕ) → Like s (gives_up s t o)
like_given_up s t None = like_same s
like_given_up s t (Some slot) = like_owed s t (record (owed_at s t) { freed = Some slot }) refl

pub like_unpatched : (s : MarksStore) (t : ℕ) → Like s (without_patch by_plain s t)
like_unpatched s t = like_given_up s t (slot_in by_plain (patch_at s t))

like_lost : (s : MarksStore) (t : ℕ) → Like s (lost_now by_plain s t)
like_lost s t = like_unpatched (with_lost s t) t

like_framed : (s : MarksStore) (t : ℕ) (f : Bool) → Like s (kept_by_frame by_plain s t f)
like_framed s t f =
    cond_both f s _ (Like s) (λ _. like_same s) (λ _. like_owed s t (record (owed_at s t) { modified = true }) refl)

-- the image that is told of a firm track
pub framed_track : (s : MarksStore) (t : ℕ) (o : Option Bool) → (framed_image by_plain s t o).track ≡ track_in s.plain t
framed_track s t (Some f) = refl
framed_track s t None = refl

abbrev pub NotLoose : Option ℕ → List Bool → Type 0
NotLoose None l = ⊤
NotLoose (Some t) l = get_or l t false ≡ false

pub still_firm : (o : Option ℕ) (l : List Bool) (q : ℕ) → NotLoose o l → NotLoose o (set l q false)
still_firm None l q e = tt
still_firm (Some t) l q e = put_keeps l q t e

abbrev pub half_track : Option (HalfWrite (Unit {0})) → Option ℕ
half_track None = None
half_track (Some h) = Some h.track

-- k is the number of the device, and p says whether it is the one at hand. h is its half write, o a track that isn't loose, and b its
-- plain volume
module _ (k : ℕ) (p : Type 0) (h : Option (HalfWrite (Unit {0}))) (o : Option ℕ) (b : List Track) where
  -- its firm volume is v, and no track is owed
  abbrev pub Firmly : List Track → MarksStore → Type 0
  Firmly v s =
      (s.firm ≡ v) × ((t : ℕ) → (owed_at s t).firm ≡ false) × (s.half ≡ h) × NotLoose o s.loose × (length s.owed ≡ tracks_of s)
      × (s.plain ≡ b)

  abbrev pub On : List Track → MarksStore → Type 0
  On v s = (s.device ≡ k) × (p → Firmly v s)

  pub on_like : {v : List Track} (s z : MarksStore) → Like s z → On v s → On v z
  on_like s z e x = (
    e.0 ∙ x.0,
    λ here. let i = x.1 here in (
      e.1 ∙ i.0,
      (λ t. e.7 t ∙ i.1 t),
      e.4 ∙ i.2,
      subst (NotLoose o) (sym e.3) i.3,
      e.6 ∙ i.4 ∙ ap (λ (n : ℕ). n * 15) (sym e.5),
      e.2 ∙ i.5,
    ),
  )

  pub on_hardened : {v : List Track} (s : MarksStore) (q : ℕ) → On v s → On (set v q (track_in s.plain q)) (hardened s q)
  on_hardened s q x = (
    x.0,
    λ here. let i = x.1 here in (ap (λ (l : List Track). set l q (track_in s.plain q)) i.0, i.1, i.2, still_firm o s.loose q i.3, i.4, i.5),
  )

  -- A track that isn't loose, or has no frame, is settled without becoming firm

  calm_by : {v : List Track} (s : MarksStore) (q : ℕ) (f : Option Bool) → (f ≡ None) ⊎ (is_loose s q ≡ false) → On v s → On v (by_frame by_plain s q f)
  calm_by s q None c x = cond_both (half_is s.half q) s _ (On _) (λ _. x) (λ _. on_like s (lost_now by_plain s q) (like_lost s q) x)
  calm_by s q (Some f) (inl c) x = absurd (cc)
  calm_by s q (Some f) (inr c) x =
      cond_both (is_loose s q) _ _ (On _) (λ is. absurd (let no : true ≡ false = sym is ∙ c in cc))
      (λ _. on_like s (kept_by_frame by_plain s q f) (like_framed s q f) x)

  pub calm_settled : {v : List Track} (s : MarksStore) (q : ℕ) → (frame_at s q ≡ None) ⊎ (is_loose s q ≡ false) → On v s → On v (settled by_plain s q)
  unfolding L.settled
  calm_settled s q c x =
      cond_both (is_some s.lent) s _ (On _) (λ _. x)
      (λ _. cond_both (is_lost s q) s _ (On _) (λ _. x)
      (λ _. cond_both (has_level s q) s _ (On _) (λ _. x) (λ _. calm_by s q (frame_at s q) c x)))

  -- Debts, of the first m tracks

  module _ (m : ℕ) where
    -- the track is firm as it was told, or as it will be told
    abbrev Debt : List Track → MarksStore → ℕ → Type 0
    Debt v s t =
        (((owed_at s t).firm ≡ false) × (track_in s.firm t ≡ track_in v t))
        ⊎ (((owed_at s t).firm ≡ true) × (track_in s.firm t ≡ track_in (set v t (track_in s.plain t)) t))

    abbrev Owing : List Track → MarksStore → Type 0
    Owing v s =
        (length s.firm ≡ length v) × ((t : ℕ) → Debt v s t) × (s.half ≡ h) × NotLoose o s.loose × (length s.owed ≡ m) × (tracks_of s ≡ m)
        × ((t : ℕ) → m ≤ t → (owed_at s t).firm ≡ false) × (s.plain ≡ b)

    abbrev pub Owes : List Track → MarksStore → Type 0
    Owes v s = (s.device ≡ k) × (p → Owing v s)

    pub owes_none : (v : List Track) (s : MarksStore) → tracks_of s ≡ m → On v s → Owes v s
    owes_none v s same x = (
      x.0,
      λ here. let i = x.1 here in (
        ap length i.0,
        (λ t. inl (i.1 t, ap (λ (l : List Track). track_in l t) i.0)),
        i.2,
        i.3,
        i.4 ∙ same,
        same,
        (λ t le. i.1 t),
        i.5,
      ),
    )

    debt_like : (v : List Track) (s z : MarksStore) (t : ℕ) → Like s z → Debt v s t → Debt v z t
    debt_like v s z t e (inl d) = inl (e.7 t ∙ d.0, ap (λ (l : List Track). track_in l t) e.1 ∙ d.1)
    debt_like v s z t e (inr d) =
        inr (e.7 t ∙ d.0, ap (λ (l : List Track). track_in l t) e.1 ∙ d.1 ∙ ap (λ (l : List Track). track_in (set v t (track_in l t)) t) (sym e.2))

    pub owes_like : (v : List Track) (s z : MarksStore) → Like s z → Owes v s → Owes v z
    owes_like v s z e x = (
      e.0 ∙ x.0,
      λ here. let i = x.1 here in (
        ap length e.1 ∙ i.0,
        (λ t. debt_like v s z t e (i.1 t)),
        e.4 ∙ i.2,
        subst (NotLoose o) (sym e.3) i.3,
        e.6 ∙ i.4,
        ap (λ (n : ℕ). n * 15) e.5 ∙ i.5,
        (λ t le. e.7 t ∙ i.6 t le),
        e.2 ∙ i.7,
      ),
    )

    -- a loss makes a track firm, and it is owed
    module _ (v : List Track) (s : MarksStore) (q : ℕ) (inside : q < m) where
      debt_other : (t : ℕ) → t ≢ q → Debt v s t → Debt v (hardened_by_loss s q) t
      debt_other t ne (inl d) =
          inl (
            ap (λ (x : Owed). x.firm) (get_or-set_other s.owed q t (record (owed_at s q) { firm = true }) no_debt ne) ∙ d.0,
            get_or-set_other s.firm q t _ (empty_track t) ne ∙ d.1,
          )
      debt_other t ne (inr d) =
          inr (
            ap (λ (x : Owed). x.firm) (get_or-set_other s.owed q t (record (owed_at s q) { firm = true }) no_debt ne) ∙ d.0,
            get_or-set_other s.firm q t _ (empty_track t) ne ∙ d.1,
          )

      debt_here : length s.firm ≡ length v → length s.owed ≡ m → Debt v (hardened_by_loss s q) q
      debt_here size room = inr (
        ap (λ (x : Owed). x.firm) (get_or-set_same s.owed q (record (owed_at s q) { firm = true }) no_debt (omega (arith, inside, room))),
        same_put s.firm v q (track_in s.plain q) size,
      )

      debt_by : (t : ℕ) → (t ≡ q) ⊎ (t ≢ q) → Debt v s t → length s.firm ≡ length v → length s.owed ≡ m → Debt v (hardened_by_loss s q) t
      debt_by t (inl same) d size room = subst (Debt v (hardened_by_loss s q)) (sym same) (debt_here size room)
      debt_by t (inr ne) d size room = debt_other t ne d

      past_by : (t : ℕ) → m ≤ t → (t ≡ q) ⊎ (t ≢ q) → (owed_at s t).firm ≡ false → (owed_at (hardened_by_loss s q) t).firm ≡ false
      past_by t le (inl same) e = absurd (omega (arith, le, same, inside))
      past_by t le (inr ne) e = ap (λ (x : Owed). x.firm) (get_or-set_other s.owed q t (record (owed_at s q) { firm = true }) no_debt ne) ∙ e

      owes_hardened : Owes v s → Owes v (hardened_by_loss s q)
      owes_hardened x = (
        x.0,
        λ here. let i = x.1 here in (
          length-set s.firm q (track_in s.plain q) ∙ i.0,
          (λ t. debt_by t (same_or_other t q) (i.1 t) i.0 i.4),
          i.2,
          still_firm o s.loose q i.3,
          length-set s.owed q (record (owed_at s q) { firm = true }) ∙ i.4,
          i.5,
          (λ t le. past_by t le (same_or_other t q) (i.6 t le)),
          i.7,
        ),
      )

      owes_by : (f : Option Bool) → Owes v s → Owes v (by_frame by_plain s q f)
      owes_by None x = cond_both (half_is s.half q) s _ (Owes v) (λ _. x) (λ _. owes_like v s (lost_now by_plain s q) (like_lost s q) x)
      owes_by (Some f) x =
          cond_both (is_loose s q) _ _ (Owes v) (λ _. owes_hardened x)
          (λ _. owes_like v s (kept_by_frame by_plain s q f) (like_framed s q f) x)

      pub owes_settled : Owes v s → Owes v (settled by_plain s q)
      unfolding L.settled
      owes_settled x =
          cond_both (is_some s.lent) s _ (Owes v) (λ _. x)
          (λ _. cond_both (is_lost s q) s _ (Owes v) (λ _. x)
          (λ _. cond_both (has_level s q) s _ (Owes v) (λ _. x) (λ _. owes_by (frame_at s q) x)))

    pub owes_over : (v : List Track) (n : ℕ) (f : ℕ → MarksStore → MarksStore) → n ≤ m → ((t : ℕ) (z : MarksStore) → t < m → Owes v z → Owes v (f t z)) →
        (s : MarksStore) → Owes v s → Owes v (over n f s)
    unfolding L.over
    owes_over v zero f le h s x = x
    owes_over v (suc n) f le h s x = h n (over n f s) (omega (arith, le)) (owes_over v n f (omega (arith, le)) h s x)

    but_owes : (v : List Track) (writing : Option ℕ) (t : ℕ) (z : MarksStore) → t < m → Owes v z → Owes v (settled_but by_plain writing t z)
    but_owes v None t z lt x = owes_settled v z t lt x
    but_owes v (Some q) t z lt x = cond_both (t == q) z (settled by_plain z t) (Owes v) (λ _. x) (λ _. owes_settled v z t lt x)

    pub owes_side : (v : List Track) (s : MarksStore) (side : Side) (writing : Option ℕ) → tracks_of s ≡ m → Owes v s →
        Owes v (side_lost by_plain s side writing)
    unfolding L.side_lost
    owes_side v s side writing same x =
        owes_over v (tracks_of s) (settled_but by_plain writing) (omega (arith, same)) (but_owes v writing) (down s side)
        (owes_like v s (down s side) (like_down s side) x)

    -- what is owed of a track is told
    module _ (v : List Track) (s : MarksStore) (q : ℕ) (owed : (owed_at s q).firm ≡ true) where
      freed_here : Debt v s q → Debt (set v q (track_in s.plain q)) (with_owed s q (record (owed_at s q) { firm = false })) q
      freed_here (inl d) = absurd (let no : true ≡ false = sym owed ∙ d.0 in cc)
      freed_here (inr d) = inl (owed_here s.owed q (record (owed_at s q) { firm = false }) refl, d.1)

      freed_other : (t : ℕ) → t ≢ q → Debt v s t → Debt (set v q (track_in s.plain q)) (with_owed s q (record (owed_at s q) { firm = false })) t
      freed_other t ne (inl d) =
          inl (
            ap (λ (x : Owed). x.firm) (get_or-set_other s.owed q t (record (owed_at s q) { firm = false }) no_debt ne) ∙ d.0,
            d.1 ∙ sym (get_or-set_other v q t (track_in s.plain q) (empty_track t) ne),
          )
      freed_other t ne (inr d) =
          inr (
            ap (λ (x : Owed). x.firm) (get_or-set_other s.owed q t (record (owed_at s q) { firm = false }) no_debt ne) ∙ d.0,
            d.1 ∙ same_put v (set v q (track_in s.plain q)) t (track_in s.plain t) (sym (length-set v q (track_in s.plain q))),
          )

      freed_by : (t : ℕ) → (t ≡ q) ⊎ (t ≢ q) → ((u : ℕ) → Debt v s u) →
          Debt (set v q (track_in s.plain q)) (with_owed s q (record (owed_at s q) { firm = false })) t
      freed_by t (inl same) d =
          subst (Debt (set v q (track_in s.plain q)) (with_owed s q (record (owed_at s q) { firm = false }))) (sym same) (freed_here (d q))
      freed_by t (inr ne) d = freed_other t ne (d t)

      pub owes_freed : Owes v s → Owes (set v q (track_in s.plain q)) (with_owed s q (record (owed_at s q) { firm = false }))
      owes_freed x = (
        x.0,
        λ here. let i = x.1 here in (
          i.0 ∙ sym (length-set v q (track_in s.plain q)),
          (λ t. freed_by t (same_or_other t q) i.1),
          i.2,
          i.3,
          length-set s.owed q (record (owed_at s q) { firm = false }) ∙ i.4,
          i.5,
          (λ t le. owed_put s.owed q t (record (owed_at s q) { firm = false }) refl (i.6 t le)),
          i.7,
        ),
      )

    -- the first n tracks aren't owed any more
    abbrev pub Free : ℕ → MarksStore → Type 0
    Free n s = (t : ℕ) → t < n → (owed_at s t).firm ≡ false

    pub free_more : (n : ℕ) (s : MarksStore) → (owed_at s n).firm ≡ false → Free n s → Free (suc n) s
    free_more n s e f = λ t lt. by_place t (same_or_other t n) lt
      where
        by_place : (t : ℕ) → (t ≡ n) ⊎ (t ≢ n) → t < suc n → (owed_at s t).firm ≡ false
        by_place t (inl same) lt = ap (λ (j : ℕ). (owed_at s j).firm) same ∙ e
        by_place t (inr ne) lt = f t (omega (arith, lt, ne))

    pub free_freed : (n : ℕ) (s : MarksStore) → Free n s → Free (suc n) (with_owed s n (record (owed_at s n) { firm = false }))
    free_freed n s f =
        free_more n (with_owed s n (record (owed_at s n) { firm = false })) (owed_here s.owed n (record (owed_at s n) { firm = false }) refl)
        (λ t lt. owed_put s.owed n t (record (owed_at s n) { firm = false }) refl (f t lt))

    -- and where none is owed, the firm volume is what was told
    pub none_owed : (v : List Track) (s : MarksStore) → Owes v s → (p → Free m s) → On v s
    none_owed v s x f = (
      x.0,
      λ here. let i = x.1 here in
          let free : (t : ℕ) → (owed_at s t).firm ≡ false = λ t. by_place here t (cases_lt t m) in (
            same_lists empty_track s.firm v i.0 (λ t. told_so t (free t) (i.1 t)),
            free,
            i.2,
            i.3,
            i.4 ∙ sym i.5,
            i.7,
          ),
    ) where
      by_place : p → (t : ℕ) → (t < m) ⊎ (m ≤ t) → (owed_at s t).firm ≡ false
      by_place here t (inl lt) = f here t lt
      by_place here t (inr le) = (x.1 here).6 t le

      told_so : (t : ℕ) → (owed_at s t).firm ≡ false → Debt v s t → track_in s.firm t ≡ track_in v t
      told_so t e (inl d) = d.1
      told_so t e (inr d) = absurd (let no : true ≡ false = sym d.0 ∙ e in cc)
