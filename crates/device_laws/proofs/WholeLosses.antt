-- The loss of a pair's side, or of the store, where everything is repaired: no track is lost.
use Rattle.std.proofs.Common.{◌≡◌, ◌≢◌, zero, suc, ℕ, Bool, true, false, List, Option, Some, None, is_some, get_or, option_map, refl, sym, ap, subst, ◌∙◌}
use Rattle.std.proofs.lemmas.Bool.{eq-eqb}
use Rattle.std.proofs.lemmas.List.{get_or-set_other}
use Rattle.std.specs.Prelude.{if◌then◌else◌, ◌||◌}
use Rattle.ckd_types.specs.declared.paths.Side.TheVariants as sides
use Rattle.loss_model.specs.declared.Loss.{Loss}
use Rattle.loss_model.specs.declared.Loss.TheVariants as losses
use Rattle.device_outside.specs.Interaction.{Interaction, Done, Try, Ask, Read, Write, Tell}
use Rattle.device_defs.specs.Contents.{Contents}
use Rattle.device_defs.specs.Device.{Device, event_begun}
use Rattle.device_defs.specs.Events as E
use Rattle.device_defs.specs.Events.{with_loss, losing, lose}
use Rattle.device_defs.specs.Losses as L
use Rattle.device_defs.specs.Losses.{
  over,
  slot_in,
  gives_up,
  without_patch,
  by_frame,
  hardened_by_loss,
  kept_by_frame,
  stale_everywhere,
  settled,
  patch_lost,
  store_lost,
  side_lost,
}
use Rattle.device_defs.specs.Owed.{heard, hear, waiting_count}
use Rattle.device_defs.specs.Store.{HalfWrite, Store, tracks_of, has_level, stale_at, takes_b, frame_at, patch_at, is_lost, is_loose, half_is, with_stale}
use Rattle.device_laws.proofs.Always as A
use Rattle.device_laws.proofs.Always.{Behind, Always}
use Rattle.device_laws.proofs.FramesKept.{plates_of, HasFrames, hear_framed}
use Rattle.device_laws.proofs.HeldPlaces.{never, some_still, no_more}
use Rattle.device_laws.proofs.Harmless.{firm_goes}
use Rattle.device_laws.proofs.Lucky.{Lucky, lucky_done, lucky_try, lucky_ask, lucky_tell, lucky_then, lucky_weaker}
use Rattle.device_laws.proofs.Once.{where_none}
use Rattle.device_laws.proofs.OneFailed.{Sides, sides_of, fallen_a, fallen_b, OnSideA, IsSomewhere, steady_fallen, steady_b, lost_a, lost_b, told_sides}
use Rattle.device_laws.proofs.OneFailedEvents.{hear_same, end_quiet}
use Rattle.device_laws.proofs.QuietParts.{Quiet, quiet_done, quiet_try, quiet_ask, quiet_tell, quiet_then, hear_quiet, losing_quiet}
use Rattle.device_laws.proofs.TrackMarks.{IsFaithful}
use Rattle.device_laws.proofs.Unchecked.{lucky_both}
use Rattle.device_laws.proofs.Unlost.{core_of, Steady, steady_on}
use Rattle.device_laws.proofs.UnlostParts.{hear_goes, end_goes}

-- what holds where no call fails, where nothing is called
quiet_behind : {R I S A : Type 0} {q : S → A → Type 0} (i : Interaction R I S A) → Quiet i → Lucky q i → Behind i q
unfolding A.Behind
quiet_behind (Done s a) quiet_done (lucky_done x) = x
quiet_behind (Try k) (quiet_try f) (lucky_try x) = λ ok. quiet_behind (k ok) (f ok) (x ok)
quiet_behind (Ask call k) (quiet_ask f) (lucky_ask x) = λ a. quiet_behind (k a) (f a) (x a)
quiet_behind (Tell m k) (quiet_tell f) (lucky_tell x) = λ r. quiet_behind (k r) (f r) (x r)
quiet_behind (Read side t k) f x = elim f [ ]
quiet_behind (Write side t b k) f x = elim f [ ]

pub where_quiet : {R I S A : Type 0} {q : S → A → Type 0} {i : Interaction R I S A} → Quiet i → Lucky q i → Always i q
where_quiet {i = i} f x = record { holds = quiet_behind i f x }

half_found : {H : Type 0} (o : Option (HalfWrite H)) (t : ℕ) → option_map (λ (h : HalfWrite H). h.track) o ≡ Some t → half_is o t ≡ true
half_found (Some h) t e = let same : h.track ≡ t = cc in eq-eqb h.track t same
half_found None t e = absurd (cc)

module _ {F P H R : Type 0} (c : Contents F P H R) where
  -- The store is lost

  record Wider (s z : Store F P H) : Type 0 where
    lost : z.lost ≡ s.lost
    up : z.a.up ≡ s.a.up
    takes : takes_b z ≡ takes_b s
    half : z.half ≡ s.half
    stale : (q : ℕ) → half_is s.half q ≡ true → stale_at z.a q ≡ stale_at s.a q
    patched : (q : ℕ) → is_some (patch_at z q) ≡ true → is_some (patch_at s q) ≡ true
    framed : (q : ℕ) → is_some (frame_at s q) ≡ true → is_some (frame_at z q) ≡ true

  wide : (s : Store F P H) → Wider s s
  wide s = record { lost = refl; up = refl; takes = refl; half = refl; stale = λ q e. refl; patched = λ q e. e; framed = λ q e. e }

  wider_on : (s z y : Store F P H) → Wider s z → Wider z y → Wider s y
  wider_on s z y f g = record {
    lost = g.lost ∙ f.lost;
    up = g.up ∙ f.up;
    takes = g.takes ∙ f.takes;
    half = g.half ∙ f.half;
    stale = λ q e. g.stale q (ap (λ (o : Option (HalfWrite H)). half_is o q) f.half ∙ e) ∙ f.stale q e;
    patched = λ q e. f.patched q (g.patched q e);
    framed = λ q e. g.framed q (f.framed q e);
  }

  unpatched : (s : Store F P H) (t : ℕ) (o : Option ℕ) → Wider s (gives_up s t o)
  unpatched s t None = wide s
  unpatched s t (Some slot) = record {
    lost = refl;
    up = refl;
    takes = refl;
    half = refl;
    stale = λ q e. refl;
    patched = λ q e. no_more s.patches t q e;
    framed = λ q e. e;
  }

  other : (s : Store F P H) (t q : ℕ) → half_is s.half t ≡ false → half_is s.half q ≡ true → q ≢ t
  other s t q none is same = never (half_is s.half q) is (subst (λ (p : ℕ). half_is s.half p ≡ false) (sym same) none)

  staled_by : (s : Store F P H) (t : ℕ) (b : Bool) → half_is s.half t ≡ false →
      Wider s (if b then with_stale (with_stale s sides.A t true) sides.B t true else with_stale s sides.A t true)
  staled_by s t true none = record {
    lost = refl;
    up = refl;
    takes = refl;
    half = refl;
    stale = λ q e. get_or-set_other s.a.stale t q true false (other s t q none e);
    patched = λ q e. e;
    framed = λ q e. e;
  }
  staled_by s t false none = record {
    lost = refl;
    up = refl;
    takes = refl;
    half = refl;
    stale = λ q e. get_or-set_other s.a.stale t q true false (other s t q none e);
    patched = λ q e. e;
    framed = λ q e. e;
  }

  wide_if : (s : Store F P H) (b : Bool) (z y : Store F P H) → Wider s z → Wider s y → Wider s (if b then z else y)
  wide_if s true z y f g = f
  wide_if s false z y f g = g

  hardened_wide : (s : Store F P H) (t : ℕ) → Wider s (hardened_by_loss s t)
  hardened_wide s t = record { lost = refl; up = refl; takes = refl; half = refl; stale = λ q e. refl; patched = λ q e. e; framed = λ q e. e }

  kept_wide : (s : Store F P H) (t : ℕ) (f : F) → Wider s (kept_by_frame c s t f)
  kept_wide s t f =
      wide_if s (c.modified f) s _ (wide s)
      (record {
        lost = refl;
        up = refl;
        takes = refl;
        half = refl;
        stale = λ q e. refl;
        patched = λ q e. e;
        framed = λ q e. some_still s.frames t q (c.marked f true) e;
      })

  frame_wide : (s : Store F P H) (t : ℕ) (o : Option F) → is_some o ≡ true → Wider s (by_frame c s t o)
  frame_wide s t (Some f) e = wide_if s (is_loose s t) _ _ (hardened_wide s t) (kept_wide s t f)
  frame_wide s t None e = absurd (cc)

  settled_wide : (s : Store F P H) (t : ℕ) → is_some (frame_at s t) ≡ true → Wider s (settled c s t)
  unfolding L.settled
  settled_wide s t e =
      wide_if s (is_some s.lent) s _ (wide s)
      (wide_if s (is_lost s t) s _ (wide s) (wide_if s (has_level s t) s _ (wide s) (frame_wide s t (frame_at s t) e)))

  abbrev pub Framed : Store F P H → Type 0
  Framed s = (q : ℕ) → half_is s.half q ≡ false → is_some (patch_at s q) ≡ true → is_some (frame_at s q) ≡ true

  patch_wide : (t : ℕ) (s : Store F P H) → Framed s → (b a : Bool) → is_some (patch_at s t) ≡ b → half_is s.half t ≡ a →
      Wider s (if b then (if a then without_patch c s t else settled c (stale_everywhere (without_patch c s t) t) t) else s)
  patch_wide t s f true true patched is = unpatched s t (slot_in c (patch_at s t))
  patch_wide t s f true false patched none =
      let z = without_patch c s t in
      let u = unpatched s t (slot_in c (patch_at s t)) in
      let y = stale_everywhere z t in
      let v = wider_on s z y u (staled_by z t z.paired (ap (λ (o : Option (HalfWrite H)). half_is o t) u.half ∙ none)) in
      wider_on s y (settled c y t) v (settled_wide y t (v.framed t (f t none patched)))
  patch_wide t s f false a patched is = wide s

  still_framed : (s z : Store F P H) → Wider s z → Framed s → Framed z
  still_framed s z w f = λ q none patched.
      w.framed q (f q (ap (λ (o : Option (HalfWrite H)). half_is o q) (sym w.half) ∙ none) (w.patched q patched))

  patches_wide : (n : ℕ) (s : Store F P H) → Framed s → Wider s (over n (patch_lost c) s)
  unfolding L.over
  patches_wide zero s f = wide s
  patches_wide (suc n) s f =
      let z = over n (patch_lost c) s in
      let w = patches_wide n s f in
      wider_on s z (patch_lost c n z) w
      (patch_wide n z (still_framed s z w f) (is_some (patch_at z n)) (half_is z.half n) refl refl)

  -- and so each track that has a patch still
  pub store_framed : (s : Store F P H) → HasFrames c (plates_of s) → ((store_lost c s).a.up ≡ s.a.up) × Framed (store_lost c s)
  unfolding L.store_lost
  store_framed s f = let w = patches_wide (tracks_of s) s f.framed in (w.up, still_framed s (over (tracks_of s) (patch_lost c) s) w f.framed)

  store_steady : (s : Store F P H) → HasFrames c (plates_of s) → Steady (core_of s) → Steady (core_of (store_lost c s))
  unfolding L.store_lost
  store_steady s f x =
      let w = patches_wide (tracks_of s) s f.framed in
      record {
        kept = λ q. ap (λ (l : List Bool). get_or l q false) w.lost ∙ x.kept q;
        takes = ap (λ (b : Bool). b || takes_b (over (tracks_of s) (patch_lost c) s)) w.up ∙ ap (λ (b : Bool). s.a.up || b) w.takes ∙ x.takes;
        half = λ t e up.
            let was = sym (ap (option_map (λ (h : HalfWrite H). h.track)) w.half) ∙ e in
            w.stale t (half_found s.half t was) ∙ x.half t was (sym w.up ∙ up);
      }

  -- The events

  module _ (faithful : IsFaithful c) where
    pub lose_quiet : (d : Device F P H) (loss : Loss) → Quiet (lose c d loss)
    unfolding E.lose
    lose_quiet d loss =
        quiet_then _ (quiet_then _
        (hear_quiet c 960 (event_begun d).store)
        (λ s _. quiet_then _ (losing_quiet c s loss) (λ y _. quiet_done)))
        (λ y a. end_quiet c d y a)

    lost_event : {p : Store F P H → Type 0} (d : Device F P H) (loss : Loss) → Lucky (λ s (a : Unit {0}). p s) (hear c 960 (event_begun d).store) →
        ((s : Store F P H) → p s → Lucky (λ z (a : Unit {0}). Steady (core_of z)) (losing c s loss)) →
        Always (lose c d loss) (λ e _. Steady (core_of e.store))
    unfolding E.lose
    lost_event d loss heard does =
        where_quiet (lose_quiet d loss)
        (lucky_then _ (lucky_then _ heard
        (λ s _ f. lucky_then _ (does s f) (λ y _ g. lucky_done g)))
        (λ y a g. lucky_then _ (end_goes c faithful (waiting_count c d.store) y.store)
        (λ z _ h. lucky_done (steady_on (core_of y.store) (core_of z) h g))))

    pub lose_store_steady : (d : Device F P H) → HasFrames c (plates_of d.store) → Steady (core_of d.store) →
        Always (lose c d losses.Store) (λ e _. Steady (core_of e.store))
    lose_store_steady d f x =
        lost_event {p = λ s. HasFrames c (plates_of s) × Steady (core_of s)} d losses.Store
        (lucky_weaker (lucky_both (hear_framed c 960 (event_begun d).store f) (hear_goes c 960 (event_begun d).store))
        (λ s _ g. (g.0, steady_on (core_of d.store) (core_of s) g.1 x)))
        (λ s g.
        let z = store_lost c (with_loss s losses.Store) in
        lucky_weaker (firm_goes c (tracks_of s) z)
        (λ y _ h. steady_on (core_of z) (core_of y) h
        (store_steady (with_loss s losses.Store) g.0 (record { kept = g.1.kept; takes = g.1.takes; half = g.1.half }))))

    sides_heard : (d : Device F P H) → Lucky (λ s (a : Unit {0}). sides_of s ≡ sides_of d.store) (hear c 960 (event_begun d).store)
    sides_heard d = where_none (hear_same c {q = λ s a. ⊥} (sides_of d.store) 960 (event_begun d).store refl)

    -- side B is up, and has each track that isn't half written
    pub lose_a_steady : (d : Device F P H) → d.store.b.up ≡ true → ((q : ℕ) → is_lost d.store q ≡ false) →
        ((q : ℕ) → IsSomewhere c (fallen_a (sides_of d.store)) q) → Always (lose c d (losses.Side sides.A)) (λ e _. Steady (core_of e.store))
    lose_a_steady d up kept at =
        lost_event {p = λ s. sides_of s ≡ sides_of d.store} d (losses.Side sides.A) (sides_heard d)
        (λ s e.
        let z = with_loss s (losses.Side sides.A) in
        lucky_weaker
        (told_sides c (fallen_a (sides_of d.store)) (tracks_of s) (side_lost c z sides.A None)
        (lost_a c z None (λ q ne. subst (λ (x : Sides H). IsSomewhere c (fallen_a x) q) (sym e) (at q)) ∙ ap fallen_a e))
        (λ y _ g. steady_fallen (sides_of d.store) y up kept g))

    pub lose_b_steady : (d : Device F P H) → OnSideA (sides_of d.store) → Always (lose c d (losses.Side sides.B)) (λ e _. Steady (core_of e.store))
    lose_b_steady d o =
        lost_event {p = λ s. sides_of s ≡ sides_of d.store} d (losses.Side sides.B) (sides_heard d)
        (λ s e.
        let z = with_loss s (losses.Side sides.B) in
        lucky_weaker
        (told_sides c (fallen_b (sides_of d.store)) (tracks_of s) (side_lost c z sides.B None)
        (lost_b c z None (subst OnSideA (sym e) o) ∙ ap fallen_b e))
        (λ y _ g. steady_b (sides_of d.store) y o g))
