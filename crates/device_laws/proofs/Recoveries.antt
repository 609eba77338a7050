-- What a device does by itself to the tracks that wait: a recovery that is done leaves its track waiting no more and all others as they were, and the first
-- part of one leaves all as they were.
use Rattle.std.proofs.Common.{
  ◌≡◌,
  ◌≢◌,
  ◌<◌,
  ◌==◌,
  ◌+◌,
  ◌*◌,
  zero,
  suc,
  ℕ,
  Bool,
  true,
  false,
  List,
  [],
  ◌∷◌,
  Option,
  Some,
  None,
  is_some,
  set,
  get_or,
  refl,
  sym,
  ap,
  subst,
  ◌∙◌,
  arith,
  ◌⊎◌,
  inl,
  inr,
}
use Rattle.std.proofs.lemmas.Bool.{cases_eq}
use Rattle.std.proofs.lemmas.List.{get_or-set_other}
use Rattle.std.specs.Prelude.{if◌then◌else◌, ◌&&◌, ◌||◌, not}
use Rattle.ckd_types.specs.declared.paths.Side.{Side}
use Rattle.ckd_types.specs.declared.paths.Side.TheVariants as sides
use Rattle.track_image.specs.Image.{Image}
use Rattle.track_table.specs.Tracks as N
use Rattle.track_table.specs.Tracks.{count_below}
use Rattle.track_table.proofs.AskedWords.{count_same}
use Rattle.device_outside.specs.Interaction.{Interaction, Done, Ask}
use Rattle.device_outside.specs.Pool.{Call, SetModified, DropFrame}
use Rattle.device_defs.specs.declared.answers.Did.{Did}
use Rattle.device_defs.specs.declared.answers.Did.TheVariants as dids
use Rattle.device_defs.specs.declared.answers.Took.{Took}
use Rattle.device_defs.specs.declared.answers.Took.TheVariants.{Whole, Opened, Unwritten}
use Rattle.device_defs.specs.Background as K
use Rattle.device_defs.specs.Background.{
  did,
  to_copy,
  copies_to,
  to_recover,
  is_destaged,
  to_destage,
  saved_by,
  saving,
  saved,
  recovered_image,
  recovered_bytes,
  recover,
  copied,
  copy_read,
  copy_by,
  unfilled,
  staged_image,
  staged_bytes,
  stage,
  destage_first,
  stage_first,
  copy_first,
  recover_first,
  work,
  other,
}
use Rattle.device_defs.specs.Contents.{Contents}
use Rattle.device_defs.specs.Effects.{hardened}
use Rattle.device_defs.specs.Image as I
use Rattle.device_defs.specs.Image.{Got, read_counted, first_read, second_read, read_b, level_bytes, image_of, filled}
use Rattle.device_defs.specs.Losses.{slot_in, stale_everywhere, framed_image, call_failed}
use Rattle.device_defs.specs.Owed as O
use Rattle.device_defs.specs.Owed.{is_owed, is_modified, is_clean, heard, hear, freed_told, settles_debt, all_told, waits_by, waits, waiting_count, noted_end}
use Rattle.device_defs.specs.Store.{
  OfBackground,
  HalfWrite,
  Store,
  tracks_of,
  level_at,
  some_up,
  takes_b,
  frame_at,
  patch_at,
  is_lost,
  is_loose,
  owed_at,
  with_frame,
}
use Rattle.device_defs.specs.Writing as V
use Rattle.device_defs.specs.Writing.{
  Wrote,
  write_counted,
  taken_a,
  firm_first,
  alone_b,
  failed_a,
  first_a,
  write_first,
  slot_freed,
  write_done,
  cleaned,
  write_opened,
}
use Rattle.device_laws.proofs.Bools.{not_true}
use Rattle.device_laws.proofs.Always.{Always, always_done, always_try, always_ask, always_read, always_write, always_tell, always_then, always_weaker}
use Rattle.device_laws.proofs.HeldPlaces.{none_at}
use Rattle.device_laws.proofs.KeptEvents.{always_any, always_if}
use Rattle.device_laws.proofs.TrackMarks.{IsFaithful}
use Rattle.device_laws.proofs.Working.{found_if}

-- what says which tracks wait, and the open half write
pub record Shelf (F P H : Type 0) : Type 0 where
  pub cylinders : ℕ
  pub frames : List (Option F)
  pub patches : List (Option P)
  pub lost : List Bool
  pub loose : List Bool
  pub half : Option (HalfWrite H)

abbrev pub shelf_of : {F P H : Type 0} → Store F P H → Shelf F P H
shelf_of s = record { cylinders = s.cylinders; frames = s.frames; patches = s.patches; lost = s.lost; loose = s.loose; half = s.half }

always_where : {R I S A : Type 0} {q : S → A → Type 0} (b : Bool) {i j : Interaction R I S A} → (b ≡ true → Always i q) → (b ≡ false → Always j q) →
    Always (if b then i else j) q
always_where true f g = f refl
always_where false f g = g refl

-- One track less

abbrev one_if : Bool → ℕ
one_if b = if b then 1 else 0

pub count_less : (n : ℕ) (p q : ℕ → Bool) (t : ℕ) → t < n → p t ≡ true → q t ≡ false → ((k : ℕ) → k ≢ t → q k ≡ p k) → count_below n q + 1 ≡ count_below n p
unfolding N.count_below
count_less zero p q t lt waiting off others = absurd (omega (arith, lt))
count_less (suc n) p q t lt waiting off others = by_place (cases_eq n t) (λ less. count_less n p q t less waiting off others)
  where
    by_place : ((n ≡ t) ⊎ (n ≢ t)) → (t < n → count_below n q + 1 ≡ count_below n p) → count_below (suc n) q + 1 ≡ count_below (suc n) p
    by_place (inl is) rest =
        let same : count_below n q ≡ count_below n p = count_same n q p (λ k less. others k (λ e. absurd (omega (arith, e, is, less)))) in
        let mine : one_if (p n) ≡ 1 = ap one_if (ap p is ∙ waiting) in
        let none : one_if (q n) ≡ 0 = ap one_if (ap q is ∙ off) in
        omega (arith, same, mine, none)
    by_place (inr ne) rest =
        let more = rest (let apart : n ≢ t = ne in omega (arith, lt, apart)) in
        let here : one_if (q n) ≡ one_if (p n) = ap one_if (others n ne) in
        omega (arith, more, here)

-- Places and tests

put_there : {X : Type 0} (l : List (Option X)) (t : ℕ) (x : X) → is_some (get_or l t None) ≡ true → get_or (set l t (Some x)) t None ≡ Some x
put_there [] t x e = absurd (cc)
put_there (y ∷ l) zero x e = refl
put_there (y ∷ l) (suc t) x e = put_there l t x e

none_on : (lost b : Bool) → b ≡ false → (not lost && b) ≡ false
none_on true b e = refl
none_on false b e = e

clean_off : (m p l : Bool) → m ≡ false → (m && not p && not l) ≡ false
clean_off true p l e = absurd (cc)
clean_off false p l e = refl

loose_off : (m p l : Bool) → l ≡ true → (m && not p && not l) ≡ false
loose_off m p false e = absurd (cc)
loose_off false p true e = refl
loose_off true true true e = refl
loose_off true false true e = refl

module _ {F P H R : Type 0} (c : Contents F P H R) where
  -- Which tracks wait

  -- by its frame, whether it has a patch, and whether it is loose
  abbrev pub due : Option F → Bool → Bool → Bool
  due None patched loose = patched
  due (Some f) patched loose = c.modified f && not patched && not loose

  abbrev waits_at : Bool → Option F → Bool → Bool → Bool
  waits_at lost frame patched loose = not lost && due frame patched loose

  abbrev pub waits_in : Shelf F P H → ℕ → Bool
  waits_in x t = waits_at (get_or x.lost t false) (get_or x.frames t None) (is_some (get_or x.patches t None)) (get_or x.loose t false)

  due_is : (s : Store F P H) (t : ℕ) (o : Option F) → waits_by c s t o ≡ due o (is_some (patch_at s t)) (is_loose s t)
  due_is s t None = refl
  due_is s t (Some f) = refl

  pub waits_is : (s : Store F P H) (t : ℕ) → waits c s t ≡ waits_in (shelf_of s) t
  unfolding O.waits
  waits_is s t = ap (λ (b : Bool). not (is_lost s t) && b) (due_is s t (frame_at s t))

  -- behind what is done with a track: it doesn't wait, and all others as before
  pub record DoneIn (x : Shelf F P H) (t : ℕ) (y : Shelf F P H) : Type 0 where
    pub cylinders : y.cylinders ≡ x.cylinders
    pub here : waits_in y t ≡ false
    pub others : (q : ℕ) → q ≢ t → waits_in y q ≡ waits_in x q

  pub record SameIn (x y : Shelf F P H) : Type 0 where
    pub cylinders : y.cylinders ≡ x.cylinders
    pub all : (q : ℕ) → waits_in y q ≡ waits_in x q
    pub half : y.half ≡ x.half

  -- a half write of the background is open
  pub record HalfIn (x : Shelf F P H) (t : ℕ) (y : Shelf F P H) : Type 0 where
    pub cylinders : y.cylinders ≡ x.cylinders
    pub all : (q : ℕ) → waits_in y q ≡ waits_in x q
    pub half : HalfWrite H
    pub is : y.half ≡ Some half
    pub track : half.track ≡ t
    pub background : half.origin ≡ OfBackground

  same_on : (x y z : Shelf F P H) → SameIn x y → SameIn y z → SameIn x z
  same_on x y z f g = record { cylinders = g.cylinders ∙ f.cylinders; all = λ q. g.all q ∙ f.all q; half = g.half ∙ f.half }

  pub fewer_wait : (s z : Store F P H) (t : ℕ) → t < tracks_of s → waits_in (shelf_of s) t ≡ true → DoneIn (shelf_of s) t (shelf_of z) →
      waiting_count c z + 1 ≡ waiting_count c s
  fewer_wait s z t lt waiting k =
      ap (λ (n : ℕ). count_below (n * 15) (waits c z) + 1) k.cylinders
      ∙ count_less (tracks_of s) (waits c s) (waits c z) t lt (waits_is s t ∙ waiting) (waits_is z t ∙ k.here)
      (λ q ne. waits_is z q ∙ k.others q ne ∙ sym (waits_is s q))

  pub as_many_wait : (s z : Store F P H) → z.cylinders ≡ s.cylinders → ((q : ℕ) → waits_in (shelf_of z) q ≡ waits_in (shelf_of s) q) →
      waiting_count c z ≡ waiting_count c s
  as_many_wait s z same all =
      ap (λ (n : ℕ). count_below (n * 15) (waits c z)) same
      ∙ count_same (tracks_of s) (waits c z) (waits c s) (λ q lt. waits_is z q ∙ all q ∙ sym (waits_is s q))

  -- Notices

  -- no track that has a clean frame would wait without it
  abbrev pub DropsWell : Shelf F P H → Type 0
  DropsWell x = (q : ℕ) → is_clean c (get_or x.frames q None) ≡ true → (not (get_or x.lost q false) && is_some (get_or x.patches q None)) ≡ false

  abbrev dropped_in : Shelf F P H → ℕ → Shelf F P H
  dropped_in x t = record x { frames = set x.frames t None }

  clean_due : (o : Option F) (p l : Bool) → is_clean c o ≡ true → due o p l ≡ false
  clean_due None p l e = absurd (cc)
  clean_due (Some f) p l e = clean_off (c.modified f) p l (not_true (c.modified f) e)

  dropped_waits : (x : Shelf F P H) (t : ℕ) → is_clean c (get_or x.frames t None) ≡ true → DropsWell x → (q : ℕ) → ((q ≡ t) ⊎ (q ≢ t)) →
      waits_in (dropped_in x t) q ≡ waits_in x q
  dropped_waits x t clean f q (inl is) =
      rw is
      (ap (λ (o : Option F). waits_at (get_or x.lost t false) o (is_some (get_or x.patches t None)) (get_or x.loose t false)) (none_at x.frames t)
      ∙ f t clean
      ∙ sym (none_on (get_or x.lost t false) (due (get_or x.frames t None) (is_some (get_or x.patches t None)) (get_or x.loose t false))
      (clean_due (get_or x.frames t None) (is_some (get_or x.patches t None)) (get_or x.loose t false) clean)))
  dropped_waits x t clean f q (inr ne) =
      ap (λ (o : Option F). waits_at (get_or x.lost q false) o (is_some (get_or x.patches q None)) (get_or x.loose q false))
      (get_or-set_other x.frames t q None None ne)

  dropped_drops : (x : Shelf F P H) (t : ℕ) → DropsWell x → DropsWell (dropped_in x t)
  dropped_drops x t f q clean = by_place (cases_eq q t) where
    by_place : ((q ≡ t) ⊎ (q ≢ t)) → (not (get_or x.lost q false) && is_some (get_or x.patches q None)) ≡ false
    by_place (inl is) =
        absurd (let both : false ≡ true = sym (ap (λ (k : ℕ). is_clean c (get_or (set x.frames t None) k None)) is
        ∙ ap (is_clean c) (none_at x.frames t)) ∙ clean in cc)
    by_place (inr ne) = f q (sym (ap (is_clean c) (get_or-set_other x.frames t q None None ne)) ∙ clean)

  abbrev Hears : ℕ → Store F P H → Type 0
  Hears n s = Always (hear c n s) (λ z (a : Unit {0}). SameIn (shelf_of s) (shelf_of z))

  heard_waits : (n : ℕ) (s : Store F P H) (note : Option ℕ) → DropsWell (shelf_of s) → ((z : Store F P H) → DropsWell (shelf_of z) → Hears n z) →
      Always (heard c (hear c n) s note) (λ z (a : Unit {0}). SameIn (shelf_of s) (shelf_of z))
  heard_waits n s None f more = always_done (record { cylinders = refl; all = λ q. refl; half = refl })
  heard_waits n s (Some t) f more = by_clean (is_clean c (frame_at s t)) refl
    where
      by_clean : (b : Bool) → is_clean c (frame_at s t) ≡ b →
          Always (hear c n (if b then with_frame s t None else s)) (λ z (a : Unit {0}). SameIn (shelf_of s) (shelf_of z))
      by_clean true e =
          always_weaker (more (with_frame s t None) (dropped_drops (shelf_of s) t f))
          (λ z _ g. same_on (shelf_of s) (dropped_in (shelf_of s) t) (shelf_of z)
          (record { cylinders = refl; all = λ q. dropped_waits (shelf_of s) t e f q (cases_eq q t); half = refl }) g)
      by_clean false e = more s f

  pub hear_waits : (n : ℕ) (s : Store F P H) → DropsWell (shelf_of s) → Hears n s
  unfolding O.hear
  hear_waits zero s f = always_done (record { cylinders = refl; all = λ q. refl; half = refl })
  hear_waits (suc n) s f = always_ask (λ note. heard_waits n s note f (hear_waits n))

  -- The end of an event

  module _ (x : Shelf F P H) where
    abbrev Ends : Interaction R Image (Store F P H) (Unit {0}) → Type 0
    Ends i = Always i (λ z (a : Unit {0}). shelf_of z ≡ x)

    asked_shelf : (b : Bool) (call : Call) (s : Store F P H) → shelf_of s ≡ x → Ends (if b then Ask call (λ _. Done s tt) else Done s tt)
    asked_shelf true call s e = always_ask (λ _. always_done e)
    asked_shelf false call s e = always_done e

    freed_shelf : (s : Store F P H) (o : Option ℕ) → shelf_of s ≡ x → Ends (freed_told c s o)
    freed_shelf s None e = always_done e
    freed_shelf s (Some slot) e = always_ask (λ _. always_done e)

    debt_shelf : (t : ℕ) (s : Store F P H) → shelf_of s ≡ x → Ends (settles_debt c t s)
    debt_shelf t s e =
        always_then (asked_shelf ((owed_at s t).modified && is_modified c (frame_at s t)) (SetModified s.device t) s e)
        (λ z _ g. always_then (asked_shelf (owed_at z t).dropped (DropFrame z.device t) z g)
        (λ y _ h. always_then (freed_shelf y (owed_at y t).freed h) (λ w _ k. always_done k)))

    told_shelf : (n : ℕ) (s : Store F P H) → shelf_of s ≡ x → Ends (all_told c n s)
    unfolding O.all_told
    told_shelf zero s e = always_done e
    told_shelf (suc n) s e = always_then (told_shelf n s e) (λ z _ g. always_if (is_owed c (owed_at z n)) (debt_shelf n z g) (always_done g))

    pub end_shelf : (before : ℕ) (s : Store F P H) → shelf_of s ≡ x → Ends (noted_end c before s)
    end_shelf before s e =
        always_then (told_shelf (tracks_of s) s e)
        (λ z _ g. always_if (waiting_count c z == before) (always_done g) (always_ask (λ _. always_done g)))

  -- What a level side gives

  abbrev GotWaits : Shelf F P H → Shelf F P H → Option Side → Type 0
  GotWaits x y None = y ≡ x
  GotWaits x y (Some side) = Unit {0}

  module _ (x : Shelf F P H) where
    abbrev Gives : Interaction R Image (Store F P H) (Got R) → Type 0
    Gives i = Always i (λ z g. GotWaits x (shelf_of z) g.fault)

    late_read : (s : Store F P H) (o : Option R) → Gives (second_read c (Some sides.A) s o)
    late_read s (Some r) = always_done tt
    late_read s None = always_then (always_any (call_failed c s sides.B None)) (λ z _ _. always_done tt)

    late_b : (s : Store F P H) (t : ℕ) → Gives (read_b c s t (Some sides.A))
    late_b s t = always_if (level_at s.b t) (always_read (λ o. late_read (read_counted s (is_some o)) o)) (always_done tt)

    first_waits : (t : ℕ) (s : Store F P H) (o : Option R) → shelf_of s ≡ x → Gives (first_read c t s o)
    first_waits t s (Some r) e = always_done e
    first_waits t s None e = always_then (always_any (call_failed c s sides.A None)) (λ z _ _. late_b z t)

    only_read : (s : Store F P H) (o : Option R) → shelf_of s ≡ x → Gives (second_read c None s o)
    only_read s (Some r) e = always_done e
    only_read s None e = always_then (always_any (call_failed c s sides.B None)) (λ z _ _. always_done tt)

    only_b : (s : Store F P H) (t : ℕ) → shelf_of s ≡ x → Gives (read_b c s t None)
    only_b s t e = always_if (level_at s.b t) (always_read (λ o. only_read (read_counted s (is_some o)) o e)) (always_done e)

    level_waits : (s : Store F P H) (t : ℕ) → shelf_of s ≡ x → Gives (level_bytes c s t)
    unfolding I.level_bytes
    level_waits s t e = always_if (level_at s.a t) (always_read (λ o. first_waits t (read_counted s (is_some o)) o e)) (only_b s t e)

  -- A first part

  shelf_if : (x : Shelf F P H) (b : Bool) (s z : Store F P H) → shelf_of s ≡ x → shelf_of z ≡ x → shelf_of (if b then s else z) ≡ x
  shelf_if x true s z e f = e
  shelf_if x false s z e f = f

  stale_shelf : (s : Store F P H) (t : ℕ) → shelf_of (stale_everywhere s t) ≡ shelf_of s
  stale_shelf s t = shelf_if (shelf_of s) s.paired _ _ refl refl

  taken_shelf : (s : Store F P H) (t : ℕ) → shelf_of (taken_a s t) ≡ shelf_of s
  taken_shelf s t = shelf_if (shelf_of s) s.b.up _ _ refl refl

  -- a loose track is firm then
  abbrev firmed : Shelf F P H → ℕ → Bool → Shelf F P H
  firmed x t true = record x { loose = set x.loose t false }
  firmed x t false = x

  firmed_others : (x : Shelf F P H) (t : ℕ) (l : Bool) (q : ℕ) → q ≢ t → waits_in (firmed x t l) q ≡ waits_in x q
  firmed_others x t true q ne =
      ap (λ (b : Bool). waits_at (get_or x.lost q false) (get_or x.frames q None) (is_some (get_or x.patches q None)) b)
      (get_or-set_other x.loose t q false false ne)
  firmed_others x t false q ne = refl

  firmed_cylinders : (x : Shelf F P H) (t : ℕ) (l : Bool) → (firmed x t l).cylinders ≡ x.cylinders
  firmed_cylinders x t true = refl
  firmed_cylinders x t false = refl

  firmed_done : (x : Shelf F P H) (t : ℕ) (l : Bool) (y z : Shelf F P H) → y ≡ firmed x t l → DoneIn y t z → DoneIn x t z
  firmed_done x t l y z e k =
      let g : DoneIn (firmed x t l) t z = subst (λ (w : Shelf F P H). DoneIn w t z) e k in
      record { cylinders = g.cylinders ∙ firmed_cylinders x t l; here = g.here; others = λ q ne. g.others q ne ∙ firmed_others x t l q ne }

  record Firmed (s : Store F P H) (t : ℕ) (z : Store F P H) (l : Bool) : Type 0 where
    loose : is_loose s t ≡ l
    shelf : shelf_of z ≡ firmed (shelf_of s) t l

  firm_waits : (s : Store F P H) (t : ℕ) → Always (firm_first c s t) (Firmed s t)
  firm_waits s t =
      always_where (is_loose s t) (λ e. always_tell (λ _. always_done (record { loose = e; shelf = stale_shelf (hardened s t) t })))
      (λ e. always_done (record { loose = e; shelf = refl }))

  abbrev WroteWaits : Shelf F P H → Shelf F P H → Took → Option Side → Type 0
  WroteWaits x y Whole None = y ≡ x
  WroteWaits x y Whole (Some side) = Unit {0}
  WroteWaits x y Opened fault = y ≡ x
  WroteWaits x y Unwritten fault = Unit {0}

  module _ (x : Shelf F P H) where
    abbrev Writes : Interaction R Image (Store F P H) Wrote → Type 0
    Writes i = Always i (λ z w. WroteWaits x (shelf_of z) w.took w.fault)

    late_alone : (t : ℕ) (s : Store F P H) (ok : Bool) → Writes (alone_b c t (Some sides.A) sides.A s ok)
    late_alone t s true = always_done tt
    late_alone t s false = always_then (always_any (call_failed c s sides.B (Some t))) (λ z _ _. always_done tt)

    late_write : (t : ℕ) (r : R) (takes : Bool) (s : Store F P H) → Writes (failed_a c t r takes s)
    late_write t r takes s = always_if takes (always_write (λ ok. late_alone t (write_counted s ok) ok)) (always_done tt)

    took_waits : (y : Shelf F P H) (b : Bool) → y ≡ x → WroteWaits x y (if b then Opened else Whole) None
    took_waits y true e = e
    took_waits y false e = e

    first_writes : (t : ℕ) (r : R) (s : Store F P H) (ok : Bool) → shelf_of s ≡ x → Writes (first_a c t r s ok)
    first_writes t r s true e = always_done (took_waits (shelf_of (taken_a s t)) (takes_b s) (taken_shelf s t ∙ e))
    first_writes t r s false e = always_then (always_any (call_failed c s sides.A (Some t))) (λ z _ _. late_write t r (takes_b s) z)

    only_alone : (t : ℕ) (s : Store F P H) (ok : Bool) → shelf_of s ≡ x → Writes (alone_b c t None sides.B s ok)
    only_alone t s true e = always_done e
    only_alone t s false e = always_then (always_any (call_failed c s sides.B (Some t))) (λ z _ _. always_done tt)

    write_waits : (s : Store F P H) (t : ℕ) (r : R) → shelf_of s ≡ x → Writes (write_first c s t r)
    unfolding V.write_first
    write_waits s t r e =
        always_if s.a.up (always_write (λ ok. first_writes t r (write_counted s ok) ok e))
        (always_if (takes_b s) (always_write (λ ok. only_alone t (write_counted s ok) ok e)) (always_done tt))

  -- A write that is done

  record Bared (x : Shelf F P H) (t : ℕ) (y : Shelf F P H) : Type 0 where
    patches : List (Option P)
    is : y ≡ record x { patches = patches }
    elsewhere : (q : ℕ) → q ≢ t → get_or patches q None ≡ get_or x.patches q None
    bare : get_or patches t None ≡ None

  freed_bares : (s : Store F P H) (t : ℕ) (o : Option P) → patch_at s t ≡ o →
      Always (slot_freed c s t (slot_in c o)) (λ z (a : Unit {0}). Bared (shelf_of s) t (shelf_of z))
  freed_bares s t None e = always_done (record { patches = s.patches; is = refl; elsewhere = λ q ne. refl; bare = e })
  freed_bares s t (Some p) e = always_ask (λ _. always_done (record {
    patches = set s.patches t None;
    is = refl;
    elsewhere = λ q ne. get_or-set_other s.patches t q None None ne;
    bare = none_at s.patches t;
  }))

  -- it has no frame, or a clean one
  bared_done : (x : Shelf F P H) (t : ℕ) (frames : List (Option F)) → ((q : ℕ) → q ≢ t → get_or frames q None ≡ get_or x.frames q None) →
      ((l : Bool) → due (get_or frames t None) false l ≡ false) → (y : Shelf F P H) → Bared (record x { frames = frames }) t y → DoneIn x t y
  bared_done x t frames apart none y b =
      subst (DoneIn x t) (sym b.is) (record {
        cylinders = refl;
        here =
            none_on (get_or x.lost t false) (due (get_or frames t None) (is_some (get_or b.patches t None)) (get_or x.loose t false))
            (ap (λ (p : Option P). due (get_or frames t None) (is_some p) (get_or x.loose t false)) b.bare ∙ none (get_or x.loose t false));
        others = λ q ne.
            ap (λ (o : Option F). waits_at (get_or x.lost q false) o (is_some (get_or b.patches q None)) (get_or x.loose q false)) (apart q ne)
            ∙ ap (λ (p : Option P). waits_at (get_or x.lost q false) (get_or x.frames q None) (is_some p) (get_or x.loose q false)) (b.elsewhere q ne);
      })

  none_due : (o : Option F) (l : Bool) → is_some o ≡ false → due o false l ≡ false
  none_due None l e = refl
  none_due (Some f) l e = absurd (cc)

  -- Answers

  abbrev pub DidWaits : Shelf F P H → Shelf F P H → Did → Type 0
  DidWaits x y (dids.Recovered t) = (t < x.cylinders * 15) × (waits_in x t ≡ true) × DoneIn x t y
  DidWaits x y (dids.Half t) = (t < x.cylinders * 15) × HalfIn x t y
  DidWaits x y _ = Unit {0}

  abbrev pub WorkWaits : Shelf F P H → Shelf F P H → Option Did → Type 0
  WorkWaits x y (Some d) = DidWaits x y d
  WorkWaits x y None = Unit {0}

  plainly : (x y : Shelf F P H) (fault : Option Side) (d : Did) → DidWaits x y d → DidWaits x y (did fault d)
  plainly x y None d k = k
  plainly x y (Some side) d k = tt

  module _ (x : Shelf F P H) where
    abbrev Works : Interaction R Image (Store F P H) (Option Did) → Type 0
    Works i = Always i (λ z a. WorkWaits x (shelf_of z) a)

    abbrev Saves : Interaction R Image (Store F P H) Did → Type 0
    Saves i = Always i (λ z d. DidWaits x (shelf_of z) d)

    -- once a call failed it is a fault
    late_saved_by : (t : ℕ) (i : Image) (d : Did) (side : Side) (l : Bool) (failed : Option Side) (s : Store F P H) (took : Took) →
        Saves (saved_by c t i d (Some side) l failed s took)
    late_saved_by t i d side l failed s Whole = always_then (always_any (write_done c s t i false)) (λ z _ _. always_done tt)
    late_saved_by t i d side l failed s Opened = always_then (always_any (write_opened c s t i OfBackground l)) (λ z _ _. always_done tt)
    late_saved_by t i d side l failed s Unwritten = always_done tt

    late_saving : (s : Store F P H) (t : ℕ) (i : Image) (d : Did) (side : Side) → Saves (saving c s t i d (Some side))
    late_saving s t i d side =
        always_then (always_any (firm_first c s t))
        (λ z l _. always_then (always_any (write_first c z t (c.bytes i))) (λ y w _. late_saved_by t i d side l w.fault y w.took))

    late_saved : (s : Store F P H) (t : ℕ) (i : Image) (d : Did) (side : Side) → Works (saved c s t i d (Some side))
    late_saved s t i d side =
        always_try (λ ok. always_if ok (always_then (late_saving s t i d side) (λ z e k. always_done k)) (always_done tt))

    -- Copies and stages

    copied_any : (t : ℕ) (side : Side) (s : Store F P H) (ok : Bool) → Works (copied c t side s ok)
    copied_any t side s true = always_done tt
    copied_any t side s false = always_then (always_any (call_failed c s side None)) (λ z _ _. always_done tt)

    copy_read_any : (t : ℕ) (side : Side) (s : Store F P H) (o : Option R) → Works (copy_read c t side s o)
    copy_read_any t side s None = always_then (always_any (call_failed c s (other side) None)) (λ z _ _. always_done tt)
    copy_read_any t side s (Some r) = always_write (λ ok. copied_any t side (write_counted s ok) ok)

    copy_any : (s : Store F P H) (t : ℕ) (o : Option Side) → Works (copy_by c s t o)
    copy_any s t None = always_done tt
    copy_any s t (Some side) = always_read (λ o. copy_read_any t side (read_counted s (is_some o)) o)

    unfilled_any : (s : Store F P H) (t : ℕ) (a : Option Did) → WorkWaits x (shelf_of s) a → Works (unfilled c s t a)
    unfilled_any s t a k = always_ask (λ _. always_done k)

    staged_image_any : (t : ℕ) (s : Store F P H) (g : Got R) (o : Option Image) → Works (staged_image c t s g o)
    staged_image_any t s g None = unfilled_any s t (Some (did g.fault (dids.BadBytes g.side))) (plainly x (shelf_of s) g.fault (dids.BadBytes g.side) tt)
    staged_image_any t s g (Some i) =
        always_then (always_any (filled c s t i)) (λ z _ _. always_done (plainly x (shelf_of z) g.fault (dids.Staged t) tt))

    staged_any : (t : ℕ) (s : Store F P H) (g : Got R) (o : Option R) → Works (staged_bytes c t s g o)
    staged_any t s g None = unfilled_any s t (Some (did g.fault dids.Nothing)) (plainly x (shelf_of s) g.fault dids.Nothing tt)
    staged_any t s g (Some r) = always_try (λ ok. always_if ok (staged_image_any t s g (image_of c s t r)) (unfilled_any s t None tt))

    granted_any : (s : Store F P H) (t : ℕ) (given : Bool) → Works (K.staging_granted c s t given)
    granted_any s t given = always_if given (always_then (always_any (level_bytes c s t)) (λ z g _. staged_any t z g g.bytes)) (always_done tt)

    stage_any : (s : Store F P H) (t : ℕ) → Works (stage c s t)
    stage_any s t =
        always_if (is_some (frame_at s t) || is_lost s t) (always_done tt)
        (always_try (λ ok. always_if ok (always_ask (λ given. granted_any s t given)) (always_done tt)))

  module _ (faithful : IsFaithful c) where
    pub write_done_waits : (s : Store F P H) (t : ℕ) (i : Image) → Always (write_done c s t i false) (λ z (a : Unit {0}). DoneIn (shelf_of s) t (shelf_of z))
    unfolding V.write_done
    write_done_waits s t i =
        let f = c.frame i false in
        let y = with_frame s t (Some f) in
        always_where (is_some (frame_at s t))
        (λ there. always_ask (λ _. always_weaker (freed_bares y t (patch_at y t) refl)
        (λ z _ b. bared_done (shelf_of s) t y.frames (λ q ne. get_or-set_other s.frames t q (Some f) None ne)
        (λ l. ap (λ (o : Option F). due o false l) (put_there s.frames t f there) ∙ clean_off (c.modified f) false l (faithful.made i false))
        (shelf_of z) b)))
        (λ none. always_weaker (freed_bares s t (patch_at s t) refl)
        (λ z _ b. bared_done (shelf_of s) t s.frames (λ q ne. refl) (λ l. none_due (frame_at s t) l none) (shelf_of z) b))

    -- A half write is opened

    loose_opened : (x : Shelf F P H) (t : ℕ) (h : HalfWrite H) → get_or x.loose t false ≡ true → (q : ℕ) → ((q ≡ t) ⊎ (q ≢ t)) →
        waits_in (record (firmed x t true) { frames = set x.frames t (cleaned c (get_or x.frames t None)); half = Some h }) q ≡ waits_in x q
    loose_opened x t h loose q (inr ne) =
        ap (λ (o : Option F). waits_at (get_or x.lost q false) o (is_some (get_or x.patches q None)) (get_or (set x.loose t false) q false))
        (get_or-set_other x.frames t q (cleaned c (get_or x.frames t None)) None ne)
        ∙ firmed_others x t true q ne
    loose_opened x t h loose q (inl is) = rw is (here (get_or x.frames t None) refl)
      where
        lost : Bool
        lost = get_or x.lost t false

        patched : Bool
        patched = is_some (get_or x.patches t None)

        here : (o : Option F) → get_or x.frames t None ≡ o →
            waits_at lost (get_or (set x.frames t (cleaned c o)) t None) patched (get_or (set x.loose t false) t false)
            ≡ waits_at lost o patched (get_or x.loose t false)
        here None e = ap (λ (k : Option F). waits_at lost k patched (get_or (set x.loose t false) t false)) (none_at x.frames t)
        here (Some f) e =
            let g = c.marked f false in
            ap (λ (k : Option F). waits_at lost k patched (get_or (set x.loose t false) t false))
            (put_there x.frames t g (ap (λ (o : Option F). is_some o) e))
            ∙ none_on lost (due (Some g) patched (get_or (set x.loose t false) t false))
            (clean_off (c.modified g) patched (get_or (set x.loose t false) t false) (faithful.marked f false))
            ∙ sym (none_on lost (due (Some f) patched (get_or x.loose t false)) (loose_off (c.modified f) patched (get_or x.loose t false) loose))

    opened_waits : (x : Shelf F P H) (t : ℕ) (i : Image) (l : Bool) (s : Store F P H) → get_or x.loose t false ≡ l → shelf_of s ≡ firmed x t l →
        Always (write_opened c s t i OfBackground l) (λ z (a : Unit {0}). HalfIn x t (shelf_of z))
    opened_waits x t i true s loose e =
        let h : HalfWrite H = record { track = t; origin = OfBackground; image = c.half i } in
        always_ask (λ _. always_done (subst
        (λ (k : Shelf F P H). HalfIn x t (record k { frames = set k.frames t (cleaned c (get_or k.frames t None)); half = Some h })) (sym e)
        (record { cylinders = refl; all = λ q. loose_opened x t h loose q (cases_eq q t); half = h; is = refl; track = refl; background = refl })))
    opened_waits x t i false s loose e =
        let h : HalfWrite H = record { track = t; origin = OfBackground; image = c.half i } in
        always_done (subst (λ (k : Shelf F P H). HalfIn x t (record k { half = Some h })) (sym e)
        (record { cylinders = refl; all = λ q. refl; half = h; is = refl; track = refl; background = refl }))

    -- A track is written

    saved_by_waits : (x : Shelf F P H) (t : ℕ) (i : Image) (d : Did) (l : Bool) (failed : Option Side) (s : Store F P H) (took : Took) →
        t < x.cylinders * 15 → get_or x.loose t false ≡ l → ((y : Shelf F P H) → DoneIn x t y → DidWaits x y d) →
        WroteWaits (firmed x t l) (shelf_of s) took failed → Saves x (saved_by c t i d None l failed s took)
    saved_by_waits x t i d l None s Whole lt loose done e =
        always_then (write_done_waits s t i) (λ z _ k. always_done (done (shelf_of z) (firmed_done x t l (shelf_of s) (shelf_of z) e k)))
    saved_by_waits x t i d l (Some side) s Whole lt loose done e = always_then (always_any (write_done c s t i false)) (λ z _ _. always_done tt)
    saved_by_waits x t i d l failed s Opened lt loose done e = always_then (opened_waits x t i l s loose e) (λ z _ k. always_done (lt, k))
    saved_by_waits x t i d l failed s Unwritten lt loose done e = always_done (plainly x (shelf_of s) failed dids.Nothing tt)

    saving_waits : (s : Store F P H) (t : ℕ) (i : Image) (d : Did) → t < tracks_of s →
        ((y : Shelf F P H) → DoneIn (shelf_of s) t y → DidWaits (shelf_of s) y d) → Saves (shelf_of s) (saving c s t i d None)
    saving_waits s t i d lt done =
        always_then (firm_waits s t)
        (λ z l f. always_then (write_waits (firmed (shelf_of s) t l) z t (c.bytes i) f.shelf)
        (λ y w g. saved_by_waits (shelf_of s) t i d l w.fault y w.took lt f.loose done g))

    saved_waits : (s : Store F P H) (t : ℕ) (i : Image) (d : Did) → t < tracks_of s →
        ((y : Shelf F P H) → DoneIn (shelf_of s) t y → DidWaits (shelf_of s) y d) → Works (shelf_of s) (saved c s t i d None)
    saved_waits s t i d lt done =
        always_try (λ ok. always_if ok (always_then (saving_waits s t i d lt done) (λ z e k. always_done k)) (always_done tt))

    -- Recovery

    recovered_waits : (x : Shelf F P H) (s : Store F P H) (t : ℕ) (i : Image) (fault : Option Side) → t < x.cylinders * 15 → waits_in x t ≡ true →
        GotWaits x (shelf_of s) fault → Works x (saved c s t i (dids.Recovered t) fault)
    recovered_waits x s t i None lt waiting e =
        let below : t < tracks_of s = subst (λ (k : Shelf F P H). t < k.cylinders * 15) (sym e) lt in
        let waited : waits_in (shelf_of s) t ≡ true = subst (λ (k : Shelf F P H). waits_in k t ≡ true) (sym e) waiting in
        rw (← e) (saved_waits s t i (dids.Recovered t) below (λ y k. (below, waited, k)))
    recovered_waits x s t i (Some side) lt waiting e = late_saved x s t i (dids.Recovered t) side

    recovered_image_waits : (x : Shelf F P H) (t : ℕ) (s : Store F P H) (g : Got R) (o : Option Image) → t < x.cylinders * 15 → waits_in x t ≡ true →
        GotWaits x (shelf_of s) g.fault → Works x (recovered_image c t s g o)
    recovered_image_waits x t s g None lt waiting e = always_done (plainly x (shelf_of s) g.fault (dids.BadBytes g.side) tt)
    recovered_image_waits x t s g (Some i) lt waiting e = recovered_waits x s t i g.fault lt waiting e

    recovered_bytes_waits : (x : Shelf F P H) (t : ℕ) (s : Store F P H) (g : Got R) (o : Option R) → t < x.cylinders * 15 → waits_in x t ≡ true →
        GotWaits x (shelf_of s) g.fault → Works x (recovered_bytes c t s g o)
    recovered_bytes_waits x t s g None lt waiting e = always_done (plainly x (shelf_of s) g.fault dids.Nothing tt)
    recovered_bytes_waits x t s g (Some r) lt waiting e =
        always_try (λ ok. always_if ok (recovered_image_waits x t s g (image_of c s t r) lt waiting e) (always_done tt))

    recover_waits : (s : Store F P H) (t : ℕ) (o : Option F) → t < tracks_of s → waits_in (shelf_of s) t ≡ true → Works (shelf_of s) (recover c s t o)
    recover_waits s t (Some f) lt waiting = saved_waits s t (framed_image c s t (Some f)) (dids.Recovered t) lt (λ y k. (lt, waiting, k))
    recover_waits s t None lt waiting =
        always_then (level_waits (shelf_of s) s t refl) (λ z g k. recovered_bytes_waits (shelf_of s) t z g g.bytes lt waiting k)

    -- The order

    destage_waits : (s : Store F P H) (o : Option ℕ) → ((t : ℕ) → o ≡ Some t → t < tracks_of s) → Works (shelf_of s) (destage_first c s o)
    destage_waits s None found = always_done tt
    destage_waits s (Some t) found = saved_waits s t (framed_image c s t (frame_at s t)) (dids.Destaged t) (found t refl) (λ y k. tt)

    stage_waits : (s : Store F P H) (l : List ℕ) → Works (shelf_of s) (stage_first c s l)
    stage_waits s [] = destage_waits s (to_destage c s) (λ t e. (found_if (tracks_of s) (is_destaged c s) (some_up s) t e).0)
    stage_waits s (t ∷ ts) = stage_any (shelf_of s) (record s { queue = ts }) t

    copy_waits : (s : Store F P H) (o : Option ℕ) → Works (shelf_of s) (copy_first c s o)
    copy_waits s None = stage_waits s s.queue
    copy_waits s (Some t) = copy_any (shelf_of s) s t (copies_to s t)

    recover_or : (s : Store F P H) (o : Option ℕ) → ((t : ℕ) → o ≡ Some t → (t < tracks_of s) × (waits c s t ≡ true)) →
        Works (shelf_of s) (recover_first c s o)
    recover_or s None found = copy_waits s (to_copy s)
    recover_or s (Some t) found = let f = found t refl in recover_waits s t (frame_at s t) f.0 (sym (waits_is s t) ∙ f.1)

    pub work_waits : (s : Store F P H) → Works (shelf_of s) (work c s)
    unfolding K.work
    work_waits s = recover_or s (to_recover c s) (λ t e. found_if (tracks_of s) (waits c s) (some_up s) t e)
