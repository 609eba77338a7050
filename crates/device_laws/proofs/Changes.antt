-- What each change of a store does to the marks of each track: those of one track, and nothing elsewhere.
use Rattle.std.proofs.Common.{
  ◌≡◌,
  ◌≢◌,
  ◌<◌,
  ℕ,
  ◌||◌,
  ◌&&◌,
  not,
  Bool,
  true,
  false,
  List,
  Option,
  Some,
  None,
  is_some,
  length,
  set,
  get_or,
  refl,
  ap,
  ◌∙◌,
  arith,
}
use Rattle.std.proofs.lemmas.List.{get_or-set_same, get_or-set_other, length-set}
use Rattle.std.specs.Prelude.{if◌then◌else◌}
use Rattle.ckd_types.specs.declared.paths.Side.TheVariants.{A, B}
use Rattle.device_defs.specs.declared.owed.Owed.{Owed}
use Rattle.device_defs.specs.Between.{HasSizes}
use Rattle.device_defs.specs.Contents.{Contents}
use Rattle.device_defs.specs.Effects.{hardened}
use Rattle.device_defs.specs.Losses.{without_frame, without_patch, gives_up, slot_in, stale_everywhere}
use Rattle.device_defs.specs.Store.{
  HalfWrite,
  Store,
  tracks_of,
  frame_at,
  patch_at,
  with_stale,
  with_frame,
  with_patch,
  with_lost,
  with_loose,
  with_owed,
  owed_at,
}
use Rattle.device_laws.proofs.TrackMarks as M
use Rattle.device_laws.proofs.TrackMarks.{TrackMarks, marks, frame_mark, track_at}

-- what no change of one track touches
pub record Rest (H : Type 0) : Type 0 where
  pub cylinders : ℕ
  pub paired : Bool
  pub lent : Option ℕ
  pub held : Bool
  pub up_a : Bool
  pub up_b : Bool
  pub half : Option (HalfWrite H)
  pub queue : List ℕ

module _ {F P H : Type 0} where
  unfoldable pub rest_of : Store F P H → Rest H
  rest_of s = record {
    cylinders = s.cylinders;
    paired = s.paired;
    lent = s.lent;
    held = s.held;
    up_a = s.a.up;
    up_b = s.b.up;
    half = s.half;
    queue = s.queue;
  }

module _ {F P H R : Type 0} (c : Contents F P H R) where
  pub record Changed (s z : Store F P H) (t : ℕ) (x : TrackMarks) : Type 0 where
    pub sizes : HasSizes z
    pub rest : rest_of z ≡ rest_of s
    pub elsewhere : (q : ℕ) → q ≢ t → track_at c z q ≡ track_at c s q
    pub here : track_at c z t ≡ x

  pub unchanged : (s : Store F P H) (t : ℕ) → HasSizes s → Changed s s t (track_at c s t)
  unchanged s t sizes = record { sizes = sizes; rest = refl; elsewhere = λ q ne. refl; here = refl }

  -- one change after another, of the same track
  pub changed_twice : {s z y : Store F P H} {t : ℕ} {x w : TrackMarks} → Changed s z t x → Changed z y t w → Changed s y t w
  changed_twice f g = record { sizes = g.sizes; rest = g.rest ∙ f.rest; elsewhere = λ q ne. g.elsewhere q ne ∙ f.elsewhere q ne; here = g.here }

  pub changed_frame : (s : Store F P H) (t : ℕ) (f : Option F) → t < tracks_of s → HasSizes s →
      Changed s (with_frame s t f) t (record (track_at c s t) { frame = frame_mark c f })
  unfolding M.track_at rest_of
  changed_frame s t f lt sizes = record {
    sizes = record { are = simp length-set sizes.are };
    rest = refl;
    elsewhere = λ q ne. grind (arith, get_or-set_other);
    here = let e : length s.frames ≡ tracks_of s = cc (sizes.are) in grind (arith, get_or-set_same);
  }

  pub changed_patch : (s : Store F P H) (t : ℕ) (p : Option P) → t < tracks_of s → HasSizes s →
      Changed s (with_patch s t p) t (record (track_at c s t) { patched = is_some p })
  unfolding M.track_at rest_of
  changed_patch s t p lt sizes = record {
    sizes = record { are = simp length-set sizes.are };
    rest = refl;
    elsewhere = λ q ne. grind (arith, get_or-set_other);
    here = let e : length s.patches ≡ tracks_of s = cc (sizes.are) in grind (arith, get_or-set_same);
  }

  pub changed_lost : (s : Store F P H) (t : ℕ) → t < tracks_of s → HasSizes s →
      Changed s (with_lost s t) t (record (track_at c s t) { lost = true })
  unfolding M.track_at rest_of
  changed_lost s t lt sizes = record {
    sizes = record { are = simp length-set sizes.are };
    rest = refl;
    elsewhere = λ q ne. grind (arith, get_or-set_other);
    here = let e : length s.lost ≡ tracks_of s = cc (sizes.are) in grind (arith, get_or-set_same);
  }

  pub changed_loose : (s : Store F P H) (t : ℕ) (b : Bool) → t < tracks_of s → HasSizes s →
      Changed s (with_loose s t b) t (record (track_at c s t) { loose = b })
  unfolding M.track_at rest_of
  changed_loose s t b lt sizes = record {
    sizes = record { are = simp length-set sizes.are };
    rest = refl;
    elsewhere = λ q ne. grind (arith, get_or-set_other);
    here = let e : length s.loose ≡ tracks_of s = cc (sizes.are) in grind (arith, get_or-set_same);
  }

  -- what is owed of a track isn't among its marks
  pub changed_owed : {s z : Store F P H} {t : ℕ} {x : TrackMarks} (q : ℕ) (o : Owed) → Changed s z t x → Changed s (with_owed z q o) t x
  unfolding M.track_at rest_of
  changed_owed q o f = record { sizes = record { are = simp length-set f.sizes.are }; rest = f.rest; elsewhere = f.elsewhere; here = f.here }

  pub changed_hardened : (s : Store F P H) (t : ℕ) → t < tracks_of s → HasSizes s →
      Changed s (hardened s t) t (record (track_at c s t) { loose = false })
  unfolding M.track_at rest_of
  changed_hardened s t lt sizes = let f = changed_loose s t false lt sizes in
      record { sizes = record { are = f.sizes.are }; rest = f.rest; elsewhere = f.elsewhere; here = f.here }

  -- a frame and a patch are given up
  frame_by : (s : Store F P H) (t : ℕ) (o : Option F) → frame_at s t ≡ o → t < tracks_of s → HasSizes s →
      Changed s (if is_some o then with_owed (with_frame s t None) t (record (owed_at s t) { dropped = true }) else s) t
      (record (track_at c s t) { frame = None })
  unfolding M.track_at rest_of
  frame_by s t None e lt sizes = record {
    sizes = sizes;
    rest = refl;
    elsewhere = λ q ne. refl;
    here = ap (λ (o : Option F). record (track_at c s t) { frame = frame_mark c o }) e;
  }
  frame_by s t (Some f) e lt sizes = changed_owed t _ (changed_frame s t None lt sizes)

  pub changed_unframed : (s : Store F P H) (t : ℕ) → t < tracks_of s → HasSizes s →
      Changed s (without_frame s t) t (record (track_at c s t) { frame = None })
  changed_unframed s t lt sizes = frame_by s t (frame_at s t) refl lt sizes

  patch_by : (s : Store F P H) (t : ℕ) (o : Option P) → patch_at s t ≡ o → t < tracks_of s → HasSizes s →
      Changed s (gives_up s t (slot_in c o)) t (record (track_at c s t) { patched = false })
  unfolding M.track_at rest_of
  patch_by s t None e lt sizes = record {
    sizes = sizes;
    rest = refl;
    elsewhere = λ q ne. refl;
    here = ap (λ (o : Option P). record (track_at c s t) { patched = is_some o }) e;
  }
  patch_by s t (Some p) e lt sizes = changed_owed t _ (changed_patch s t None lt sizes)

  pub changed_unpatched : (s : Store F P H) (t : ℕ) → t < tracks_of s → HasSizes s →
      Changed s (without_patch c s t) t (record (track_at c s t) { patched = false })
  changed_unpatched s t lt sizes = patch_by s t (patch_at s t) refl lt sizes

  -- a track becomes stale on every side
  no_level : (up x : Bool) → x ≡ true → (up && not x) ≡ false
  no_level true x e = rw e refl
  no_level false x e = refl

  neither : (x y : Bool) → x ≡ false → y ≡ false → (x || y) ≡ false
  neither x y e f = rw (e, f) refl

  down_none : (up x : Bool) → up ≡ false → (up && not x) ≡ false
  down_none up x e = rw e refl

  stale_by : (s : Store F P H) (t : ℕ) (b : Bool) → (b ≡ false → s.b.up ≡ false) → t < tracks_of s → HasSizes s →
      Changed s (if b then with_stale (with_stale s A t true) B t true else with_stale s A t true) t (record (track_at c s t) { level = false })
  unfolding M.track_at rest_of
  stale_by s t true alone lt sizes =
      let la : length s.a.stale ≡ tracks_of s = cc (sizes.are) in
      let lb : length s.b.stale ≡ tracks_of s = cc (sizes.are) in
      let a : get_or (set s.a.stale t true) t false ≡ true = grind (arith, get_or-set_same) in
      let b : get_or (set s.b.stale t true) t false ≡ true = grind (arith, get_or-set_same) in
      record {
        sizes = record { are = simp length-set sizes.are };
        rest = refl;
        elsewhere = λ q ne. grind (arith, get_or-set_other);
        here = ap (λ (v : Bool). record (track_at c s t) { level = v }) (neither _ _ (no_level s.a.up _ a) (no_level s.b.up _ b));
      }
  stale_by s t false alone lt sizes =
      let la : length s.a.stale ≡ tracks_of s = cc (sizes.are) in
      let a : get_or (set s.a.stale t true) t false ≡ true = grind (arith, get_or-set_same) in
      record {
        sizes = record { are = simp length-set sizes.are };
        rest = refl;
        elsewhere = λ q ne. grind (arith, get_or-set_other);
        here = ap (λ (v : Bool). record (track_at c s t) { level = v }) (neither _ _ (no_level s.a.up _ a) (down_none s.b.up _ (alone refl)));
      }

  pub changed_stale_everywhere : (s : Store F P H) (t : ℕ) → (s.paired ≡ false → s.b.up ≡ false) → t < tracks_of s → HasSizes s →
      Changed s (stale_everywhere s t) t (record (track_at c s t) { level = false })
  changed_stale_everywhere s t alone lt sizes = stale_by s t s.paired alone lt sizes
