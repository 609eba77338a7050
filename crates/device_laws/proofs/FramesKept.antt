-- While the cache isn't lost, each track with a patch has a frame: so it stays behind each part of an event in which no call fails.
use Rattle.std.proofs.Common.{◌≡◌, ◌≢◌, ◌==◌, ℕ, true, false, List, Option, Some, None, is_some, set, get_or, sym, ap, ◌∙◌, ◌⊎◌, inl, inr, refl}
use Rattle.std.proofs.lemmas.Bool.{cases_eq, eqb-false, ne_eqb}
use Rattle.std.proofs.lemmas.List.{get_or-set_other}
use Rattle.std.specs.Prelude.{not}
use Rattle.device_defs.specs.Contents.{Contents}
use Rattle.device_defs.specs.Owed.{is_clean, hear}
use Rattle.device_defs.specs.Store.{HalfWrite, Store, half_is}
use Rattle.device_laws.proofs.HeldPlaces.{never, some_still, none_still, no_more, put_at}
use Rattle.device_laws.proofs.Lucky.{Lucky}
use Rattle.device_laws.proofs.PoolWalks.{asks_lucky, hear_asks}

-- what a store has of its frames and patches
pub record Plates (F P H : Type 0) : Type 0 where
  pub frames : List (Option F)
  pub patches : List (Option P)
  pub half : Option (HalfWrite H)

abbrev pub plates_of : {F P H : Type 0} → Store F P H → Plates F P H
plates_of s = record { frames = s.frames; patches = s.patches; half = s.half }

module _ {F P H R : Type 0} (c : Contents F P H R) where
  -- each track with a patch has a frame, and one with a clean frame has no patch; but for the track of an open half write
  pub record HasFrames (x : Plates F P H) : Type 0 where
    pub framed : (q : ℕ) → half_is x.half q ≡ false → is_some (get_or x.patches q None) ≡ true → is_some (get_or x.frames q None) ≡ true
    pub clean : (q : ℕ) → half_is x.half q ≡ false → is_clean c (get_or x.frames q None) ≡ true → is_some (get_or x.patches q None) ≡ false

  -- and but for one that is written
  pub record HasFramesBut (t : ℕ) (x : Plates F P H) : Type 0 where
    pub framed : (q : ℕ) → q ≢ t → half_is x.half q ≡ false → is_some (get_or x.patches q None) ≡ true → is_some (get_or x.frames q None) ≡ true
    pub clean : (q : ℕ) → q ≢ t → half_is x.half q ≡ false → is_clean c (get_or x.frames q None) ≡ true → is_some (get_or x.patches q None) ≡ false

  pub but_one : (t : ℕ) (x : Plates F P H) → HasFrames x → HasFramesBut t x
  but_one t x f = record { framed = λ q ne. f.framed q; clean = λ q ne. f.clean q }

  -- where frames and patches change at one place, that is right, and all others were
  at_place : (x : Plates F P H) (t : ℕ) (l : List (Option F)) (m : List (Option P)) →
      ((q : ℕ) → q ≢ t → (get_or l q None ≡ get_or x.frames q None) × (get_or m q None ≡ get_or x.patches q None)) →
      (half_is x.half t ≡ false → is_some (get_or m t None) ≡ true → is_some (get_or l t None) ≡ true) →
      (half_is x.half t ≡ false → is_clean c (get_or l t None) ≡ true → is_some (get_or m t None) ≡ false) → HasFramesBut t x →
      HasFrames (record x { frames = l; patches = m })
  at_place x t l m others framed clean f = record { framed = λ q. framed_by q (cases_eq q t); clean = λ q. clean_by q (cases_eq q t) } where
    framed_by : (q : ℕ) → (q ≡ t) ⊎ (q ≢ t) → half_is x.half q ≡ false → is_some (get_or m q None) ≡ true → is_some (get_or l q None) ≡ true
    framed_by q (inl is) = rw is framed
    framed_by q (inr ne) = λ none patched.
        ap (λ (o : Option F). is_some o) (others q ne).0 ∙ f.framed q ne none (sym (ap (λ (o : Option P). is_some o) (others q ne).1) ∙ patched)

    clean_by : (q : ℕ) → (q ≡ t) ⊎ (q ≢ t) → half_is x.half q ≡ false → is_clean c (get_or l q None) ≡ true → is_some (get_or m q None) ≡ false
    clean_by q (inl is) = rw is clean
    clean_by q (inr ne) = λ none clean.
        ap (λ (o : Option P). is_some o) (others q ne).1 ∙ f.clean q ne none (sym (ap (λ (o : Option F). is_clean c o) (others q ne).0) ∙ clean)

  -- a frame that is modified
  not_clean : {X : Type 0} (l : List (Option F)) (t : ℕ) (g : F) → c.modified g ≡ true → is_clean c (get_or (set l t (Some g)) t None) ≡ true → X
  not_clean {X} l t g modified clean = by_place (put_at l t g)
    where
      by_place : (get_or (set l t (Some g)) t None ≡ Some g) ⊎ (get_or (set l t (Some g)) t None ≡ None) → X
      by_place (inl is) = never (not (c.modified g)) (sym (ap (λ (o : Option F). is_clean c o) is) ∙ clean) (ap not modified)
      by_place (inr gone) = never (is_clean c None) (sym (ap (λ (o : Option F). is_clean c o) gone) ∙ clean) refl

  -- a clean frame goes
  pub drop_framed : (x : Plates F P H) (t : ℕ) → is_clean c (get_or x.frames t None) ≡ true → HasFrames x →
      HasFrames (record x { frames = set x.frames t None })
  drop_framed x t clean f =
      at_place x t (set x.frames t None) x.patches (λ q ne. (get_or-set_other x.frames t q None None ne, refl))
      (λ none patched. never (is_some (get_or x.patches t None)) patched (f.clean t none clean)) (λ none gone. f.clean t none clean) (but_one t x f)

  -- a frame comes, modified, or of a track without a patch
  pub some_framed : (x : Plates F P H) (t : ℕ) (g : F) → ((c.modified g ≡ true) ⊎ (is_some (get_or x.patches t None) ≡ false)) → HasFrames x →
      HasFrames (record x { frames = set x.frames t (Some g) })
  some_framed x t g how f =
      at_place x t (set x.frames t (Some g)) x.patches (λ q ne. (get_or-set_other x.frames t q (Some g) None ne, refl))
      (λ none patched. some_still x.frames t t g (f.framed t none patched)) (λ none clean. here how clean) (but_one t x f)
    where
      here : ((c.modified g ≡ true) ⊎ (is_some (get_or x.patches t None) ≡ false)) → is_clean c (get_or (set x.frames t (Some g)) t None) ≡ true →
          is_some (get_or x.patches t None) ≡ false
      here (inl modified) clean = not_clean x.frames t g modified clean
      here (inr bare) clean = bare

  -- a patch goes
  pub unpatched_framed : (x : Plates F P H) (t : ℕ) → HasFrames x → HasFrames (record x { patches = set x.patches t None })
  unpatched_framed x t f = record {
    framed = λ q none patched. f.framed q none (no_more x.patches t q patched);
    clean = λ q none clean. none_still x.patches t q (f.clean q none clean);
  }

  -- Notices

  pub hear_framed : (n : ℕ) (s : Store F P H) → HasFrames (plates_of s) → Lucky (λ y (a : Unit {0}). HasFrames (plates_of y)) (hear c n s)
  hear_framed n s f = asks_lucky (hear_asks c (λ z. HasFrames (plates_of z)) (λ z t clean g. drop_framed (plates_of z) t clean g) n s f)

  -- Of the track that is written

  pub but_frame : (x : Plates F P H) (t : ℕ) (o : Option F) → HasFramesBut t x → HasFramesBut t (record x { frames = set x.frames t o })
  but_frame x t o f = record {
    framed = λ q ne none patched. ap (λ (g : Option F). is_some g) (get_or-set_other x.frames t q o None ne) ∙ f.framed q ne none patched;
    clean = λ q ne none clean. f.clean q ne none (sym (ap (is_clean c) (get_or-set_other x.frames t q o None ne)) ∙ clean);
  }

  pub all_framed : (x : Plates F P H) (t : ℕ) → HasFramesBut t x → is_some (get_or x.patches t None) ≡ false → HasFrames x
  all_framed x t f bare =
      at_place x t x.frames x.patches (λ q ne. (refl, refl)) (λ none patched. never (is_some (get_or x.patches t None)) patched bare) (λ none clean. bare) f

  -- it gets a modified frame and a patch
  pub patched_framed : (x : Plates F P H) (t : ℕ) (g : F) (o : Option P) → c.modified g ≡ true → is_some (get_or x.frames t None) ≡ true → HasFrames x →
      HasFrames (record x { frames = set x.frames t (Some g); patches = set x.patches t o })
  patched_framed x t g o modified there f =
      at_place x t (set x.frames t (Some g)) (set x.patches t o)
      (λ q ne. (get_or-set_other x.frames t q (Some g) None ne, get_or-set_other x.patches t q o None ne)) (λ none patched. some_still x.frames t t g there)
      (λ none clean. not_clean x.frames t g modified clean) (but_one t x f)

  -- a half write of it is opened
  pub opened_framed : (x : Plates F P H) (h : HalfWrite H) → HasFramesBut h.track x → x.half ≡ None → HasFrames (record x { half = Some h })
  opened_framed x h f none = record {
    framed = λ q other patched. f.framed q (apart q other) (whole q) patched;
    clean = λ q other clean. f.clean q (apart q other) (whole q) clean;
  } where
    apart : (q : ℕ) → (h.track == q) ≡ false → q ≢ h.track
    apart q other = λ is. eqb-false h.track q other (sym is)

    whole : (q : ℕ) → half_is x.half q ≡ false
    whole q = ap (λ (o : Option (HalfWrite H)). half_is o q) none

  -- of a half write that ends, whatever its own track has
  pub closed_but : (x : Plates F P H) (h : HalfWrite H) → x.half ≡ Some h → HasFrames x → HasFramesBut h.track (record x { half = None })
  closed_but x h is f = record { framed = λ q ne none. f.framed q (other q ne); clean = λ q ne none. f.clean q (other q ne) } where
    other : (q : ℕ) → q ≢ h.track → half_is x.half q ≡ false
    other q ne = ap (λ (o : Option (HalfWrite H)). half_is o q) is ∙ ne_eqb h.track q (λ same. ne (sym same))
