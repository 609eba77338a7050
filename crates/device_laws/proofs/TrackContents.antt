-- What a store and its sides hold of one track, and when that is right.
use Rattle.std.proofs.Common.{◌≡◌, ℕ, ◌==◌, Bool, true, false, List, [], Option, None, Some, get_or, refl, sym, ap, subst, ◌∙◌, arith, ◌⊎◌, inl, inr}
use Rattle.ckd_types.specs.declared.geometry.Geometry.{Geometry}
use Rattle.ckd_types.specs.declared.paths.Side.{Side}
use Rattle.ckd_types.specs.declared.paths.Side.TheVariants.{A, B}
use Rattle.ckd_types.specs.Track.{track_bytes}
use Rattle.track_image.specs.Image.{Image}
use Rattle.track_cache.specs.declared.frames.Frame.{Frame}
use Rattle.nv_store.specs.declared.patches.Stored.{Stored}
use Rattle.device_outside.specs.After.{holds_of}
use Rattle.device_defs.specs.Contents.{contents, patched_by, image_read}
use Rattle.device_defs.specs.Sound.{DeviceStore, IsKept, IsWritten, FrameBy, IsHeldBy, IsHeld, written_on}
use Rattle.device_defs.specs.Store.{
  Origin,
  OfCommand,
  OfCut,
  OfBackground,
  HalfWrite,
  side_of,
  level_at,
  frame_at,
  patch_at,
  is_lost,
  is_loose,
  half_is,
  owed_at,
}
use Rattle.device_laws.specs.Agrees.{Held, PatchHas, PatchFits, PatchOf}
use Rattle.device_laws.specs.PlainWrites.{OriginSuits}

pub record TrackContents : Type 0 where
  pub frame : Option Frame
  pub patch : Option Stored
  pub lost : Bool
  pub loose : Bool
  pub a : Bool  -- level on side A
  pub b : Bool
  pub on_a : List ℕ  -- the bytes of side A
  pub on_b : List ℕ
  pub freed : Option ℕ  -- a slot that is still owed to the pool
  pub debt : Bool  -- whether the keeper is still to be told that it became firm

unfoldable pub contents_at : DeviceStore → Held → ℕ → TrackContents
contents_at s h t = record {
  frame = frame_at s t;
  patch = patch_at s t;
  lost = is_lost s t;
  loose = is_loose s t;
  a = level_at s.a t;
  b = level_at s.b t;
  on_a = get_or h.a t [];
  on_b = get_or h.b t [];
  freed = (owed_at s t).freed;
  debt = (owed_at s t).firm;
}

-- By a test
abbrev pub By : Bool → Type 0 → Type 0 → Type 0
By b X Y = elim b [ true ↦ X | false ↦ Y ]

-- When it is right

abbrev pub FrameHas : Option Frame → Image → Type 0
FrameHas o i = (f : Frame) → o ≡ Some f → f.image ≡ i

abbrev pub SideHas : Geometry → ℕ → Option Stored → Bool → List ℕ → Image → Type 0
SideHas g t p level bytes i = level ≡ true → patched_by p (image_read g t bytes) ≡ Some i

pub record Keeps (g : Geometry) (t : ℕ) (x : TrackContents) (plain firm : Image) : Type 0 where
  pub frame : FrameHas x.frame plain
  pub a : SideHas g t x.patch x.a x.on_a firm
  pub b : SideHas g t x.patch x.b x.on_b firm
  pub patch : PatchFits x.patch plain firm

abbrev pub FrameOf : Origin → Option Frame → Image → Type 0
FrameOf (OfCommand bypass e) o i = FrameHas o i
FrameOf (OfCut bypass) o i = Unit {0}
FrameOf OfBackground o i = FrameHas o i

pub record Writes (x : TrackContents) (plain : Image) (w : HalfWrite Image) : Type 0 where
  pub image : w.image ≡ written_on plain w.origin
  pub a : x.a ≡ true → x.on_a ≡ track_bytes w.image.track
  pub b : x.b ≡ true → x.on_b ≡ track_bytes w.image.track
  pub frame : FrameOf w.origin x.frame plain
  pub patch : PatchOf w.origin x.patch plain
  pub suits : OriginSuits plain.geometry plain.track w.origin

abbrev pub HeldBy : Geometry → ℕ → TrackContents → Image → Image → Option (HalfWrite Image) → Type 0
HeldBy g t x plain firm None = Keeps g t x plain firm
HeldBy g t x plain firm (Some w) = By (w.track == t) (Writes x plain w) (Keeps g t x plain firm)

-- a lost track may be anything
abbrev pub IsRight : Geometry → ℕ → Option (HalfWrite Image) → TrackContents → Image → Image → Type 0
IsRight g t half x plain firm = By x.lost (Unit {0}) (HeldBy g t x plain firm half)

-- By cases

pub lost_case : (X Y : Type 0) (b c : Bool) → (b ≡ true → c ≡ true) → (X → Y) → By b (Unit {0}) (X) → By c (Unit {0}) (Y)
lost_case X Y true true e k r = tt
lost_case X Y true false e k r = absurd (let n = e refl in cc)
lost_case X Y false true e k r = tt
lost_case X Y false false e k r = k r

pub own_case : (X Y V W : Type 0) (b : Bool) → (X → Y) → (V → W) → By b (X) (V) → By b (Y) (W)
own_case X Y V W true f g r = f r
own_case X Y V W false f g r = g r

-- a track that isn't lost is right by these
pub right_by : (g : Geometry) (t : ℕ) (half : Option (HalfWrite Image)) (x : TrackContents) (plain firm : Image) →
    HeldBy g t x plain firm half → IsRight g t half x plain firm
right_by g t half x plain firm k = go x.lost
  where
    go : (b : Bool) → By b (Unit {0}) (HeldBy g t x plain firm half)
    go true = tt
    go false = k

pub right_lost : (g : Geometry) (t : ℕ) (half : Option (HalfWrite Image)) (x : TrackContents) (plain firm : Image) →
    x.lost ≡ true → IsRight g t half x plain firm
right_lost g t half x plain firm e = go x.lost e
  where
    go : (b : Bool) → b ≡ true → By b (Unit {0}) (HeldBy g t x plain firm half)
    go true e = tt
    go false e = absurd (cc)

pub held_of : (g : Geometry) (t : ℕ) (half : Option (HalfWrite Image)) (x : TrackContents) (plain firm : Image) →
    x.lost ≡ false → IsRight g t half x plain firm → HeldBy g t x plain firm half
held_of g t half x plain firm e r = go x.lost e r
  where
    go : (b : Bool) → b ≡ false → By b (Unit {0}) (HeldBy g t x plain firm half) → HeldBy g t x plain firm half
    go true e r = absurd (cc)
    go false e r = r

-- of a track that no half write is open on
pub keeps_other : (g : Geometry) (t : ℕ) (w : HalfWrite Image) (x : TrackContents) (plain firm : Image) → (w.track == t) ≡ false →
    HeldBy g t x plain firm (Some w) → Keeps g t x plain firm
keeps_other g t w x plain firm e k = go (w.track == t) e k
  where
    go : (b : Bool) → b ≡ false → By b (Writes x plain w) (Keeps g t x plain firm) → Keeps g t x plain firm
    go true e r = absurd (cc)
    go false e r = r

pub other_keeps : (g : Geometry) (t : ℕ) (w : HalfWrite Image) (x : TrackContents) (plain firm : Image) → (w.track == t) ≡ false →
    Keeps g t x plain firm → HeldBy g t x plain firm (Some w)
other_keeps g t w x plain firm e k = go (w.track == t) e
  where
    go : (b : Bool) → b ≡ false → By b (Writes x plain w) (Keeps g t x plain firm)
    go true e = absurd (cc)
    go false e = k

pub writes_own : (g : Geometry) (t : ℕ) (w : HalfWrite Image) (x : TrackContents) (plain firm : Image) → (w.track == t) ≡ true →
    HeldBy g t x plain firm (Some w) → Writes x plain w
writes_own g t w x plain firm e k = go (w.track == t) e k
  where
    go : (b : Bool) → b ≡ true → By b (Writes x plain w) (Keeps g t x plain firm) → Writes x plain w
    go true e r = r
    go false e r = absurd (cc)

pub own_writes : (g : Geometry) (t : ℕ) (w : HalfWrite Image) (x : TrackContents) (plain firm : Image) → (w.track == t) ≡ true →
    Writes x plain w → HeldBy g t x plain firm (Some w)
own_writes g t w x plain firm e k = go (w.track == t) e
  where
    go : (b : Bool) → b ≡ true → By b (Writes x plain w) (Keeps g t x plain firm)
    go true e = k
    go false e = absurd (cc)

-- Less is right, too

-- a track of which y has no more than x
pub record Fewer (x y : TrackContents) : Type 0 where
  pub lost : x.lost ≡ true → y.lost ≡ true
  pub frame : (i : Image) → FrameHas x.frame i → FrameHas y.frame i
  pub patch : y.patch ≡ x.patch
  pub a : y.a ≡ true → (x.a ≡ true) × (y.on_a ≡ x.on_a)
  pub b : y.b ≡ true → (x.b ≡ true) × (y.on_b ≡ x.on_b)

side_fewer : (g : Geometry) (t : ℕ) (p q : Option Stored) (bytes others : List ℕ) (i : Image) → q ≡ p → others ≡ bytes →
    patched_by p (image_read g t bytes) ≡ Some i → patched_by q (image_read g t others) ≡ Some i
side_fewer g t p q bytes others i e f k =
    ap (λ (o : Option Stored). patched_by o (image_read g t others)) e ∙ ap (λ (l : List ℕ). patched_by p (image_read g t l)) f ∙ k

frame_fewer : (origin : Origin) (x y : TrackContents) (i : Image) → Fewer x y → FrameOf origin x.frame i → FrameOf origin y.frame i
frame_fewer (OfCommand bypass e) x y i less k = less.frame i k
frame_fewer (OfCut bypass) x y i less k = tt
frame_fewer OfBackground x y i less k = less.frame i k

pub keeps_fewer : (g : Geometry) (t : ℕ) (x y : TrackContents) (plain firm : Image) → Fewer x y → Keeps g t x plain firm → Keeps g t y plain firm
keeps_fewer g t x y plain firm less k = record {
  frame = less.frame plain k.frame;
  a = λ e. let u = less.a e in side_fewer g t x.patch y.patch x.on_a y.on_a firm less.patch u.1 (k.a u.0);
  b = λ e. let u = less.b e in side_fewer g t x.patch y.patch x.on_b y.on_b firm less.patch u.1 (k.b u.0);
  patch = subst (λ (o : Option Stored). PatchFits o plain firm) (sym less.patch) k.patch;
}

writes_fewer : (x y : TrackContents) (plain : Image) (w : HalfWrite Image) → Fewer x y → Writes x plain w → Writes y plain w
writes_fewer x y plain w less k = record {
  image = k.image;
  a = λ e. let u = less.a e in u.1 ∙ k.a u.0;
  b = λ e. let u = less.b e in u.1 ∙ k.b u.0;
  frame = frame_fewer w.origin x y plain less k.frame;
  patch = subst (λ (o : Option Stored). PatchOf w.origin o plain) (sym less.patch) k.patch;
  suits = k.suits;
}

held_fewer : (g : Geometry) (t : ℕ) (half : Option (HalfWrite Image)) (x y : TrackContents) (plain firm : Image) → Fewer x y →
    HeldBy g t x plain firm half → HeldBy g t y plain firm half
held_fewer g t None x y plain firm less k = keeps_fewer g t x y plain firm less k
held_fewer g t (Some w) x y plain firm less k =
    own_case (Writes x plain w) (Writes y plain w) (Keeps g t x plain firm) (Keeps g t y plain firm) (w.track == t)
    (writes_fewer x y plain w less) (keeps_fewer g t x y plain firm less) k

pub right_fewer : (g : Geometry) (t : ℕ) (half : Option (HalfWrite Image)) (x y : TrackContents) (plain firm : Image) → Fewer x y →
    IsRight g t half x plain firm → IsRight g t half y plain firm
right_fewer g t half x y plain firm less r =
    lost_case (HeldBy g t x plain firm half) (HeldBy g t y plain firm half) x.lost y.lost less.lost (held_fewer g t half x y plain firm less) r

-- It is what soundness says, and what is known of its patch

-- of a track that a half write is open on
pub record Opened (s : DeviceStore) (t : ℕ) (plain : Image) (w : HalfWrite Image) : Type 0 where
  pub patch : PatchOf w.origin (patch_at s t) plain
  pub suits : OriginSuits plain.geometry plain.track w.origin

module _ (s : DeviceStore) (h : Held) (t : ℕ) (plain firm : Image) where
  sides_of : Keeps s.geometry t (contents_at s h t) plain firm → (side : Side) → level_at (side_of s side) t ≡ true →
      contents.read s.geometry t (patch_at s t) (get_or (holds_of h side) t []) firm ≡ Some firm
  unfolding contents_at
  sides_of k A = k.a
  sides_of k B = k.b

  kept : Keeps s.geometry t (contents_at s h t) plain firm → IsKept s h t plain firm
  unfolding contents_at
  kept k = record { frame = k.frame; sides = sides_of k }

  keeps : PatchFits (patch_at s t) plain firm → IsKept s h t plain firm → Keeps s.geometry t (contents_at s h t) plain firm
  unfolding contents_at
  keeps f k = record { frame = k.frame; a = k.sides A; b = k.sides B; patch = f }

  module _ (w : HalfWrite Image) (own : w.track ≡ t) where
    frame_is : (origin : Origin) → FrameOf origin (frame_at s t) plain → FrameBy origin s w.track plain
    frame_is (OfCommand bypass e) k = subst (λ (q : ℕ). FrameHas (frame_at s q) plain) (sym own) k
    frame_is (OfCut bypass) k = tt
    frame_is OfBackground k = subst (λ (q : ℕ). FrameHas (frame_at s q) plain) (sym own) k

    is_frame : (origin : Origin) → FrameBy origin s w.track plain → FrameOf origin (frame_at s t) plain
    is_frame (OfCommand bypass e) k = subst (λ (q : ℕ). FrameHas (frame_at s q) plain) own k
    is_frame (OfCut bypass) k = tt
    is_frame OfBackground k = subst (λ (q : ℕ). FrameHas (frame_at s q) plain) own k

    sides_written : Writes (contents_at s h t) plain w → (side : Side) → level_at (side_of s side) w.track ≡ true →
        get_or (holds_of h side) w.track [] ≡ contents.bytes w.image
    unfolding contents_at
    sides_written k A = rw own k.a
    sides_written k B = rw own k.b

    written : Writes (contents_at s h t) plain w → IsWritten s h plain w
    unfolding contents_at
    written k = record { image = k.image; sides = sides_written k; frame = frame_is w.origin k.frame }

    writes : Opened s t plain w → IsWritten s h plain w → Writes (contents_at s h t) plain w
    unfolding contents_at
    writes o k = record {
      image = k.image;
      a = rw (← own) (k.sides A);
      b = rw (← own) (k.sides B);
      frame = is_frame w.origin k.frame;
      patch = o.patch;
      suits = o.suits;
    }

  own_track : (w : HalfWrite Image) → (w.track == t) ≡ true → w.track ≡ t
  own_track w e = grind arith

  to_case : (w : HalfWrite Image) (b : Bool) → (w.track == t) ≡ b →
      By b (Writes (contents_at s h t) plain w) (Keeps s.geometry t (contents_at s h t) plain firm) →
      By b (IsWritten s h plain w) (IsKept s h t plain firm)
  to_case w true e k = written w (own_track w e) k
  to_case w false e k = kept k

  from_case : (w : HalfWrite Image) (b : Bool) → (w.track == t) ≡ b → ((w.track == t) ≡ false → PatchFits (patch_at s t) plain firm) →
      (w.track ≡ t → Opened s t plain w) → By b (IsWritten s h plain w) (IsKept s h t plain firm) →
      By b (Writes (contents_at s h t) plain w) (Keeps s.geometry t (contents_at s h t) plain firm)
  from_case w true e f o k = writes w (own_track w e) (o (own_track w e)) k
  from_case w false e f o k = keeps (f e) k

  to_held : (half : Option (HalfWrite Image)) → HeldBy s.geometry t (contents_at s h t) plain firm half → IsHeldBy s h t plain firm half
  to_held None k = kept k
  to_held (Some w) k = to_case w (w.track == t) refl k

  from_held : (half : Option (HalfWrite Image)) → (half_is half t ≡ false → PatchFits (patch_at s t) plain firm) →
      ((w : HalfWrite Image) → half ≡ Some w → w.track ≡ t → Opened s t plain w) → IsHeldBy s h t plain firm half →
      HeldBy s.geometry t (contents_at s h t) plain firm half
  from_held None f o k = keeps (f refl) k
  from_held (Some w) f o k = from_case w (w.track == t) refl f (o w refl) k

  pub right_is_held : IsRight s.geometry t s.half (contents_at s h t) plain firm → IsHeld s h t plain firm
  unfolding contents_at
  right_is_held r =
      lost_case (HeldBy s.geometry t (contents_at s h t) plain firm s.half) (IsHeldBy s h t plain firm s.half) (is_lost s t) (is_lost s t)
      (λ e. e) (to_held s.half) r

  pub held_is_right : (is_lost s t ≡ false → half_is s.half t ≡ false → PatchFits (patch_at s t) plain firm) →
      ((w : HalfWrite Image) → s.half ≡ Some w → w.track ≡ t → Opened s t plain w) → IsHeld s h t plain firm →
      IsRight s.geometry t s.half (contents_at s h t) plain firm
  unfolding contents_at
  held_is_right f o r = by_lost (is_lost s t) refl r
    where
      by_lost : (l : Bool) → is_lost s t ≡ l → By l (Unit {0}) (IsHeldBy s h t plain firm s.half) →
          By l (Unit {0}) (HeldBy s.geometry t (contents_at s h t) plain firm s.half)
      by_lost true e r = tt
      by_lost false e r = from_held s.half (f e) o r

-- Where no side has it, only its frame counts

-- y is on no side, and has no more of a frame than x
pub record Bare (x y : TrackContents) : Type 0 where
  pub lost : x.lost ≡ true → y.lost ≡ true
  pub frame : (i : Image) → FrameHas x.frame i → FrameHas y.frame i
  pub a : y.a ≡ false
  pub b : y.b ≡ false

pub not_both : (b : Bool) → b ≡ false → b ≡ true → ⊥
not_both true e f = absurd (cc)
not_both false e f = absurd (cc)

-- it has no patch, or it has its patch still, where the firm track is the plain one now
abbrev pub Repatched : TrackContents → TrackContents → Image → Image → Type 0
Repatched x y plain other = (y.patch ≡ None) ⊎ ((y.patch ≡ x.patch) × (other ≡ plain))

none_has : (o : Option Stored) (i : Image) → o ≡ None → PatchHas o i
none_has o i e p f = absurd (cc)

pub none_fits : (o : Option Stored) (i j : Image) → o ≡ None → PatchFits o i j
none_fits o i j e = (none_has o i e, none_has o j e)

pub none_of : (origin : Origin) (o : Option Stored) (i : Image) → o ≡ None → PatchOf origin o i
none_of (OfCommand bypass e) o i f = none_has o i f
none_of (OfCut bypass) o i f = tt
none_of OfBackground o i f = none_has o i f

pub patch_of : (origin : Origin) (o : Option Stored) (i : Image) → PatchHas o i → PatchOf origin o i
patch_of (OfCommand bypass e) o i f = f
patch_of (OfCut bypass) o i f = tt
patch_of OfBackground o i f = f

fits_again : (x y : TrackContents) (plain firm other : Image) → Repatched x y plain other → PatchFits x.patch plain firm → PatchFits y.patch plain other
fits_again x y plain firm other (inl e) f = none_fits y.patch plain other e
fits_again x y plain firm other (inr e) f = rw e.0 (subst (λ (i : Image). PatchFits x.patch plain i) (sym e.1) (f.0, f.0))

of_again : (origin : Origin) (x y : TrackContents) (plain other : Image) → Repatched x y plain other → PatchOf origin x.patch plain →
    PatchOf origin y.patch plain
of_again origin x y plain other (inl e) f = none_of origin y.patch plain e
of_again origin x y plain other (inr e) f = subst (λ (o : Option Stored). PatchOf origin o plain) (sym e.0) f

keeps_bare : (g : Geometry) (t : ℕ) (x y : TrackContents) (plain firm other : Image) → Bare x y → Repatched x y plain other → Keeps g t x plain firm →
    Keeps g t y plain other
keeps_bare g t x y plain firm other bare again k = record {
  frame = bare.frame plain k.frame;
  a = λ e. absurd (not_both y.a bare.a e);
  b = λ e. absurd (not_both y.b bare.b e);
  patch = fits_again x y plain firm other again k.patch;
}

frame_bare : (origin : Origin) (x y : TrackContents) (i : Image) → Bare x y → FrameOf origin x.frame i → FrameOf origin y.frame i
frame_bare (OfCommand bypass e) x y i bare k = bare.frame i k
frame_bare (OfCut bypass) x y i bare k = tt
frame_bare OfBackground x y i bare k = bare.frame i k

writes_bare : (x y : TrackContents) (plain other : Image) (w : HalfWrite Image) → Bare x y → Repatched x y plain other → Writes x plain w → Writes y plain w
writes_bare x y plain other w bare again k = record {
  image = k.image;
  a = λ e. absurd (not_both y.a bare.a e);
  b = λ e. absurd (not_both y.b bare.b e);
  frame = frame_bare w.origin x y plain bare k.frame;
  patch = of_again w.origin x y plain other again k.patch;
  suits = k.suits;
}

held_bare : (g : Geometry) (t : ℕ) (half : Option (HalfWrite Image)) (x y : TrackContents) (plain firm other : Image) → Bare x y →
    Repatched x y plain other → HeldBy g t x plain firm half → HeldBy g t y plain other half
held_bare g t None x y plain firm other bare again k = keeps_bare g t x y plain firm other bare again k
held_bare g t (Some w) x y plain firm other bare again k =
    own_case (Writes x plain w) (Writes y plain w) (Keeps g t x plain firm) (Keeps g t y plain other) (w.track == t)
    (writes_bare x y plain other w bare again) (keeps_bare g t x y plain firm other bare again) k

pub right_bare : (g : Geometry) (t : ℕ) (half : Option (HalfWrite Image)) (x y : TrackContents) (plain firm other : Image) → Bare x y →
    Repatched x y plain other → IsRight g t half x plain firm → IsRight g t half y plain other
right_bare g t half x y plain firm other bare again r =
    lost_case (HeldBy g t x plain firm half) (HeldBy g t y plain other half) x.lost y.lost bare.lost (held_bare g t half x y plain firm other bare again) r
