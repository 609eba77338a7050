-- What soundness of contents is shown by, and refuted by, of devices that are tried by hand.
use Rattle.std.proofs.Common.{◌≡◌, ◌∙◌, ◌==◌, ℕ, Bool, true, false, true≢false, List, [], Option, Some, None, refl}
use Rattle.std.proofs.Common.{sym, ap, slice_index_or, slice_set, if◌then◌else◌, replicate, ◌||◌, subst, arith}
use Rattle.ckd_types.specs.declared.geometry.Geometry.TheVariants.{D3390}
use Rattle.ckd_types.specs.declared.paths.Side.{Side}
use Rattle.ckd_types.specs.declared.paths.Side.TheVariants.{A, B}
use Rattle.ckd_types.specs.declared.record.Edit.TheVariants.{Update}
use Rattle.ckd_types.specs.Edit.{apply_edit}
use Rattle.ckd_types.specs.Track.{empty_track, track_bytes}
use Rattle.nv_store.specs.declared.patches.Stored.{Stored}
use Rattle.nv_store.specs.Patch.{no_edits, added}
use Rattle.plain_defs.specs.Loose.{is_loose_there as is_plainly_loose}
use Rattle.track_cache.specs.declared.frames.Frame.{Frame}
use Rattle.track_image.specs.Image.{Image}
use Rattle.device_outside.specs.After.{Holdings, holds_of}
use Rattle.device_defs.specs.Contents.{contents, image_read}
use Rattle.device_defs.specs.Sound.{
  DeviceStore,
  FrameBy,
  FrameIs,
  IsHeldBy,
  IsKept,
  IsSoundAt,
  IsWritten,
  firm_image,
  has_sound_marks,
  plain_device,
  plain_image,
  written_on,
}
use Rattle.device_defs.specs.Store.{
  HalfWrite,
  OfBackground,
  OfCommand,
  OfCut,
  Origin,
  frame_at,
  half_is,
  is_loose,
  is_lost,
  level_at,
  patch_at,
  side_of,
}
use Rattle.device_defs.proofs.Own.{Own, World, all_do, own_of, prepared}
use Rattle.device_defs.proofs.Stand.{Event, Stand, body_of, new_data}

-- Devices, with what their sides hold

-- behind some events of a new device, or of a level pair
abbrev pub behind : Stand → List Event → Own
behind s events = all_do (prepared (own_of s) s.device.store.paired s.told.b.plan.reads s.told.b.plan.writes) events

abbrev pub holdings : World → Holdings (List ℕ)
holdings w = record { a = w.a; b = w.b; slots = None }

abbrev pub SoundAt : Own → ℕ → Type 0
SoundAt o t = IsSoundAt o.device (holdings o.world) t

abbrev pub with_own : Own → DeviceStore → Own
with_own o s = record o { device = record o.device { store = s } }

-- other bytes of track 0 on side A, or on side B
abbrev pub with_bytes : Own → Side → List ℕ → Own
with_bytes o A bytes = record o { world = record o.world { a = slice_set o.world.a 0 bytes } }
with_bytes o B bytes = record o { world = record o.world { b = slice_set o.world.b 0 bytes } }

abbrev pub half_with : Option (HalfWrite Image) → Image → Option (HalfWrite Image)
half_with None i = None
half_with (Some h) i = Some (record h { image = i })

abbrev pub with_half_image : Own → Image → Own
with_half_image o i = with_own o (record o.device.store { half = half_with o.device.store.half i })

-- Images of track 0: empty, and with new data in record 0

abbrev pub old_image : Image
old_image = record { geometry = D3390; track = empty_track 0 }

abbrev pub new_image : Image
new_image = record { geometry = D3390; track = apply_edit (Update 0 [] new_data) (empty_track 0) }

abbrev pub fives_image : Image
fives_image = record { geometry = D3390; track = apply_edit (Update 0 [] (replicate 8 0x55)) (empty_track 0) }

-- an empty track
abbrev pub image_of : ℕ → Image
image_of t = record { geometry = D3390; track = empty_track t }

abbrev pub old_bytes : List ℕ
old_bytes = track_bytes old_image.track

abbrev pub new_bytes : List ℕ
new_bytes = track_bytes new_image.track

abbrev pub frame_of : Image → Bool → Option Frame
frame_of i modified = Some (record { image = i; modified = modified })

-- with the new data alone
abbrev pub first_patch : Option Stored
first_patch = Some (record { patch = added no_edits (Update 0 [] new_data); slot = 0 })

pub via : {X : Type 0} (x y z : X) → x ≡ z → y ≡ z → x ≡ y
via x y z a b = a ∙ sym b

-- They are sound

abbrev pub framed : Image → Option Frame → Image
framed plain None = plain
framed plain (Some f) = f.image

abbrev pub read_on : DeviceStore → Holdings (List ℕ) → ℕ → Image → Side → Option Image
read_on s h t kept side = contents.read s.geometry t (patch_at s t) (slice_index_or (holds_of h side) t []) kept

pub on_sides : (P : Side → Type 0) → P A → P B → (side : Side) → P side
on_sides P a b A = a
on_sides P a b B = b

pub kept_by : (s : DeviceStore) (h : Holdings (List ℕ)) (t : ℕ) (plain kept : Image) → framed plain (frame_at s t) ≡ plain →
    (level_at s.a t ≡ true → read_on s h t kept A ≡ Some kept) → (level_at s.b t ≡ true → read_on s h t kept B ≡ Some kept) →
    IsKept s h t plain kept
kept_by s h t plain kept frame a b = record {
  frame = λ f at. sym (ap (framed plain) at) ∙ frame;
  sides = on_sides (λ side. level_at (side_of s side) t ≡ true → read_on s h t kept side ≡ Some kept) a b;
}

-- what is said of a track that isn't being written: of a side that hasn't it level, the same
pub record Facts : Type 0 where
  pub marks : Bool
  pub loose : Bool
  pub plainly_loose : Bool
  pub lost : Bool
  pub plain : Image
  pub firm : Image
  pub frame : Image
  pub a : Option Image
  pub b : Option Image

abbrev pub told_on : Own → ℕ → Image → Side → Option Image
told_on o t kept side =
    if level_at (side_of o.device.store side) t then read_on o.device.store (holdings o.world) t kept side else Some kept

abbrev pub facts_of : Own → ℕ → Facts
facts_of o t = record {
  marks = has_sound_marks contents o.device.store t;
  loose = is_loose o.device.store t;
  plainly_loose = is_plainly_loose (plain_device o.device) t;
  lost = is_lost o.device.store t;
  plain = plain_image o.device t;
  firm = firm_image o.device t;
  frame = framed (plain_image o.device t) (frame_at o.device.store t);
  a = told_on o t (firm_image o.device t) A;
  b = told_on o t (firm_image o.device t) B;
}

-- those of a sound one: whether it is loose, the plain track, and the same without data of cache fast write
abbrev pub sound_facts : Bool → Image → Image → Facts
sound_facts loose plain firm = record {
  marks = true;
  loose = loose;
  plainly_loose = loose;
  lost = false;
  plain = plain;
  firm = firm;
  frame = plain;
  a = Some firm;
  b = Some firm;
}

where_level : (b : Bool) (x y z : Option Image) → (if b then x else y) ≡ z → b ≡ true → x ≡ z
where_level true x y z e level = e
where_level false x y z e level = absurd (true≢false (sym level))

abbrev unless : Bool → Type 0 → Type 0
unless b X = elim b [ true ↦ Unit {0} | false ↦ X ]

not_lost : (b : Bool) (X : Type 0) → b ≡ false → X → unless b X
not_lost true X e x = tt
not_lost false X e x = x

not_written : (s : DeviceStore) (h : Holdings (List ℕ)) (t : ℕ) (plain kept : Image) (w : Option (HalfWrite Image)) → w ≡ None →
    IsKept s h t plain kept → IsHeldBy s h t plain kept w
not_written s h t plain kept None e is = is
not_written s h t plain kept (Some w) e is = absurd (cc)

pub sound_by : (o : Own) (t : ℕ) (loose : Bool) (plain firm : Image) → facts_of o t ≡ sound_facts loose plain firm → o.device.store.half ≡ None →
    SoundAt o t
sound_by o t loose plain firm are closed =
    let plainly : plain_image o.device t ≡ plain = ap (λ (f : Facts). f.plain) are in
    let firmly : firm_image o.device t ≡ firm = ap (λ (f : Facts). f.firm) are in
    let s = o.device.store in
    let some : Some firm ≡ Some (firm_image o.device t) = ap (λ i. Some i) (sym firmly) in
    record {
      marks = ap (λ (f : Facts). f.marks) are;
      loose = ap (λ (f : Facts). f.loose) are ∙ sym (ap (λ (f : Facts). f.plainly_loose) are);
      held = not_lost (is_lost s t) _ (ap (λ (f : Facts). f.lost) are) (not_written s (holdings o.world) t _ _ s.half closed
          (kept_by s (holdings o.world) t (plain_image o.device t) (firm_image o.device t)
          (ap (λ (f : Facts). f.frame) are ∙ sym plainly)
          (where_level (level_at s.a t) _ _ _ (ap (λ (f : Facts). f.a) are ∙ some))
          (where_level (level_at s.b t) _ _ _ (ap (λ (f : Facts). f.b) are ∙ some))));
    }

-- What is said of a track that is being written. A side that hasn't it level has what is written, and a frame that doesn't count is plain
pub record HalfFacts : Type 0 where
  pub marks : Bool
  pub loose : Bool
  pub plainly_loose : Bool
  pub lost : Bool
  pub plain : Image
  pub frame : Image
  pub image : Image
  pub written : Image
  pub bytes : List ℕ
  pub a : List ℕ
  pub b : List ℕ

abbrev pub is_of_cut : Origin → Bool
is_of_cut (OfCommand bypass e) = false
is_of_cut (OfCut bypass) = true
is_of_cut OfBackground = false

abbrev pub image_in_half : Image → Option (HalfWrite Image) → Image
image_in_half plain None = plain
image_in_half plain (Some w) = w.image

abbrev pub written_in_half : Image → Option (HalfWrite Image) → Image
written_in_half plain None = plain
written_in_half plain (Some w) = written_on plain w.origin

abbrev pub frame_by_origin : DeviceStore → ℕ → Image → Origin → Image
frame_by_origin s t plain origin = if is_of_cut origin then plain else framed plain (frame_at s t)

abbrev pub frame_in_half : DeviceStore → ℕ → Image → Option (HalfWrite Image) → Image
frame_in_half s t plain None = plain
frame_in_half s t plain (Some w) = frame_by_origin s t plain w.origin

abbrev pub bytes_on : DeviceStore → Holdings (List ℕ) → ℕ → List ℕ → Side → List ℕ
bytes_on s h t bytes side = if level_at (side_of s side) t then slice_index_or (holds_of h side) t [] else bytes

abbrev pub half_bytes : Own → ℕ → List ℕ
half_bytes o t = contents.bytes (image_in_half (plain_image o.device t) o.device.store.half)

abbrev pub half_facts_of : Own → ℕ → HalfFacts
half_facts_of o t = record {
  marks = has_sound_marks contents o.device.store t;
  loose = is_loose o.device.store t;
  plainly_loose = is_plainly_loose (plain_device o.device) t;
  lost = is_lost o.device.store t;
  plain = plain_image o.device t;
  frame = frame_in_half o.device.store t (plain_image o.device t) o.device.store.half;
  image = image_in_half (plain_image o.device t) o.device.store.half;
  written = written_in_half (plain_image o.device t) o.device.store.half;
  bytes = half_bytes o t;
  a = bytes_on o.device.store (holdings o.world) t (half_bytes o t) A;
  b = bytes_on o.device.store (holdings o.world) t (half_bytes o t) B;
}

-- those of a sound one: the plain track, and the one that is written, with its bytes
abbrev pub sound_half : Image → Image → List ℕ → HalfFacts
sound_half plain written bytes = record {
  marks = true;
  loose = false;
  plainly_loose = false;
  lost = false;
  plain = plain;
  frame = plain;
  image = written;
  written = written;
  bytes = bytes;
  a = bytes;
  b = bytes;
}

abbrev either : Bool → Type 0 → Type 0 → Type 0
either b X Y = elim b [ true ↦ X | false ↦ Y ]

in_one : (b : Bool) (X Y : Type 0) → b ≡ true → X → either b X Y
in_one true X Y e x = x
in_one false X Y e x = absurd (true≢false (sym e))

frame_is : (s : DeviceStore) (t : ℕ) (plain : Image) → framed plain (frame_at s t) ≡ plain → FrameIs s t plain
frame_is s t plain same f at = sym (ap (framed plain) at) ∙ same

frame_of_origin : (s : DeviceStore) (t : ℕ) (plain : Image) (origin : Origin) → frame_by_origin s t plain origin ≡ plain → FrameBy origin s t plain
frame_of_origin s t plain (OfCommand bypass e) same = frame_is s t plain same
frame_of_origin s t plain (OfCut bypass) same = tt
frame_of_origin s t plain OfBackground same = frame_is s t plain same

bytes_level : (b : Bool) (x y z : List ℕ) → (if b then x else y) ≡ z → b ≡ true → x ≡ z
bytes_level true x y z e level = e
bytes_level false x y z e level = absurd (true≢false (sym level))

abbrev HasBytes : DeviceStore → Holdings (List ℕ) → List ℕ → ℕ → Type 0
HasBytes s h bytes t = (side : Side) → level_at (side_of s side) t ≡ true → slice_index_or (holds_of h side) t [] ≡ bytes

half_held : (s : DeviceStore) (h : Holdings (List ℕ)) (t : ℕ) (plain kept : Image) (x : Option (HalfWrite Image)) → half_is x t ≡ true →
    image_in_half plain x ≡ written_in_half plain x → HasBytes s h (contents.bytes (image_in_half plain x)) t → frame_in_half s t plain x ≡ plain →
    IsHeldBy s h t plain kept x
half_held s h t plain kept None e image sides frame = absurd (cc)
half_held s h t plain kept (Some w) e image sides frame =
    let at : t ≡ w.track = grind arith in
    in_one (w.track == t) _ _ e (record {
      image = image;
      sides = subst (HasBytes s h (contents.bytes w.image)) at sides;
      frame = subst (λ q. FrameBy w.origin s q plain) at (frame_of_origin s t plain w.origin frame);
    })

pub half_sound_by : (o : Own) (t : ℕ) (plain written : Image) (bytes : List ℕ) → half_facts_of o t ≡ sound_half plain written bytes →
    half_is o.device.store.half t ≡ true → SoundAt o t
half_sound_by o t plain written bytes are is_open =
    let s = o.device.store in
    let own : bytes ≡ half_bytes o t = sym (ap (λ (f : HalfFacts). f.bytes) are) in
    record {
      marks = ap (λ (f : HalfFacts). f.marks) are;
      loose = ap (λ (f : HalfFacts). f.loose) are ∙ sym (ap (λ (f : HalfFacts). f.plainly_loose) are);
      held = not_lost (is_lost s t) _ (ap (λ (f : HalfFacts). f.lost) are) (half_held s (holdings o.world) t (plain_image o.device t) _ s.half is_open
          (ap (λ (f : HalfFacts). f.image) are ∙ sym (ap (λ (f : HalfFacts). f.written) are))
          (on_sides (λ side. level_at (side_of s side) t ≡ true → slice_index_or (holds_of (holdings o.world) side) t [] ≡ half_bytes o t)
          (bytes_level (level_at s.a t) _ _ _ (ap (λ (f : HalfFacts). f.a) are ∙ own))
          (bytes_level (level_at s.b t) _ _ _ (ap (λ (f : HalfFacts). f.b) are ∙ own)))
          (ap (λ (f : HalfFacts). f.frame) are ∙ sym (ap (λ (f : HalfFacts). f.plain) are)));
    }

-- They aren't. Two images of track 0 differ where one has the new data, and the other one hasn't

abbrev pub is_new : Image → Bool
is_new i = slice_index_or (body_of i.track.records) 0 0 == 0x11

abbrev pub is_same : Bool → Bool → Bool
is_same true true = true
is_same true false = false
is_same false true = false
is_same false false = true

same_self : (b : Bool) → is_same b b ≡ true
same_self true = refl
same_self false = refl

abbrev pub looks_alike : Image → Image → Bool
looks_alike i j = is_same (is_new i) (is_new j)

abbrev pub is_read : Option Image → Image → Bool
is_read None i = false
is_read (Some j) i = looks_alike j i

alike : (i j : Image) → i ≡ j → looks_alike i j ≡ true
alike i j same = ap (λ x. looks_alike x j) same ∙ same_self (is_new j)

read_is : (x : Option Image) (i : Image) → x ≡ Some i → is_read x i ≡ true
read_is x i same = ap (λ y. is_read y i) same ∙ same_self (is_new i)

against : (b : Bool) → b ≡ true → b ≡ false → ⊥
against b holds fails = true≢false (sym holds ∙ fails)

is_held : (b : Bool) (X : Type 0) → b ≡ false → unless b X → X
is_held true X e x = absurd (true≢false e)
is_held false X e x = x

one_of : (b : Bool) (X Y : Type 0) → b ≡ true → either b X Y → X
one_of true X Y e x = x
one_of false X Y e x = absurd (true≢false (sym e))

other_of : (b : Bool) (X Y : Type 0) → b ≡ false → either b X Y → Y
other_of true X Y e x = absurd (true≢false e)
other_of false X Y e x = x

kept_of : (s : DeviceStore) (h : Holdings (List ℕ)) (t : ℕ) (plain kept : Image) (w : Option (HalfWrite Image)) → half_is w t ≡ false →
    IsHeldBy s h t plain kept w → IsKept s h t plain kept
kept_of s h t plain kept None e is = is
kept_of s h t plain kept (Some w) e is = other_of (w.track == t) _ _ e is

pub kept_at : (o : Own) (t : ℕ) → is_lost o.device.store t ≡ false → half_is o.device.store.half t ≡ false → SoundAt o t →
    IsKept o.device.store (holdings o.world) t (plain_image o.device t) (firm_image o.device t)
kept_at o t found closed sound = kept_of _ _ _ _ _ o.device.store.half closed (is_held (is_lost o.device.store t) _ found sound.held)

frame_same : (plain : Image) (x : Option Frame) → ((f : Frame) → x ≡ Some f → f.image ≡ plain) → framed plain x ≡ plain
frame_same plain None is = refl
frame_same plain (Some f) is = is f refl

told_same : (b : Bool) (x z : Option Image) → (b ≡ true → x ≡ z) → (if b then x else z) ≡ z
told_same true x z is = is refl
told_same false x z is = refl

pub bad_frame : (o : Own) (t : ℕ) → is_lost o.device.store t ≡ false → half_is o.device.store.half t ≡ false →
    looks_alike (framed (plain_image o.device t) (frame_at o.device.store t)) (plain_image o.device t) ≡ false → SoundAt o t → ⊥
bad_frame o t found closed fails sound =
    against _ (alike _ _ (frame_same (plain_image o.device t) (frame_at o.device.store t) (kept_at o t found closed sound).frame)) fails

pub bad_side : (o : Own) (t : ℕ) (side : Side) → is_lost o.device.store t ≡ false → half_is o.device.store.half t ≡ false →
    is_read (told_on o t (firm_image o.device t) side) (firm_image o.device t) ≡ false → SoundAt o t → ⊥
bad_side o t side found closed fails sound =
    against _ (read_is _ _ (told_same (level_at (side_of o.device.store side) t) _ _ ((kept_at o t found closed sound).sides side))) fails

pub bad_loose : (o : Own) (t : ℕ) → is_same (is_loose o.device.store t) (is_plainly_loose (plain_device o.device) t) ≡ false → SoundAt o t → ⊥
bad_loose o t fails sound = against _ (ap (λ b. is_same b (is_plainly_loose (plain_device o.device) t)) sound.loose ∙ same_self _) fails

-- A track that is being written

abbrev pub is_alike : Option Image → Option Image → Bool
is_alike None None = true
is_alike None (Some j) = false
is_alike (Some i) None = false
is_alike (Some i) (Some j) = looks_alike i j

alike_self : (x : Option Image) → is_alike x x ≡ true
alike_self None = refl
alike_self (Some i) = same_self (is_new i)

is_alike_by : (x y : List ℕ) → x ≡ y → is_alike (image_read D3390 0 x) (image_read D3390 0 y) ≡ true
is_alike_by x y same = ap (λ l. is_alike (image_read D3390 0 l) (image_read D3390 0 y)) same ∙ alike_self (image_read D3390 0 y)

abbrev pub image_agrees : Image → Option (HalfWrite Image) → Bool
image_agrees plain None = true
image_agrees plain (Some w) = looks_alike w.image (written_on plain w.origin)

-- the bytes of a level side, read as track 0
abbrev pub side_agrees : DeviceStore → Holdings (List ℕ) → ℕ → Side → Option (HalfWrite Image) → Bool
side_agrees s h t side None = true
side_agrees s h t side (Some w) =
    if level_at (side_of s side) t then is_alike (image_read D3390 0 (slice_index_or (holds_of h side) t [])) (image_read D3390 0 (contents.bytes w.image))
    else true

abbrev pub frame_agrees : DeviceStore → ℕ → Image → Option (HalfWrite Image) → Bool
frame_agrees s t plain None = true
frame_agrees s t plain (Some w) = is_of_cut w.origin || looks_alike (framed plain (frame_at s t)) plain

written_if : (s : DeviceStore) (h : Holdings (List ℕ)) (t : ℕ) (plain kept : Image) (w : HalfWrite Image) → half_is (Some w) t ≡ true →
    IsHeldBy s h t plain kept (Some w) → IsWritten s h plain w
written_if s h t plain kept w e is = one_of (w.track == t) _ _ e is

image_by : (s : DeviceStore) (h : Holdings (List ℕ)) (t : ℕ) (plain kept : Image) (x : Option (HalfWrite Image)) → half_is x t ≡ true →
    IsHeldBy s h t plain kept x → image_agrees plain x ≡ true
image_by s h t plain kept None e is = refl
image_by s h t plain kept (Some w) e is = alike _ _ (written_if s h t plain kept w e is).image

side_if : (b c : Bool) → (b ≡ true → c ≡ true) → (if b then c else true) ≡ true
side_if true c is = is refl
side_if false c is = refl

side_by : (s : DeviceStore) (h : Holdings (List ℕ)) (t : ℕ) (plain kept : Image) (side : Side) (x : Option (HalfWrite Image)) →
    half_is x t ≡ true → IsHeldBy s h t plain kept x → side_agrees s h t side x ≡ true
side_by s h t plain kept side None e is = refl
side_by s h t plain kept side (Some w) e is =
    let at : w.track ≡ t = grind arith in
    let sides : level_at (side_of s side) t ≡ true → slice_index_or (holds_of h side) t [] ≡ contents.bytes w.image
    = subst (λ q. level_at (side_of s side) q ≡ true → slice_index_or (holds_of h side) q [] ≡ contents.bytes w.image) at
    ((written_if s h t plain kept w e is).sides side) in
    side_if (level_at (side_of s side) t) _ (λ level. is_alike_by _ _ (sides level))

frame_or : (s : DeviceStore) (t : ℕ) (plain : Image) (origin : Origin) → FrameBy origin s t plain →
    (is_of_cut origin || looks_alike (framed plain (frame_at s t)) plain) ≡ true
frame_or s t plain (OfCommand bypass e) is = alike _ _ (frame_same plain (frame_at s t) is)
frame_or s t plain (OfCut bypass) is = refl
frame_or s t plain OfBackground is = alike _ _ (frame_same plain (frame_at s t) is)

frame_by : (s : DeviceStore) (h : Holdings (List ℕ)) (t : ℕ) (plain kept : Image) (x : Option (HalfWrite Image)) → half_is x t ≡ true →
    IsHeldBy s h t plain kept x → frame_agrees s t plain x ≡ true
frame_by s h t plain kept None e is = refl
frame_by s h t plain kept (Some w) e is =
    let at : w.track ≡ t = grind arith in
    frame_or s t plain w.origin (subst (λ q. FrameBy w.origin s q plain) at (written_if s h t plain kept w e is).frame)

held_at : (o : Own) (t : ℕ) → is_lost o.device.store t ≡ false → SoundAt o t →
    IsHeldBy o.device.store (holdings o.world) t (plain_image o.device t) (firm_image o.device t) o.device.store.half
held_at o t found sound = is_held (is_lost o.device.store t) _ found sound.held

pub bad_half_image : (o : Own) (t : ℕ) → is_lost o.device.store t ≡ false → half_is o.device.store.half t ≡ true →
    image_agrees (plain_image o.device t) o.device.store.half ≡ false → SoundAt o t → ⊥
bad_half_image o t found is_open fails sound = against _ (image_by _ _ _ _ _ o.device.store.half is_open (held_at o t found sound)) fails

pub bad_half_side : (o : Own) (t : ℕ) (side : Side) → is_lost o.device.store t ≡ false → half_is o.device.store.half t ≡ true →
    side_agrees o.device.store (holdings o.world) t side o.device.store.half ≡ false → SoundAt o t → ⊥
bad_half_side o t side found is_open fails sound = against _ (side_by _ _ _ _ _ side o.device.store.half is_open (held_at o t found sound)) fails

pub bad_half_frame : (o : Own) (t : ℕ) → is_lost o.device.store t ≡ false → half_is o.device.store.half t ≡ true →
    frame_agrees o.device.store t (plain_image o.device t) o.device.store.half ≡ false → SoundAt o t → ⊥
bad_half_frame o t found is_open fails sound = against _ (frame_by _ _ _ _ _ o.device.store.half is_open (held_at o t found sound)) fails
