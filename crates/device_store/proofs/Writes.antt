-- Writes and what is saved, by cases of a frame, a patch and a queue.
use Rattle.std.proofs.Common.{◌≡◌, ◌∙◌, ◌<◌, ◌≤◌, ℕ, zero, suc, length, Bool, true, false, List, [], ◌∷◌, refl, sym, ap, arith}
use Rattle.std.specs.Prelude.{◌&&◌, ◌||◌, not, Option, Some, None, is_some, slice_get, drop, if◌then◌else◌, IfSome}
use Rattle.ckd_types.specs.declared.paths.Side.TheVariants.{A, B}
use Rattle.nv_store.specs.declared.patches.Stored.{Stored}
use Rattle.nv_store.specs.Patches as patches
use Rattle.track_cache.specs.declared.frames.Frame.{Frame}
use Rattle.track_cache.specs.Frames as frames
use Rattle.track_image.specs.Image.{Image}
use Rattle.std.proofs.lemmas.List.{get_or_past}
use Rattle.track_table.specs.Tracks as tracks
use Rattle.track_table.specs.Tracks.{least, or_else}
use Rattle.device_defs.specs.declared.answers.Did.TheVariants.{Recovered}
use Rattle.device_defs.specs.Background as background
use Rattle.device_defs.specs.Background.{
  is_destaged,
  copy_first,
  destage_first,
  recover,
  recovered_bytes,
  saved,
  stage,
  stage_first,
  to_copy,
  to_destage,
  to_recover,
  work,
}
use Rattle.device_defs.specs.Contents.{contents}
use Rattle.device_defs.specs.Image.{level_bytes}
use Rattle.device_defs.specs.Losses.{framed_image, settled, slot_in}
use Rattle.device_defs.specs.Store.{frame_at, patch_at, is_loose, some_up, takes_b, tracks_of}
use Rattle.device_defs.specs.Owed.{is_modified, waits}
use Rattle.device_defs.specs.Writing as writing
use Rattle.device_defs.specs.Writing.{alone_b, cleaned, first_a, taken_a, tried_b, unwritten, write_first, write_second, write_side, wrote}
use Rattle.device_defs.specs.declared.answers.Took.TheVariants.{Unwritten, Whole}
use Rattle.device_outside.specs.Interaction.{Done, and_then}
use Rattle.device_store.specs.Looks.{StoreOf, frame_in}

pub slot_is : (p : Option Stored) → slot_in contents p ≡ patches.slot_of p
slot_is None = refl
slot_is (Some p) = refl

pub written_a : (s : StoreOf) (t : ℕ) (r : List ℕ) → s.a.up ≡ true → write_first contents s t r ≡ write_side contents s A t r (first_a contents t r)
unfolding writing.write_first
written_a s t r up = rw up refl

-- the image of a frame is the same in both stores
image_by : (a b : StoreOf) (t : ℕ) (f : Option Frame) → is_some f ≡ true → framed_image contents a t f ≡ framed_image contents b t f
image_by a b t None there = absurd cc
image_by a b t (Some f) there = refl

pub same_image : (a b : StoreOf) (t : ℕ) → a.frames ≡ b.frames → is_some (frame_at a t) ≡ true → frame_in a t ≡ frame_in b t
same_image a b t same there =
    image_by a b t (frame_at a t) there ∙ ap (λ fs. framed_image contents b t (frame_at (record a { frames = fs }) t)) same

pub recover_framed : (s : StoreOf) (t : ℕ) (f : Option Frame) → is_some f ≡ true →
    recover contents s t f ≡ saved contents s t (framed_image contents s t f) (Recovered t) None
recover_framed s t None there = absurd cc
recover_framed s t (Some f) there = refl

pub recover_bare : (s : StoreOf) (t : ℕ) (f : Option Frame) → is_some f ≡ false →
    recover contents s t f ≡ and_then (level_bytes contents s t) (λ z g. recovered_bytes contents t z g g.bytes)
recover_bare s t None there = refl
recover_bare s t (Some f) there = absurd cc

pub work_recovers : (s : StoreOf) (t : ℕ) → to_recover contents s ≡ Some t → work contents s ≡ recover contents s t (frame_at s t)
unfolding background.work
work_recovers s t is = rw is refl

pub work_copies : (s : StoreOf) → to_recover contents s ≡ None → work contents s ≡ copy_first contents s (to_copy s)
unfolding background.work
work_copies s none = rw none refl

staged_by : (s : StoreOf) (queue : List ℕ) (t : ℕ) → slice_get queue 0 ≡ Some t →
    stage_first contents s queue ≡ stage contents (record s { queue = drop 1 queue }) t
staged_by s [] t e = absurd cc
staged_by s (q ∷ qs) t e = let same : q ≡ t = cc in ap (stage contents (record s { queue = qs })) same

pub stage_next : (s : StoreOf) (t : ℕ) → slice_get s.queue 0 ≡ Some t → stage_first contents s s.queue ≡ stage contents (record s { queue = drop 1 s.queue }) t
stage_next s t e = staged_by s s.queue t e

over_by : (s : StoreOf) (queue : List ℕ) → slice_get queue 0 ≡ None →
    stage_first contents (record s { queue = queue }) queue
    ≡ destage_first contents (record s { queue = drop 1 queue }) (to_destage contents (record s { queue = drop 1 queue }))
over_by s [] e = refl
over_by s (t ∷ ts) e = absurd cc

pub stage_none : (s : StoreOf) → slice_get s.queue 0 ≡ None →
    stage_first contents s s.queue ≡ destage_first contents (record s { queue = drop 1 s.queue }) (to_destage contents (record s { queue = drop 1 s.queue }))
stage_none s e = over_by s s.queue e

image_of : (s : StoreOf) (t : ℕ) (f : Option Frame) (i : Image) → Some i ≡ frames.image_of f → i ≡ framed_image contents s t f
image_of s t None i is = absurd cc
image_of s t (Some f) i is = cc

pub image_is : (s : StoreOf) (t : ℕ) (i : Image) → Some i ≡ frames.image_at s.frames t → i ≡ frame_in s t
image_is s t i is = image_of s t (frame_at s t) i is

pub clean_is : (s : StoreOf) (t : ℕ) (f : Option Frame) → is_some f ≡ true → frames.with_mark false f
    ≡ Some (record { image = framed_image contents s t f; modified = false })
clean_is s t None there = absurd cc
clean_is s t (Some f) there = refl

pub marked_clean : (f : Option Frame) → frames.with_mark false f ≡ cleaned contents f
marked_clean None = refl
marked_clean (Some f) = refl

-- The least of some tracks

pub record IsOne (n : ℕ) (p : ℕ → Bool) (t : ℕ) : Type 0 where
  pub here : t < n
  pub passes : p t ≡ true

one_by : (n : ℕ) (p : ℕ → Bool) (before : Option ℕ) (b : Bool) → p n ≡ b → IfSome before (IsOne n p)
    → IfSome (or_else before (if b then Some n else None)) (IsOne (suc n) p)
one_by n p (Some t) b is one = record { here = let lt = one.here in omega (arith, lt); passes = one.passes }
one_by n p None true is one = record { here = omega arith; passes = is }
one_by n p None false is one = tt

pub least_one : (n : ℕ) (p : ℕ → Bool) → IfSome (least n p) (IsOne n p)
unfolding tracks.least
least_one zero p = tt
least_one (suc n) p = one_by n p (least n p) (p n) refl (least_one n p)

-- no track of the device is behind the last
pub none_destaged : (s : StoreOf) (n t : ℕ) → length s.frames ≡ n → length s.loose ≡ n → n ≤ t → is_destaged contents s t ≡ false
none_destaged s n t framed loose le =
    let lt : length s.loose ≤ t = omega (arith, loose, le) in
    let lf : length s.frames ≤ t = omega (arith, framed, le) in
    rw (get_or_past s.loose t false lt, get_or_past s.frames t None lf) refl

destaged_by : (s : StoreOf) (t : ℕ) (f : Option Frame) (l p : Bool) → (l ≡ true → is_some f ≡ true) → (l || (is_modified contents f && p)) ≡ true
    → is_some f ≡ true
destaged_by s t (Some f) l p held is = refl
destaged_by s t None true p held is = held refl
destaged_by s t None false p held is = absurd cc

-- such a track has a frame
pub destaged_framed : (s : StoreOf) (t : ℕ) → (is_loose s t ≡ true → is_some (frame_at s t) ≡ true) → is_destaged contents s t ≡ true
    → is_some (frame_at s t) ≡ true
destaged_framed s t held is = destaged_by s t (frame_at s t) (is_loose s t) (is_some (patch_at s t)) held is

pub if_some : (x y : Option ℕ) (p q : ℕ → Type 0) → x ≡ y → ((t : ℕ) → p t → q t) → IfSome y p → IfSome x q
if_some None None p q is f has = tt
if_some (Some a) (Some b) p q is f has = let same : a ≡ b = cc in rw same (f b has)
if_some None (Some b) p q is f has = absurd cc
if_some (Some a) None p q is f has = absurd cc

up_by : (b : Bool) (x : Option ℕ) → b ≡ true → (if b then x else None) ≡ x
up_by true x is = refl
up_by false x is = absurd cc

pub recovers : (s : StoreOf) → some_up s ≡ true → to_recover contents s ≡ least (tracks_of s) (waits contents s)
recovers s up = up_by (some_up s) (least (tracks_of s) (waits contents s)) up

pub destages : (s : StoreOf) → some_up s ≡ true → to_destage contents s ≡ least (tracks_of s) (is_destaged contents s)
destages s up = up_by (some_up s) (least (tracks_of s) (is_destaged contents s)) up

-- The first part of a write, by which side is up

pub written_b : (s : StoreOf) (t : ℕ) (r : List ℕ) → s.a.up ≡ false → takes_b s ≡ true → write_first contents s t r
    ≡ write_side contents s B t r (alone_b contents t None B)
unfolding writing.write_first
written_b s t r down takes = rw (down, takes) refl

pub written_none : (s : StoreOf) (t : ℕ) (r : List ℕ) → s.a.up ≡ false → takes_b s ≡ false →
    write_first contents s t r ≡ Done (settled contents s t) (wrote Unwritten None)
unfolding writing.write_first
written_none s t r down none = rw (down, none) refl

pub taken_alone : (s : StoreOf) (t : ℕ) (r : List ℕ) → takes_b s ≡ false → first_a contents t r s true ≡ Done (taken_a s t) (wrote Whole None)
taken_alone s t r none = rw none refl

pub refused_by_a : (s : StoreOf) (t : ℕ) (r : List ℕ) → s.paired ≡ false → takes_b s ≡ false →
    first_a contents t r s false ≡ Done (unwritten contents s t) (wrote Unwritten (Some A))
refused_by_a s t r single none = rw (single, none) refl

pub second_b : (s : StoreOf) (t : ℕ) (r : List ℕ) → takes_b s ≡ true → write_second contents s t r ≡ write_side contents s B t r (tried_b contents t)
unfolding writing.write_second
second_b s t r takes = rw takes refl

pub second_none : (s : StoreOf) (t : ℕ) (r : List ℕ) → takes_b s ≡ false → write_second contents s t r ≡ Done s tt
unfolding writing.write_second
second_none s t r none = rw none refl

pub up_from : (up held : Bool) → (up && not held) ≡ true → up ≡ true
up_from true held e = refl
up_from false held e = absurd cc

-- a side that isn't there takes nothing
pub none_taken : (up held there : Bool) → (up ≡ true → there ≡ true) → there ≡ false → (up && not held) ≡ false
none_taken true held true has none = absurd cc
none_taken true held false has none = absurd (true_not_false (sym (has refl))) where
  true_not_false : true ≡ false → ⊥
  true_not_false e = absurd cc
none_taken false held there has none = refl
