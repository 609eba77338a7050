-- The tracks of some images.
use Rattle.std.proofs.Common.{
  ◌≡◌,
  ◌<◌,
  ◌+◌,
  ℕ,
  zero,
  suc,
  List,
  [],
  ◌∷◌,
  ◌++◌,
  Bool,
  true,
  false,
  cond,
  length,
  get_or,
  map,
  length-append,
  arith,
  refl,
  sym,
  ap,
  subst,
  ◌∙◌,
}
use Rattle.std.specs.Prelude.{◌==◌, not, slice_set, All}
use Rattle.std.specs.List.{filter, range_with_len}
use Rattle.std.proofs.lemmas.List.Elements.{All-nil, All-cons, All-append, All-take}
use Rattle.std.proofs.lemmas.List.{length-set}
use Rattle.std.proofs.Math.Seq.{take-append_seam}
use Rattle.ckd_types.specs.declared.geometry.Geometry.{Geometry}
use Rattle.ckd_types.specs.declared.record.Edit.{Edit}
use Rattle.ckd_types.specs.declared.record.Track.{Track}
use Rattle.ckd_types.specs.Edit.{apply_edit}
use Rattle.ckd_types.specs.Track.{empty_track}
use Rattle.track_image.specs.Image.{Image, edited_image}
use Rattle.ckd_rules.proofs.Lists.{map-range_more}
use Rattle.plain_defs.specs.Loose.{without, restored}
use Rattle.plain_defs.specs.PlainState.{LooseTrack}
use Rattle.plain_device.specs.declared.loose.LooseImage.{LooseImage}
use Rattle.plain_device.specs.Volume.{tracks_of, loose_of, IsLooseOf}

track_at : (images : List Image) (t : ℕ) (d : Image) (e : Track) → t < length images
    → (get_or images t d).track ≡ get_or (tracks_of images) t e
track_at [] t d e inside = absurd (omega arith)
track_at (i ∷ images) zero d e inside = refl
track_at (i ∷ images) (suc t) d e inside = track_at images t d e (omega arith)

pub tracks_length : (images : List Image) → length (tracks_of images) ≡ length images
tracks_length [] = refl
tracks_length (i ∷ images) = let rest = tracks_length images in omega (arith, rest)

pub tracks_set : (images : List Image) (t : ℕ) (x : Image)
    → tracks_of (slice_set images t x) ≡ slice_set (tracks_of images) t x.track
tracks_set [] t x = refl
tracks_set (i ∷ images) zero x = refl
tracks_set (i ∷ images) (suc t) x = ap (λ (l : List Track). i.track ∷ l) (tracks_set images t x)

-- an edit of one image is an edit of its track
pub edited_tracks : (images : List Image) (t : ℕ) (x y d : Image) (e : Edit) (empty : Track) → t < length images
    → y ≡ get_or images t d → x ≡ edited_image e y
    → tracks_of (slice_set images t x) ≡ slice_set (tracks_of images) t
    (apply_edit e (get_or (tracks_of images) t empty))
edited_tracks images t x y d e empty inside y_is x_is =
    tracks_set images t x
    ∙ ap (λ (i : Image). slice_set (tracks_of images) t i.track) x_is
    ∙ ap (λ (i : Image). slice_set (tracks_of images) t (apply_edit e i.track)) y_is
    ∙ ap (λ (u : Track). slice_set (tracks_of images) t (apply_edit e u)) (track_at images t d empty inside)

tracks_append : (images more : List Image) → tracks_of (images ++ more) ≡ tracks_of images ++ tracks_of more
tracks_append [] more = refl
tracks_append (i ∷ images) more = ap (λ (l : List Track). i.track ∷ l) (tracks_append images more)

-- one more empty track
pub images_more : (g : Geometry) (images later : List Image) (n : ℕ) (i : Image) → later ≡ images ++ i ∷ []
    → i ≡ record { geometry = g; track = empty_track n }
    → tracks_of images ≡ map empty_track (range_with_len 0 n) → length images ≡ n
    → All (λ (x : Image). x.geometry ≡ g) images
    → (tracks_of later ≡ map empty_track (range_with_len 0 (n + 1))) × (length later ≡ n + 1)
    × All (λ (x : Image). x.geometry ≡ g) later
images_more g images later n i later_is is tracks len all = (
  ap (λ (l : List Image). tracks_of l) later_is
      ∙ tracks_append images (i ∷ [])
      ∙ ap (λ (l : List Track). l ++ i.track ∷ []) tracks
      ∙ ap (λ (x : Image). map empty_track (range_with_len 0 n) ++ x.track ∷ []) is
      ∙ sym (map-range_more empty_track n (n + 1) refl),
  ap length later_is ∙ length-append images (i ∷ []) ∙ ap (λ (m : ℕ). m + 1) len,
  subst (All (λ (x : Image). x.geometry ≡ g)) (sym later_is)
      (All-append (λ (x : Image). x.geometry ≡ g) images (i ∷ []) all
      (All-cons (λ (x : Image). x.geometry ≡ g) i [] (ap (λ (x : Image). x.geometry) is)
      (All-nil (λ (x : Image). x.geometry ≡ g)))),
)

-- those of other tracks, with their images or without
pub loose_others : (t : ℕ) (loose : List LooseImage) → loose_of (filter (λ (l : LooseImage). not (l.track == t)) loose)
    ≡ without t (loose_of loose)
loose_others t [] = refl
loose_others t (l ∷ loose) = by_track (not (l.track == t)) (loose_others t loose) where
  by_track : (keep : Bool) → loose_of (filter (λ (k : LooseImage). not (k.track == t)) loose)
      ≡ without t (loose_of loose)
      → loose_of (cond keep (l ∷ filter (λ (k : LooseImage). not (k.track == t)) loose)
      (filter (λ (k : LooseImage). not (k.track == t)) loose))
      ≡ cond keep (record { track = l.track; firm = l.image.track } ∷ without t (loose_of loose))
      (without t (loose_of loose))
  by_track true rest = ap (λ (ls : List LooseTrack). record { track = l.track; firm = l.image.track } ∷ ls) rest
  by_track false rest = rest

pub loose_append : (xs ys : List LooseImage) → loose_of (xs ++ ys) ≡ loose_of xs ++ loose_of ys
loose_append [] ys = refl
loose_append (x ∷ xs) ys = ap (λ (ls : List LooseTrack). record { track = x.track; firm = x.image.track } ∷ ls)
    (loose_append xs ys)

pub loose_more : (g : Geometry) (tracks : ℕ) (loose : List LooseImage) (l : LooseImage) → All (IsLooseOf g tracks) loose
    → l.image.geometry ≡ g → l.track < tracks → All (IsLooseOf g tracks) (loose ++ l ∷ [])
loose_more g tracks loose l all model inside = All-append (IsLooseOf g tracks) loose (l ∷ []) all
    (All-cons (IsLooseOf g tracks) l [] (model, inside) (All-nil (IsLooseOf g tracks)))

-- the last one is put back first
restored_last : (loose : List LooseTrack) (l : LooseTrack) (v : List Track)
    → restored (loose ++ l ∷ []) v ≡ restored loose (slice_set v l.track l.firm)
restored_last [] l v = refl
restored_last (k ∷ loose) l v = ap (λ (w : List Track). slice_set w k.track k.firm) (restored_last loose l v)

pub restored_more : (loose rest : List LooseImage) (l : LooseImage) (v : List Track) → loose ≡ rest ++ l ∷ []
    → restored (loose_of loose) v ≡ restored (loose_of rest) (slice_set v l.track l.image.track)
restored_more loose rest l v is =
    ap (λ (ls : List LooseImage). restored (loose_of ls) v) is
    ∙ ap (λ (ls : List LooseTrack). restored ls v) (loose_append rest (l ∷ []))
    ∙ restored_last (loose_of rest) (record { track = l.track; firm = l.image.track }) v

pub restored_length : (loose : List LooseTrack) (v : List Track) → length (restored loose v) ≡ length v
restored_length [] v = refl
restored_length (l ∷ loose) v = length-set (restored loose v) l.track l.firm ∙ restored_length loose v

pub loose_front : (g : Geometry) (tracks : ℕ) (loose rest : List LooseImage) (l : LooseImage) → loose ≡ rest ++ l ∷ []
    → All (IsLooseOf g tracks) loose → All (IsLooseOf g tracks) rest
loose_front g tracks loose rest l is all =
    subst (All (IsLooseOf g tracks)) (take-append_seam rest (l ∷ []))
    (All-take (IsLooseOf g tracks) (length rest) (rest ++ l ∷ []) (subst (All (IsLooseOf g tracks)) is all))
