-- The rows of an image's tracks, one more, and the list that they make.
use Rattle.std.proofs.Common.{◌≡◌, inl, inr, ℕ, ◌+◌, ◌*◌, ◌<◌, List, [], ◌∷◌, ◌++◌, length, get_or, Option, Some, None, Ok, refl, sym, ap, subst, ◌∙◌, arith}
use Rattle.std.proofs.Math.Seq.{get_or-append_seam}
use Rattle.std.proofs.lemmas.Bool.{cases_eq}
use Rattle.std.proofs.lemmas.List.{get_or_append_left, length-append}
use Rattle.ckd_types.specs.Track.{track_bytes}
use Rattle.track_image.specs.Image.{Image}
use Rattle.volume_file.specs.File.{IsPlaced, empty_image, image_in}
use Rattle.volume_texts.specs.declared.listing.Row.{Row}
use Rattle.volume_texts.specs.List.{row_of, rows_text}
use Rattle.volume_texts.proofs.Rows.{rows_push}
use Rattle.disk_image.specs.declared.layout.Layout.{Layout}
use Rattle.disk_image.specs.File.{track_in}
use Rattle.disk_image.specs.Image.{IsLayoutOf}
use Rattle.disk_image.specs.Opening.{opening}
use Rattle.disk_image.specs.Volume.{HasTracks, Told}
use Rattle.disk_image.proofs.Found.{no_tracks}
use Rattle.image_tool.specs.declared.status.ImageStatus.{ImageStatus}
use Rattle.image_tool.specs.declared.status.ImageStatus.TheVariants.{Done}
use Rattle.image_tool.specs.Reading.{AreRows, ShowsList, volume_by}
use Rattle.image_tool.specs.Written.{IsWritten}
use Rattle.image_tool.proofs.Telling.{holds_told, shows_list}

pub no_rows : (l : Layout) (file : Option (List ℕ)) (rows : List Row) → rows ≡ [] → AreRows l 0 file rows
no_rows l file rows none = record {
  images = [];
  count = refl;
  placed = λ t less. absurd (omega (arith, less));
  tracks = no_tracks file (volume_by l []);
  are = none;
}

-- the images of the tracks before one, and of that one
before : (l : Layout) (images : List Image) (i : Image) (t : ℕ) → t < length images
    → image_in (volume_by l (images ++ i ∷ [])) t ≡ image_in (volume_by l images) t
before l images i t less = get_or_append_left images (i ∷ []) (empty_image l.geometry t) t less

here : (l : Layout) (images : List Image) (i : Image) (t : ℕ) → t ≡ length images → image_in (volume_by l (images ++ i ∷ [])) t ≡ i
here l images i t is =
    ap (λ (k : ℕ). get_or (images ++ i ∷ []) k (empty_image l.geometry t)) is ∙ get_or-append_seam images i [] (empty_image l.geometry t)

placed_more : (l : Layout) (n : ℕ) (images : List Image) (i : Image) → length images ≡ n
    → ((t : ℕ) → t < n → IsPlaced l.geometry t (image_in (volume_by l images) t)) → IsPlaced l.geometry n i
    → (t : ℕ) → t < n + 1 → IsPlaced l.geometry t (image_in (volume_by l (images ++ i ∷ [])) t)
placed_more l n images i count placed one t less = elim (cases_eq t n) [
  | inl same ↦
      (let at : t ≡ length images = same ∙ sym count in
      subst (λ (x : Image). IsPlaced l.geometry t x) (sym (here l images i t at)) (subst (λ (k : ℕ). IsPlaced l.geometry k i) (sym same) one))
  | inr other ↦
      (let few : t < n = omega (arith, less, other) in
      let inside : t < length images = omega (arith, few, count) in
      subst (λ (x : Image). IsPlaced l.geometry t x) (sym (before l images i t inside)) (placed t few))
]

tracks_more : (l : Layout) (n : ℕ) (file : Option (List ℕ)) (images : List Image) (i : Image) → length images ≡ n
    → Told file (HasTracks (volume_by l images) n) → Told file (λ all. track_in l.geometry all n ≡ track_bytes i.track)
    → Told file (HasTracks (volume_by l (images ++ i ∷ [])) (n + 1))
tracks_more l n None images i count has is = tt
tracks_more l n (Some all) images i count has is = λ t less. elim (cases_eq t n) [
  | inl same ↦
      (let at : t ≡ length images = same ∙ sym count in
      ap (track_in l.geometry all) same ∙ is ∙ ap (λ (x : Image). track_bytes x.track) (sym (here l images i t at)))
  | inr other ↦
      (let few : t < n = omega (arith, less, other) in
      let inside : t < length images = omega (arith, few, count) in
      has t few ∙ ap (λ (x : Image). track_bytes x.track) (sym (before l images i t inside)))
]

rows_more : (l : Layout) (n : ℕ) (file : Option (List ℕ)) (i : Image) (rows more : List Row) → IsPlaced l.geometry n i
    → Told file (λ all. track_in l.geometry all n ≡ track_bytes i.track) → AreRows l n file rows → more ≡ rows ++ row_of n i ∷ []
    → AreRows l (n + 1) file more
rows_more l n file i rows more one told so pushed = record {
  images = so.images ++ i ∷ [];
  count = omega (arith, length-append so.images (i ∷ []), so.count);
  placed = placed_more l n so.images i so.count so.placed one;
  tracks = tracks_more l n file so.images i so.count so.tracks told;
  are = pushed ∙ ap (λ (r : List Row). r ++ row_of n i ∷ []) so.are ∙ sym (rows_push 0 n so.images i (omega (arith, so.count)));
}

-- one more, where the file is as it was
pub rows_on : (first held : Option (List ℕ)) (l : Layout) (n t : ℕ) (i : Image) (row : Row) (rows more : List Row) → held ≡ first → t ≡ n
    → IsPlaced l.geometry t i → Told held (λ all. track_in l.geometry all t ≡ track_bytes i.track) → AreRows l n first rows → row ≡ row_of n i
    → more ≡ rows ++ row ∷ [] → AreRows l (n + 1) first more
rows_on first held l n t i row rows more same is one told so row_is pushed =
    rows_more l n first i rows more (subst (λ (k : ℕ). IsPlaced l.geometry k i) is one)
    (subst (λ (h : Option (List ℕ)). Told h (λ all. track_in l.geometry all n ≡ track_bytes i.track)) same
    (subst (λ (k : ℕ). Told held (λ all. track_in l.geometry all k ≡ track_bytes i.track)) is told))
    so (pushed ∙ ap (λ (r : Row). rows ++ r ∷ []) row_is)

pub rows_end : (l : Layout) (n m : ℕ) (file : Option (List ℕ)) (rows : List Row) → n ≡ m → AreRows l n file rows → AreRows l m file rows
rows_end l n m file rows is so = subst (λ (k : ℕ). AreRows l k file rows) is so

-- the rows of all tracks are the list of a volume
pub listed : (status : ImageStatus) (file held holds : Option (List ℕ)) (l : Layout) (rows : List Row) → IsLayoutOf file l
    → Told file (λ all. opening all ≡ Ok l) → AreRows l (l.cylinders * 15) file rows
    → IsWritten status Done held holds (rows_text l.geometry l.cylinders rows) → ShowsList status file held holds
listed status file held holds l rows layout opens so written =
    let v = volume_by l so.images in
    shows_list status file held holds v
    (record {
      least = layout.least;
      most = layout.most;
      tracks = so.count;
      placed = λ t less. so.placed t (omega (arith, less, so.count));
    })
    (holds_told file file l v opens refl refl refl so.tracks)
    (subst (λ (r : List Row). IsWritten status Done held holds (rows_text l.geometry l.cylinders r)) so.are written)

-- the same of a file that was opened
pub list_on : (status : ImageStatus) (file now held holds : Option (List ℕ)) → now ≡ file → ShowsList status now held holds
    → ShowsList status file held holds
list_on status file now held holds same so = subst (λ (h : Option (List ℕ)). ShowsList status h held holds) same so
