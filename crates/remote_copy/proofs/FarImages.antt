-- The images of a far volume in memory.
use Rattle.std.proofs.Common.{
  ◌≡◌,
  ◌≢◌,
  ◌⊎◌,
  ◌∙◌,
  ◌<◌,
  ◌*◌,
  inl,
  inr,
  ℕ,
  List,
  [],
  ◌∷◌,
  length,
  length-set,
  map,
  get_or,
  set,
  get_or-set_same,
  get_or-set_other,
  refl,
  sym,
  ap,
  subst,
  arith,
}
use Rattle.std.specs.List.{range_with_len}
use Rattle.std.proofs.lemmas.Bool.{cases_eq}
use Rattle.std.proofs.lemmas.List.{get_or_default}
use Rattle.std.proofs.lemmas.List.FromFn.{length-map-range_with_len, get_or-map-range_with_len}
use Rattle.std.proofs.Math.ListN.{get_or-map}
use Rattle.ckd_types.specs.declared.geometry.Geometry.{Geometry}
use Rattle.ckd_types.specs.declared.record.Track.{Track}
use Rattle.ckd_types.specs.Track.{empty_track}
use Rattle.ckd_types.specs.Volume.{empty_volume, track_in}
use Rattle.track_image.specs.Image.{Image}
use Rattle.device_store.specs.Images.{IsImageOf}
use Rattle.volume_file.specs.File.{empty_image, empty_images}
use Rattle.remote_copy.specs.FarVolume.{AreFarImages}

abbrev pub tracks_of : List Image → List Track
tracks_of images = map (λ (i : Image). i.track) images

-- Empty

of_range : (g : Geometry) (xs : List ℕ) → tracks_of (map (empty_image g) xs) ≡ map empty_track xs
of_range g [] = refl
of_range g (x ∷ xs) = ap (λ (l : List Track). empty_track x ∷ l) (of_range g xs)

pub empty_tracks : (g : Geometry) (cylinders : ℕ) → tracks_of (empty_images g cylinders) ≡ empty_volume cylinders
empty_tracks g cylinders = of_range g (range_with_len 0 (cylinders * 15))

pub empty_are : (g : Geometry) (cylinders : ℕ) → AreFarImages g (empty_images g cylinders)
empty_are g cylinders = record {
  all = λ t d inside.
      let many = length-map-range_with_len (empty_image g) 0 (cylinders * 15) in
      let at = get_or-map-range_with_len (empty_image g) 0 (cylinders * 15) t t d (subst (λ (n : ℕ). t < n) many inside) (omega arith) in
      subst (λ (i : Image). IsImageOf g t i) (sym at) (refl, refl);
}

-- A put

set_of : (g : Geometry) (images : List Image) (t u : ℕ) (i d : Image) → AreFarImages g images → IsImageOf g t i → u < length images →
    (u ≡ t) ⊎ (u ≢ t) → IsImageOf g u (get_or (set images t i) u d)
set_of g images t u i d are is inside (inl same) =
    subst (λ (n : ℕ). IsImageOf g n (get_or (set images t i) n d)) (sym same)
    (subst (λ (x : Image). IsImageOf g t x) (sym (get_or-set_same images t i d (subst (λ (n : ℕ). n < length images) same inside))) is)
set_of g images t u i d are is inside (inr other) =
    subst (λ (x : Image). IsImageOf g u x) (sym (get_or-set_other images t u i d other)) (are.all u d inside)

pub put_are : (g : Geometry) (images : List Image) (t : ℕ) (i : Image) → AreFarImages g images → IsImageOf g t i → AreFarImages g (set images t i)
put_are g images t i are is = record {
  all = λ u d inside.
      set_of g images t u i d are is (subst (λ (n : ℕ). u < n) (length-set images t i) inside) (cases_eq u t);
}

-- A track

track_at : (g : Geometry) (images : List Image) (t : ℕ) (x : Image) → t < length images → x ≡ get_or images t x → track_in (tracks_of images) t ≡ x.track
track_at g images t x inside read =
    get_or-map (λ (i : Image). i.track) images t (empty_image g t)
    ∙ ap (λ (i : Image). i.track) (get_or_default images t (empty_image g t) x inside ∙ sym read)

pub image_of : (g : Geometry) (images : List Image) (t : ℕ) (x : Image) → AreFarImages g images → t < length images → x ≡ get_or images t x → IsImageOf g t x
image_of g images t x are inside read = subst (λ (i : Image). IsImageOf g t i) (sym read) (are.all t x inside)

pub image_is : (g : Geometry) (images : List Image) (t : ℕ) (x : Image) → AreFarImages g images → t < length images → x ≡ get_or images t x →
    x ≡ record { geometry = g; track = track_in (tracks_of images) t }
image_is g images t x are inside read =
    let of = image_of g images t x are inside read in
    ap (λ (h : Geometry). record x { geometry = h }) of.0 ∙ ap (λ (y : Track). record x { geometry = g; track = y }) (sym (track_at g images t x inside read))
