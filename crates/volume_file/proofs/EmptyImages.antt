-- The images of empty tracks.
use Rattle.std.proofs.Common.{◌≡◌, inl, inr, ◌≤◌, ◌<◌, ◌+◌, ◌*◌, ℕ, List, [], ◌∷◌, ◌++◌, length, get_or, set, map, arith, sym, ap, subst, ◌∙◌}
use Rattle.std.specs.List.{range_with_len}
use Rattle.std.proofs.lemmas.Bool.{cases_eq}
use Rattle.std.proofs.lemmas.List.{length-set, get_or-set_same, get_or-set_other}
use Rattle.std.proofs.lemmas.List.FromFn.{length-map-range_with_len, get_or-map-range_with_len, map-range_with_len_more}
use Rattle.ckd_types.specs.declared.geometry.Geometry.{Geometry}
use Rattle.track_image.specs.Image.{Image}
use Rattle.volume_file.specs.File.{HasAllTracks, ImageVolume, IsPlaced, IsWhole, empty_image, empty_images}

-- one more empty track
pub images_more : (g : Geometry) (images later : List Image) (n : ℕ) (i : Image) → later ≡ images ++ i ∷ [] → i ≡ empty_image g n
    → images ≡ map (empty_image g) (range_with_len 0 n) → later ≡ map (empty_image g) (range_with_len 0 (n + 1))
images_more g images later n i later_is is front =
    later_is
    ∙ ap (λ (l : List Image). l ++ i ∷ []) front
    ∙ ap (λ (x : Image). map (empty_image g) (range_with_len 0 n) ++ x ∷ []) is
    ∙ sym (map-range_with_len_more (empty_image g) 0 n n (omega arith))

image_at : (g : Geometry) (cylinders t : ℕ) → t < length (empty_images g cylinders)
    → get_or (empty_images g cylinders) t (empty_image g t) ≡ empty_image g t
image_at g cylinders t inside =
    let many = length-map-range_with_len (empty_image g) 0 (cylinders * 15) in
    get_or-map-range_with_len (empty_image g) 0 (cylinders * 15) t t (empty_image g t) (subst (λ (n : ℕ). t < n) many inside) (omega arith)

-- empty tracks are all tracks
pub empty_has_all : (g : Geometry) (cylinders : ℕ) (images : List Image) → 1 ≤ cylinders → cylinders ≤ 4369
    → images ≡ empty_images g cylinders
    → ((t : ℕ) → t < cylinders * 15 → IsPlaced g t (empty_image g t))
    → HasAllTracks (record { geometry = g; cylinders = cylinders; images = images })
empty_has_all g cylinders images least most is placed =
    let many = length-map-range_with_len (empty_image g) 0 (cylinders * 15) in
    subst (λ (l : List Image). HasAllTracks (record { geometry = g; cylinders = cylinders; images = l })) (sym is) (record {
      least = least;
      most = most;
      tracks = many;
      placed = λ t inside. subst (λ (i : Image). IsPlaced g t i) (sym (image_at g cylinders t inside)) (placed t (subst (λ (n : ℕ). t < n) many inside));
    })

-- one image in place of another
pub set_has_all : (v : ImageVolume) (t : ℕ) (i : Image) → HasAllTracks v → t < length v.images → IsPlaced v.geometry t i
    → HasAllTracks (record v { images = set v.images t i })
set_has_all v t i w inside place = record {
  least = w.least;
  most = w.most;
  tracks = length-set v.images t i ∙ w.tracks;
  placed = λ k below. elim (cases_eq k t) [
    | inl same ↦
        (let here : get_or (set v.images t i) k (empty_image v.geometry k) ≡ i =
        ap (λ (x : ℕ). get_or (set v.images t i) x (empty_image v.geometry k)) same ∙ get_or-set_same v.images t i (empty_image v.geometry k) inside in
        subst (λ (x : Image). IsPlaced v.geometry k x) (sym here) (subst (λ (x : ℕ). IsPlaced v.geometry x i) (sym same) place))
    | inr other ↦
        subst (λ (x : Image). IsPlaced v.geometry k x) (sym (get_or-set_other v.images t k i (empty_image v.geometry k) other))
        (w.placed k (subst (λ (n : ℕ). k < n) (length-set v.images t i) below))
  ];
}

-- one with few cylinders is that of a file, and that of a file is one of a device
pub small_is_whole : (v : ImageVolume) → HasAllTracks v → v.cylinders ≤ 64 → IsWhole v
small_is_whole v all small = record { least = all.least; most = small; tracks = all.tracks; placed = all.placed }

pub whole_has_all : (v : ImageVolume) → IsWhole v → HasAllTracks v
whole_has_all v w = record { least = w.least; most = omega (arith, w.most); tracks = w.tracks; placed = w.placed }
