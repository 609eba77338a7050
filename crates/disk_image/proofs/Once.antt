-- A file is the image of one volume at most.
use Rattle.std.proofs.Common.{◌≡◌, ℕ, ◌*◌, ◌<◌, List, [], length, Result, Ok, sym, ap, subst, ◌∙◌, arith}
use Rattle.std.proofs.lemmas.List.{ext_get_or, get_or_default}
use Rattle.ckd_types.specs.declared.geometry.Cchh.{Cchh}
use Rattle.ckd_types.specs.declared.geometry.Geometry.{Geometry}
use Rattle.ckd_types.specs.declared.record.Track.{Track}
use Rattle.ckd_types.specs.Geometry.{cchh_of}
use Rattle.ckd_types.specs.Track.{track_bytes}
use Rattle.track_image.specs.Image.{Image}
use Rattle.track_image.specs.Reading.{reading}
use Rattle.track_image.proofs.Tracks.{reading_again}
use Rattle.volume_file.specs.File.{ImageVolume, IsPlaced, IsWhole, empty_image, image_in}
use Rattle.disk_image.specs.declared.layout.Layout.{Layout}
use Rattle.disk_image.specs.File.{place_of, track_in}
use Rattle.disk_image.specs.Opening.{opening}
use Rattle.disk_image.specs.Volume.{Holds, IsDiskVolume, fault_at, fault_by, layout_of}

-- the volume of a volume file is one of an image
pub of_file : (v : ImageVolume) → IsWhole v → IsDiskVolume v
of_file v w = record { least = w.least; most = omega (arith, w.most); tracks = w.tracks; placed = w.placed }

ok_same : {A E : Type 0} (r : Result A E) (x y : A) → r ≡ Ok x → r ≡ Ok y → x ≡ y
ok_same r x y p q = cc

-- the bytes of a track of a volume are read as that track
read_back : (g : Geometry) (t : ℕ) (i : Image) → IsPlaced g t i → reading g (cchh_of t) (track_bytes i.track) ≡ Ok i.track
read_back g t i p =
    ap (λ (x : Geometry). reading x (cchh_of t) (track_bytes i.track)) (sym p.model)
    ∙ ap (λ (x : Cchh). reading i.geometry x (track_bytes i.track)) (sym p.home)
    ∙ reading_again i.geometry i.track p.fits

-- so such a track of a file isn't bad
pub good_track : (v : ImageVolume) (all : List ℕ) (t : ℕ) → IsPlaced v.geometry t (image_in v t)
    → track_in v.geometry all t ≡ track_bytes (image_in v t).track → fault_at v.geometry all t ≡ []
good_track v all t p is =
    ap (fault_by t (place_of v.geometry t)) (ap (reading v.geometry (cchh_of t)) is ∙ read_back v.geometry t (image_in v t) p)

same_image : (g : Geometry) (t : ℕ) (i j : Image) → IsPlaced g t i → IsPlaced g t j → track_bytes i.track ≡ track_bytes j.track → i ≡ j
same_image g t i j p q same =
    let tracks : i.track ≡ j.track =
    ok_same (reading g (cchh_of t) (track_bytes j.track)) i.track j.track (ap (reading g (cchh_of t)) (sym same) ∙ read_back g t i p) (read_back g t j q) in
    ap (λ (x : Geometry). (let k : Image = record { geometry = x; track = i.track } in k)) (p.model ∙ sym q.model)
    ∙ ap (λ (x : Track). (let k : Image = record { geometry = j.geometry; track = x } in k)) tracks

same_images : (v u : ImageVolume) (all : List ℕ) → IsDiskVolume v → IsDiskVolume u → Holds v all → Holds u all → v.geometry ≡ u.geometry
    → v.cylinders ≡ u.cylinders → v.images ≡ u.images
same_images v u all w x h k g c =
    let d = empty_image v.geometry 0 in
    let size : length v.images ≡ length u.images = w.tracks ∙ ap (λ (n : ℕ). n * 15) c ∙ sym x.tracks in
    ext_get_or d v.images u.images size (λ t inside.
    let other : t < length u.images = omega (arith, inside, size) in
    let less : t < v.cylinders * 15 = omega (arith, inside, w.tracks) in
    let less_too : t < u.cylinders * 15 = omega (arith, other, x.tracks) in
    let q : IsPlaced v.geometry t (image_in u t) = subst (λ (y : Geometry). IsPlaced y t (image_in u t)) (sym g) (x.placed t other) in
    let bytes : track_bytes (image_in v t).track ≡ track_bytes (image_in u t).track =
    sym (h.tracks t less) ∙ ap (λ (y : Geometry). track_in y all t) g ∙ k.tracks t less_too in
    get_or_default v.images t d (empty_image v.geometry t) inside
    ∙ same_image v.geometry t (image_in v t) (image_in u t) (w.placed t inside) q bytes
    ∙ get_or_default u.images t (empty_image u.geometry t) d other)

pub held_once : (v u : ImageVolume) (all : List ℕ) → IsDiskVolume v → IsDiskVolume u → Holds v all → Holds u all → u ≡ v
held_once v u all w x h k =
    let layouts : layout_of v ≡ layout_of u = ok_same (opening all) (layout_of v) (layout_of u) h.opens k.opens in
    let g : v.geometry ≡ u.geometry = ap (λ (l : Layout). l.geometry) layouts in
    let c : v.cylinders ≡ u.cylinders = ap (λ (l : Layout). l.cylinders) layouts in
    let images = same_images v u all w x h k g c in
    sym (ap (λ (y : Geometry). (let z : ImageVolume = record { geometry = y; cylinders = v.cylinders; images = v.images } in z)) g
    ∙ ap (λ (n : ℕ). (let z : ImageVolume = record { geometry = u.geometry; cylinders = n; images = v.images } in z)) c
    ∙ ap (λ (l : List Image). (let z : ImageVolume = record { geometry = u.geometry; cylinders = u.cylinders; images = l } in z)) images)
