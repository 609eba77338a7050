-- The tracks of a volume that were written into a file, one more.
use Rattle.std.proofs.Common.{
  ◌≡◌,
  ◌≢◌,
  ◌⊎◌,
  inl,
  inr,
  ℕ,
  ◌+◌,
  ◌*◌,
  ◌≤◌,
  ◌<◌,
  Bool,
  true,
  List,
  length,
  take,
  Option,
  Some,
  None,
  Result,
  Ok,
  Err,
  refl,
  sym,
  ap,
  subst,
  ◌∙◌,
  arith,
}
use Rattle.std.proofs.lemmas.Bool.{cases_eq, cases_lt}
use Rattle.std.proofs.lemmas.List.{length-take}
use Rattle.ckd_types.specs.declared.geometry.Geometry.{Geometry}
use Rattle.ckd_types.specs.Track.{Fits, track_bytes}
use Rattle.track_image.specs.Image.{Image}
use Rattle.volume_file.specs.File.{ImageVolume, IsPlaced, IsWhole, image_in}
use Rattle.disk_image.specs.Calls.{PutsAll, patched}
use Rattle.disk_image.specs.File.{file_size, fits_room, padded, place_of, room_size, track_in, track_in_room}
use Rattle.disk_image.specs.Image.{IsLayoutOf}
use Rattle.disk_image.specs.Storing.{IsPartly, PartlySo, Stored, StoredSo, Stores}
use Rattle.disk_image.specs.Volume.{layout_of}
use Rattle.disk_image.proofs.Fitting.{track_fits}
use Rattle.disk_image.proofs.Patches.{patched_before}
use Rattle.disk_image.proofs.Tracks.{comes_back, fits_within, inside, other_room, padded_length, put_size, room_put}

-- a track that fits was put into a room
pub image_set : (g : Geometry) (old new bytes : List ℕ) (i : Image) (b : Bool) → length old ≡ room_size g
    → i.geometry ≡ g → Fits i.geometry i.track → bytes ≡ track_bytes i.track
    → b ≡ fits_room (length old) bytes → (b ≡ true → new ≡ padded (length old) bytes) → new ≡ padded (room_size g) (track_bytes i.track)
image_set g old new bytes i b size model fits same test put =
    let fit : Fits g i.track = subst (λ (x : Geometry). Fits x i.track) model fits in
    let well : fits_room (length old) bytes ≡ true =
    ap (λ (k : ℕ). fits_room k bytes) size ∙ ap (fits_room (room_size g)) same ∙ track_fits g i.track fit in
    put (test ∙ well) ∙ ap (λ (k : ℕ). padded k bytes) size ∙ ap (padded (room_size g)) same

pub stored_none : (v : ImageVolume) (held : Option (List ℕ)) → StoredSo v 0 held held
stored_none v None = refl
stored_none v (Some all) = (all, refl, record { size = refl; head = refl; tracks = λ t less. absurd (omega (arith, less)); rest = λ t any. refl })

-- a room, or a front of it, was written
head_kept : (g : Geometry) (all : List ℕ) (t : ℕ) (piece : List ℕ) → place_of g t ≤ length all → take 512 (patched all (place_of g t) piece) ≡ take 512 all
head_kept g all t piece within = patched_before all (place_of g t) piece 0 512 (omega arith) within

one_more : (v : ImageVolume) (n : ℕ) (old all : List ℕ) → length old ≡ file_size v.geometry v.cylinders → n < v.cylinders * 15
    → Fits v.geometry (image_in v n).track → Stored v n old all → place_of v.geometry n ≤ length all
    → Stored v (n + 1) old (patched all (place_of v.geometry n) (padded (room_size v.geometry) (track_bytes (image_in v n).track)))
one_more v n old all size less fits s within =
    let g = v.geometry in
    let bytes = track_bytes (image_in v n).track in
    let room = padded (room_size g) bytes in
    let fit = track_fits g (image_in v n).track fits in
    let long : length room ≡ room_size g = padded_length (room_size g) bytes (fits_within (room_size g) bytes fit) in
    let short : length room ≤ room_size g = omega (arith, long) in
    let others = λ (u : ℕ) (other : u ≢ n). ap track_in_room (other_room g all n u room short within other) in
    record {
      size = put_size g v.cylinders all n room less (s.size ∙ size) short ∙ sym size;
      head = head_kept g all n room within ∙ s.head;
      tracks = λ t below. elim (cases_eq t n) [
        | inl same ↦
            subst (λ (k : ℕ). track_in g (patched all (place_of g n) room) k ≡ track_bytes (image_in v k).track) (sym same)
            (ap track_in_room (room_put g all n room long within) ∙ comes_back (room_size g) bytes fit)
        | inr other ↦ (let before : t < n = omega (arith, below, other) in others t other ∙ s.tracks t before)
      ];
      rest = λ t above. (let other : t ≢ n = λ same. absurd (omega (arith, above, same)) in others t other ∙ s.rest t (omega (arith, above)));
    }

torn_at : (v : ImageVolume) (n : ℕ) (old all : List ℕ) (piece : List ℕ) → length old ≡ file_size v.geometry v.cylinders → n < v.cylinders * 15
    → length piece ≤ room_size v.geometry → Stored v n old all → place_of v.geometry n ≤ length all
    → IsPartly v old (patched all (place_of v.geometry n) piece)
torn_at v n old all piece size less short s within =
    let g = v.geometry in
    record {
      torn = n;
      size = put_size g v.cylinders all n piece less (s.size ∙ size) short ∙ sym size;
      head = head_kept g all n piece within ∙ s.head;
      each = λ t below other.
          let same = ap track_in_room (other_room g all n t piece short within other) in
          elim (cases_lt t n) [
            | inl before ↦ inl (same ∙ s.tracks t before)
            | inr after ↦ inr (same ∙ s.rest t after)
          ];
    }

inside_file : (v : ImageVolume) (n : ℕ) (old all : List ℕ) → length old ≡ file_size v.geometry v.cylinders → n < v.cylinders * 15 → Stored v n old all
    → place_of v.geometry n ≤ length all
inside_file v n old all size less s = omega (arith, s.size, size, inside v.geometry v.cylinders n less)

-- one more track was written
pub stored_more : (v : ImageVolume) (n t : ℕ) (i : Image) (first held new : Option (List ℕ)) (E : Type 0) (x : Unit {0})
    → IsLayoutOf first (layout_of v) → n < v.cylinders * 15 → t ≡ n → i ≡ image_in v n → Fits v.geometry i.track → StoredSo v n first held
    → (let r : Result (Unit {0}) E = Ok x in PutsAll held (place_of v.geometry t) (padded (room_size v.geometry) (track_bytes i.track)) r new)
    → StoredSo v (n + 1) first new
stored_more v n t i None held new E x is less t_is i_is fits so put =
    subst
    (λ (h : Option (List ℕ)). (let r : Result (Unit {0}) E = Ok x in PutsAll h (place_of v.geometry t) (padded (room_size v.geometry) (track_bytes i.track)) r new) → new ≡ None)
    (sym so) (λ p. p) put
stored_more v n t i (Some old) held new E x is less t_is i_is fits so put =
    let all = so.0 in
    let g = v.geometry in
    let room = padded (room_size g) (track_bytes i.track) in
    let here : (let r : Result (Unit {0}) E = Ok x in PutsAll (Some all) (place_of g t) room r new) =
    subst (λ (h : Option (List ℕ)). (let r : Result (Unit {0}) E = Ok x in PutsAll h (place_of g t) room r new)) so.1 put in
    let within = inside_file v n old all is.sized less so.2 in
    let made = one_more v n old all is.sized less (subst (λ (j : Image). Fits g j.track) i_is fits) so.2 within in
    let same : patched all (place_of g t) room ≡ patched all (place_of g n) (padded (room_size g) (track_bytes (image_in v n).track)) =
    ap (λ (k : ℕ). patched all (place_of g k) room) t_is
    ∙ ap (λ (j : Image). patched all (place_of g n) (padded (room_size g) (track_bytes j.track))) i_is in
    (patched all (place_of g n) (padded (room_size g) (track_bytes (image_in v n).track)), here.1 ∙ ap Some same, made)

-- a write failed
pub stored_torn : (v : ImageVolume) (n t : ℕ) (room : List ℕ) (first held new : Option (List ℕ)) (E : Type 0) (e : E)
    → IsLayoutOf first (layout_of v) → n < v.cylinders * 15 → t ≡ n → length room ≤ room_size v.geometry → StoredSo v n first held
    → (let r : Result (Unit {0}) E = Err e in PutsAll held (place_of v.geometry t) room r new)
    → PartlySo v first new
stored_torn v n t room None held new E e is less t_is short so put =
    subst (λ (h : Option (List ℕ)). (let r : Result (Unit {0}) E = Err e in PutsAll h (place_of v.geometry t) room r new) → new ≡ None) (sym so) (λ p. p) put
stored_torn v n t room (Some old) held new E e is less t_is short so put =
    let all = so.0 in
    let g = v.geometry in
    let here : (let r : Result (Unit {0}) E = Err e in PutsAll (Some all) (place_of g t) room r new) =
    subst (λ (h : Option (List ℕ)). (let r : Result (Unit {0}) E = Err e in PutsAll h (place_of g t) room r new)) so.1 put in
    let piece = take here.0 room in
    let few : length piece ≤ room_size g = omega (arith, length-take here.0 room, short) in
    let made = torn_at v n old all piece is.sized less few so.2 (inside_file v n old all is.sized less so.2) in
    (patched all (place_of g n) piece, here.1.0 ∙ ap (λ (k : ℕ). Some (patched all (place_of g k) piece)) t_is, made)

fits_of : (v : ImageVolume) (t : ℕ) (i : Image) → IsPlaced v.geometry t (image_in v t) → i ≡ image_in v t → Fits v.geometry i.track
fits_of v t i place is =
    subst (λ (j : Image). Fits v.geometry j.track) (sym is) (subst (λ (y : Geometry). Fits y (image_in v t).track) place.model place.fits)

-- the same of a track of the volume, by the model that its file has
pub more_at : (v : ImageVolume) (g : Geometry) (n t : ℕ) (i : Image) (first held new : Option (List ℕ)) (E : Type 0) (x : Unit {0}) → g ≡ v.geometry
    → IsLayoutOf first (layout_of v) → n < v.cylinders * 15 → t ≡ n → IsPlaced v.geometry t (image_in v t) → i ≡ image_in v t
    → StoredSo v n first held
    → (let r : Result (Unit {0}) E = Ok x in PutsAll held (place_of g t) (padded (room_size g) (track_bytes i.track)) r new)
    → StoredSo v (n + 1) first new
more_at v g n t i first held new E x model is less t_is place i_is so put =
    stored_more v n t i first held new E x is less t_is (i_is ∙ ap (image_in v) t_is) (fits_of v t i place i_is) so
    (subst (λ (y : Geometry). (let r : Result (Unit {0}) E = Ok x in PutsAll held (place_of y t) (padded (room_size y) (track_bytes i.track)) r new)) model put)

pub torn_so : (v : ImageVolume) (g : Geometry) (n t : ℕ) (i : Image) (first held new : Option (List ℕ)) (E : Type 0) (e : E) → g ≡ v.geometry
    → IsLayoutOf first (layout_of v) → n < v.cylinders * 15 → t ≡ n → IsPlaced v.geometry t (image_in v t) → i ≡ image_in v t
    → StoredSo v n first held
    → (let r : Result (Unit {0}) E = Err e in PutsAll held (place_of g t) (padded (room_size g) (track_bytes i.track)) r new)
    → PartlySo v first new
torn_so v g n t i first held new E e model is less t_is place i_is so put =
    let size = room_size v.geometry in
    let bytes = track_bytes i.track in
    let within = fits_within size bytes (track_fits v.geometry i.track (fits_of v t i place i_is)) in
    let long : length (padded size bytes) ≡ size = padded_length size bytes within in
    stored_torn v n t (padded size bytes) first held new E e is less t_is (omega (arith, long)) so
    (subst (λ (y : Geometry). (let r : Result (Unit {0}) E = Err e in PutsAll held (place_of y t) (padded (room_size y) bytes) r new)) model put)
