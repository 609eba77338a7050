-- The file of empty tracks, one track longer.
use Rattle.std.proofs.Common.{
  ◌≡◌,
  ℕ,
  zero,
  suc,
  ◌+◌,
  ◌-◌,
  ◌*◌,
  ◌≤◌,
  ◌<◌,
  Bool,
  true,
  List,
  [],
  ◌∷◌,
  ◌++◌,
  length,
  take,
  drop,
  map,
  replicate,
  Option,
  Some,
  None,
  Result,
  Ok,
  refl,
  sym,
  ap,
  subst,
  ◌∙◌,
  append_assoc,
  add-one,
  arith,
}
use Rattle.std.specs.List.{flat_map, range_with_len}
use Rattle.std.proofs.lemmas.List.{append-nil, drop_all, length-append, length-replicate, take_all}
use Rattle.std.proofs.lemmas.List.Concat.{flat_map-append}
use Rattle.std.proofs.lemmas.List.FromFn.{map-range_with_len_more}
use Rattle.ckd_types.specs.declared.geometry.Geometry.{Geometry}
use Rattle.ckd_types.specs.declared.geometry.Geometry.TheVariants.{D3390, D3380}
use Rattle.ckd_types.specs.Track.{Fits, empty_track, track_bytes}
use Rattle.track_image.specs.Image.{Image}
use Rattle.volume_file.specs.File.{empty_image}
use Rattle.disk_image.specs.Calls.{PutsAll, patched}
use Rattle.disk_image.specs.File.{empty_file, fits_room, head_of, padded, place_of, room_size}
use Rattle.disk_image.specs.Image.{HasEmpty, IsEmpty}
use Rattle.disk_image.proofs.Fitting.{track_fits}
use Rattle.disk_image.proofs.Tracks.{padded_length}

abbrev room_of : Geometry → Image → List ℕ
room_of g i = padded (room_size g) (track_bytes i.track)

abbrev pub empty_room : Geometry → ℕ → List ℕ
empty_room g t = padded (room_size g) (track_bytes (empty_track t))

file_more : (g : Geometry) (n : ℕ) → empty_file g (n + 1) ≡ empty_file g n ++ empty_room g n
file_more g n =
    let images = map (empty_image g) (range_with_len 0 n) in
    ap (λ (l : List Image). head_of g ++ flat_map (room_of g) l) (map-range_with_len_more (empty_image g) 0 n n (omega arith))
    ∙ ap (λ (l : List ℕ). head_of g ++ l) (flat_map-append (room_of g) images (empty_image g n ∷ []) ∙ ap (λ (l : List ℕ). flat_map (room_of g) images ++ l) (append-nil (empty_room g n)))
    ∙ sym (append_assoc (head_of g) (flat_map (room_of g) images) (empty_room g n))

large : (g : Geometry) → 29 ≤ room_size g
large D3390 = omega arith
large D3380 = omega arith

room_long : (g : Geometry) (t : ℕ) → length (empty_room g t) ≡ room_size g
room_long g t = padded_length (room_size g) (track_bytes (empty_track t)) (omega (arith, large g))

next_place : (g : Geometry) (n : ℕ) → place_of g n + room_size g ≡ place_of g (n + 1)
next_place D3390 n = omega arith
next_place D3380 n = omega arith

head_long : (g : Geometry) → length (head_of g) ≡ 512
head_long D3390 = refl
head_long D3380 = refl

first_place : (g : Geometry) → 512 ≡ place_of g 0
first_place D3390 = refl
first_place D3380 = refl

file_long : (g : Geometry) (n : ℕ) → length (empty_file g n) ≡ place_of g n
file_long g zero = ap length (append-nil (head_of g)) ∙ head_long g ∙ first_place g
file_long g (suc n) =
    let e : suc n ≡ n + 1 = omega arith in
    ap (λ (k : ℕ). length (empty_file g k)) e
    ∙ ap length (file_more g n)
    ∙ length-append (empty_file g n) (empty_room g n)
    ∙ ap (λ (k : ℕ). k + length (empty_room g n)) (file_long g n)
    ∙ ap (λ (k : ℕ). place_of g n + k) (room_long g n)
    ∙ next_place g n
    ∙ ap (place_of g) (sym e)

behind : (all piece : List ℕ) → patched all (length all) piece ≡ all ++ piece
behind all piece =
    ap (λ (l : List ℕ). l ++ (piece ++ drop (length all + length piece) all)) (take_all (length all) all (omega arith))
    ∙ ap (λ (l : List ℕ). all ++ (piece ++ l)) (drop_all (length all + length piece) all (omega arith))
    ∙ ap (λ (l : List ℕ). all ++ l) (append-nil piece)

-- the head was written into a file that had no bytes
pub head_put : (g : Geometry) (held new : Option (List ℕ)) (head : List ℕ) (E : Type 0) (x : Unit {0}) → IsEmpty held → head ≡ head_of g
    → (let r : Result (Unit {0}) E = Ok x in PutsAll held 0 head r new) → HasEmpty g 0 new
head_put g None new head E x none is put = rw put tt
head_put g (Some all) new head E x none is put =
    let made : patched all 0 head ≡ empty_file g 0 =
    ap (λ (l : List ℕ). patched l 0 head) none ∙ behind [] head ∙ is ∙ sym (append-nil (head_of g)) in
    rw put.1 made

-- the room of one more empty track
pub empty_put : (g : Geometry) (n : ℕ) (held new : Option (List ℕ)) (room : List ℕ) (E : Type 0) (x : Unit {0}) → HasEmpty g n held
    → room ≡ empty_room g n
    → (let r : Result (Unit {0}) E = Ok x in PutsAll held (place_of g n) room r new) → HasEmpty g (n + 1) new
empty_put g n None new room E x has is put = rw put tt
empty_put g n (Some all) new room E x has is put =
    let long : length all ≡ place_of g n = ap length has ∙ file_long g n in
    let made : patched all (place_of g n) room ≡ empty_file g (n + 1) =
    ap (λ (k : ℕ). patched all k room) (sym long) ∙ behind all room ∙ ap (λ (l : List ℕ). l ++ room) has
    ∙ ap (λ (l : List ℕ). empty_file g n ++ l) is ∙ sym (file_more g n) in
    rw put.1 made

-- an empty track was put into a room
pub empty_set : (g : Geometry) (n : ℕ) (old new bytes : List ℕ) (i : Image) (b : Bool) → length old ≡ room_size g
    → i ≡ record { geometry = g; track = empty_track n } → Fits i.geometry i.track → bytes ≡ track_bytes i.track
    → b ≡ fits_room (length old) bytes → (b ≡ true → new ≡ padded (length old) bytes) → new ≡ empty_room g n
empty_set g n old new bytes i b size is fits bytes_are test put =
    let same : bytes ≡ track_bytes (empty_track n) = bytes_are ∙ ap (λ (x : Image). track_bytes x.track) is in
    let fit : Fits g (empty_track n) = subst (λ (x : Image). Fits x.geometry x.track) is fits in
    let well : fits_room (length old) bytes ≡ true =
    ap (λ (k : ℕ). fits_room k bytes) size ∙ ap (fits_room (room_size g)) same ∙ track_fits g (empty_track n) fit in
    put (test ∙ well) ∙ ap (λ (k : ℕ). padded k bytes) size ∙ ap (padded (room_size g)) same
