-- The tracks of a file after a room was written, or a front of it.
use Rattle.std.proofs.Common.{
  ◌≡◌,
  ◌≢◌,
  ◌⊎◌,
  inl,
  inr,
  ℕ,
  ◌+◌,
  ◌-◌,
  ◌*◌,
  ◌≤◌,
  ◌<◌,
  Bool,
  true,
  false,
  ◌&&◌,
  ◌==◌,
  leb,
  List,
  [],
  ◌++◌,
  length,
  take,
  drop,
  map,
  set,
  get_or,
  replicate,
  Option,
  Some,
  None,
  refl,
  sym,
  ap,
  subst,
  ◌∙◌,
  arith,
}
use Rattle.std.specs.List.{range_with_len}
use Rattle.std.proofs.lemmas.Bool.{cases_eq, cases_lt, eqb-true, leb-true}
use Rattle.std.proofs.lemmas.List.{length-set, get_or-set_same, get_or-set_other, ext_get_or, take_at, length-append, length-replicate}
use Rattle.std.proofs.lemmas.List.FromFn.{length-map-range_with_len, get_or-map-range_with_len}
use Rattle.ckd_types.specs.declared.geometry.Geometry.{Geometry}
use Rattle.ckd_types.specs.declared.geometry.Geometry.TheVariants.{D3390, D3380}
use Rattle.disk_image.specs.File.{cut_at, end_in, file_size, fits_room, is_at, padded, place_of, room_in, room_size, track_in, track_in_room, tracks_in}
use Rattle.disk_image.specs.Calls.{patched}
use Rattle.disk_image.proofs.Patches.{patched_before, patched_after, patched_here, patched_length}

-- a room ends where the next one begins, or before it
pub before : (g : Geometry) (u t : ℕ) → u < t → place_of g u + room_size g ≤ place_of g t
before D3390 u t less = omega arith
before D3380 u t less = omega arith

pub inside : (g : Geometry) (c t : ℕ) → t < c * 15 → place_of g t + room_size g ≤ file_size g c
inside g c t less = before g t (c * 15) less

-- other rooms stay
pub other_room : (g : Geometry) (all : List ℕ) (t u : ℕ) (piece : List ℕ) → length piece ≤ room_size g → place_of g t ≤ length all → u ≢ t
    → room_in g (patched all (place_of g t) piece) u ≡ room_in g all u
other_room g all t u piece short within other = elim (cases_lt u t) [
  | inl less ↦ patched_before all (place_of g t) piece (place_of g u) (room_size g) (before g u t less) within
  | inr more ↦
      (let past : t < u = omega (arith, more, other) in
      ap (take (room_size g)) (patched_after all (place_of g t) piece (place_of g u) (omega (arith, short, before g t u past)) within))
]

-- one other track
set_track : (g : Geometry) (c : ℕ) (all new : List ℕ) (t : ℕ) → t < c * 15
    → ((u : ℕ) → u < c * 15 → u ≢ t → track_in g new u ≡ track_in g all u)
    → tracks_in g c new ≡ set (tracks_in g c all) t (track_in g new t)
set_track g c all new t less same =
    let many = λ (x : List ℕ). length-map-range_with_len (track_in g x) 0 (c * 15) in
    let at = λ (x : List ℕ) (u : ℕ) (here : u < c * 15). get_or-map-range_with_len (track_in g x) 0 (c * 15) u u [] here (omega arith) in
    ext_get_or [] (tracks_in g c new) (set (tracks_in g c all) t (track_in g new t))
    (many new ∙ sym (length-set (tracks_in g c all) t (track_in g new t) ∙ many all)) (λ u within.
    let here : u < c * 15 = subst (λ (n : ℕ). u < n) (many new) within in
    elim (cases_eq u t) [
      | inl is ↦
          (at new u here
          ∙ ap (track_in g new) is
          ∙ sym (ap (λ (k : ℕ). get_or (set (tracks_in g c all) t (track_in g new t)) k []) is
          ∙ get_or-set_same (tracks_in g c all) t (track_in g new t) [] (subst (λ (n : ℕ). t < n) (sym (many all)) less)))
      | inr other ↦
          (at new u here
          ∙ same u here other
          ∙ sym (get_or-set_other (tracks_in g c all) t u (track_in g new t) [] other ∙ at all u here))
    ])

-- a front of a room was written
pub put_tracks : (g : Geometry) (c : ℕ) (all : List ℕ) (t : ℕ) (piece : List ℕ) → t < c * 15 → length all ≡ file_size g c
    → length piece ≤ room_size g
    → tracks_in g c (patched all (place_of g t) piece)
    ≡ set (tracks_in g c all) t (track_in g (patched all (place_of g t) piece) t)
put_tracks g c all t piece less size short =
    let within : place_of g t ≤ length all = omega (arith, size, inside g c t less) in
    set_track g c all (patched all (place_of g t) piece) t less (λ u here other. ap track_in_room (other_room g all t u piece short within other))

pub put_size : (g : Geometry) (c : ℕ) (all : List ℕ) (t : ℕ) (piece : List ℕ) → t < c * 15 → length all ≡ file_size g c
    → length piece ≤ room_size g → length (patched all (place_of g t) piece) ≡ file_size g c
put_size g c all t piece less size short =
    patched_length all (place_of g t) piece (omega (arith, size, short, inside g c t less)) ∙ size

-- a whole room was written
pub room_put : (g : Geometry) (all : List ℕ) (t : ℕ) (room : List ℕ) → length room ≡ room_size g → place_of g t ≤ length all
    → room_in g (patched all (place_of g t) room) t ≡ room
room_put g all t room size within =
    ap (λ (n : ℕ). take n (drop (place_of g t) (patched all (place_of g t) room))) (sym size) ∙ patched_here all (place_of g t) room within

both : (a b : Bool) → (a && b) ≡ true → (a ≡ true) × (b ≡ true)
both true b e = (refl, e)
both false b e = absurd cc

found : (o : Option ℕ) (n : ℕ) → is_at o n ≡ true → o ≡ Some n
found (Some m) n e = ap Some (eqb-true m n e)
found None n e = absurd cc

-- bytes come back from a room that they fit
pub comes_back : (size : ℕ) (bytes : List ℕ) → fits_room size bytes ≡ true → track_in_room (padded size bytes) ≡ bytes
comes_back size bytes fits =
    let tests = both (leb (length bytes) size) (is_at (end_in (padded size bytes)) (length bytes)) fits in
    let ends = found (end_in (padded size bytes)) (length bytes) tests.1 in
    ap (λ (o : Option ℕ). cut_at o (padded size bytes)) ends ∙ take_at bytes (replicate (size - length bytes) 0) (length bytes) refl

pub padded_length : (size : ℕ) (bytes : List ℕ) → length bytes ≤ size → length (padded size bytes) ≡ size
padded_length size bytes short =
    omega (arith, short, length-append bytes (replicate (size - length bytes) 0), length-replicate {A = ℕ} (size - length bytes) 0)

pub fits_within : (size : ℕ) (bytes : List ℕ) → fits_room size bytes ≡ true → length bytes ≤ size
fits_within size bytes fits =
    leb-true _ _ (both (leb (length bytes) size) (is_at (end_in (padded size bytes)) (length bytes)) fits).0
