-- The tracks that a file has, one more.
use Rattle.std.proofs.Common.{
  ◌≡◌,
  ◌⊎◌,
  inl,
  inr,
  ℕ,
  ◌+◌,
  ◌*◌,
  ◌≤◌,
  ◌<◌,
  List,
  [],
  ◌∷◌,
  ◌++◌,
  length,
  set,
  get_or,
  Option,
  Some,
  None,
  Result,
  Ok,
  Err,
  IfOk,
  refl,
  sym,
  ap,
  subst,
  ◌∙◌,
  arith,
}
use Rattle.std.specs.Prelude.{IfErr, OnOk}
use Rattle.std.specs.List.{flat_map, range_with_len}
use Rattle.std.proofs.lemmas.Bool.{cases_eq}
use Rattle.std.proofs.lemmas.List.{append-nil, get_or-set_same, get_or-set_other, map-id}
use Rattle.std.proofs.lemmas.List.Concat.{flat_map-append}
use Rattle.std.proofs.lemmas.List.FromFn.{map-range_with_len_more}
use Rattle.ckd_types.specs.declared.geometry.Geometry.{Geometry}
use Rattle.ckd_types.specs.declared.record.Track.{Track}
use Rattle.ckd_types.specs.Geometry.{cchh_of}
use Rattle.ckd_types.specs.Track.{track_bytes}
use Rattle.track_image.specs.Image.{Image}
use Rattle.track_image.specs.Reading.{reading}
use Rattle.volume_file.specs.File.{ImageVolume, empty_image, image_in}
use Rattle.disk_image.specs.declared.fault.ImageFault.{ImageFault}
use Rattle.disk_image.specs.declared.fault.ImageFault.TheVariants.{BadHead, BadLength, BadTrack, Compressed, FileFault, ManyCylinders, NoMemory, Parts}
use Rattle.disk_image.specs.declared.layout.Layout.{Layout}
use Rattle.disk_image.specs.declared.volume.TrackFault.{TrackFault}
use Rattle.disk_image.specs.Calls.{IsRoom}
use Rattle.disk_image.specs.File.{place_of, track_in, track_in_room}
use Rattle.disk_image.specs.Volume.{HasTracks, IsFault, IsHanded, Notes, TellsBad, TellsTrack, TellsUnloaded, Told, fault_at, fault_by, faults_by, faults_in}

-- what is so of the bytes in a room is so of the track in the file
told_at : (held : Option (List ℕ)) (g : Geometry) (t : ℕ) (room bytes : List ℕ) (P : List ℕ → Type 0) → IsRoom held g t room
    → bytes ≡ track_in_room room → P bytes → Told held (λ all. P (track_in g all t))
told_at None g t room bytes P is same p = tt
told_at (Some all) g t room bytes P is same p = subst P (same ∙ sym (ap track_in_room is)) p

pub track_told : (held : Option (List ℕ)) (g : Geometry) (t : ℕ) (room bytes : List ℕ) (r : Result Image ImageFault) → IsRoom held g t room
    → bytes ≡ track_in_room room → IfOk r (λ i. bytes ≡ track_bytes i.track)
    → IfOk r (λ i. Told held (λ all. track_in g all t ≡ track_bytes i.track))
track_told held g t room bytes (Ok i) is same h = told_at held g t room bytes (λ b. b ≡ track_bytes i.track) is same h
track_told held g t room bytes (Err e) is same h = tt

pub good_told : (held : Option (List ℕ)) (g : Geometry) (t : ℕ) (room bytes : List ℕ) (r : Result Image ImageFault) → IsRoom held g t room
    → bytes ≡ track_in_room room → OnOk r (faults_by g t bytes ≡ [])
    → OnOk r (Told held (λ all. fault_at g all t ≡ []))
good_told held g t room bytes (Ok i) is same h = told_at held g t room bytes (λ b. faults_by g t b ≡ []) is same h
good_told held g t room bytes (Err e) is same h = tt

fault_told : (held : Option (List ℕ)) (g : Geometry) (t : ℕ) (room bytes : List ℕ) (e : ImageFault) → IsRoom held g t room
    → bytes ≡ track_in_room room → IsFault g t bytes e → TellsTrack held g t e
fault_told held g t room bytes (BadTrack u offset) is same h =
    (h.0, told_at held g t room bytes (λ b. faults_by g t b ≡ record { track = t; offset = offset } ∷ []) is same h.1)
fault_told held g t room bytes NoMemory is same h = tt
fault_told held g t room bytes FileFault is same h = absurd h
fault_told held g t room bytes (BadHead offset) is same h = absurd h
fault_told held g t room bytes (BadLength size) is same h = absurd h
fault_told held g t room bytes Compressed is same h = absurd h
fault_told held g t room bytes Parts is same h = absurd h
fault_told held g t room bytes (ManyCylinders n) is same h = absurd h

pub bad_told : (held : Option (List ℕ)) (g : Geometry) (t : ℕ) (room bytes : List ℕ) (r : Result Image ImageFault) → IsRoom held g t room
    → bytes ≡ track_in_room room → IfErr r (λ e. IsFault g t bytes e)
    → IfErr r (λ e. TellsTrack held g t e)
bad_told held g t room bytes (Ok i) is same h = tt
bad_told held g t room bytes (Err e) is same h = fault_told held g t room bytes e is same h

-- one more track was read into a volume
more_tracks : (v : ImageVolume) (n : ℕ) (i : Image) (all : List ℕ) → n < length v.images → HasTracks v n all
    → track_in v.geometry all n ≡ track_bytes i.track → (let w : ImageVolume = record v { images = set v.images n i } in HasTracks w (n + 1) all)
more_tracks v n i all inside has is t less = elim (cases_eq t n) [
  | inl same ↦
      (let here : get_or (set v.images n i) t (empty_image v.geometry t) ≡ i =
      ap (λ (k : ℕ). get_or (set v.images n i) k (empty_image v.geometry t)) same ∙ get_or-set_same v.images n i (empty_image v.geometry t) inside in
      ap (track_in v.geometry all) same ∙ is ∙ ap (λ (x : Image). track_bytes x.track) (sym here))
  | inr other ↦
      (let before : t < n = omega (arith, less, other) in
      has t before
      ∙ ap (λ (x : Image). track_bytes x.track) (sym (get_or-set_other v.images n t i (empty_image v.geometry t) other)))
]

pub tracks_more : (held : Option (List ℕ)) (v w : ImageVolume) (g : Geometry) (n : ℕ) (i : Image) → w ≡ record v { images = set v.images n i }
    → n < length v.images → v.geometry ≡ g → Told held (HasTracks v n)
    → Told held (λ all. track_in g all n ≡ track_bytes i.track) → Told held (HasTracks w (n + 1))
tracks_more None v w g n i new inside model has is = tt
tracks_more (Some all) v w g n i new inside model has is =
    subst (λ (x : ImageVolume). HasTracks x (n + 1) all) (sym new)
    (more_tracks v n i all inside has (ap (λ (x : Geometry). track_in x all n) model ∙ is))

pub found_good : (g : Geometry) (t : ℕ) (bytes : List ℕ) (track : Track) → reading g (cchh_of t) bytes ≡ Ok track → faults_by g t bytes ≡ []
found_good g t bytes track is = ap (fault_by t (place_of g t)) is

pub found_bad : (g : Geometry) (t : ℕ) (bytes : List ℕ) (offset at : ℕ) → reading g (cchh_of t) bytes ≡ Err offset → at ≡ place_of g t + offset
    → faults_by g t bytes ≡ record { track = t; offset = at } ∷ []
found_bad g t bytes offset at is at_is = ap (fault_by t (place_of g t)) is ∙ ap (λ (n : ℕ). record { track = t; offset = n } ∷ []) (sym at_is)

pub none_noted : (held : Option (List ℕ)) (g : Geometry) (t : ℕ) (xs : List TrackFault) → Told held (λ all. fault_at g all t ≡ [])
    → Told held (λ all. xs ≡ xs ++ fault_at g all t)
none_noted None g t xs none = tt
none_noted (Some all) g t xs none = sym (ap (λ (l : List TrackFault). xs ++ l) none ∙ append-nil xs)

pub one_noted : (held : Option (List ℕ)) (g : Geometry) (t u offset : ℕ) (xs ys : List TrackFault)
    → (u ≡ t) × Told held (λ all. fault_at g all t ≡ record { track = t; offset = offset } ∷ [])
    → ys ≡ xs ++ record { track = u; offset = offset } ∷ []
    → Told held (λ all. ys ≡ xs ++ fault_at g all t)
one_noted None g t u offset xs ys one pushed = tt
one_noted (Some all) g t u offset xs ys one pushed =
    pushed ∙ ap (λ (n : ℕ). xs ++ record { track = n; offset = offset } ∷ []) one.0 ∙ ap (λ (l : List TrackFault). xs ++ l) (sym one.1)

pub fault_noted : (held : Option (List ℕ)) (g : Geometry) (t : ℕ) (e : ImageFault) (xs ys : List TrackFault) → TellsTrack held g t e
    → Notes e xs ys → Told held (λ all. ys ≡ xs ++ fault_at g all t)
fault_noted held g t (BadTrack u offset) xs ys told noted = one_noted held g t u offset xs ys told noted
fault_noted held g t NoMemory xs ys told noted = absurd noted
fault_noted held g t FileFault xs ys told noted = absurd noted
fault_noted held g t (BadHead offset) xs ys told noted = absurd noted
fault_noted held g t (BadLength size) xs ys told noted = absurd noted
fault_noted held g t Compressed xs ys told noted = absurd noted
fault_noted held g t Parts xs ys told noted = absurd noted
fault_noted held g t (ManyCylinders n) xs ys told noted = absurd noted

-- the same, where the file is as it was
pub tracks_push : (first held : Option (List ℕ)) (v w : ImageVolume) (g : Geometry) (n t : ℕ) (i : Image) → held ≡ first → t ≡ n
    → w ≡ record v { images = set v.images t i } → n < length v.images → v.geometry ≡ g → Told first (HasTracks v n)
    → Told held (λ all. track_in g all t ≡ track_bytes i.track) → Told first (HasTracks w (n + 1))
tracks_push first held v w g n t i same is new inside model has told =
    tracks_more first v w g n i (new ∙ ap (λ (k : ℕ). record v { images = set v.images k i }) is) inside model has
    (subst (λ (h : Option (List ℕ)). Told h (λ all. track_in g all n ≡ track_bytes i.track)) same
    (subst (λ (k : ℕ). Told held (λ all. track_in g all k ≡ track_bytes i.track)) is told))

range_push : (n : ℕ) → range_with_len 0 (n + 1) ≡ range_with_len 0 n ++ n ∷ []
range_push n =
    sym (map-id (range_with_len 0 (n + 1)))
    ∙ map-range_with_len_more (λ (x : ℕ). x) 0 n n (omega arith)
    ∙ ap (λ (l : List ℕ). l ++ n ∷ []) (map-id (range_with_len 0 n))

pub faults_more : (g : Geometry) (n : ℕ) (all : List ℕ) → faults_in g (n + 1) all ≡ faults_in g n all ++ fault_at g all n
faults_more g n all =
    ap (flat_map (fault_at g all)) (range_push n)
    ∙ flat_map-append (fault_at g all) (range_with_len 0 n) (n ∷ [])
    ∙ ap (λ (l : List TrackFault). faults_in g n all ++ l) (append-nil (fault_at g all n))

pub faults_push : (first held : Option (List ℕ)) (g : Geometry) (n t : ℕ) (xs ys : List TrackFault) → held ≡ first → t ≡ n
    → Told first (λ all. xs ≡ faults_in g n all) → Told held (λ all. ys ≡ xs ++ fault_at g all t)
    → Told first (λ all. ys ≡ faults_in g (n + 1) all)
faults_push None held g n t xs ys same is so more = tt
faults_push (Some all) held g n t xs ys same is so more =
    let here : ys ≡ xs ++ fault_at g all t = subst (λ (h : Option (List ℕ)). Told h (λ x. ys ≡ xs ++ fault_at g x t)) same more in
    here
    ∙ ap (λ (k : ℕ). xs ++ fault_at g all k) is
    ∙ ap (λ (l : List TrackFault). l ++ fault_at g all n) so
    ∙ sym (faults_more g n all)

pub no_faults : (held : Option (List ℕ)) (g : Geometry) (xs : List TrackFault) → xs ≡ [] → Told held (λ all. xs ≡ faults_in g 0 all)
no_faults None g xs none = tt
no_faults (Some all) g xs none = none

pub no_tracks : (held : Option (List ℕ)) (v : ImageVolume) → Told held (HasTracks v 0)
no_tracks None v = tt
no_tracks (Some all) v = λ t less. absurd (omega (arith, less))

-- no track so far is bad
pub good_push : (first held : Option (List ℕ)) (g : Geometry) (n t : ℕ) → held ≡ first → t ≡ n → Told first (λ all. faults_in g n all ≡ [])
    → Told held (λ all. fault_at g all t ≡ []) → Told first (λ all. faults_in g (n + 1) all ≡ [])
good_push None held g n t same is so good = tt
good_push (Some all) held g n t same is so good =
    let here : fault_at g all t ≡ [] = subst (λ (h : Option (List ℕ)). Told h (λ x. fault_at g x t ≡ [])) same good in
    faults_more g n all
    ∙ ap (λ (l : List TrackFault). l ++ fault_at g all n) so
    ∙ subst (λ (k : ℕ). fault_at g all k ≡ []) is here

pub none_bad : (held : Option (List ℕ)) (g : Geometry) → Told held (λ all. faults_in g 0 all ≡ [])
none_bad None g = tt
none_bad (Some all) g = refl

bad_one : (first held : Option (List ℕ)) (g : Geometry) (n t offset : ℕ) → held ≡ first → t ≡ n → Told first (λ all. faults_in g n all ≡ [])
    → Told held (λ all. fault_at g all t ≡ record { track = t; offset = offset } ∷ [])
    → Told first (λ all. faults_in g (t + 1) all ≡ record { track = t; offset = offset } ∷ [])
bad_one None held g n t offset same is so told = tt
bad_one (Some all) held g n t offset same is so told =
    let here : fault_at g all t ≡ record { track = t; offset = offset } ∷ [] =
    subst (λ (h : Option (List ℕ)). Told h (λ x. fault_at g x t ≡ record { track = t; offset = offset } ∷ [])) same told in
    let none : faults_in g t all ≡ [] = ap (λ (k : ℕ). faults_in g k all) is ∙ so in
    faults_more g t all ∙ ap (λ (l : List TrackFault). l ++ fault_at g all t) none ∙ here

-- the first bad track of a file that is as it was
pub bad_first : (first held : Option (List ℕ)) (l : Layout) (n t : ℕ) (e : ImageFault) → held ≡ first → t ≡ n → n < l.cylinders * 15
    → Told first (λ all. faults_in l.geometry n all ≡ []) → TellsTrack held l.geometry t e → TellsBad first l e
bad_first first held l n t (BadTrack u offset) same is less so told =
    let less_u : u < l.cylinders * 15 = omega (arith, told.0, is, less) in (
      less_u,
      bad_one first held l.geometry n u offset same (told.0 ∙ is) so
          (subst (λ (k : ℕ). Told held (λ all. fault_at l.geometry all k ≡ record { track = k; offset = offset } ∷ [])) (sym told.0) told.1),
    )
bad_first first held l n t NoMemory same is less so told = tt
bad_first first held l n t FileFault same is less so told = tt
bad_first first held l n t (BadHead offset) same is less so told = absurd told
bad_first first held l n t (BadLength size) same is less so told = absurd told
bad_first first held l n t Compressed same is less so told = absurd told
bad_first first held l n t Parts same is less so told = absurd told
bad_first first held l n t (ManyCylinders c) same is less so told = absurd told

-- then it isn't loaded
pub bad_unloaded : (held : Option (List ℕ)) (l : Layout) (e : ImageFault) → TellsBad held l e → TellsUnloaded held l e
bad_unloaded held l (BadTrack u offset) bad = bad
bad_unloaded held l NoMemory bad = bad
bad_unloaded held l FileFault bad = bad
bad_unloaded held l (BadHead offset) bad = absurd bad
bad_unloaded held l (BadLength size) bad = absurd bad
bad_unloaded held l Compressed bad = absurd bad
bad_unloaded held l Parts bad = absurd bad
bad_unloaded held l (ManyCylinders c) bad = absurd bad

-- a fault that isn't that of a track
pub handed_on : (e : ImageFault) → ((t offset : ℕ) → e ≡ BadTrack t offset → ⊥) → IsHanded e e
handed_on (BadTrack t offset) other = absurd (other t offset refl)
handed_on NoMemory other = refl
handed_on FileFault other = refl
handed_on (BadHead offset) other = refl
handed_on (BadLength size) other = refl
handed_on Compressed other = refl
handed_on Parts other = refl
handed_on (ManyCylinders n) other = refl

early_by : (held : Option (List ℕ)) (g : Geometry) (t : ℕ) (fault e : ImageFault) → TellsTrack held g t fault → IsHanded fault e
    → (e ≡ FileFault) ⊎ (e ≡ NoMemory)
early_by held g t (BadTrack u offset) e told is = inr is
early_by held g t NoMemory e told is = inr is
early_by held g t FileFault e told is = inl is
early_by held g t (BadHead offset) e told is = absurd told
early_by held g t (BadLength size) e told is = absurd told
early_by held g t Compressed e told is = absurd told
early_by held g t Parts e told is = absurd told
early_by held g t (ManyCylinders n) e told is = absurd told

-- what is left of a track's fault once that was noted
pub early_handed : (held : Option (List ℕ)) (g : Geometry) (t : ℕ) (fault : ImageFault) (A : Type 0) (r : Result A ImageFault) → TellsTrack held g t fault
    → IfErr r (λ e. IsHanded fault e) → IfErr r (λ e. (e ≡ FileFault) ⊎ (e ≡ NoMemory))
early_handed held g t fault A (Ok x) told is = tt
early_handed held g t fault A (Err e) told is = early_by held g t fault e told is
