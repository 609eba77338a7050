-- What is written of a volume is read again.
use Rattle.std.proofs.Common.{
  ◌≡◌,
  ℕ,
  suc,
  ◌+◌,
  ◌-◌,
  ◌*◌,
  ◌<◌,
  ◌≤◌,
  false,
  ltb,
  List,
  [],
  ◌∷◌,
  ◌++◌,
  length,
  get_or,
  take,
  drop,
  Option,
  Result,
  Ok,
  Err,
  IfOk,
  refl,
  sym,
  ap,
  subst,
  ◌∙◌,
  append_assoc,
  arith,
}
use Rattle.std.specs.List.{flat_map}
use Rattle.std.specs.Io.KnownBytes.{Consumes}
use Rattle.std.proofs.KnownBytes.{Consumes-trans}
use Rattle.std.proofs.lemmas.Bool.{le-ltb}
use Rattle.std.proofs.lemmas.Bool.Decides.{nat_tests}
use Rattle.std.proofs.lemmas.List.{append-nil, length-append, take_at, drop_at, get_or_default}
use Rattle.std.proofs.lemmas.List.Concat.{flat_map-cons}
use Rattle.byteorder.specs.Endian.{big_bytes, big_number}
use Rattle.byteorder.specs.Numbers.{big_number-reads_back}
use Rattle.ckd_types.specs.declared.geometry.Cchh.{Cchh}
use Rattle.ckd_types.specs.declared.geometry.Geometry.{Geometry}
use Rattle.ckd_types.specs.declared.geometry.Geometry.TheVariants.{D3390, D3380}
use Rattle.ckd_types.specs.Geometry.{cchh_of}
use Rattle.ckd_types.specs.Track.{Fits, home_bytes, record_bytes, end_mark, track_bytes}
use Rattle.track_image.specs.Image.{Image}
use Rattle.track_image.specs.Packed.{most_bytes}
use Rattle.track_image.specs.Reading.{reading}
use Rattle.track_image.proofs.Sizes.{few_bytes, within}
use Rattle.track_image.proofs.Tracks.{reading_again}
use Rattle.volume_file.specs.declared.fault.LoadFault.{LoadFault}
use Rattle.volume_file.specs.File.{ImageVolume, IsPlaced, IsWhole, empty_image, file_of, head_of, track_part}
use Rattle.volume_file.specs.Answers.{Tells, TellsFault}
use Rattle.volume_file.proofs.Told.{refused_first, refused_then, tells_on}
use Rattle.volume_file.specs.Loading.{◌>>=◌, head_at, head_in, image_at, length_in, loading, track_at, tracks_at}

-- the bytes of an image are read as its track
image_again : (i : Image) → Fits i.geometry i.track → reading i.geometry i.track.home (track_bytes i.track) ≡ Ok i.track
image_again i is = reading_again i.geometry i.track is

pub few : (i : Image) → Fits i.geometry i.track → length (track_bytes i.track) ≤ most_bytes
few i is =
    omega (
      arith,
      length-append (home_bytes i.track.home ++ flat_map record_bytes i.track.records) end_mark,
      length-append (home_bytes i.track.home) (flat_map record_bytes i.track.records),
      few_bytes i.geometry i.track.records is.zero,
      within i.geometry,
      is.cost,
    )

length_again : (t at n : ℕ) (rest : List ℕ) → n ≤ most_bytes → length_in t at (take 4 (big_bytes 4 n ++ rest)) ≡ Ok n
unfolding length_in
length_again t at n rest most =
    let number : big_number 4 (take 4 (big_bytes 4 n ++ rest)) ≡ n = big_number-reads_back 4 n [] (omega arith) in
    let small : ltb most_bytes n ≡ false = le-ltb _ _ most in
    rw (number, small) refl

image_back : (g : Geometry) (t at n : ℕ) (i : Image) → n ≡ length (track_bytes i.track) → IsPlaced g t i
    → image_at g t at n (track_bytes i.track) ≡ Ok i
unfolding image_at
image_back g t at n i size p =
    let bytes = track_bytes i.track in
    let read : reading g (cchh_of t) bytes ≡ Ok i.track =
    ap (λ (x : Geometry). reading x (cchh_of t) bytes) (sym p.model)
    ∙ ap (λ (x : Cchh). reading i.geometry x bytes) (sym p.home)
    ∙ image_again i p.fits in
    let enough : ltb (length bytes) n ≡ false = le-ltb _ _ (omega (arith, size)) in
    let same : ◌≡◌ {A = Image} (record { geometry = g; track = i.track }) i = ap (λ (x : Geometry). record { geometry = x; track = i.track }) (sym p.model) in
    rw (read, enough) (ap Ok same)

-- the track that stands at the front
pub track_again : (g : Geometry) (t at : ℕ) (i : Image) (rest : List ℕ) → IsPlaced g t i → track_at g t at (track_part i ++ rest) ≡ Ok i
unfolding track_at
track_again g t at i rest p =
    let bytes = track_bytes i.track in
    let n = length bytes in
    let split : track_part i ++ rest ≡ big_bytes 4 n ++ (bytes ++ rest) = append_assoc (big_bytes 4 n) bytes rest in
    let field : take n (drop 4 (track_part i ++ rest)) ≡ bytes = ap (λ (l : List ℕ). take n (drop 4 l)) split ∙ take_at bytes rest n refl in
    let size : length_in t at (take 4 (track_part i ++ rest)) ≡ Ok n =
    ap (λ (l : List ℕ). length_in t at (take 4 l)) split ∙ length_again t at n (bytes ++ rest) (few i p.fits) in
    rw size (ap (image_at g t (at + 4) n) field ∙ image_back g t (at + 4) n i refl p)

-- a fault of the length
length_refused : (g : Geometry) (t at : ℕ) (text : List ℕ) (fault : LoadFault) → length_in t at (take 4 text) ≡ Err fault
    → track_at g t at text ≡ Err fault
unfolding track_at
length_refused g t at text fault e = rw e refl

-- a fault behind the length
image_refused : (g : Geometry) (t at n : ℕ) (text : List ℕ) (fault : LoadFault) → n ≤ most_bytes
    → image_at g t (at + 4) n (take n text) ≡ Err fault
    → track_at g t at (big_bytes 4 n ++ text) ≡ Err fault
unfolding track_at
image_refused g t at n text fault most e = rw (length_again t at n text most) e

-- a track, of which the length can't be read
pub length_told : (g : Geometry) (t at : ℕ) (b : Option (List ℕ)) (fault : LoadFault)
    → TellsFault (λ bytes. length_in t at (take 4 bytes)) b fault → TellsFault (track_at g t at) b fault
length_told g t at b fault told =
    tells_on (λ bytes. length_in t at (take 4 bytes)) (track_at g t at) b b fault
    (refused_first (λ bytes. length_in t at (take 4 bytes)) (track_at g t at) b fault (λ text. length_refused g t at text fault)) told

-- a track, behind its length
pub track_told : (g : Geometry) (t at n : ℕ) (b m a : Option (List ℕ)) (r : Result Image LoadFault) → n ≤ most_bytes
    → Consumes b m (big_bytes 4 n)
    → Tells (λ bytes. image_at g t (at + 4) n (take n bytes)) (λ i. track_bytes i.track) m a r
    → IfOk r (λ i. length (track_bytes i.track) ≡ n)
    → Tells (track_at g t at) track_part b a r
track_told g t at n b m a (Ok i) most front told size =
    subst (λ (x : ℕ). Consumes b a (big_bytes 4 x ++ track_bytes i.track)) (sym size) (Consumes-trans b m a (big_bytes 4 n) (track_bytes i.track) front told)
track_told g t at n b m a (Err fault) most front told size =
    tells_on (λ bytes. image_at g t (at + 4) n (take n bytes)) (track_at g t at) b m fault
    (refused_then (λ bytes. image_at g t (at + 4) n (take n bytes)) (track_at g t at) b m (big_bytes 4 n) fault front
    (λ text. image_refused g t at n text fault most)) told

-- several tracks, and then what stands behind them
abbrev pub behind : List Image → Result (List Image) LoadFault → Result (List Image) LoadFault
behind front others = others >>= (λ is. Ok (front ++ is))

behind_none : (others : Result (List Image) LoadFault) → others ≡ behind [] others
behind_none (Ok is) = refl
behind_none (Err f) = refl

behind_one : (i : Image) (front : List Image) (others : Result (List Image) LoadFault)
    → (behind front others >>= (λ is. Ok (i ∷ is))) ≡ behind (i ∷ front) others
behind_one i front (Ok is) = refl
behind_one i front (Err f) = refl

one_more : (total fewer : ℕ) (g : Geometry) (t at : ℕ) (i : Image) (rest : List ℕ) → total ≡ suc fewer → IsPlaced g t i
    → tracks_at total g t at (track_part i ++ rest) ≡ (tracks_at fewer g (t + 1) (at + length (track_part i)) rest >>= (λ is. Ok (i ∷ is)))
unfolding tracks_at
one_more total fewer g t at i rest one p =
    let here : track_at g t at (track_part i ++ rest) ≡ Ok i = track_again g t at i rest p in
    let left : drop (length (track_part i)) (track_part i ++ rest) ≡ rest = drop_at (track_part i) rest (length (track_part i)) refl in
    rw (one, here, left) refl

pub tracks_through : (images : List Image) (n total : ℕ) (g : Geometry) (t at : ℕ) (rest : List ℕ) → total ≡ length images + n
    → ((k : ℕ) (d : Image) → k < length images → IsPlaced g (t + k) (get_or images k d))
    → tracks_at total g t at (flat_map track_part images ++ rest) ≡ behind images
    (tracks_at n g (t + length images) (at + length (flat_map track_part images)) rest)
tracks_through [] n total g t at rest is placed =
    let same : total ≡ n = omega arith in
    let here : t ≡ t + 0 = omega arith in
    let place : at ≡ at + 0 = omega arith in
    ap (λ (x : ℕ). tracks_at x g t at rest) same
    ∙ ap (λ (x : ℕ). tracks_at n g x at rest) here
    ∙ ap (λ (x : ℕ). tracks_at n g (t + 0) x rest) place
    ∙ behind_none (tracks_at n g (t + 0) (at + 0) rest)
tracks_through (i ∷ images) n total g t at rest is placed =
    let fewer = total - 1 in
    let part = track_part i in
    let tail = flat_map track_part images in
    let first : IsPlaced g t i = subst (λ (x : ℕ). IsPlaced g x i) (omega arith) (placed 0 i (omega arith)) in
    let others : (k : ℕ) (d : Image) → k < length images → IsPlaced g ((t + 1) + k) (get_or images k d) =
    λ k d inside. subst (λ (x : ℕ). IsPlaced g x (get_or images k d)) (omega arith) (placed (suc k) d (omega (arith, inside))) in
    let hypothesis = tracks_through images n fewer g (t + 1) (at + length part) rest (omega (arith, is)) others in
    let t_is : (t + 1) + length images ≡ t + length (i ∷ images) = omega arith in
    let at_is : (at + length part) + length tail ≡ at + length (flat_map track_part (i ∷ images)) =
    omega (arith, ap length (flat_map-cons track_part i images), length-append part tail) in
    let ended : ℕ → ℕ → Result (List Image) LoadFault = λ x y. behind (i ∷ images) (tracks_at n g x y rest) in
    ap (λ (l : List ℕ). tracks_at total g t at (l ++ rest)) (flat_map-cons track_part i images)
    ∙ ap (tracks_at total g t at) (append_assoc part tail rest)
    ∙ one_more total fewer g t at i (tail ++ rest) (omega (arith, is)) first
    ∙ ap (λ (x : Result (List Image) LoadFault). x >>= (λ y. Ok (i ∷ y))) hypothesis
    ∙ behind_one i images (tracks_at n g ((t + 1) + length images) ((at + length part) + length tail) rest)
    ∙ ap (λ (x : ℕ). ended x ((at + length part) + length tail)) t_is
    ∙ ap (λ (x : ℕ). ended (t + length (i ∷ images)) x) at_is

-- the head
pub head_again : (g : Geometry) (c : ℕ) (rest : List ℕ) → 1 ≤ c → c ≤ 64
    → head_at (head_of g c ++ rest) ≡ Ok (record { geometry = g; cylinders = c })
unfolding head_in
head_again D3390 c rest least most = grind (arith, nat_tests)
head_again D3380 c rest least most = grind (arith, nat_tests)

abbrev pub seen : Geometry → ℕ → Result (List Image) LoadFault → Result ImageVolume LoadFault
seen g c images = images >>= (λ is. Ok (record { geometry = g; cylinders = c; images = is }))

-- a file up to some track, and then what stands behind it
pub loads_through : (v : ImageVolume) (n : ℕ) (rest : List ℕ) → 1 ≤ v.cylinders → v.cylinders ≤ 64 → length v.images + n ≡ v.cylinders * 15
    → ((k : ℕ) (d : Image) → k < length v.images → IsPlaced v.geometry k (get_or v.images k d))
    → loading (file_of v ++ rest) ≡ seen v.geometry v.cylinders (behind v.images (tracks_at n v.geometry (length v.images) (length (file_of v)) rest))
unfolding loading
loads_through v n rest least most count placed =
    let g = v.geometry in
    let c = v.cylinders in
    let parts = flat_map track_part v.images in
    let split : file_of v ++ rest ≡ head_of g c ++ (parts ++ rest) = append_assoc (head_of g c) parts rest in
    let head : head_at (file_of v ++ rest) ≡ Ok (record { geometry = g; cylinders = c }) = ap head_at split ∙ head_again g c (parts ++ rest) least most in
    let left : drop 12 (file_of v ++ rest) ≡ parts ++ rest = ap (drop 12) split ∙ drop_at (head_of g c) (parts ++ rest) 12 refl in
    let at : 12 + length parts ≡ length (file_of v) = sym (length-append (head_of g c) parts) in
    let through =
    tracks_through v.images n (c * 15) g 0 12 rest (sym count)
    (λ k d inside. subst (λ (x : ℕ). IsPlaced g x (get_or v.images k d)) (omega arith) (placed k d inside)) in
    let ended : ℕ → ℕ → Result ImageVolume LoadFault = λ x y. seen g c (behind v.images (tracks_at n g x y rest)) in
    let first : 0 + length v.images ≡ length v.images = omega arith in
    rw head (
    ap (λ (l : List ℕ). seen g c (tracks_at (c * 15) g 0 12 l)) left
    ∙ ap (seen g c) through
    ∙ ap (λ (x : ℕ). ended x (12 + length parts)) first
    ∙ ap (λ (x : ℕ). ended (length v.images) x) at
    )

-- a fault behind some tracks
pub refused_through : (v : ImageVolume) (n : ℕ) (rest : List ℕ) (fault : LoadFault) → 1 ≤ v.cylinders → v.cylinders ≤ 64
    → length v.images + n ≡ v.cylinders * 15
    → ((k : ℕ) (d : Image) → k < length v.images → IsPlaced v.geometry k (get_or v.images k d))
    → tracks_at n v.geometry (length v.images) (length (file_of v)) rest ≡ Err fault
    → loading (file_of v ++ rest) ≡ Err fault
refused_through v n rest fault least most count placed e = loads_through v n rest least most count placed ∙ rw e refl

-- the file of a volume
pub loads_back : (v : ImageVolume) → IsWhole v → loading (file_of v) ≡ Ok v
unfolding tracks_at
loads_back v w =
    let placed : (k : ℕ) (d : Image) → k < length v.images → IsPlaced v.geometry k (get_or v.images k d) =
    λ k d inside. subst (IsPlaced v.geometry k) (get_or_default v.images k (empty_image v.geometry k) d inside) (w.placed k inside) in
    ap loading (sym (append-nil (file_of v)))
    ∙ loads_through v 0 [] w.least w.most (omega (arith, w.tracks)) placed
    ∙ ap (λ (is : List Image). Ok (record v { images = is })) (append-nil v.images)
