-- What a packed track's calls need: facts of its places, and that an edit leaves it packed.
use Rattle.std.proofs.Common.{
  ◌≡◌,
  ℕ,
  ◌+◌,
  ◌-◌,
  ◌≤◌,
  ◌<◌,
  Bool,
  true,
  false,
  cond,
  not,
  List,
  [],
  ◌∷◌,
  ◌++◌,
  length,
  get_or,
  take,
  drop,
  map,
  position,
  sum_by,
  All,
  Some,
  None,
  refl,
  sym,
  ap,
  subst,
  ◌∙◌,
  append_assoc,
  arith,
}
use Rattle.std.specs.List.{position_or_len}
use Rattle.std.proofs.lemmas.Bool.{lt-ltb, le-ltb}
use Rattle.std.proofs.lemmas.List.{length-append, length-map, take_at, drop_at, take-append-drop, take-map, drop-map, drop-take, get_or-map}
use Rattle.std.proofs.lemmas.List.Concat.{flat_map-append}
use Rattle.std.proofs.lemmas.List.Folds.{fold-map}
use Rattle.std.proofs.lemmas.List.Sums.{position_or_len_is}
use Rattle.ckd_types.specs.declared.geometry.Cchh.{Cchh}
use Rattle.ckd_types.specs.declared.geometry.Geometry.{Geometry}
use Rattle.ckd_types.specs.declared.record.RecId.{RecId}
use Rattle.ckd_types.specs.declared.record.Record.{Record}
use Rattle.ckd_types.specs.declared.record.Track.{Track}
use Rattle.ckd_types.specs.Geometry.{cost}
use Rattle.ckd_types.specs.Track.{is_same_id, cost_of, find_id, home_bytes, record_bytes, end_mark}
use Rattle.track_image.specs.declared.count.Count.{Count}
use Rattle.track_image.specs.Packed.{record_from, unpacked, IsPacked}
use Rattle.track_image.specs.Reading.{count_at, size_of}
use Rattle.track_image.proofs.Fields.{length-record_bytes}
use Rattle.track_image.proofs.Places.{all_bytes, place_at, length-places, Stands, before, behind, stands, count_stands, counted, counts_in, counts}

-- the invariant, of the track that is seen
pub given : (home : Cchh) (bytes places : List ℕ) (t : Track)
    → ◌≡◌ {A = Track} (record { home = home; records = unpacked bytes places }) t
    → IsPacked home bytes places (unpacked bytes places) → IsPacked home bytes places t.records
given home bytes places t seen p = subst (IsPacked home bytes places) (ap (λ (x : Track). x.records) seen) p

pub as_many : (home : Cchh) (bytes places : List ℕ) (rs : List Record) → IsPacked home bytes places rs
    → length places ≡ length rs
as_many home bytes places rs p = ap length p.places_are ∙ length-places 5 rs

pub place_here : (home : Cchh) (bytes places : List ℕ) (rs : List Record) (i n : ℕ) → IsPacked home bytes places rs
    → i < length places → n ≡ get_or places i n → n ≡ 5 + length (all_bytes (take i rs))
place_here home bytes places rs i n p there is =
    let many = as_many home bytes places rs p in
    is ∙ ap (λ (x : List ℕ). get_or x i n) p.places_are ∙ place_at 5 rs i n (omega (arith, many))

-- the bytes behind the records before one
pub record Ends (bytes : List ℕ) (rs : List Record) (i n : ℕ) : Type 0 where
  pub rest : drop n bytes ≡ all_bytes (drop i rs) ++ end_mark
  pub long : length bytes ≡ n + length (all_bytes (drop i rs)) + 8

pub behind_at : (home : Cchh) (bytes places : List ℕ) (rs : List Record) (i n : ℕ) → IsPacked home bytes places rs
    → n ≡ 5 + length (all_bytes (take i rs)) → Ends bytes rs i n
behind_at home bytes places rs i n p is =
    let front = home_bytes home ++ all_bytes (take i rs) in
    let tail = all_bytes (drop i rs) ++ end_mark in
    let split : all_bytes rs ≡ all_bytes (take i rs) ++ all_bytes (drop i rs) =
    ap all_bytes (sym (take-append-drop i rs)) ∙ flat_map-append record_bytes (take i rs) (drop i rs) in
    let whole : bytes ≡ front ++ tail =
    p.bytes_are ∙ ap (λ (x : List ℕ). (home_bytes home ++ x) ++ end_mark) split
    ∙ ap (λ (x : List ℕ). x ++ end_mark) (sym (append_assoc (home_bytes home) (all_bytes (take i rs))
    (all_bytes (drop i rs))))
    ∙ append_assoc front (all_bytes (drop i rs)) end_mark in
    let size : length front ≡ n = omega arith in
    record {
      rest = ap (drop n) whole ∙ drop_at front tail n size;
      long = ap length whole ∙ omega (arith, length-append front tail, length-append (all_bytes (drop i rs)) end_mark);
    }

-- ---- a record by its place

pub record Whole (bytes : List ℕ) (n : ℕ) (r : Record) : Type 0 where
  pub within : n + size_of r + 8 ≤ length bytes
  pub count : count_at (drop n bytes) ≡ counted r
  pub front : take (size_of r) (drop n bytes) ≡ record_bytes r

pub whole_at : (home : Cchh) (bytes places : List ℕ) (rs : List Record) (i n : ℕ) (d : Record)
    → IsPacked home bytes places rs → i < length rs → n ≡ get_or places i n → Whole bytes n (get_or rs i d)
whole_at home bytes places rs i n d p there is =
    let r = get_or rs i d in
    let s = subst (λ (m : ℕ). Stands bytes m r (before home rs i) (behind rs i)) (sym is)
    (stands home bytes places rs i n d p there) in
    record {
      within = s.within;
      count = count_stands bytes n r (before home rs i) (behind rs i) s (p.ranges i d there);
      front = ap (take (size_of r)) (ap (drop n) s.whole
          ∙ drop_at (before home rs i) (record_bytes r ++ behind rs i) n s.here)
          ∙ take_at (record_bytes r) (behind rs i) (size_of r) (length-record_bytes r);
    }

-- the record that is read at a place
pub seen_at : (bytes places : List ℕ) (rs : List Record) (i n : ℕ) (d : Record) → unpacked bytes places ≡ rs
    → i < length places → n ≡ get_or places i n → record_from (drop n bytes) ≡ get_or rs i d
seen_at bytes places rs i n d are there is =
    ap (λ (m : ℕ). record_from (drop m bytes)) is ∙ sym
    (get_or-map (λ (m : ℕ). record_from (drop m bytes)) places i n d there)
    ∙ ap (λ (x : List Record). get_or x i d) are

pub all_within : (home : Cchh) (bytes places : List ℕ) (rs : List Record) → IsPacked home bytes places rs
    → All (λ (n : ℕ). n + 8 ≤ length bytes) places
all_within home bytes places rs p k d h =
    let many = as_many home bytes places rs p in
    let there : k < length rs = omega (arith, many, h) in
    let s = stands home bytes places rs k d (record_from bytes) p there in
    omega (arith, s.within)

-- ---- finding

pub found_at : {X : Type 0} (p : X → Bool) (xs : List X) (i : ℕ) (d : X) → i < length xs
    → ((k : ℕ) → k < i → p (get_or xs k d) ≡ false) → p (get_or xs i d) ≡ true → Some i ≡ position p xs
found_at p xs i d there fails passes =
    let at : position_or_len p xs ≡ i = position_or_len_is p xs i d (omega arith) fails (λ _. passes) in
    rw (at, lt-ltb i (length xs) there) refl

pub found_none : {X : Type 0} (p : X → Bool) (xs : List X) (d : X)
    → ((k : ℕ) → k < length xs → p (get_or xs k d) ≡ false) → None ≡ position p xs
found_none p xs d fails =
    let at : position_or_len p xs ≡ length xs = position_or_len_is p xs (length xs) d (omega arith) fails
    (λ h. absurd (omega (arith, h))) in
    rw (at, le-ltb (length xs) (length xs) (omega arith)) refl

len-map : {X Y : Type 0} (p : Y → Bool) (f : X → Y) (xs : List X)
    → position_or_len (λ x. p (f x)) xs ≡ position_or_len p (map f xs)
len-map p f [] = refl
len-map p f (x ∷ xs) = ap (λ (n : ℕ). cond (not (p (f x))) (1 + n) 0) (len-map p f xs)

pub position-map : {X Y : Type 0} (p : Y → Bool) (f : X → Y) (xs : List X)
    → position (λ x. p (f x)) xs ≡ position p (map f xs)
position-map p f xs =
    let same : position_or_len (λ x. p (f x)) xs ≡ position_or_len p (map f xs) = len-map p f xs in
    rw (same, length-map xs f) refl

pub finds : (bytes places : List ℕ) (rs : List Record) (id : RecId) → unpacked bytes places ≡ rs
    → position (λ (n : ℕ). is_same_id (count_at (drop n bytes)).id id) places ≡ find_id id rs
finds bytes places rs id are =
    position-map (λ (r : Record). is_same_id r.id id) (λ (n : ℕ). record_from (drop n bytes)) places
    ∙ ap (position (λ (r : Record). is_same_id r.id id)) are

-- ---- costs

abbrev pub cost_in : Geometry → Count → ℕ
cost_in g c = cost g c.key c.body

pub costs : (g : Geometry) (home : Cchh) (bytes places : List ℕ) (rs : List Record) (n : ℕ)
    → IsPacked home bytes places rs
    → sum_by (λ (m : ℕ). cost g (count_at (drop m bytes)).key (count_at (drop m bytes)).body) (take n (drop 1 places))
    ≡ sum_by (λ (r : Record). cost g (length r.key) (length r.body)) (take n (drop 1 rs))
costs g home bytes places rs n p =
    let add : ℕ → Count → ℕ = λ a c. a + cost_in g c in
    let same : map (counts_in bytes) (take n (drop 1 places)) ≡ map counted (take n (drop 1 rs)) =
    sym (take-map (counts_in bytes) n (drop 1 places))
    ∙ ap (take n) (sym (drop-map (counts_in bytes) 1 places) ∙ ap (drop 1) (counts home bytes places rs p)
    ∙ drop-map counted 1 rs) ∙ take-map counted n (drop 1 rs) in
    sym (fold-map add (counts_in bytes) 0 (take n (drop 1 places))) ∙ ap (sum_by (cost_in g)) same
    ∙ fold-map add counted 0 (take n (drop 1 rs))

pub cost_until : (g : Geometry) (home : Cchh) (bytes places : List ℕ) (rs : List Record) (after : ℕ)
    → IsPacked home bytes places rs
    → sum_by (λ (m : ℕ). cost g (count_at (drop m bytes)).key (count_at (drop m bytes)).body)
    (take (after + 1 - 1) (drop 1 places)) ≡ cost_of g (take (after + 1) rs)
cost_until g home bytes places rs after p =
    let fewer : after + 1 - 1 ≡ after = omega arith in
    let more : 1 + after ≡ after + 1 = omega arith in
    let units : List Record → ℕ = λ xs. sum_by (λ (r : Record). cost g (length r.key) (length r.body)) xs in
    costs g home bytes places rs (after + 1 - 1) p
    ∙ ap (λ (n : ℕ). units (take n (drop 1 rs))) fewer
    ∙ ap units (sym (drop-take 1 after rs)) ∙ ap (λ (n : ℕ). units (drop 1 (take n rs))) more

-- ---- what an edit makes

pub made_of : (home : Cchh) (new_bytes new_places bytes places : List ℕ) (rs : List Record) → new_bytes ≡ bytes
    → new_places ≡ places → IsPacked home bytes places rs → IsPacked home new_bytes new_places rs
made_of home new_bytes new_places bytes places rs bytes_are places_are p =
    subst (λ (x : List ℕ). IsPacked home x new_places rs) (sym bytes_are)
    (subst (λ (x : List ℕ). IsPacked home bytes x rs) (sym places_are) p)

pub seen_as : {home home' : Cchh} {xs ys : List Record} → home ≡ home' → xs ≡ ys
    → ◌≡◌ {A = Track} (record { home = home; records = xs }) (record { home = home'; records = ys })
seen_as homes records = rw (homes, records) refl
