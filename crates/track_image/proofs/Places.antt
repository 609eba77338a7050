-- A list of records in their bytes: where each stands, what is written over one, and what is cut.
use Rattle.std.proofs.Common.{
  ◌≡◌,
  ℕ,
  zero,
  suc,
  ◌+◌,
  ◌≤◌,
  ◌<◌,
  List,
  [],
  ◌∷◌,
  ◌++◌,
  length,
  get_or,
  set,
  take,
  drop,
  map,
  All,
  refl,
  sym,
  ap,
  subst,
  ◌∙◌,
  append_assoc,
  add-one,
  arith,
}
use Rattle.std.specs.List.{flat_map}
use Rattle.std.proofs.lemmas.List.{
  length-append,
  length-take,
  length-map,
  same_lists,
  drop-drop,
  take_at,
  drop_at,
  take-append-drop,
  drop_more,
  set_split,
  get_or-map,
  append-nil,
  nil_from_length,
}
use Rattle.std.proofs.lemmas.List.Elements.{All-cons, All-nil, All-head, All-tail, All-append, All-take, All-set}
use Rattle.std.proofs.lemmas.List.Concat.{flat_map-append}
use Rattle.ckd_types.specs.declared.geometry.Cchh.{Cchh}
use Rattle.ckd_types.specs.declared.record.Record.{Record}
use Rattle.ckd_types.specs.Track.{IsRecord, HasZero, home_bytes, count_area, record_bytes, end_mark, track_bytes}
use Rattle.track_image.specs.declared.count.Count.{Count}
use Rattle.track_image.specs.Packed.{most_bytes, record_from, unpacked, places_from, IsPacked}
use Rattle.track_image.specs.Reading.{count_at, size_of}
use Rattle.track_image.proofs.Fields.{regroup, length-record_bytes, count_again}

abbrev pub all_bytes : List Record → List ℕ
all_bytes rs = flat_map record_bytes rs

-- ---- where records stand

pub place_at : (at : ℕ) (rs : List Record) (i d : ℕ) → i < length rs
    → get_or (places_from at rs) i d ≡ at + length (all_bytes (take i rs))
place_at at [] i d there = absurd (omega arith)
place_at at (r ∷ rs) zero d there = omega arith
place_at at (r ∷ rs) (suc i) d there =
    omega (
      arith,
      place_at (at + size_of r) rs i d (omega arith),
      length-append (record_bytes r)
          (all_bytes (take i rs)),
      length-record_bytes r,
    )

pub length-places : (at : ℕ) (rs : List Record) → length (places_from at rs) ≡ length rs
length-places at [] = refl
length-places at (r ∷ rs) = ap suc (length-places (at + size_of r) rs)

pub take-places : (at n : ℕ) (rs : List Record) → take n (places_from at rs) ≡ places_from at (take n rs)
take-places at zero rs = refl
take-places at (suc n) [] = refl
take-places at (suc n) (r ∷ rs) = ap (λ (x : List ℕ). at ∷ x) (take-places (at + size_of r) n rs)

pub places_push : (at : ℕ) (rs : List Record) (r : Record)
    → places_from at (rs ++ r ∷ []) ≡ places_from at rs ++ (at + length (all_bytes rs)) ∷ []
places_push at [] r = (let same : at ≡ at + 0 = omega arith in ap (λ (x : ℕ). x ∷ []) same)
places_push at (x ∷ rs) r =
    let same : at + size_of x + length (all_bytes rs) ≡ at + length (all_bytes (x ∷ rs)) =
    omega (arith, length-append (record_bytes x) (all_bytes rs), length-record_bytes x) in
    ap (λ (y : List ℕ). at ∷ y) (places_push (at + size_of x) rs r)
    ∙ ap (λ (n : ℕ). at ∷ (places_from (at + size_of x) rs ++ n ∷ [])) same

-- another record of the same size moves none
pub places_same : (at : ℕ) (rs : List Record) (i : ℕ) (r d : Record) → i < length rs
    → size_of r ≡ size_of (get_or rs i d) → places_from at (set rs i r) ≡ places_from at rs
places_same at [] i r d there size = refl
places_same at (x ∷ rs) zero r d there size = ap (λ (n : ℕ). at ∷ places_from (at + n) rs) size
places_same at (x ∷ rs) (suc i) r d there size = ap (λ (y : List ℕ). at ∷ y)
    (places_same (at + size_of x) rs i r d (omega arith) size)

-- ---- the bytes at a place

pub parts : (rs : List Record) (i : ℕ) (d : Record) → i < length rs
    → all_bytes rs ≡ all_bytes (take i rs) ++ (record_bytes (get_or rs i d) ++ all_bytes (drop (i + 1) rs))
parts rs i d there =
    ap all_bytes (sym (take-append-drop i rs)) ∙ flat_map-append record_bytes (take i rs) (drop i rs)
    ∙ ap (λ (x : List Record). all_bytes (take i rs) ++ all_bytes x) (drop_more rs i d there)

pub parts_set : (rs : List Record) (i : ℕ) (r : Record) → i < length rs
    → all_bytes (set rs i r) ≡ all_bytes (take i rs) ++ (record_bytes r ++ all_bytes (drop (i + 1) rs))
parts_set rs i r there =
    let next : suc i ≡ i + 1 = omega arith in
    ap all_bytes (set_split rs i r there) ∙ flat_map-append record_bytes (take i rs) (r ∷ drop (suc i) rs)
    ∙ ap (λ (n : ℕ). all_bytes (take i rs) ++ (record_bytes r ++ all_bytes (drop n rs))) next

pub record_again : (r : Record) (rest : List ℕ) → IsRecord r → record_from (record_bytes r ++ rest) ≡ r
record_again r rest ranges =
    let areas = (r.key ++ r.body) ++ rest in
    let made : Count → Record = λ c. record {
      id = c.id;
      key = take c.key areas;
      body =
          take c.body (drop c.key areas);
    } in
    let regrouped : areas ≡ r.key ++ (r.body ++ rest) = append_assoc r.key r.body rest in
    let key : take (length r.key) areas ≡ r.key = rw regrouped (take_at r.key (r.body ++ rest) (length r.key) refl) in
    let body : take (length r.body) (drop (length r.key) areas) ≡ r.body =
    rw (regrouped, drop_at r.key (r.body ++ rest) (length r.key) refl) (take_at r.body rest (length r.body) refl) in
    let same : made (record { id = r.id; key = length r.key; body = length r.body }) ≡ r = rw (key, body) refl in
    ap record_from (regroup r rest) ∙ ap made (count_again r areas ranges) ∙ same

pub unpacks : (at : ℕ) (front tail : List ℕ) (rs : List Record) → length front ≡ at → All IsRecord rs
    → unpacked (front ++ (all_bytes rs ++ tail)) (places_from at rs) ≡ rs
unpacks at front tail [] here ranges = refl
unpacks at front tail (r ∷ rs) here ranges =
    let rest = all_bytes rs ++ tail in
    let bytes = front ++ (all_bytes (r ∷ rs) ++ tail) in
    let regrouped : all_bytes (r ∷ rs) ++ tail ≡ record_bytes r ++ rest =
    append_assoc (record_bytes r) (all_bytes rs) tail in
    let first : record_from (drop at bytes) ≡ r =
    ap record_from (drop_at front (all_bytes (r ∷ rs) ++ tail) at here ∙ regrouped)
    ∙ record_again r rest (All-head IsRecord r rs ranges) in
    let moved : bytes ≡ (front ++ record_bytes r) ++ rest =
    ap (λ (x : List ℕ). front ++ x) regrouped ∙ sym (append_assoc front (record_bytes r) rest) in
    let others : unpacked bytes (places_from (at + size_of r) rs) ≡ rs =
    ap (λ (x : List ℕ). unpacked x (places_from (at + size_of r) rs)) moved
    ∙ unpacks (at + size_of r) (front ++ record_bytes r) tail rs
    (omega (arith, length-append front (record_bytes r), length-record_bytes r)) (All-tail IsRecord r rs ranges) in
    ap (λ (x : Record). x ∷ unpacked bytes (places_from (at + size_of r) rs)) first
    ∙ ap (λ (x : List Record). r ∷ x) others

-- ---- whole tracks

grouped : (home : Cchh) (rs : List Record) → track_bytes (record { home = home; records = rs }) ≡ home_bytes home
    ++ (all_bytes rs ++ end_mark)
grouped home rs = append_assoc (home_bytes home) (all_bytes rs) end_mark

pub unpacked_is : (home : Cchh) (bytes places : List ℕ) (rs : List Record) → IsPacked home bytes places rs
    → unpacked bytes places ≡ rs
unpacked_is home bytes places rs p =
    ap (λ (x : List ℕ). unpacked x places) (p.bytes_are ∙ grouped home rs)
    ∙ ap (unpacked (home_bytes home ++ (all_bytes rs ++ end_mark))) p.places_are
    ∙ unpacks 5 (home_bytes home) end_mark rs refl p.ranges

pub repacked : (home : Cchh) (bytes places : List ℕ) (rs : List Record) → IsPacked home bytes places rs
    → IsPacked home bytes places (unpacked bytes places)
repacked home bytes places rs p = subst (IsPacked home bytes places) (sym (unpacked_is home bytes places rs p)) p

-- a record between those before it and those behind it
pub record Stands (bytes : List ℕ) (at : ℕ) (r : Record) (front behind : List ℕ) : Type 0 where
  pub whole : bytes ≡ front ++ (record_bytes r ++ behind)
  pub here : length front ≡ at
  pub within : at + size_of r + 8 ≤ length bytes

pub before : Cchh → List Record → ℕ → List ℕ
before home rs i = home_bytes home ++ all_bytes (take i rs)

pub behind : List Record → ℕ → List ℕ
behind rs i = all_bytes (drop (i + 1) rs) ++ end_mark

pub stands : (home : Cchh) (bytes places : List ℕ) (rs : List Record) (i e : ℕ) (d : Record)
    → IsPacked home bytes places rs → i < length rs → Stands bytes (get_or places i e) (get_or rs i d)
    (before home rs i) (behind rs i)
unfolding before behind
stands home bytes places rs i e d p there =
    let r = get_or rs i d in
    let split : all_bytes rs ++ end_mark ≡ all_bytes (take i rs)
    ++ (record_bytes r ++ (all_bytes (drop (i + 1) rs) ++ end_mark)) =
    ap (λ (x : List ℕ). x ++ end_mark) (parts rs i d there)
    ∙ append_assoc (all_bytes (take i rs)) (record_bytes r ++ all_bytes (drop (i + 1) rs)) end_mark
    ∙ ap (λ (x : List ℕ). all_bytes (take i rs) ++ x) (append_assoc (record_bytes r) (all_bytes (drop (i + 1) rs))
    end_mark) in
    let whole : bytes ≡ before home rs i ++ (record_bytes r ++ behind rs i) =
    p.bytes_are ∙ grouped home rs ∙ ap (λ (x : List ℕ). home_bytes home ++ x) split
    ∙ sym (append_assoc (home_bytes home) (all_bytes (take i rs)) (record_bytes r ++ behind rs i)) in
    let place : get_or places i e ≡ 5 + length (all_bytes (take i rs)) =
    ap (λ (x : List ℕ). get_or x i e) p.places_are ∙ place_at 5 rs i e there in
    let long : length bytes ≡ length (before home rs i) +
    (length (record_bytes r) + (length (all_bytes (drop (i + 1) rs)) + 8)) =
    ap length whole ∙ omega (
      arith,
      length-append (before home rs i) (record_bytes r ++ behind rs i),
      length-append
          (record_bytes r) (behind rs i),
      length-append (all_bytes (drop (i + 1) rs)) end_mark,
    ) in
    record {
      whole = whole;
      here = omega arith;
      within = omega (arith, length-record_bytes r);
    }

-- what a record's count area says
pub count_stands : (bytes : List ℕ) (at : ℕ) (r : Record) (front behind : List ℕ) → Stands bytes at r front behind
    → IsRecord r → count_at (drop at bytes) ≡ record { id = r.id; key = length r.key; body = length r.body }
count_stands bytes at r front behind s ranges =
    ap (λ (x : List ℕ). count_at (drop at x)) s.whole ∙ ap count_at
    (drop_at front (record_bytes r ++ behind) at s.here ∙ regroup r behind)
    ∙ count_again r ((r.key ++ r.body) ++ behind) ranges

-- ---- edits

-- what is written over key and data
abbrev pub overwritten : ℕ → List ℕ → List ℕ → List ℕ → List ℕ
overwritten at key body bytes = take at bytes ++ ((key ++ body) ++ drop (at + (length key + length body)) bytes)

overwrites : (bytes : List ℕ) (at : ℕ) (r : Record) (front behind key body : List ℕ) → Stands bytes at r front behind
    → length key ≡ length r.key → length body ≡ length r.body
    → overwritten (at + 8) key body bytes ≡ front ++ (record_bytes (record r { key = key; body = body }) ++ behind)
overwrites bytes at r front behind key body s keys bodies =
    let head = front ++ count_area r in
    let changed : Record = record r { key = key; body = body } in
    let whole : bytes ≡ head ++ ((r.key ++ r.body) ++ behind) =
    s.whole ∙ ap (λ (x : List ℕ). front ++ x) (regroup r behind)
    ∙ sym (append_assoc front (count_area r) ((r.key ++ r.body) ++ behind)) in
    let size : length head ≡ at + 8 = omega (arith, length-append front (count_area r), s.here) in
    let kept : take (at + 8) bytes ≡ head = ap (take (at + 8)) whole
    ∙ take_at head ((r.key ++ r.body) ++ behind) (at + 8) size in
    let old = head ++ (r.key ++ r.body) in
    let old_size : length old ≡ at + 8 + (length key + length body) =
    omega (arith, length-append head (r.key ++ r.body), length-append r.key r.body) in
    let rest : drop (at + 8 + (length key + length body)) bytes ≡ behind =
    ap (drop (at + 8 + (length key + length body))) (whole ∙ sym (append_assoc head (r.key ++ r.body) behind))
    ∙ drop_at old behind (at + 8 + (length key + length body)) old_size in
    let area : count_area changed ≡ count_area r = rw (keys, bodies) refl in
    ap (λ (x : List ℕ). x ++ ((key ++ body) ++ drop (at + 8 + (length key + length body)) bytes)) kept
    ∙ ap (λ (x : List ℕ). head ++ ((key ++ body) ++ x)) rest
    ∙ append_assoc front (count_area r) ((key ++ body) ++ behind)
    ∙ ap (λ (x : List ℕ). front ++ (x ++ ((key ++ body) ++ behind))) (sym area)
    ∙ ap (λ (x : List ℕ). front ++ x) (sym (regroup changed behind))

zero_stays : (rs : List Record) (i : ℕ) (d : Record) (key body : List ℕ) → HasZero rs → i < length rs
    → length key ≡ length (get_or rs i d).key → length body ≡ length (get_or rs i d).body
    → HasZero (set rs i (record (get_or rs i d) { key = key; body = body }))
zero_stays [] i d key body first there keys bodies = first
zero_stays (r ∷ rs) zero d [] body first there keys bodies = (refl, bodies ∙ first.1)
zero_stays (r ∷ rs) zero d (k ∷ key) body first there keys bodies = absurd (omega (arith, ap length first.0))
zero_stays (r ∷ rs) (suc i) d key body first there keys bodies = first

pub updates : (home : Cchh) (bytes places : List ℕ) (rs : List Record) (i e : ℕ) (d : Record) (key body : List ℕ)
    → IsPacked home bytes places rs → i < length rs → length key ≡ length (get_or rs i d).key
    → length body ≡ length (get_or rs i d).body
    → IsPacked home (overwritten (get_or places i e + 8) key body bytes) places
    (set rs i (record (get_or rs i d) { key = key; body = body }))
unfolding before behind
updates home bytes places rs i e d key body p there keys bodies =
    let r = get_or rs i d in
    let at = get_or places i e in
    let changed : Record = record r { key = key; body = body } in
    let s = stands home bytes places rs i e d p there in
    let new = overwritten (at + 8) key body bytes in
    let written : new ≡ before home rs i ++ (record_bytes changed ++ behind rs i) =
    overwrites bytes at r (before home rs i) (behind rs i) key body s keys bodies in
    let split : all_bytes (set rs i changed) ++ end_mark ≡ all_bytes (take i rs)
    ++ (record_bytes changed ++ (all_bytes (drop (i + 1) rs) ++ end_mark)) =
    ap (λ (x : List ℕ). x ++ end_mark) (parts_set rs i changed there)
    ∙ append_assoc (all_bytes (take i rs)) (record_bytes changed ++ all_bytes (drop (i + 1) rs)) end_mark
    ∙ ap (λ (x : List ℕ). all_bytes (take i rs) ++ x) (append_assoc (record_bytes changed) (all_bytes (drop (i + 1) rs))
    end_mark) in
    let are : track_bytes (record { home = home; records = set rs i changed }) ≡ before home rs i
    ++ (record_bytes changed ++ behind rs i) =
    grouped home (set rs i changed) ∙ ap (λ (x : List ℕ). home_bytes home ++ x) split
    ∙ sym (append_assoc (home_bytes home) (all_bytes (take i rs)) (record_bytes changed ++ behind rs i)) in
    let same : length new ≡ length bytes =
    ap length written ∙ omega (
      arith,
      length-append (before home rs i) (record_bytes changed ++ behind rs i),
      length-append (record_bytes changed) (behind rs i),
      length-append (before home rs i) (record_bytes r ++ behind rs i),
      length-append (record_bytes r) (behind rs i),
      length-record_bytes changed,
      length-record_bytes r,
      ap length s.whole,
    ) in
    record {
      zero = zero_stays rs i d key body p.zero there keys bodies;
      ranges = All-set IsRecord rs i changed (record {
        cchh = (p.ranges i d there).cchh;
        number =
            (p.ranges i d there).number;
        key = omega (arith, (p.ranges i d there).key);
        body =
            omega (arith, (p.ranges i d there).body);
      }) p.ranges;
      bytes_are = written ∙ sym are;
      places_are = p.places_are ∙ sym (places_same 5 rs i changed d there (omega arith));
      short = omega (arith, p.short);
    }

zero_first : (rs : List Record) (n : ℕ) (r : Record) → HasZero rs → HasZero (take (n + 1) rs ++ r ∷ [])
zero_first [] n r first = absurd first
zero_first (x ∷ rs) n r first = rw add-one first

pub adds : (home : Cchh) (bytes places : List ℕ) (rs : List Record) (after end : ℕ) (r : Record)
    → IsPacked home bytes places rs → after < length rs → IsRecord r
    → end ≡ 5 + length (all_bytes (take (after + 1) rs)) → end + size_of r + 8 ≤ most_bytes
    → IsPacked home (take end bytes ++ (record_bytes r ++ end_mark)) (take (after + 1) places ++ end ∷ [])
    (take (after + 1) rs ++ r ∷ [])
adds home bytes places rs after end r p there ranges end_is short =
    let kept = take (after + 1) rs in
    let front = home_bytes home ++ all_bytes kept in
    let split : all_bytes rs ≡ all_bytes kept ++ all_bytes (drop (after + 1) rs) =
    ap all_bytes (sym (take-append-drop (after + 1) rs))
    ∙ flat_map-append record_bytes kept (drop (after + 1) rs) in
    let whole : bytes ≡ front ++ (all_bytes (drop (after + 1) rs) ++ end_mark) =
    p.bytes_are ∙ ap (λ (x : List ℕ). (home_bytes home ++ x) ++ end_mark) split
    ∙ ap (λ (x : List ℕ). x ++ end_mark) (sym (append_assoc (home_bytes home) (all_bytes kept)
    (all_bytes (drop (after + 1) rs))))
    ∙ append_assoc front (all_bytes (drop (after + 1) rs)) end_mark in
    let size : length front ≡ end = omega arith in
    let cut : take end bytes ≡ front = ap (take end) whole
    ∙ take_at front (all_bytes (drop (after + 1) rs) ++ end_mark) end size in
    let new = take end bytes ++ (record_bytes r ++ end_mark) in
    let all : all_bytes (kept ++ r ∷ []) ≡ all_bytes kept ++ record_bytes r =
    flat_map-append record_bytes kept (r ∷ []) ∙ ap (λ (x : List ℕ). all_bytes kept ++ x)
    (append-nil (record_bytes r)) in
    let are : track_bytes (record { home = home; records = kept ++ r ∷ [] }) ≡ front ++ (record_bytes r ++ end_mark) =
    ap (λ (x : List ℕ). (home_bytes home ++ x) ++ end_mark) all
    ∙ ap (λ (x : List ℕ). x ++ end_mark) (sym (append_assoc (home_bytes home) (all_bytes kept) (record_bytes r)))
    ∙ append_assoc front (record_bytes r) end_mark in
    let written : new ≡ front ++ (record_bytes r ++ end_mark) =
    ap (λ (x : List ℕ). x ++ (record_bytes r ++ end_mark)) cut in
    record {
      zero = zero_first rs after r p.zero;
      ranges = All-append IsRecord kept (r ∷ []) (All-take IsRecord (after + 1) rs p.ranges)
          (All-cons IsRecord r [] ranges (All-nil IsRecord));
      bytes_are = written ∙ sym are;
      places_are = ap (λ (x : List ℕ). take (after + 1) x ++ end ∷ []) p.places_are
          ∙ ap (λ (x : List ℕ). x ++ end ∷ []) (take-places 5 (after + 1) rs)
          ∙ ap (λ (n : ℕ). places_from 5 kept ++ n ∷ []) end_is ∙ sym (places_push 5 kept r);
      short = omega (
        arith,
        ap length written,
        length-append front (record_bytes r ++ end_mark),
        length-append
            (record_bytes r) end_mark,
        length-record_bytes r,
      );
    }

-- record 0 alone
pub starts : (home : Cchh) (r : Record) → IsRecord r → length r.key ≡ 0 → length r.body ≡ 8
    → IsPacked home (home_bytes home ++ (record_bytes r ++ end_mark)) (5 ∷ []) (r ∷ [])
starts home r ranges key body = record {
  zero = (nil_from_length r.key key, body);
  ranges = All-cons IsRecord r [] ranges (All-nil IsRecord);
  bytes_are = ap (λ (x : List ℕ). home_bytes home ++ (x ++ end_mark)) (sym (append-nil (record_bytes r)))
      ∙ sym (grouped home (r ∷ []));
  places_are = refl;
  short = omega (arith, length-append (record_bytes r) end_mark, length-record_bytes r);
}

first_place : (rs : List Record) → HasZero rs → take 1 (places_from 5 rs) ≡ 5 ∷ []
first_place [] first = absurd first
first_place (r ∷ rs) first = refl

pub restarts : (home : Cchh) (bytes places : List ℕ) (rs : List Record) (r : Record) → IsPacked home bytes places rs
    → IsRecord r → length r.key ≡ 0 → length r.body ≡ 8
    → IsPacked home (take 5 bytes ++ (record_bytes r ++ end_mark)) (take 1 places) (r ∷ [])
restarts home bytes places rs r p ranges key body =
    let front : take 5 bytes ≡ home_bytes home = ap (take 5) p.bytes_are in
    let place : take 1 places ≡ 5 ∷ [] = ap (take 1) p.places_are ∙ first_place rs p.zero in
    rw (front, place) (starts home r ranges key body)

-- ---- what count areas say

abbrev pub counted : Record → Count
counted r = record { id = r.id; key = length r.key; body = length r.body }

abbrev pub counts_in : List ℕ → ℕ → Count
counts_in bytes place = count_at (drop place bytes)

pub counts : (home : Cchh) (bytes places : List ℕ) (rs : List Record) → IsPacked home bytes places rs
    → map (counts_in bytes) places ≡ map counted rs
counts home bytes places rs p =
    let long : length places ≡ length rs = ap length p.places_are ∙ length-places 5 rs in
    same_lists _ _ (length-map places (counts_in bytes) ∙ long ∙ sym (length-map rs counted)) (λ k d h.
    let there : k < length rs = omega (arith, long, h, length-map places (counts_in bytes)) in
    let r = get_or rs k (record_from bytes) in
    let s = stands home bytes places rs k 0 (record_from bytes) p there in
    get_or-map (counts_in bytes) places k 0 d (omega (arith, long))
    ∙ count_stands bytes (get_or places k 0) r (before home rs k) (behind rs k) s (p.ranges k (record_from bytes) there)
    ∙ sym (get_or-map counted rs k (record_from bytes) d there))

-- the second write goes behind the first
pub written_twice : (at : ℕ) (key body bytes : List ℕ) → at + (length key + length body) ≤ length bytes
    → take (at + length key) (take at bytes ++ (key ++ drop (at + length key) bytes))
    ++ (body ++ drop (at + length key + length body) (take at bytes ++ (key ++ drop (at + length key) bytes)))
    ≡ overwritten at key body bytes
written_twice at key body bytes fits =
    let front = take at bytes ++ key in
    let rest = drop (at + length key) bytes in
    let once = take at bytes ++ (key ++ rest) in
    let whole : once ≡ front ++ rest = sym (append_assoc (take at bytes) key rest) in
    let size : length front ≡ at + length key = omega (
      arith,
      length-append (take at bytes) key,
      length-take at
          bytes,
    ) in
    let kept : take (at + length key) once ≡ front = ap (take (at + length key)) whole
    ∙ take_at front rest (at + length key) size in
    let further : drop (at + length key + length body) once ≡ drop (at + (length key + length body)) bytes =
    sym (drop-drop (length body) (at + length key) once)
    ∙ ap (λ (x : List ℕ). drop (length body) (drop (at + length key) x)) whole
    ∙ ap (drop (length body)) (drop_at front rest (at + length key) size)
    ∙ drop-drop (length body) (at + length key) bytes
    ∙ ap (λ (n : ℕ). drop n bytes) (omega arith) in
    ap (λ (x : List ℕ). x ++ (body ++ drop (at + length key + length body) once)) kept
    ∙ ap (λ (x : List ℕ). front ++ (body ++ x)) further
    ∙ append_assoc (take at bytes) key (body ++ drop (at + (length key + length body)) bytes)
    ∙ ap (λ (x : List ℕ). take at bytes ++ x) (sym (append_assoc key body
    (drop (at + (length key + length body)) bytes)))
