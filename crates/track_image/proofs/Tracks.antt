-- The bytes that are read are the track's, and the track's bytes are read again, with nothing behind them.
use Rattle.std.proofs.Common.{
  ◌≡◌,
  ℕ,
  zero,
  suc,
  ◌+◌,
  ◌-◌,
  ◌≤◌,
  true,
  false,
  ltb,
  nat_eq,
  eqb,
  List,
  [],
  ◌∷◌,
  ◌++◌,
  length,
  take,
  drop,
  All,
  Some,
  None,
  Result,
  Ok,
  Err,
  sum_by,
  add-zero,
  refl,
  sym,
  ap,
  ◌∙◌,
  append_assoc,
  arith,
}
use Rattle.std.specs.Prelude.{IfOk}
use Rattle.std.specs.List.{starts_with, flat_map}
use Rattle.std.proofs.lemmas.Bool.{le-ltb, ne_eqb}
use Rattle.std.proofs.lemmas.List.{take-append-drop, length-append, drop_at, drop-drop, append-nil}
use Rattle.std.proofs.lemmas.List.Elements.{All-head, All-tail}
use Rattle.std.proofs.lemmas.List.Concat.{flat_map-cons}
use Rattle.std.proofs.lemmas.List.Sums.{sum_by-cons}
use Rattle.std.proofs.lemmas.Slice.Eq.{bytes_eq-Decides}
use Rattle.ckd_types.specs.declared.geometry.Cchh.{Cchh}
use Rattle.ckd_types.specs.declared.geometry.Geometry.{Geometry}
use Rattle.ckd_types.specs.declared.record.Record.{Record}
use Rattle.ckd_types.specs.declared.record.Track.{Track}
use Rattle.ckd_types.specs.Geometry.{cost, capacity}
use Rattle.ckd_types.specs.Track.{IsRecord, HasZero, Fits, cost_of, home_bytes, record_bytes, end_mark, track_bytes}
use Rattle.track_image.specs.declared.fault.BytesFault.{BytesFault}
use Rattle.track_image.specs.Image.{Image}
use Rattle.track_image.specs.Packed.{unpacked, IsFound, IsPacked}
use Rattle.track_image.specs.Reading.{◌>>=◌, Gives, zero_at, next_at, or_end, size_of, records_at, reading}
use Rattle.track_image.proofs.Fields.{
  IsBytes,
  IsBytes-drop,
  bind_ok,
  then_ok,
  ok_is,
  length-record_bytes,
  zero_takes,
  next_takes,
  next_ends,
  next_again,
  zero_again,
  home_again,
}

abbrev units : Geometry → Record → ℕ
units g r = cost g (length r.key) (length r.body)

-- what is read behind a record
abbrev behind : ℕ → Geometry → ℕ → ℕ → List ℕ → Record → Result (List Record) ℕ
behind steps g spent at bytes r = records_at steps g (spent + units g r) (at + size_of r) (drop (size_of r) bytes)
    >>= (λ others. Ok (r ∷ others))

pub records_take : (steps : ℕ) (g : Geometry) (spent at : ℕ) (bytes : List ℕ) (rs : List Record) → IsBytes bytes
    → records_at steps g spent at bytes ≡ Ok rs → bytes ≡ flat_map record_bytes rs ++ end_mark
unfolding records_at
records_take zero g spent at bytes rs fits e = absurd cc
records_take (suc steps) g spent at bytes rs fits e =
    let a = bind_ok (next_at g spent at bytes) (λ next. or_end next (behind steps g spent at bytes)) rs e in
    elim a.0 as (λ next. next_at g spent at bytes ≡ Ok next → or_end next (behind steps g spent at bytes) ≡ Ok rs
    → bytes ≡ flat_map record_bytes rs ++ end_mark) [
      | None ↦ λ n o. (let none : [] ≡ rs = ok_is [] rs o in rw (← none) (next_ends g spent at bytes n))
      | Some r ↦ λ n o.
          (let b = bind_ok (records_at steps g (spent + units g r) (at + size_of r) (drop (size_of r) bytes))
          (λ others. Ok (r ∷ others)) rs o in
          let made : r ∷ b.0 ≡ rs = ok_is (r ∷ b.0) rs b.2 in
          let rest = records_take steps g (spent + units g r) (at + size_of r) (drop (size_of r) bytes) b.0
          (IsBytes-drop (size_of r) bytes fits) b.1 in
          next_takes g spent at bytes r fits n ∙ ap (λ (x : List ℕ). record_bytes r ++ x) rest
          ∙ sym (append_assoc (record_bytes r) (flat_map record_bytes b.0) end_mark)
          ∙ ap (λ (x : List ℕ). x ++ end_mark) (sym (flat_map-cons record_bytes r b.0))
          ∙ ap (λ (x : List Record). flat_map record_bytes x ++ end_mark) made)
    ] a.1 a.2

-- bytes that begin with a home address
home_takes : (home : Cchh) (bytes : List ℕ) → starts_with nat_eq bytes (home_bytes home) ≡ true
    → bytes ≡ home_bytes home ++ drop 5 bytes
home_takes home bytes start =
    let same = (bytes_eq-Decides (home_bytes home) (take 5 bytes)).0 start in
    sym (take-append-drop 5 bytes) ∙ ap (λ (x : List ℕ). x ++ drop 5 bytes) (sym same)

pub reading_takes : (g : Geometry) (home : Cchh) (bytes : List ℕ) (t : Track) → IsBytes bytes
    → reading g home bytes ≡ Ok t → bytes ≡ track_bytes t
unfolding reading
reading_takes g home bytes t fits e =
    let a = then_ok (starts_with nat_eq bytes (home_bytes home))
    (zero_at 5 (drop 5 bytes) >>= (λ first. records_at (length bytes) g 0 21 (drop 21 bytes)
    >>= (λ others. Ok (record { home = home; records = first ∷ others })))) 0 t e in
    let b = bind_ok (zero_at 5 (drop 5 bytes)) (λ first. records_at (length bytes) g 0 21 (drop 21 bytes)
    >>= (λ others. Ok (record { home = home; records = first ∷ others }))) t a.1 in
    let c = bind_ok (records_at (length bytes) g 0 21 (drop 21 bytes))
    (λ others. Ok (record { home = home; records = b.0 ∷ others })) t b.2 in
    let made : Track = record { home = home; records = b.0 ∷ c.0 } in
    let first : drop 5 bytes ≡ record_bytes b.0 ++ drop 21 bytes =
    zero_takes 5 (drop 5 bytes) b.0 (IsBytes-drop 5 bytes fits) b.1
    ∙ ap (λ (x : List ℕ). record_bytes b.0 ++ x) (drop-drop 16 5 bytes) in
    let others = records_take (length bytes) g 0 21 (drop 21 bytes) c.0 (IsBytes-drop 21 bytes fits) c.1 in
    let records : drop 5 bytes ≡ flat_map record_bytes (b.0 ∷ c.0) ++ end_mark =
    first ∙ ap (λ (x : List ℕ). record_bytes b.0 ++ x) others
    ∙ sym (append_assoc (record_bytes b.0) (flat_map record_bytes c.0) end_mark)
    ∙ ap (λ (x : List ℕ). x ++ end_mark) (sym (flat_map-cons record_bytes b.0 c.0)) in
    let whole : bytes ≡ track_bytes made = home_takes home bytes a.0 ∙ ap (λ (x : List ℕ). home_bytes home ++ x) records
    ∙ sym (append_assoc (home_bytes home) (flat_map record_bytes (b.0 ∷ c.0)) end_mark) in
    whole ∙ ap track_bytes (ok_is made t c.2)

-- ---- what is written is read again

bind_done : {A : Type 0} (r : Result A ℕ) → (r >>= (λ x. Ok x)) ≡ r
bind_done (Ok x) = refl
bind_done (Err at) = refl

bind_assoc : {A B C : Type 0} (r : Result A ℕ) (f : A → B) (h : B → C)
    → ((r >>= (λ x. Ok (f x))) >>= (λ y. Ok (h y))) ≡ (r >>= (λ x. Ok (h (f x))))
bind_assoc (Ok x) f h = refl
bind_assoc (Err at) f h = refl

one_more : (total fewer : ℕ) (g : Geometry) (spent at : ℕ) (bytes : List ℕ) (r : Record) → total ≡ suc fewer
    → next_at g spent at bytes ≡ Ok (Some r) → records_at total g spent at bytes ≡ behind fewer g spent at bytes r
unfolding records_at
one_more total fewer g spent at bytes r one next = rw (one, next) refl

-- the records of some bytes are read, and then what stands behind them
records_through : (rs : List Record) (steps total : ℕ) (g : Geometry) (spent at : ℕ) (tail : List ℕ)
    → total ≡ length rs + steps → All IsRecord rs → spent + sum_by (units g) rs ≤ capacity g
    → records_at total g spent at (flat_map record_bytes rs ++ tail)
    ≡ (records_at steps g (spent + sum_by (units g) rs) (at + length (flat_map record_bytes rs)) tail
    >>= (λ others. Ok (rs ++ others)))
records_through [] steps total g spent at tail total_is ranges room =
    let same : total ≡ steps = omega arith in
    rw (same, add-zero spent, add-zero at) (sym (bind_done (records_at steps g spent at tail)))
records_through (r ∷ rs) steps total g spent at tail total_is ranges room =
    let fewer = total - 1 in
    let one : total ≡ suc fewer = omega arith in
    let left : fewer ≡ length rs + steps = omega arith in
    let rest = flat_map record_bytes rs ++ tail in
    let sum : sum_by (units g) (r ∷ rs) ≡ units g r + sum_by (units g) rs = sum_by-cons (units g) r rs in
    let first : spent + units g r ≤ capacity g = omega arith in
    let others : (spent + units g r) + sum_by (units g) rs ≤ capacity g = omega arith in
    let spent_is : (spent + units g r) + sum_by (units g) rs ≡ spent + sum_by (units g) (r ∷ rs) = omega arith in
    let at_is : (at + size_of r) + length (flat_map record_bytes rs) ≡ at + length (flat_map record_bytes (r ∷ rs)) =
    omega (
      arith,
      ap length (flat_map-cons record_bytes r rs),
      length-append (record_bytes r)
          (flat_map record_bytes rs),
      length-record_bytes r,
    ) in
    let regrouped : flat_map record_bytes (r ∷ rs) ++ tail ≡ record_bytes r ++ rest =
    ap (λ (x : List ℕ). x ++ tail) (flat_map-cons record_bytes r rs)
    ∙ append_assoc (record_bytes r) (flat_map record_bytes rs) tail in
    let next : next_at g spent at (record_bytes r ++ rest) ≡ Ok (Some r) =
    next_again g spent at r rest (All-head IsRecord r rs ranges) first in
    let read : records_at total g spent at (record_bytes r ++ rest)
    ≡ behind fewer g spent at (record_bytes r ++ rest) r =
    one_more total fewer g spent at (record_bytes r ++ rest) r one next in
    let dropped : drop (size_of r) (record_bytes r ++ rest) ≡ rest =
    drop_at (record_bytes r) rest (size_of r) (length-record_bytes r) in
    let more : Result (List Record) ℕ → Result (List Record) ℕ = λ x. x >>= (λ y. Ok (r ∷ y)) in
    let hypothesis = records_through rs steps fewer g (spent + units g r) (at + size_of r) tail left
    (All-tail IsRecord r rs ranges) others in
    let ended : ℕ → ℕ → Result (List Record) ℕ = λ s n. records_at steps g s n tail >>= (λ y. Ok ((r ∷ rs) ++ y)) in
    ap (records_at total g spent at) regrouped ∙ read
    ∙ ap (λ (x : List ℕ). more (records_at fewer g (spent + units g r) (at + size_of r) x)) dropped
    ∙ ap more hypothesis
    ∙ bind_assoc (records_at steps g ((spent + units g r) + sum_by (units g) rs)
    ((at + size_of r) + length (flat_map record_bytes rs)) tail) (λ y. rs ++ y) (λ y. r ∷ y)
    ∙ ap (λ (s : ℕ). ended s ((at + size_of r) + length (flat_map record_bytes rs))) spent_is
    ∙ ap (λ (n : ℕ). ended (spent + sum_by (units g) (r ∷ rs)) n) at_is

-- a track that begins with record 0
reading_through : (g : Geometry) (home : Cchh) (r : Record) (rs : List Record) (steps : ℕ) (tail : List ℕ)
    → length ((home_bytes home ++ flat_map record_bytes (r ∷ rs)) ++ tail) ≡ length rs + steps
    → All IsRecord (r ∷ rs) → length r.key ≡ 0 → length r.body ≡ 8 → sum_by (units g) rs ≤ capacity g
    → reading g home ((home_bytes home ++ flat_map record_bytes (r ∷ rs)) ++ tail)
    ≡ (records_at steps g (0 + sum_by (units g) rs) (21 + length (flat_map record_bytes rs)) tail
    >>= (λ others. Ok (record { home = home; records = r ∷ (rs ++ others) })))
unfolding reading
reading_through g home r rs steps tail steps_is ranges key body room =
    let bytes = (home_bytes home ++ flat_map record_bytes (r ∷ rs)) ++ tail in
    let rest = flat_map record_bytes rs ++ tail in
    let start : starts_with nat_eq bytes (home_bytes home) ≡ true =
    (bytes_eq-Decides (home_bytes home) (take 5 bytes)).1 refl in
    let behind_home : drop 5 bytes ≡ record_bytes r ++ rest =
    append_assoc (record_bytes r) (flat_map record_bytes rs) tail in
    let first : zero_at 5 (drop 5 bytes) ≡ Ok r = ap (zero_at 5) behind_home
    ∙ zero_again 5 r rest (All-head IsRecord r rs ranges) key body in
    let size : length (record_bytes r) ≡ 16 = omega (arith, length-record_bytes r) in
    let behind_zero : drop 21 bytes ≡ rest = sym (drop-drop 16 5 bytes) ∙ ap (drop 16) behind_home
    ∙ drop_at (record_bytes r) rest 16 size in
    let others = records_through rs steps (length bytes) g 0 21 tail steps_is (All-tail IsRecord r rs ranges)
    (omega arith) in
    let track : List Record → Track = λ x. record { home = home; records = r ∷ x } in
    let all : (records_at (length bytes) g 0 21 (drop 21 bytes) >>= (λ x. Ok (track x)))
    ≡ (records_at steps g (0 + sum_by (units g) rs) (21 + length (flat_map record_bytes rs)) tail
    >>= (λ x. Ok (track (rs ++ x)))) =
    ap (λ (x : List ℕ). records_at (length bytes) g 0 21 x >>= (λ y. Ok (track y))) behind_zero
    ∙ ap (λ (x : Result (List Record) ℕ). x >>= (λ y. Ok (track y))) others
    ∙ bind_assoc (records_at steps g (0 + sum_by (units g) rs) (21 + length (flat_map record_bytes rs)) tail)
    (λ x. rs ++ x) track in
    rw (start, first) all

mark_ends : (k : ℕ) (g : Geometry) (spent at : ℕ) → records_at (suc k) g spent at end_mark ≡ Ok []
unfolding records_at next_at
mark_ends k g spent at = refl

mark_then : (k : ℕ) (g : Geometry) (spent at x : ℕ) (rest : List ℕ)
    → records_at (suc k) g spent at (end_mark ++ x ∷ rest) ≡ Err (at + 8)
unfolding records_at next_at
mark_then k g spent at x rest =
    let full : ltb (length (end_mark ++ x ∷ rest)) 8 ≡ false = le-ltb _ _ (omega arith) in
    let more : eqb (length (end_mark ++ x ∷ rest)) 8 ≡ false = ne_eqb _ _ (λ e. omega arith) in
    rw (full, more) refl

length-records : (rs : List Record) → length rs ≤ length (flat_map record_bytes rs)
length-records [] = omega arith
length-records (r ∷ rs) = omega (
  arith,
  length-records rs,
  ap length (flat_map-cons record_bytes r rs),
  length-append
      (record_bytes r) (flat_map record_bytes rs),
  length-record_bytes r,
)

again : (g : Geometry) (home : Cchh) (records : List Record) → HasZero records → All IsRecord records
    → cost_of g records ≤ capacity g
    → reading g home (track_bytes (record { home = home; records = records }))
    ≡ Ok (record { home = home; records = records })
again g home [] first ranges room = absurd first
again g home (r ∷ rs) first ranges room =
    let bytes = (home_bytes home ++ flat_map record_bytes (r ∷ rs)) ++ end_mark in
    let long : length rs + 8 ≤ length bytes = omega (
      arith,
      length-records rs,
      length-append
          (home_bytes home ++ flat_map record_bytes (r ∷ rs)) end_mark,
      length-append (home_bytes home)
          (flat_map record_bytes (r ∷ rs)),
      ap length (flat_map-cons record_bytes r rs),
      length-append (record_bytes r)
          (flat_map record_bytes rs),
    ) in
    let k = length bytes - length rs - 1 in
    reading_through g home r rs (suc k) end_mark (omega arith) ranges (ap length first.0) first.1 room
    ∙ ap (λ (x : Result (List Record) ℕ). x >>= (λ y. Ok (record { home = home; records = r ∷ (rs ++ y) })))
    (mark_ends k g (0 + sum_by (units g) rs) (21 + length (flat_map record_bytes rs)))
    ∙ ap (λ (x : List Record). Ok (record { home = home; records = r ∷ x })) (append-nil rs)

pub reading_again : (g : Geometry) (t : Track) → Fits g t → reading g t.home (track_bytes t) ≡ Ok t
reading_again g t fits = again g t.home t.records fits.zero fits.records fits.cost

-- what stands behind the end mark is a fault
past_mark : (g : Geometry) (home : Cchh) (records : List Record) (x : ℕ) (rest : List ℕ) → HasZero records
    → All IsRecord records → cost_of g records ≤ capacity g
    → (at : ℕ) × (reading g home (track_bytes (record { home = home; records = records }) ++ x ∷ rest) ≡ Err at)
past_mark g home [] x rest first ranges room = absurd first
past_mark g home (r ∷ rs) x rest first ranges room =
    let front = home_bytes home ++ flat_map record_bytes (r ∷ rs) in
    let bytes = front ++ (end_mark ++ x ∷ rest) in
    let long : length rs + 8 ≤ length bytes = omega (
      arith,
      length-records rs,
      length-append front
          (end_mark ++ x ∷ rest),
      length-append (home_bytes home) (flat_map record_bytes (r ∷ rs)),
      ap length
          (flat_map-cons record_bytes r rs),
      length-append (record_bytes r) (flat_map record_bytes rs),
    ) in
    let k = length bytes - length rs - 1 in
    let at = 21 + length (flat_map record_bytes rs) in (
      at + 8,
      ap (reading g home) (append_assoc front end_mark (x ∷ rest))
          ∙ reading_through g home r rs (suc k) (end_mark ++ x ∷ rest) (omega arith) ranges (ap length first.0) first.1
          room
          ∙ ap (λ (y : Result (List Record) ℕ). y >>= (λ z. Ok (record { home = home; records = r ∷ (rs ++ z) })))
          (mark_then k g (0 + sum_by (units g) rs) at x rest),
    )

pub nothing_behind : (g : Geometry) (a b : Track) (rest : List ℕ) → Fits g a → Fits g b
    → track_bytes b ≡ track_bytes a ++ rest → rest ≡ []
nothing_behind g a b [] a_fits b_fits e = refl
nothing_behind g a b (x ∷ rest) a_fits b_fits e =
    let moved : Track = record { home = a.home; records = b.records } in
    let home : home_bytes b.home ≡ home_bytes a.home = ap (take 5) e in
    let same : track_bytes b ≡ track_bytes moved = ap (λ (y : List ℕ). (y ++ flat_map record_bytes b.records)
    ++ end_mark) home in
    let whole : reading g a.home (track_bytes moved) ≡ Ok moved =
    again g a.home b.records b_fits.zero b_fits.records b_fits.cost in
    let fault = past_mark g a.home a.records x rest a_fits.zero a_fits.records a_fits.cost in
    let both : reading g a.home (track_bytes moved) ≡ Err fault.0 = ap (reading g a.home) (sym same ∙ e) ∙ fault.1 in
    absurd cc

-- the bytes of a track say which it is
pub same_track : (g : Geometry) (a b : Track) → Fits g a → Fits g b → track_bytes a ≡ track_bytes b → a ≡ b
same_track g a b a_fits b_fits e =
    let home : a.home ≡ b.home = home_again a.home b.home a_fits.home b_fits.home (ap (take 5) e) in
    ok_is a b (sym (reading_again g a a_fits) ∙ ap (λ (h : Cchh). reading g h (track_bytes a)) home
    ∙ ap (reading g b.home) e ∙ reading_again g b b_fits)

pub found_packed : (g : Geometry) (home : Cchh) (bytes places : List ℕ) (spent : ℕ) → IsBytes bytes
    → IsFound g bytes places spent → reading g home bytes ≡ Ok (record { home = home; records = unpacked bytes places })
    → IsPacked home bytes places (unpacked bytes places)
found_packed g home bytes places spent fits f read = record {
  zero = f.zero;
  ranges = f.ranges;
  bytes_are = reading_takes g home bytes (record { home = home; records = unpacked bytes places }) fits read;
  places_are = f.places_are;
  short = f.short;
}

pub is_found : (g : Geometry) (home : Cchh) (bytes : List ℕ) (r : Result Image BytesFault) → IsBytes bytes
    → Gives (λ (i : Image). i.track) r (reading g home bytes) → IfOk r (λ (i : Image). Fits i.geometry i.track)
    → IfOk r (λ (i : Image). Fits i.geometry i.track × (bytes ≡ track_bytes i.track))
is_found g home bytes (Ok i) fits read image = (image, reading_takes g home bytes i.track fits read)
is_found g home bytes (Err e) fits read image = tt
