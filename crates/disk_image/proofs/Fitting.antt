-- A track that fits its volume fits its room, and comes back from there.
use Rattle.std.proofs.Common.{
  ◌≡◌,
  ℕ,
  zero,
  suc,
  ◌+◌,
  ◌-◌,
  ◌*◌,
  ◌/◌,
  ◌%◌,
  ◌^◌,
  ◌≤◌,
  ◌<◌,
  ◌==◌,
  ◌&&◌,
  Bool,
  true,
  false,
  cond,
  leb,
  eqb,
  eq-eqb,
  nat_eq,
  List,
  [],
  ◌∷◌,
  ◌++◌,
  length,
  take,
  drop,
  get_or,
  replicate,
  All,
  Option,
  Some,
  None,
  sum_by,
  refl,
  sym,
  ap,
  subst,
  ◌∙◌,
  append_assoc,
  arith,
}
use Rattle.std.specs.List.{starts_with, flat_map}
use Rattle.std.proofs.lemmas.Bool.{eqb-true, le-leb}
use Rattle.std.proofs.lemmas.List.{length-append, length-replicate, drop_at}
use Rattle.std.proofs.lemmas.List.Elements.{All-head, All-tail}
use Rattle.std.proofs.lemmas.List.Concat.{flat_map-cons}
use Rattle.std.proofs.lemmas.List.Sums.{sum_by-cons}
use Rattle.std.proofs.lemmas.Slice.Eq.{bytes_eq-Decides}
use Rattle.ckd_types.specs.declared.geometry.Geometry.{Geometry}
use Rattle.ckd_types.specs.declared.geometry.Geometry.TheVariants.{D3390, D3380}
use Rattle.ckd_types.specs.declared.record.Record.{Record}
use Rattle.ckd_types.specs.declared.record.Track.{Track}
use Rattle.ckd_types.specs.Geometry.{cost, capacity, data_units, key_units}
use Rattle.ckd_types.specs.Track.{IsRecord, HasZero, Fits, cost_of, count_area, home_bytes, record_bytes, end_mark, track_bytes}
use Rattle.track_image.specs.Reading.{size_of}
use Rattle.track_image.proofs.Fields.{length-record_bytes, regroup}
use Rattle.disk_image.specs.File.{end_from, end_in, fits_room, is_at, most_steps, padded, record_size, room_size}
use Rattle.disk_image.proofs.Steps.{end_step, end_marked}

-- ---- how many bytes a track has

-- ten records have at most so many bytes for each unit that one takes
abbrev rate : Geometry → ℕ
rate D3390 = 328
rate D3380 = 317

data_tight : (g : Geometry) (body : ℕ) → data_units g body ≤ capacity g → 10 * (8 + body) ≤ rate g * data_units g body
data_tight D3390 body few = omega arith
data_tight D3380 body few = omega arith

key_tight : (g : Geometry) (key : ℕ) → key ≤ 255 → 10 * key ≤ rate g * key_units g key
key_tight D3390 key short = omega arith
key_tight D3380 key short = omega arith

chosen : (g : Geometry) (b : Bool) (key m x y : ℕ) → (b ≡ true → key ≡ 0) → cond b x (x + y) ≤ capacity g
    → (x ≤ capacity g → 10 * m ≤ rate g * x) → 10 * key ≤ rate g * y → 10 * (m + key) ≤ rate g * cond b x (x + y)
chosen D3390 true key m x y none few long keyed = omega (arith, none refl, long few)
chosen D3380 true key m x y none few long keyed = omega (arith, none refl, long few)
chosen D3390 false key m x y none few long keyed = omega (arith, long (omega (arith, few)), keyed)
chosen D3380 false key m x y none few long keyed = omega (arith, long (omega (arith, few)), keyed)

unit_tight : (g : Geometry) (r : Record) → IsRecord r → cost g (length r.key) (length r.body) ≤ capacity g
    → 10 * size_of r ≤ rate g * cost g (length r.key) (length r.body)
unit_tight g r ranges few =
    let key = length r.key in
    let body = length r.body in
    let all = chosen g (key == 0) key (8 + body) (data_units g body) (key_units g key) (eqb-true key 0) few (data_tight g body) (key_tight g key ranges.key) in
    let size : size_of r ≡ 8 + body + key = omega arith in
    subst (λ (n : ℕ). 10 * n ≤ rate g * cost g key body) (sym size) all

abbrev all_bytes : List Record → List ℕ
all_bytes rs = flat_map record_bytes rs

abbrev units : Geometry → List Record → ℕ
units g rs = sum_by (λ (r : Record). cost g (length r.key) (length r.body)) rs

more : (g : Geometry) (a b x y : ℕ) → 10 * a ≤ rate g * x → 10 * b ≤ rate g * y → 10 * (a + b) ≤ rate g * (x + y)
more D3390 a b x y first rest = omega (arith, first, rest)
more D3380 a b x y first rest = omega (arith, first, rest)

bytes_of : (g : Geometry) (rs : List Record) → All IsRecord rs → units g rs ≤ capacity g → 10 * length (all_bytes rs) ≤ rate g * units g rs
bytes_of g [] ranges few = omega arith
bytes_of g (r ∷ rs) ranges few =
    let one = cost g (length r.key) (length r.body) in
    let sum : units g (r ∷ rs) ≡ one + units g rs = sum_by-cons (λ (x : Record). cost g (length x.key) (length x.body)) r rs in
    let size : length (all_bytes (r ∷ rs)) ≡ size_of r + length (all_bytes rs) =
    ap length (flat_map-cons record_bytes r rs) ∙ length-append (record_bytes r) (all_bytes rs)
    ∙ ap (λ (n : ℕ). n + length (all_bytes rs)) (length-record_bytes r) in
    let here = unit_tight g r (All-head IsRecord r rs ranges) (omega (arith, sum, few)) in
    let rest = bytes_of g rs (All-tail IsRecord r rs ranges) (omega (arith, sum, few)) in
    rw (sum, size) (more g (size_of r) (length (all_bytes rs)) one (units g rs) here rest)

zero_size : (r : Record) → (r.key ≡ []) × (length r.body ≡ 8) → size_of r ≡ 16
zero_size r first = omega (arith, ap length first.0, first.1)

short_by : (g : Geometry) (n spent : ℕ) → 10 * n ≤ rate g * spent → spent ≤ capacity g → 29 + n ≤ room_size g
short_by D3390 n spent tight room = omega (arith, tight, room)
short_by D3380 n spent tight room = omega (arith, tight, room)

tail_short : (g : Geometry) (rs : List Record) → All IsRecord rs → HasZero rs → cost_of g rs ≤ capacity g → length (all_bytes rs) + 13 ≤ room_size g
tail_short g [] ranges first room = absurd first
tail_short g (r ∷ rs) ranges first room =
    let size : length (all_bytes (r ∷ rs)) ≡ size_of r + length (all_bytes rs) =
    ap length (flat_map-cons record_bytes r rs) ∙ length-append (record_bytes r) (all_bytes rs)
    ∙ ap (λ (n : ℕ). n + length (all_bytes rs)) (length-record_bytes r) in
    let short = short_by g (length (all_bytes rs)) (units g rs) (bytes_of g rs (All-tail IsRecord r rs ranges) room) room in
    omega (arith, size, zero_size r first, short)

track_length : (t : Track) → length (track_bytes t) ≡ length (all_bytes t.records) + 13
track_length t = omega (
  arith,
  length-append (home_bytes t.home ++ all_bytes t.records) end_mark,
  length-append (home_bytes t.home) (all_bytes t.records),
)

-- no track is longer than its room
pub track_short : (g : Geometry) (t : Track) → Fits g t → length (track_bytes t) ≤ room_size g
track_short g t fits = omega (arith, track_length t, tail_short g t.records fits.records fits.zero fits.cost)

-- ---- where it ends

-- a count area is no end mark
not_mark : (r : Record) (rest : List ℕ) → IsRecord r → starts_with nat_eq (count_area r ++ rest) end_mark ≡ true → ⊥
not_mark r rest ranges t =
    let same = (bytes_eq-Decides end_mark (take 8 (count_area r ++ rest))).0 t in
    let high : 255 ≡ length r.body / 256 % 256 = ap (λ (x : List ℕ). get_or x 6 0) same in
    let low : 255 ≡ length r.body % 256 = ap (λ (x : List ℕ). get_or x 7 0) same in
    omega (arith, ranges.body)

untrue : (b : Bool) → (b ≡ true → ⊥) → b ≡ false
untrue true h = absurd (h refl)
untrue false h = refl

two_read : (n : ℕ) → n < 2 ^ 16 → n / 256 % 256 * 256 + (n % 256 * 1 + 0) ≡ n
two_read n h = omega arith

-- a step over a record's bytes
over : (n at : ℕ) (r : Record) (rest : List ℕ) → IsRecord r → end_from (suc n) at (record_bytes r ++ rest) ≡ end_from n (at + size_of r) rest
over n at r rest ranges =
    let bytes = record_bytes r ++ rest in
    let small : length r.body < 2 ^ 16 = omega (arith, ranges.body) in
    let area : record_size (count_area r ++ ((r.key ++ r.body) ++ rest)) ≡ size_of r =
    ap (λ (n : ℕ). 8 + length r.key + n) (two_read (length r.body) small) in
    let size : record_size bytes ≡ size_of r = ap record_size (regroup r rest) ∙ area in
    let long : 8 ≤ length bytes = omega (arith, length-append (record_bytes r) rest, length-record_bytes r) in
    let other : starts_with nat_eq bytes end_mark ≡ false =
    ap (λ (l : List ℕ). starts_with nat_eq l end_mark) (regroup r rest) ∙ untrue _ (not_mark r ((r.key ++ r.body) ++ rest) ranges) in
    let less : suc n - 1 ≡ n = omega arith in
    sym (end_step (suc n) at bytes (omega arith) long other)
    ∙ ap (λ (k : ℕ). end_from k (at + record_size bytes) (drop (record_size bytes) bytes)) less
    ∙ ap (λ (k : ℕ). end_from n (at + k) (drop k bytes)) size
    ∙ ap (end_from n (at + size_of r)) (drop_at (record_bytes r) rest (size_of r) (length-record_bytes r))

leads : (n at : ℕ) (rs : List Record) (pad : List ℕ) → All IsRecord rs → length rs < n
    → end_from n at (all_bytes rs ++ (end_mark ++ pad)) ≡ Some (at + length (all_bytes rs) + 8)
leads zero at rs pad ranges steps = absurd (omega (arith, steps))
leads (suc n) at [] pad ranges steps =
    let place : at + 8 ≡ at + length (all_bytes []) + 8 = omega arith in
    end_marked (suc n) at (end_mark ++ pad) (omega arith) (omega (arith, length-append end_mark pad)) refl ∙ ap Some place
leads (suc n) at (r ∷ rs) pad ranges steps =
    let tail = all_bytes rs ++ (end_mark ++ pad) in
    let parts : all_bytes (r ∷ rs) ++ (end_mark ++ pad) ≡ record_bytes r ++ tail =
    ap (λ (l : List ℕ). l ++ (end_mark ++ pad)) (flat_map-cons record_bytes r rs) ∙ append_assoc (record_bytes r) (all_bytes rs) (end_mark ++ pad) in
    let size : length (all_bytes (r ∷ rs)) ≡ size_of r + length (all_bytes rs) =
    ap length (flat_map-cons record_bytes r rs) ∙ length-append (record_bytes r) (all_bytes rs)
    ∙ ap (λ (k : ℕ). k + length (all_bytes rs)) (length-record_bytes r) in
    let place : at + size_of r + length (all_bytes rs) + 8 ≡ at + length (all_bytes (r ∷ rs)) + 8 = omega (arith, size) in
    ap (end_from (suc n) at) parts
    ∙ over n at r tail (All-head IsRecord r rs ranges)
    ∙ leads n (at + size_of r) rs pad (All-tail IsRecord r rs ranges) (omega (arith, steps))
    ∙ ap Some place

few_records : (rs : List Record) → 8 * length rs ≤ length (all_bytes rs)
few_records [] = omega arith
few_records (r ∷ rs) =
    omega (
      arith,
      few_records rs,
      ap length (flat_map-cons record_bytes r rs),
      length-append (record_bytes r) (all_bytes rs),
      length-record_bytes r,
    )

within_most : (g : Geometry) → room_size g ≤ 56832
within_most D3390 = omega arith
within_most D3380 = omega arith

-- the records of a track lead to its end
pub ends : (g : Geometry) (t : Track) (pad : List ℕ) → Fits g t → end_in (track_bytes t ++ pad) ≡ Some (length (track_bytes t))
ends g t pad fits =
    let home = home_bytes t.home in
    let rs = all_bytes t.records in
    let parts : track_bytes t ++ pad ≡ home ++ (rs ++ (end_mark ++ pad)) =
    append_assoc (home ++ rs) end_mark pad ∙ append_assoc home rs (end_mark ++ pad) in
    let behind : drop 5 (track_bytes t ++ pad) ≡ rs ++ (end_mark ++ pad) =
    ap (drop 5) parts ∙ drop_at home (rs ++ (end_mark ++ pad)) 5 refl in
    let steps : length t.records < most_steps =
    omega (arith, few_records t.records, tail_short g t.records fits.records fits.zero fits.cost, within_most g) in
    let place : 5 + length rs + 8 ≡ length (track_bytes t) = omega (arith, track_length t) in
    ap (end_from most_steps 5) behind ∙ leads most_steps 5 t.records pad fits.records steps ∙ ap Some place

-- a track that fits comes back from its room
pub track_fits : (g : Geometry) (t : Track) → Fits g t → fits_room (room_size g) (track_bytes t) ≡ true
track_fits g t fits =
    let size = room_size g in
    let bytes = track_bytes t in
    let short : leb (length bytes) size ≡ true = le-leb _ _ (track_short g t fits) in
    let ends_there : is_at (end_in (padded size bytes)) (length bytes) ≡ true =
    ap (λ (o : Option ℕ). is_at o (length bytes)) (ends g t (replicate (size - length bytes) 0) fits)
    ∙ eq-eqb (length bytes) (length bytes) refl in
    rw (short, ends_there) refl
