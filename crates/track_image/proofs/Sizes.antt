-- A record has at most 34 bytes for each unit that it takes, and a track 1,729 units.
use Rattle.std.proofs.Common.{◌≡◌, ℕ, ◌+◌, ◌*◌, ◌≤◌, ◌==◌, Bool, true, false, cond, List, [], ◌∷◌, ◌++◌, length, take, sum_by, refl, sym, ap, add-one, arith}
use Rattle.std.proofs.lemmas.Bool.{eqb-true, leb-true}
use Rattle.std.proofs.lemmas.List.{length-append}
use Rattle.std.proofs.lemmas.List.Sums.{sum_by-cons, sum_by_push}
use Rattle.std.proofs.lemmas.List.Elements.{All-take, All-push}
use Rattle.ckd_types.specs.declared.geometry.Geometry.{Geometry}
use Rattle.ckd_types.specs.declared.geometry.Geometry.TheVariants.{D3390, D3380}
use Rattle.ckd_types.specs.declared.record.Record.{Record}
use Rattle.ckd_types.specs.declared.record.Track.{Track}
use Rattle.ckd_types.specs.declared.record.Edit.TheVariants.{Format}
use Rattle.ckd_types.specs.Edit.{apply_edit}
use Rattle.ckd_types.specs.Geometry.{cost, capacity, data_units, key_units}
use Rattle.ckd_types.specs.Track.{IsRecord, HasZero, Fits, cost_of, record_bytes}
use Rattle.track_image.specs.Image.{Image, is_room_behind}
use Rattle.track_image.specs.Packed.{most_bytes}
use Rattle.track_image.specs.Reading.{size_of}
use Rattle.track_image.proofs.Fields.{length-record_bytes}
use Rattle.track_image.proofs.Places.{all_bytes}

data_room : (g : Geometry) (body : ℕ) → 8 + body ≤ 34 * data_units g body
data_room D3390 body = omega arith
data_room D3380 body = omega arith

some_data : (g : Geometry) (body : ℕ) → 16 ≤ data_units g body
some_data D3390 body = omega arith
some_data D3380 body = omega arith

key_room : (g : Geometry) (key : ℕ) → key ≤ 34 * key_units g key
key_room D3390 key = omega arith
key_room D3380 key = omega arith

chosen : (b : Bool) (key m x y : ℕ) → (b ≡ true → key ≡ 0) → m ≤ 34 * x → key ≤ 34 * y → m + key ≤ 34 * cond b x (x + y)
chosen true key m x y none long keyed = omega (arith, none refl)
chosen false key m x y none long keyed = omega arith

either : (b : Bool) (x y : ℕ) → 16 ≤ x → 16 ≤ cond b x (x + y)
either true x y some = some
either false x y some = omega arith

pub unit_room : (g : Geometry) (key body : ℕ) → 8 + key + body ≤ 34 * cost g key body
unit_room g key body =
    let both = chosen (key == 0) key (8 + body) (data_units g body) (key_units g key) (eqb-true key 0)
    (data_room g body) (key_room g key) in
    omega (arith, both)

pub some_units : (g : Geometry) (key body : ℕ) → 16 ≤ cost g key body
some_units g key body = either (key == 0) (data_units g body) (key_units g key) (some_data g body)

pub within : (g : Geometry) → capacity g ≤ 1729
within D3390 = omega arith
within D3380 = omega arith

bytes_of : (g : Geometry) (rs : List Record) → length (all_bytes rs)
    ≤ 34 * sum_by (λ (r : Record). cost g (length r.key) (length r.body)) rs
bytes_of g [] = omega arith
bytes_of g (r ∷ rs) =
    omega (
      arith,
      bytes_of g rs,
      unit_room g (length r.key) (length r.body),
      length-record_bytes r,
      length-append (record_bytes r) (all_bytes rs),
      sum_by-cons (λ (x : Record). cost g (length x.key) (length x.body)) r rs,
    )

-- the bytes of records that begin with record 0
pub few_bytes : (g : Geometry) (rs : List Record) → HasZero rs → length (all_bytes rs) ≤ 16 + 34 * cost_of g rs
few_bytes g [] first = absurd first
few_bytes g (r ∷ rs) first = omega (
  arith,
  bytes_of g rs,
  first.1,
  ap length first.0,
  length-record_bytes r,
  length-append (record_bytes r) (all_bytes rs),
)

zero_kept : (n : ℕ) (rs : List Record) → HasZero rs → HasZero (take (n + 1) rs)
zero_kept n [] first = absurd first
zero_kept n (r ∷ rs) first = rw add-one first

-- one more record behind some that are kept, where all fit
pub fits_behind : (g : Geometry) (rs : List Record) (after : ℕ) (r : Record) → HasZero rs
    → cost_of g (take (after + 1) rs) + cost g (length r.key) (length r.body) ≤ capacity g
    → length (all_bytes (take (after + 1) rs)) + size_of r + 13 ≤ most_bytes
fits_behind g rs after r first room =
    omega (
      arith,
      room,
      few_bytes g (take (after + 1) rs) (zero_kept after rs first),
      unit_room g (length r.key)
          (length r.body),
      within g,
    )

zero_still : (rs : List Record) (r : Record) → HasZero rs → HasZero (rs ++ r ∷ [])
zero_still [] r first = absurd first
zero_still (x ∷ rs) r first = first

pub cost_push : (g : Geometry) (rs : List Record) (r : Record) → HasZero rs
    → cost_of g (rs ++ r ∷ []) ≡ cost_of g rs + cost g (length r.key) (length r.body)
cost_push g [] r first = absurd first
cost_push g (x ∷ rs) r first = sum_by_push (λ (y : Record). cost g (length y.key) (length y.body)) rs r

-- the room that an image has for a record, as the numbers that its test compares
pub has_room : (i j : Image) (after : ℕ) (r added : Record) → i ≡ j → r ≡ added
    → is_room_behind j after (length added.key) (length added.body) ≡ true
    → cost_of i.geometry (take (after + 1) i.track.records) + cost i.geometry (length r.key) (length r.body)
    ≤ capacity i.geometry
has_room i j after r added image record' room = rw (image, record') (leb-true _ _ room)

-- the image after a record was put behind some that are kept
pub formats : (g : Geometry) (t : Track) (after : ℕ) (r : Record) → Fits g t → IsRecord r
    → cost_of g (take (after + 1) t.records) + cost g (length r.key) (length r.body) ≤ capacity g
    → Fits g (apply_edit (Format after r) t) × (cost_of g (take (after + 1) t.records) + cost g (length r.key)
    (length r.body) ≡ cost_of g (apply_edit (Format after r) t).records)
formats g t after r fits ranges room =
    let kept = take (after + 1) t.records in
    let first = zero_kept after t.records fits.zero in
    let sum = cost_push g kept r first in
    let made : Fits g (apply_edit (Format after r) t) = record {
      home = fits.home;
      zero = zero_still kept r first;
      records = All-push IsRecord kept r (All-take IsRecord (after + 1) t.records fits.records) ranges;
      cost = omega (arith, sum, room);
    } in
    (made, sym sum)
