-- Reading records one after the other, as a loop does.
use Rattle.std.proofs.Common.{
  ◌≡◌,
  ℕ,
  suc,
  ◌+◌,
  ◌-◌,
  ◌*◌,
  ◌<◌,
  ◌≤◌,
  List,
  [],
  ◌∷◌,
  ◌++◌,
  length,
  drop,
  All,
  Some,
  None,
  Result,
  Ok,
  Err,
  refl,
  sym,
  ap,
  subst,
  ◌∙◌,
  append_assoc,
  arith,
}
use Rattle.std.proofs.lemmas.List.{append-nil, drop-drop, length-take, length-drop, length-append, length_push, map_push, nil_from_length}
use Rattle.std.proofs.lemmas.List.Concat.{flat_map-append}
use Rattle.std.proofs.lemmas.List.Elements.{All-push, All-cons, All-nil}
use Rattle.ckd_types.specs.declared.geometry.Geometry.{Geometry}
use Rattle.ckd_types.specs.declared.record.Record.{Record}
use Rattle.ckd_types.specs.Geometry.{cost, capacity}
use Rattle.ckd_types.specs.Track.{IsRecord, HasZero, cost_of, record_bytes}
use Rattle.track_image.specs.declared.count.Count.{Count}
use Rattle.track_image.specs.Packed.{record_from, unpacked, places_from, IsFound}
use Rattle.track_image.specs.Reading.{◌>>=◌, map_ok, count_at, next_at, size_of, records_at, IsNext}
use Rattle.track_image.proofs.Fields.{IsBytes, IsBytes-drop, ranges_from, length-record_bytes, next_ends}
use Rattle.track_image.proofs.Places.{all_bytes, places_push}
use Rattle.track_image.proofs.Sizes.{cost_push, unit_room, some_units, within}

-- more records behind the last, where reading gave them
abbrev pub with_more : List Record → Result (List Record) ℕ → Result (List Record) ℕ
with_more rs read = read >>= (λ more. Ok (rs ++ more))

mapped : (r : Record) (read : Result (List Record) ℕ) → with_more (r ∷ []) read
    ≡ map_ok (λ (others : List Record). r ∷ others) read
mapped r (Ok others) = refl
mapped r (Err at) = refl

regroup : (rs : List Record) (r : Record) (read : Result (List Record) ℕ)
    → with_more rs (read >>= (λ others. Ok (r ∷ others))) ≡ with_more (rs ++ r ∷ []) read
regroup rs r (Ok others) = ap (λ (x : List Record). Ok x) (sym (append_assoc rs (r ∷ []) others))
regroup rs r (Err at) = refl

goes_on : (rs : List Record) (r : Record) (g : Geometry) (steps after spent at : ℕ) (bytes : List ℕ)
    (total : Result (List Record) ℕ) → steps ≡ suc after → next_at g spent at (drop at bytes) ≡ Ok (Some r)
    → with_more rs (records_at steps g spent at (drop at bytes)) ≡ total
    → with_more (rs ++ r ∷ []) (records_at after g (spent + cost g (length r.key) (length r.body)) (at + size_of r)
    (drop (at + size_of r) bytes)) ≡ total
unfolding records_at
goes_on rs r g steps after spent at bytes total steps_is next so_far =
    let one : with_more rs (records_at steps g spent at (drop at bytes))
    ≡ with_more rs (records_at after g (spent + cost g (length r.key) (length r.body)) (at + size_of r)
    (drop (size_of r) (drop at bytes)) >>= (λ others. Ok (r ∷ others))) = rw (steps_is, next) refl in
    rw (← drop-drop (size_of r) at bytes) (sym (regroup rs r _) ∙ sym one ∙ so_far)

fails : (rs : List Record) (g : Geometry) (steps after spent at offset : ℕ) (bytes : List ℕ)
    (total : Result (List Record) ℕ) → steps ≡ suc after → next_at g spent at (drop at bytes) ≡ Err offset
    → with_more rs (records_at steps g spent at (drop at bytes)) ≡ total → total ≡ Err offset
unfolding records_at
fails rs g steps after spent at offset bytes total steps_is next so_far =
    let one : with_more rs (records_at steps g spent at (drop at bytes)) ≡ Err offset = rw (steps_is, next) refl in
    sym so_far ∙ one

is_done : (rs : List Record) (g : Geometry) (steps after spent at : ℕ) (bytes : List ℕ) (total : Result (List Record) ℕ)
    → steps ≡ suc after → next_at g spent at (drop at bytes) ≡ Ok None
    → with_more rs (records_at steps g spent at (drop at bytes)) ≡ total → total ≡ Ok rs
unfolding records_at
is_done rs g steps after spent at bytes total steps_is next so_far =
    let one : with_more rs (records_at steps g spent at (drop at bytes)) ≡ Ok rs =
    rw (steps_is, next) (ap (λ (x : List Record). Ok x) (append-nil rs)) in
    sym so_far ∙ one

-- the records that were read so far, where the next one stands, and what they took
pub record ReadSo (g : Geometry) (bytes places : List ℕ) (rs : List Record) (at spent : ℕ)
    (total : Result (List Record) ℕ) : Type 0 where
  pub within : at ≤ length bytes
  pub zero : HasZero rs
  pub ranges : All IsRecord rs
  pub spent_is : spent ≡ cost_of g rs
  pub room : spent ≤ capacity g
  pub few : 16 * length places ≤ spent + 16
  pub near : at ≤ 21 + 34 * spent
  pub steps : length places + 20 ≤ at
  pub place : at ≡ 5 + length (all_bytes rs)
  pub places_are : places ≡ places_from 5 rs
  pub read : with_more rs (records_at (length bytes + 1 - length places) g spent at (drop at bytes)) ≡ total

zero_stays : (rs : List Record) (r : Record) → HasZero rs → HasZero (rs ++ r ∷ [])
zero_stays [] r first = absurd first
zero_stays (x ∷ rs) r first = first

-- the ranges of a record that stands whole in bytes
record Lengths (r : Record) (key body : ℕ) : Type 0 where
  pub key_is : length r.key ≡ key
  pub body_is : length r.body ≡ body

lengths_from : (bytes : List ℕ) → 8 + ((count_at bytes).key + (count_at bytes).body) ≤ length bytes
    → Lengths (record_from bytes) (count_at bytes).key (count_at bytes).body
lengths_from bytes whole =
    let k = (count_at bytes).key in
    let d = (count_at bytes).body in
    record {
      key_is = omega (arith, length-take k (drop 8 bytes), length-drop 8 bytes);
      body_is = omega (arith, length-take d (drop k (drop 8 bytes)), length-drop k (drop 8 bytes), length-drop 8 bytes);
    }

pub starts_so : (g : Geometry) (bytes : List ℕ) → IsBytes bytes → 21 ≤ length bytes → (count_at (drop 5 bytes)).key ≡ 0
    → (count_at (drop 5 bytes)).body ≡ 8
    → ReadSo g bytes (5 ∷ []) (unpacked bytes (5 ∷ [])) 21 0
    (map_ok (λ others. record_from (drop 5 bytes) ∷ others) (records_at (length bytes) g 0 21 (drop 21 bytes)))
starts_so g bytes fits long key body =
    let r = record_from (drop 5 bytes) in
    let l = lengths_from (drop 5 bytes) (omega (arith, length-drop 5 bytes)) in
    let keys : length r.key ≡ 0 = l.key_is ∙ key in
    let bodies : length r.body ≡ 8 = l.body_is ∙ body in
    let steps : length bytes + 1 - 1 ≡ length bytes = omega arith in
    record {
      within = long;
      zero = (nil_from_length r.key keys, bodies);
      ranges = All-cons IsRecord r [] (ranges_from (drop 5 bytes) (IsBytes-drop 5 bytes fits) (omega (arith, keys))
          (omega (arith, bodies))) (All-nil IsRecord);
      spent_is = refl;
      room = omega arith;
      few = omega arith;
      near = omega arith;
      steps = omega arith;
      place = omega (arith, keys, bodies, length-record_bytes r, length-append (record_bytes r) []);
      places_are = refl;
      read = ap (λ (n : ℕ). with_more (r ∷ []) (records_at n g 0 21 (drop 21 bytes))) steps
          ∙ mapped r (records_at (length bytes) g 0 21 (drop 21 bytes));
    }

reads_more : (g : Geometry) (bytes places : List ℕ) (rs : List Record) (r : Record) (at spent key body : ℕ)
    (total : Result (List Record) ℕ) → ReadSo g bytes places rs at spent total
    → next_at g spent at (drop at bytes) ≡ Ok (Some r)
    → length r.key ≡ key → length r.body ≡ body → IsRecord r → at + (8 + key + body) ≤ length bytes
    → spent + cost g key body ≤ capacity g
    → ReadSo g bytes (places ++ at ∷ []) (rs ++ r ∷ []) (at + (8 + key + body)) (spent + cost g key body) total
reads_more g bytes places rs r at spent key body total s next keys bodies is whole room =
    let longer = length_push places at in
    let same : cost g (length r.key) (length r.body) ≡ cost g key body = rw (keys, bodies) refl in
    let size : size_of r ≡ 8 + key + body = rw (keys, bodies) refl in
    let after = length bytes + 1 - length (places ++ at ∷ []) in
    let steps : length bytes + 1 - length places ≡ suc after = omega (arith, longer, s.steps, s.within) in
    let all = flat_map-append record_bytes rs (r ∷ []) in
    record {
      within = whole;
      zero = zero_stays rs r s.zero;
      ranges = All-push IsRecord rs r s.ranges is;
      spent_is = omega (arith, cost_push g rs r s.zero, same, s.spent_is);
      room = room;
      few = omega (arith, longer, s.few, some_units g key body);
      near = omega (arith, s.near, unit_room g key body);
      steps = omega (arith, longer, s.steps);
      place = omega (
        arith,
        s.place,
        size,
        ap length all,
        length-append (all_bytes rs) (all_bytes (r ∷ [])),
        length-append (record_bytes r) [],
        length-record_bytes r,
      );
      places_are = ap (λ (x : List ℕ). x ++ at ∷ []) s.places_are ∙ ap (λ (n : ℕ). places_from 5 rs ++ n ∷ []) s.place
          ∙ sym (places_push 5 rs r);
      read =
          ap (λ (n : ℕ). with_more (rs ++ r ∷ []) (records_at after g (spent + n) (at + (8 + key + body))
          (drop (at + (8 + key + body)) bytes))) (sym same)
          ∙ ap (λ (n : ℕ). with_more (rs ++ r ∷ []) (records_at after g (spent + cost g (length r.key) (length r.body))
          (at + n) (drop (at + n) bytes))) (sym size)
          ∙ goes_on rs r g (length bytes + 1 - length places) after spent at bytes total steps next s.read;
    }

pub reads_on : (g : Geometry) (bytes places : List ℕ) (at spent : ℕ) (count : Count) (total : Result (List Record) ℕ)
    → IsBytes bytes → at ≤ length bytes → ReadSo g bytes places (unpacked bytes places) at spent total
    → next_at g spent at (drop at bytes) ≡ Ok (Some (record_from (drop at bytes)))
    → IsNext g spent (drop at bytes) count
    → ReadSo g bytes (places ++ at ∷ []) (unpacked bytes (places ++ at ∷ [])) (at + (8 + count.key + count.body))
    (spent + cost g count.key count.body) total
reads_on g bytes places at spent count total fits near s next n =
    let r = record_from (drop at bytes) in
    let key_is : count.key ≡ (count_at (drop at bytes)).key = ap (λ (x : Count). x.key) n.here in
    let body_is : count.body ≡ (count_at (drop at bytes)).body = ap (λ (x : Count). x.body) n.here in
    let l = lengths_from (drop at bytes) (omega (arith, n.within, key_is, body_is)) in
    let small : count.key < 256 = subst (λ (k : ℕ). k < 256) (sym key_is) (IsBytes-drop at bytes fits 5) in
    let keys : length r.key ≡ count.key = l.key_is ∙ sym key_is in
    let bodies : length r.body ≡ count.body = l.body_is ∙ sym body_is in
    let is = ranges_from (drop at bytes) (IsBytes-drop at bytes fits) (omega (arith, keys, small))
    (omega (arith, bodies, n.room, unit_room g count.key count.body, within g)) in
    let more = reads_more g bytes places (unpacked bytes places) r at spent count.key count.body total s next keys
    bodies is (omega (arith, n.within, length-drop at bytes)) n.room in
    subst (λ (x : List Record). ReadSo g bytes (places ++ at ∷ []) x (at + (8 + count.key + count.body))
    (spent + cost g count.key count.body) total) (sym (map_push (λ (p : ℕ). record_from (drop p bytes)) places at))
    more

pub read_fails : (g : Geometry) (bytes places : List ℕ) (rs : List Record) (at spent offset : ℕ)
    (total : Result (List Record) ℕ) → ReadSo g bytes places rs at spent total
    → next_at g spent at (drop at bytes) ≡ Err offset → total ≡ Err offset
read_fails g bytes places rs at spent offset total s next =
    fails rs g (length bytes + 1 - length places) (length bytes - length places) spent at offset bytes total
    (omega (arith, s.steps, s.within)) next s.read

pub read_done : (g : Geometry) (bytes places : List ℕ) (rs : List Record) (at spent : ℕ)
    (total : Result (List Record) ℕ) → ReadSo g bytes places rs at spent total
    → next_at g spent at (drop at bytes) ≡ Ok None → total ≡ Ok rs
read_done g bytes places rs at spent total s next =
    is_done rs g (length bytes + 1 - length places) (length bytes - length places) spent at bytes total
    (omega (arith, s.steps, s.within)) next s.read

pub found_all : (g : Geometry) (bytes places : List ℕ) (at spent : ℕ) (total : Result (List Record) ℕ)
    → ReadSo g bytes places (unpacked bytes places) at spent total → next_at g spent at (drop at bytes) ≡ Ok None
    → IsFound g bytes places spent
found_all g bytes places at spent total s next =
    let ends : length (drop at bytes) ≡ 8 = ap length (next_ends g spent at (drop at bytes) next) in
    record {
      zero = s.zero;
      ranges = s.ranges;
      spent_is = s.spent_is;
      room = s.room;
      places_are = s.places_are;
      short = omega (arith, ends, length-drop at bytes, s.near, s.room, within g, s.within);
    }
