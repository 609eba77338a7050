-- The edit of a command suits the track that it looked at.
use Rattle.std.proofs.Common.{
  ◌≡◌,
  ◌<◌,
  ◌≤◌,
  ◌+◌,
  ◌-◌,
  ◌^◌,
  ℕ,
  List,
  Option,
  Some,
  None,
  Bool,
  true,
  false,
  cond,
  Result,
  Ok,
  Err,
  length,
  get_or,
  take,
  drop,
  replicate,
  refl,
  arith,
  sym,
  ap,
  subst,
  ◌∙◌,
  inl,
  inr,
}
use Rattle.std.specs.Prelude.{◌⊎◌, ◌==◌, ⊤, All, nat_lt, nat_le, is_some, slice_index}
use Rattle.std.proofs.lemmas.Bool.{cases_lt, and_parts, eqb-true, leb-true, ltb-true}
use Rattle.std.proofs.lemmas.List.{length-append, length-take, length-replicate, get_or_past}
use Rattle.std.proofs.lemmas.List.Elements.{All-append, All-take, All-drop, All-replicate, All-get_or}
use Rattle.ckd_types.specs.declared.channel.Ccw.{Ccw}
use Rattle.ckd_types.specs.declared.command.SearchArea.{SearchArea}
use Rattle.ckd_types.specs.declared.command.ReadArea.{ReadArea}
use Rattle.ckd_types.specs.declared.command.Write.{Write}
use Rattle.ckd_types.specs.declared.command.Write.TheVariants as writes
use Rattle.ckd_types.specs.declared.geometry.Geometry.{Geometry}
use Rattle.ckd_types.specs.declared.record.Record.{Record}
use Rattle.ckd_types.specs.declared.record.Track.{Track}
use Rattle.ckd_types.specs.declared.sense.Sense.{Sense}
use Rattle.ckd_types.specs.Parameters.{number_at}
use Rattle.ckd_types.specs.Track.{IsRecord}
use Rattle.ckd_rules.specs.declared.order.Look.{Look}
use Rattle.ckd_rules.specs.declared.order.Look.TheVariants.{Finds, Searches, Reads, Writes}
use Rattle.ckd_rules.specs.declared.stance.After.{After}
use Rattle.ckd_rules.specs.declared.stance.After.TheVariants.{Other, Wrote}
use Rattle.ckd_rules.specs.declared.stance.Place.{Place}
use Rattle.ckd_rules.specs.declared.stance.Place.TheVariants.{Index, Home, Count, Key, Body}
use Rattle.ckd_rules.specs.declared.stance.Stance.{Stance}
use Rattle.ckd_rules.specs.declared.turned.Turned.{Turned}
use Rattle.ckd_rules.specs.declared.turned.Turned.TheVariants.{Edits}
use Rattle.ckd_rules.specs.Area.{given_taken, padded, given_at}
use Rattle.ckd_rules.specs.Facts.{Suits}
use Rattle.ckd_rules.specs.declared.finding.Sought.{Sought}
use Rattle.ckd_rules.specs.declared.finding.Sought.TheVariants as sought
use Rattle.ckd_rules.specs.Finding.{kept_place, place_on, record_of, if_there, find_from, from_index, moves_on, next_track, find_on}
use Rattle.ckd_rules.specs.Formats.{count_given, key_given, body_given, record_given, has_room_behind, format_ended, format_behind, is_zero_given, zero_on}
use Rattle.ckd_rules.specs.Look.{look_on}
use Rattle.ckd_rules.specs.Looked.{ends, edits}
use Rattle.ckd_rules.specs.Ending.{refused}
use Rattle.ckd_types.specs.declared.record.Edit.TheVariants.{Update, Format, Zero}
use Rattle.ckd_types.specs.Sense.{no_record_sense, track_format_sense}
use Rattle.ckd_rules.specs.Reads.{record_at, read_sought, read_candidate}
use Rattle.ckd_rules.specs.Searches.{search_sought, search_candidate}
use Rattle.ckd_rules.specs.Updates.{update_ended, update_record, update_sought, update_on, next_area}
use Rattle.ckd_rules.specs.Writes.{write_on}
use Rattle.ckd_write.specs.Ranges.{HasRanges}
use Rattle.plain_defs.specs.Whole.{GivesBytes}
use Rattle.track_image.proofs.Sizes.{unit_room, within}

-- Bytes that a word gives

abbrev AreBytes : List ℕ → Type 0
AreBytes bytes = All (λ (byte : ℕ). byte < 256) bytes

byte_at : (bytes : List ℕ) (i : ℕ) → AreBytes bytes → slice_index bytes i < 256
byte_at bytes i all = by_place (cases_lt i (length bytes)) where
  by_place : (i < length bytes) ⊎ (length bytes ≤ i) → get_or bytes i 0 < 256
  by_place (inl inside) = All-get_or (λ (byte : ℕ). byte < 256) bytes i 0 inside all
  by_place (inr past) = subst (λ (b : ℕ). b < 256) (sym (get_or_past bytes i 0 past)) (omega arith)

padded_bytes : (n : ℕ) (bytes : List ℕ) → AreBytes bytes → AreBytes (padded n bytes)
padded_bytes n bytes all =
    All-append (λ (byte : ℕ). byte < 256) (take n bytes) (replicate (n - length bytes) 0)
    (All-take (λ (byte : ℕ). byte < 256) n bytes all)
    (All-replicate (λ (byte : ℕ). byte < 256) (n - length bytes) 0 (omega arith))

padded_length : (n : ℕ) (bytes : List ℕ) → length (padded n bytes) ≡ n
padded_length n bytes =
    let sum = length-append (take n bytes) (replicate (n - length bytes) 0) in
    let front = length-take n bytes in
    let zeros = length-replicate {A = ℕ} (n - length bytes) 0 in omega (arith, sum, front, zeros)

given_bytes : (from n : ℕ) (c : Ccw) → GivesBytes c → AreBytes (given_at from n c)
given_bytes from n c all = padded_bytes n (drop from (given_taken c))
    (All-drop (λ (byte : ℕ). byte < 256) from (given_taken c) (All-take (λ (byte : ℕ). byte < 256) c.count c.given all))

given_length : (from n : ℕ) (c : Ccw) → length (given_at from n c) ≡ n
given_length from n c = padded_length n (drop from (given_taken c))

number_small : (bytes : List ℕ) (i : ℕ) → AreBytes bytes → number_at bytes i < 2 ^ 16
number_small bytes i all = let high = byte_at bytes i all in let low =
    byte_at bytes (i + 1) all in omega (arith, high, low)

-- a new record whose lengths fit
record_is : (c : Ccw) → GivesBytes c → length (record_given c).body ≤ 65534 → IsRecord (record_given c)
record_is c bytes short =
    let area = given_bytes 0 8 c bytes in
    let key = byte_at (count_given c) 5 area in
    let long = given_length 8 (key_given c) c in record {
      cchh = record { cc = number_small (count_given c) 0 area; hh = number_small (count_given c) 2 area };
      number = let r = byte_at (count_given c) 4 area in omega (arith, r);
      key = omega (arith, key, long);
      body = short;
    }

-- Records that are there

there_inside : (n i j : ℕ) → if_there n i ≡ Some j → j < n
there_inside n i j is = by_test (nat_lt i n) refl is where
  by_test : (inside : Bool) → nat_lt i n ≡ inside → cond inside (Some i) None ≡ Some j → j < n
  by_test true inside is = let same : i ≡ j = cc in let below = ltb-true i n inside in omega (arith, same, below)
  by_test false inside is = absurd (cc)

abbrev IsHere : ℕ → Sought → Type 0
IsHere n (sought.Here i passes) = i < n
IsHere n _ = ⊤

again_here : (n : ℕ) (s : Stance) (b : ℕ) (again : Option ℕ) → if_there n b ≡ again → (late : Bool)
    → IsHere n (cond late (sought.Nowhere no_record_sense) (from_index (s.passes + 1) again))
again_here n s b again is true = tt
again_here n s b (Some i) is false = there_inside n b i is
again_here n s b None is false = tt

moved_here : (n : ℕ) (r : Result ℕ Sense) → IsHere n (moves_on r)
moved_here n (Ok t) = tt
moved_here n (Err sense) = tt

here_by : (n : ℕ) (multitrack : Bool) (s : Stance) (a b : ℕ) (first again : Option ℕ) → if_there n a ≡ first
    → if_there n b ≡ again → IsHere n (find_from multitrack s first again)
here_by n multitrack s a b (Some i) again first_is again_is = there_inside n a i first_is
here_by n true s a b None again first_is again_is = moved_here n (next_track s)
here_by n false s a b None again first_is again_is = again_here n s b again again_is (nat_le 1 s.passes)

kept_inside : (n i : ℕ) (place : Place) → 0 < n → record_of place ≡ i → record_of (kept_place n i place) < n
kept_inside n i place some is = by_test (nat_lt i n) refl where
  by_test : (inside : Bool) → nat_lt i n ≡ inside → record_of (cond inside place (Body (n - 1))) < n
  by_test true inside = let below = ltb-true i n inside in omega (arith, below, is)
  by_test false inside = omega (arith, some)

placed_inside : (n : ℕ) (place : Place) → 0 < n → record_of (place_on n place) < n
placed_inside n Index some = some
placed_inside n Home some = some
placed_inside n (Count i) some = kept_inside n i (Count i) some refl
placed_inside n (Key i) some = kept_inside n i (Key i) some refl
placed_inside n (Body i) some = kept_inside n i (Body i) some refl

-- What a turn edits

abbrev pub SuitsTurn : Geometry → List Record → Turned → Type 0
SuitsTurn g records (Edits edit e) = Suits g records edit × HasRanges edit
SuitsTurn g records _ = ⊤

module _ (g : Geometry) (s : Stance) (c : Ccw) (bytes : GivesBytes c) where
  searched : (t : Track) (area : SearchArea) (found : Sought)
      → SuitsTurn g t.records (search_sought t area s c found).turned
  searched t area (sought.Here i passes) = tt
  searched t area (sought.Onward u) = tt
  searched t area (sought.Nowhere sense) = tt

  was_read : (t : Track) (area : ReadArea) (found : Sought)
      → SuitsTurn g t.records (read_sought t area s c found).turned
  was_read t area (sought.Here i passes) = tt
  was_read t area (sought.Onward u) = tt
  was_read t area (sought.Nowhere sense) = tt

  updated : (with_key in_domain : Bool) (records : List Record) (i : ℕ) → i < length records
      → SuitsTurn g records (update_record with_key in_domain s c i (record_at records i)).turned
  updated true in_domain records i inside = (
    record {
      place = inside;
      key_length = given_length 0 (length (record_at records i).key) c;
      body_length =
          given_length (length (record_at records i).key) (length (record_at records i).body) c;
    },
    tt,
  )
  updated false in_domain records i inside = by_test (length (record_at records i).body == 0) where
    by_test : (none : Bool) → SuitsTurn g records (cond none
        (ends (update_ended in_domain s c i (record_at records i).body 0))
        (edits (Update i (record_at records i).key (given_at 0 (length (record_at records i).body) c))
        (update_ended in_domain s c i (record_at records i).body (length (record_at records i).body)))).turned
    by_test true = tt
    by_test false = (
      record {
        place = inside;
        key_length = refl;
        body_length =
            given_length 0 (length (record_at records i).body) c;
      },
      tt,
    )

  update_found : (with_key in_domain : Bool) (records : List Record) (found : Sought) → IsHere (length records) found
      → SuitsTurn g records (update_sought with_key in_domain records s c found).turned
  update_found with_key in_domain records (sought.Here i passes) inside = updated with_key in_domain records i inside
  update_found with_key in_domain records (sought.Onward u) inside = tt
  update_found with_key in_domain records (sought.Nowhere sense) inside = tt

  update_suits : (with_key in_domain : Bool) (t : Track)
      → SuitsTurn g t.records (update_on with_key in_domain t s c).turned
  update_suits with_key in_domain t =
      let n = length t.records in
      update_found with_key in_domain t.records (find_from in_domain s
      (if_there n (next_area with_key (place_on n s.place))) (if_there n 1))
      (here_by n in_domain s (next_area with_key (place_on n s.place)) 1
      (if_there n (next_area with_key (place_on n s.place))) (if_there n 1) refl refl)

  short_by : (records : List Record) (i : ℕ) → has_room_behind g records i (key_given c) (body_given c) ≡ true
      → body_given c ≤ 65534
  short_by records i room =
      let all = leb-true _ _ room in
      let one = unit_room g (key_given c) (body_given c) in
      let most = within g in omega (arith, all, one, most)

  format_suits : (records : List Record) (after : After) (i : ℕ) → i < length records
      → SuitsTurn g records (format_behind g records after s c i).turned
  format_suits records after i inside = by_room (has_room_behind g records i (key_given c) (body_given c)) refl where
    by_room : (room : Bool) → has_room_behind g records i (key_given c) (body_given c) ≡ room
        → SuitsTurn g records (cond room (edits (Format i (record_given c))
        (format_ended after s c (i + 1) (8 + key_given c + body_given c)))
        (ends (refused s c track_format_sense))).turned
    by_room false none = tt
    by_room true room =
        let short = short_by records i room in
        let long = given_length (8 + key_given c) (body_given c) c in
        let keyed = given_length 8 (key_given c) c in (
          record {
            place = inside;
            ranges = record_is c bytes (omega (arith, short, long));
            room = ap (λ (n : ℕ). has_room_behind g records i n (length (record_given c).body)) keyed
                ∙ ap (λ (n : ℕ). has_room_behind g records i (key_given c) n) long ∙ room;
          },
          tt,
        )

  zero_suits : (records : List Record) → SuitsTurn g records (zero_on s c).turned
  zero_suits records = by_lengths (is_zero_given c) refl where
    by_lengths : (good : Bool) → is_zero_given c ≡ good
        → SuitsTurn g records (cond good (edits (Zero (record_given c)) (format_ended Wrote s c 0 16))
        (ends (refused s c track_format_sense))).turned
    by_lengths false bad = tt
    by_lengths true good =
        let both = and_parts (key_given c == 0) (body_given c == 8) good in
        let long = given_length (8 + key_given c) (body_given c) c in
        let keyed = given_length 8 (key_given c) c in
        let eight : length (record_given c).body ≡ 8 = long ∙ eqb-true (body_given c) 8 both.1 in (
          record { key = keyed ∙ eqb-true (key_given c) 0 both.0; body = eight },
          record_is c bytes
              (omega (arith, eight)),
        )

  write_suits : (t : Track) → 0 < length t.records → (w : Write) → SuitsTurn g t.records (write_on g t s c w).turned
  write_suits t some writes.Data = update_suits false (is_some s.domain) t
  write_suits t some writes.UpdateData = update_suits false true t
  write_suits t some writes.KeyData = update_suits true (is_some s.domain) t
  write_suits t some writes.UpdateKeyData = update_suits true true t
  write_suits t some writes.CountKeyData = format_suits t.records Wrote
      (record_of (place_on (length t.records) s.place)) (placed_inside (length t.records) s.place some)
  write_suits t some writes.NextTrack = format_suits t.records Other 0 some
  write_suits t some writes.Zero = zero_suits t.records

  -- a look at a track with records edits it as it may be edited
  pub look_suits : (t : Track) → 0 < length t.records → (look : Look)
      → SuitsTurn g t.records (look_on g t s c look).turned
  look_suits t some (Finds d) = tt
  look_suits t some (Searches x) = searched t x.area (find_on x.multitrack s (length t.records)
      (search_candidate t.records x.area))
  look_suits t some (Reads r) = was_read t r.area (find_on r.multitrack s (length t.records)
      (read_candidate (length t.records) r.area))
  look_suits t some (Writes w) = write_suits t some w
