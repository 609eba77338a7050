-- What a write into a track's room leaves of the others.
use Rattle.std.proofs.Common.{rules, ◌≡◌, ◌≤◌, ◌<◌, ◌+◌, ◌-◌, ◌*◌, ◌⊎◌, inl, inr, ◌∷◌, [], ◌++◌, ℕ, zero, suc, List, map, length, take, drop, get_or, replicate, refl, sym, ap, ◌∙◌, arith}
use Rattle.std.proofs.lemmas.Bool.{cases_eq, cases_lt}
use Rattle.std.proofs.lemmas.List.{append_assoc, drop-append-le, drop_at, get_or-set_other, get_or-set_same, length-append, length-drop, length-replicate, length-set, length-take-le, map-set, same_lists, places, set_at, append-nil, take-append-le, take_at, take-append-drop}
use Rattle.std.proofs.lemmas.List.FromFn.{length-map-range_with_len, map-range_with_len_more}
use Rattle.std.specs.List.{range_with_len}
use Rattle.std.specs.Prelude.{slice_index_or, slice_set}
use Rattle.device_outside.specs.declared.rooms.RoomSize.{RoomSize}
use Rattle.device_outside.specs.declared.rooms.RoomSize.TheVariants.{Nothing, Least, Page, Quarter, Whole}
use Rattle.device_outside.specs.declared.rooms.Room.{Room}
use Rattle.device_outside.specs.Rooms.{bytes_of, owed_to, all_owed, held_in, room_end, no_room, room_at, IsParted}

-- ---- lists of rooms

same_held : (f g : Room → List ℕ) (rooms : List Room) → ((j : ℕ) → j < length rooms → f (room_at rooms j) ≡ g (room_at rooms j)) → map f rooms ≡ map g rooms
same_held f g [] h = refl
same_held f g (r ∷ rs) h =
    let first : f r ≡ g r = h 0 (omega arith) in
    let others = same_held f g rs (λ j lt. h (suc j) (omega arith)) in
    rw (first, others) refl

-- but for one room, which holds these bytes then
same_but_one : (f g : Room → List ℕ) (rooms : List Room) (i : ℕ) (bytes : List ℕ)
    → ((j : ℕ) → j < length rooms → (j ≡ i → ⊥) → f (room_at rooms j) ≡ g (room_at rooms j)) → slice_set (map f rooms) i bytes ≡ slice_set (map g rooms) i bytes
same_but_one f g [] i bytes h = refl
same_but_one f g (r ∷ rs) zero bytes h =
    ap (λ (l : List (List ℕ)). bytes ∷ l) (same_held f g rs (λ j lt. h (suc j) (omega arith) (λ e. absurd (omega (arith, e)))))
same_but_one f g (r ∷ rs) (suc i) bytes h =
    let first : f r ≡ g r = h 0 (omega arith) (λ e. absurd (omega (arith, e))) in
    let others = same_but_one f g rs i bytes (λ j lt ne. h (suc j) (omega arith) (λ e. ne (omega (arith, e)))) in
    rw (first, others) refl

owed_set : (rooms : List Room) (i : ℕ) (r : Room) → i < length rooms
    → all_owed (slice_set rooms i r) + owed_to (room_at rooms i).size ≡ all_owed rooms + owed_to r.size
owed_set [] i r lt = absurd (omega arith)
owed_set (x ∷ rs) zero r lt = omega arith
owed_set (x ∷ rs) (suc i) r lt = omega (arith, owed_set rs i r (omega arith))

-- a greater room was owed
pub greater_was_owed : (old new : RoomSize) (n : ℕ) → bytes_of old < n → n ≤ bytes_of new → bytes_of new + owed_to new ≤ owed_to old
greater_was_owed Nothing Nothing n lt le = omega (arith, lt, le)
greater_was_owed Nothing Least n lt le = omega (arith, lt, le)
greater_was_owed Nothing Page n lt le = omega (arith, lt, le)
greater_was_owed Nothing Quarter n lt le = omega (arith, lt, le)
greater_was_owed Nothing Whole n lt le = omega (arith, lt, le)
greater_was_owed Least Nothing n lt le = absurd (omega (arith, lt, le))
greater_was_owed Least Least n lt le = absurd (omega (arith, lt, le))
greater_was_owed Least Page n lt le = omega (arith, lt, le)
greater_was_owed Least Quarter n lt le = omega (arith, lt, le)
greater_was_owed Least Whole n lt le = omega (arith, lt, le)
greater_was_owed Page Nothing n lt le = absurd (omega (arith, lt, le))
greater_was_owed Page Least n lt le = absurd (omega (arith, lt, le))
greater_was_owed Page Page n lt le = absurd (omega (arith, lt, le))
greater_was_owed Page Quarter n lt le = omega (arith, lt, le)
greater_was_owed Page Whole n lt le = omega (arith, lt, le)
greater_was_owed Quarter Nothing n lt le = absurd (omega (arith, lt, le))
greater_was_owed Quarter Least n lt le = absurd (omega (arith, lt, le))
greater_was_owed Quarter Page n lt le = absurd (omega (arith, lt, le))
greater_was_owed Quarter Quarter n lt le = absurd (omega (arith, lt, le))
greater_was_owed Quarter Whole n lt le = omega (arith, lt, le)
greater_was_owed Whole Nothing n lt le = absurd (omega (arith, lt, le))
greater_was_owed Whole Least n lt le = absurd (omega (arith, lt, le))
greater_was_owed Whole Page n lt le = absurd (omega (arith, lt, le))
greater_was_owed Whole Quarter n lt le = absurd (omega (arith, lt, le))
greater_was_owed Whole Whole n lt le = absurd (omega (arith, lt, le))

-- ---- no rooms yet

owed_none : (n : ℕ) → all_owed (replicate n no_room) ≡ n * 86048
owed_none zero = refl
owed_none (suc n) = omega (arith, owed_none n)

none_at : (n i : ℕ) → room_at (replicate n no_room) i ≡ no_room
none_at zero i = refl
none_at (suc n) zero = refl
none_at (suc n) (suc i) = none_at n i

pub none_held : (region : List ℕ) (n : ℕ) → map (held_in region) (replicate n no_room) ≡ replicate n []
none_held region zero = refl
none_held region (suc n) = ap (λ (l : List (List ℕ)). [] ∷ l) (none_held region n)

no_less : (n : ℕ) → n - 0 ≡ n
no_less n = omega arith

pub all_none : (n len : ℕ) (old rooms : List Room) → rooms ≡ take n old ++ replicate (n - len) no_room → old ≡ [] → len ≡ 0 → rooms ≡ replicate n no_room
all_none zero len old rooms is none zero_len = is ∙ ap (λ (k : ℕ). replicate (0 - k) no_room) zero_len
all_none (suc n) len old rooms is none zero_len =
    is
    ∙ ap (λ (l : List Room). take (suc n) l ++ replicate (suc n - len) no_room) none
    ∙ ap (λ (k : ℕ). replicate (suc n - k) no_room) zero_len
    ∙ ap (λ (k : ℕ). replicate k no_room) (no_less (suc n))

pub none_parted : (capacity n : ℕ) → n * 86048 ≤ capacity → IsParted capacity [] (replicate n no_room)
none_parted capacity n le = record {
  held = λ i lt. rw (none_at n i) (omega arith);
  within = λ i lt. rw (none_at n i) (omega arith);
  apart = λ i j ilt jlt ne. inl (rw (none_at n i, none_at n j) (omega arith));
  owed = omega (arith, owed_none n);
}

-- ---- a region with other bytes in one room

patched_apart : (region bytes : List ℕ) (s : ℕ) (r : Room) → s + length bytes ≤ length region → r.len ≤ bytes_of r.size → room_end r ≤ length region
    → (room_end r ≤ s) ⊎ (s + length bytes ≤ r.start)
    → held_in (take s region ++ (bytes ++ drop (s + length bytes) region)) r ≡ held_in region r
patched_apart region bytes s r fits len end (inl before) =
    same_lists _ _ (search (rules, places)) (λ k d h. grind (arith, places))
patched_apart region bytes s r fits len end (inr behind) =
    same_lists _ _ (search (rules, places)) (λ k d h. grind (arith, places))

patched_here : (region bytes : List ℕ) (s : ℕ) → s + length bytes ≤ length region
    → take (length bytes) (drop s (take s region ++ (bytes ++ drop (s + length bytes) region))) ≡ bytes
patched_here region bytes s fits =
    ap (take (length bytes)) (drop_at (take s region) (bytes ++ drop (s + length bytes) region) s (length-take-le s region (omega arith)))
    ∙ take_at bytes (drop (s + length bytes) region) (length bytes) refl

patched_long : (region bytes : List ℕ) (s : ℕ) → s + length bytes ≤ length region
    → length (take s region ++ (bytes ++ drop (s + length bytes) region)) ≡ length region
patched_long region bytes s fits =
    omega (
      arith,
      length-append (take s region) (bytes ++ drop (s + length bytes) region),
      length-append bytes (drop (s + length bytes) region),
      length-take-le s region (omega arith),
      length-drop (s + length bytes) region,
    )

-- what is set at one place of the rooms, and what stands at the others
at_place : (rooms : List Room) (i : ℕ) (r : Room) → i < length rooms → room_at (slice_set rooms i r) i ≡ r
at_place rooms i r lt = get_or-set_same rooms i r no_room lt

elsewhere : (rooms : List Room) (i j : ℕ) (r : Room) → (j ≡ i → ⊥) → room_at (slice_set rooms i r) j ≡ room_at rooms j
elsewhere rooms i j r ne = get_or-set_other rooms i j r no_room ne

-- a room in place of another one, which has no byte in common with the others
module _ (before capacity : ℕ) (kept : before ≤ capacity) (region more : List ℕ) (rooms : List Room) (i : ℕ) (r : Room) (there : i < length rooms)
    (h : IsParted before region rooms) (fits : r.len ≤ bytes_of r.size) (end : room_end r ≤ length more) (long : length region ≤ length more)
    (free : (j : ℕ) → j < length rooms → (j ≡ i → ⊥) → (room_end (room_at rooms j) ≤ r.start) ⊎ (room_end r ≤ (room_at rooms j).start))
    (owed : length more + owed_to r.size ≤ length region + owed_to (room_at rooms i).size) where
  same_long : (j : ℕ) → j < length (slice_set rooms i r) → j < length rooms
  same_long j lt = omega (arith, lt, length-set rooms i r)

  held_by : (j : ℕ) → j < length (slice_set rooms i r) → (room_at (slice_set rooms i r) j).len ≤ bytes_of (room_at (slice_set rooms i r) j).size
  held_by j lt = elim (cases_eq j i) [
    | inl e ↦ rw (e, at_place rooms i r there) fits
    | inr ne ↦ rw (elsewhere rooms i j r ne) (h.held j (same_long j lt))
  ]

  ends_by : (j : ℕ) → j < length (slice_set rooms i r) → room_end (room_at (slice_set rooms i r) j) ≤ length more
  ends_by j lt = elim (cases_eq j i) [
    | inl e ↦ rw (e, at_place rooms i r there) end
    | inr ne ↦ rw (elsewhere rooms i j r ne) (omega (arith, h.within j (same_long j lt), long))
  ]

  other_way : (x y : Room) → (room_end x ≤ y.start) ⊎ (room_end y ≤ x.start) → (room_end y ≤ x.start) ⊎ (room_end x ≤ y.start)
  other_way x y (inl a) = inr a
  other_way x y (inr b) = inl b

  apart_by : (j k : ℕ) → j < length (slice_set rooms i r) → k < length (slice_set rooms i r) → (j ≡ k → ⊥)
      → (room_end (room_at (slice_set rooms i r) j) ≤ (room_at (slice_set rooms i r) k).start)
      ⊎ (room_end (room_at (slice_set rooms i r) k) ≤ (room_at (slice_set rooms i r) j).start)
  apart_by j k jlt klt ne = elim (cases_eq j i) [
    | inl je ↦
        let kne : k ≡ i → ⊥ = λ e. ne (je ∙ sym e) in
        rw (je, at_place rooms i r there, elsewhere rooms i k r kne) (other_way (room_at rooms k) r (free k (same_long k klt) kne))
    | inr jne ↦ elim (cases_eq k i) [
      | inl ke ↦ rw (ke, at_place rooms i r there, elsewhere rooms i j r jne) (free j (same_long j jlt) jne)
      | inr kne ↦ rw (elsewhere rooms i j r jne, elsewhere rooms i k r kne) (h.apart j k (same_long j jlt) (same_long k klt) ne)
    ]
  ]

  pub parted_still : IsParted capacity more (slice_set rooms i r)
  parted_still = record { held = held_by; within = ends_by; apart = apart_by; owed = omega (arith, owed_set rooms i r there, h.owed, owed, kept) }

  -- the others hold what they held
  pub held_still : (bytes : List ℕ) → held_in more r ≡ bytes
      → ((j : ℕ) → j < length rooms → (j ≡ i → ⊥) → held_in more (room_at rooms j) ≡ held_in region (room_at rooms j))
      → map (held_in more) (slice_set rooms i r) ≡ slice_set (map (held_in region) rooms) i bytes
  held_still bytes here others =
      map-set (held_in more) rooms i r
      ∙ ap (λ (l : List ℕ). slice_set (map (held_in more) rooms) i l) here
      ∙ same_but_one (held_in more) (held_in region) rooms i bytes others

-- other bytes in a room that has room for them
module _ (before capacity : ℕ) (kept : before ≤ capacity) (region more bytes : List ℕ) (rooms : List Room) (i : ℕ) (old new : Room)
    (there : i < length rooms) (was : old ≡ room_at rooms i) (h : IsParted before region rooms) (fits : length bytes ≤ bytes_of old.size)
    (is : more ≡ take old.start region ++ (bytes ++ drop (old.start + length bytes) region))
    (now : new ≡ record { start = old.start; len = length bytes; size = old.size }) where
  old_end : room_end old ≤ length region
  old_end = rw was (h.within i there)

  inside : old.start + length bytes ≤ length region
  inside = omega (arith, old_end, fits)

  same_size : length more ≡ length region
  same_size = ap length is ∙ patched_long region bytes old.start inside

  apart_old : (j : ℕ) → j < length rooms → (j ≡ i → ⊥) → (room_end (room_at rooms j) ≤ old.start) ⊎ (room_end old ≤ (room_at rooms j).start)
  apart_old j lt ne = rw was (h.apart j i lt there ne)

  shorter : (x : Room) → (room_end x ≤ old.start) ⊎ (room_end old ≤ x.start) → (room_end x ≤ old.start) ⊎ (old.start + length bytes ≤ x.start)
  shorter x (inl a) = inl a
  shorter x (inr b) = inr (omega (arith, b, fits))

  others_hold : (j : ℕ) → j < length rooms → (j ≡ i → ⊥) → held_in more (room_at rooms j) ≡ held_in region (room_at rooms j)
  others_hold j lt ne =
      ap (λ (l : List ℕ). held_in l (room_at rooms j)) is
      ∙ patched_apart region bytes old.start (room_at rooms j) inside (h.held j lt) (h.within j lt) (shorter (room_at rooms j) (apart_old j lt ne))

  pub written_over : IsParted capacity more (slice_set rooms i new)
  written_over =
      rw now
      (parted_still before capacity kept region more rooms i (record { start = old.start; len = length bytes; size = old.size }) there h fits
      (omega (arith, old_end, same_size)) (omega (arith, same_size)) apart_old (rw was (omega (arith, same_size))))

  pub over_holds : map (held_in more) (slice_set rooms i new) ≡ slice_set (map (held_in region) rooms) i bytes
  over_holds =
      rw now
      (held_still before capacity kept region more rooms i (record { start = old.start; len = length bytes; size = old.size }) there h fits
      (omega (arith, old_end, same_size)) (omega (arith, same_size)) apart_old (rw was (omega (arith, same_size))) bytes
      (ap (λ (l : List ℕ). take (length bytes) (drop old.start l)) is ∙ patched_here region bytes old.start inside) others_hold)

-- a greater room, behind all others
behind_long : (region bytes : List ℕ) (n : ℕ) → length bytes ≤ n → length (region ++ (bytes ++ replicate (n - length bytes) 0)) ≡ length region + n
behind_long region bytes n le =
    omega (
      arith,
      length-append region (bytes ++ replicate (n - length bytes) 0),
      length-append bytes (replicate (n - length bytes) 0),
      length-replicate {A = ℕ} (n - length bytes) 0,
    )

behind_here : (region bytes zeros : List ℕ) → take (length bytes) (drop (length region) (region ++ (bytes ++ zeros))) ≡ bytes
behind_here region bytes zeros =
    ap (take (length bytes)) (drop_at region (bytes ++ zeros) (length region) refl) ∙ take_at bytes zeros (length bytes) refl

behind_before : (region added : List ℕ) (r : Room) → r.len ≤ bytes_of r.size → room_end r ≤ length region → held_in (region ++ added) r ≡ held_in region r
behind_before region added r fits end =
    ap (take r.len) (drop-append-le r.start region added (omega arith))
    ∙ take-append-le r.len (drop r.start region) added (omega (arith, length-drop r.start region))

module _ (before capacity : ℕ) (kept : before ≤ capacity) (region more bytes : List ℕ) (rooms : List Room) (i : ℕ) (old new : Room)
    (size : RoomSize) (there : i < length rooms) (was : old ≡ room_at rooms i) (h : IsParted before region rooms) (wants : bytes_of old.size < length bytes) (fits : length bytes ≤ bytes_of size)
    (is : more ≡ region ++ (bytes ++ replicate (bytes_of size - length bytes) 0))
    (now : new ≡ record { start = length region; len = length bytes; size = size }) where
  longer : length more ≡ length region + bytes_of size
  longer = ap length is ∙ behind_long region bytes (bytes_of size) fits

  was_owed : bytes_of size + owed_to size ≤ owed_to (room_at rooms i).size
  was_owed = rw (← was) (greater_was_owed old.size size (length bytes) wants fits)

  all_before : (j : ℕ) → j < length rooms → (j ≡ i → ⊥)
      → (room_end (room_at rooms j) ≤ length region) ⊎ (length region + bytes_of size ≤ (room_at rooms j).start)
  all_before j lt ne = inl (h.within j lt)

  pub put_anew : IsParted capacity more (slice_set rooms i new)
  put_anew =
      rw now
      (parted_still before capacity kept region more rooms i (record { start = length region; len = length bytes; size = size }) there h fits
      (omega (arith, longer)) (omega (arith, longer)) all_before (omega (arith, longer, was_owed)))

  pub anew_holds : map (held_in more) (slice_set rooms i new) ≡ slice_set (map (held_in region) rooms) i bytes
  anew_holds =
      rw now
      (held_still before capacity kept region more rooms i (record { start = length region; len = length bytes; size = size }) there h fits
      (omega (arith, longer)) (omega (arith, longer)) all_before (omega (arith, longer, was_owed)) bytes
      (ap (λ (l : List ℕ). take (length bytes) (drop (length region) l)) is ∙ behind_here region bytes (replicate (bytes_of size - length bytes) 0))
      (λ j lt ne. ap (λ (l : List ℕ). held_in l (room_at rooms j)) is
      ∙ behind_before region (bytes ++ replicate (bytes_of size - length bytes) 0) (room_at rooms j) (h.held j lt) (h.within j lt)))

owed_within : (rooms : List Room) (i : ℕ) → i < length rooms → owed_to (room_at rooms i).size ≤ all_owed rooms
owed_within [] i lt = absurd (omega arith)
owed_within (r ∷ rs) zero lt = omega arith
owed_within (r ∷ rs) (suc i) lt = omega (arith, owed_within rs i (omega arith))

-- there is room for it
pub room_for : (capacity : ℕ) (region : List ℕ) (rooms : List Room) (i n : ℕ) (old : Room) (size : RoomSize) → i < length rooms → old ≡ room_at rooms i
    → IsParted capacity region rooms → bytes_of old.size < n → n ≤ bytes_of size → length region + bytes_of size ≤ capacity
room_for capacity region rooms i n old size there was h wants fits =
    let some : bytes_of size + owed_to size ≤ owed_to (room_at rooms i).size = rw (← was) (greater_was_owed old.size size n wants fits) in
    omega (arith, some, owed_within rooms i there, h.owed)

pub most_bytes : (size : RoomSize) → bytes_of size ≤ 65536
most_bytes Nothing = omega arith
most_bytes Least = omega arith
most_bytes Page = omega arith
most_bytes Quarter = omega arith
most_bytes Whole = omega arith

-- one more of the first lists is made
pub one_more_made : (f : ℕ → List ℕ) (n count : ℕ) → n < count
    → slice_set (map f (range_with_len 0 n) ++ replicate (count - n) []) n (f n) ≡ map f (range_with_len 0 (n + 1)) ++ replicate (count - (n + 1)) []
one_more_made f n count lt =
    let left : count - n ≡ suc (count - (n + 1)) = omega arith in
    rw left
    (set_at (map f (range_with_len 0 n)) [] (replicate (count - (n + 1)) []) (f n) n (length-map-range_with_len f 0 n)
    ∙ sym (append_assoc (map f (range_with_len 0 n)) (f n ∷ []) (replicate (count - (n + 1)) []))
    ∙ sym (ap (λ (l : List (List ℕ)). l ++ replicate (count - (n + 1)) []) (map-range_with_len_more f 0 n n (omega arith))))

pub next_made : (f : ℕ → List ℕ) (n at count : ℕ) (lists new : List (List ℕ)) (bytes : List ℕ) → n < count → at ≡ n → bytes ≡ f n → new ≡ slice_set lists at bytes
    → lists ≡ map f (range_with_len 0 n) ++ replicate (count - n) [] → new ≡ map f (range_with_len 0 (n + 1)) ++ replicate (count - (n + 1)) []
next_made f n at count lists new bytes lt here made set so =
    set
    ∙ ap (λ (k : ℕ). slice_set lists k bytes) here
    ∙ ap (λ (b : List ℕ). slice_set lists n b) made
    ∙ ap (λ (l : List (List ℕ)). slice_set l n (f n)) so
    ∙ one_more_made f n count lt
