-- A table's places, where one of its entries comes, changes or goes.
use Rattle.std.proofs.Common.{◌≡◌, ℕ, zero, suc, ◌+◌, ◌-◌, ◌<◌, ◌≤◌, inl, inr, Bool, true, cond, List, [], ◌∷◌, ◌++◌, map, length, get_or, refl, sym, ap, ◌∙◌, add-one, arith}
use Rattle.std.specs.Prelude.{◌==◌, Option, Some, None, is_some, replicate, slice_get, swap_remove}
use Rattle.std.proofs.Math.ListN.{set}
use Rattle.std.proofs.lemmas.Bool.{cases_eq, cases_lt, eq-eqb, false≢true, ne_eqb}
use Rattle.std.proofs.lemmas.Grind.{common_steps}
use Rattle.std.proofs.lemmas.Option.{gets, slice_get_read}
use Rattle.std.proofs.lemmas.List.{length-set, length-append, length-map, length-replicate, length_push, map-append, get_or-set_same, get_or-set_other, get_or_append_left, get_or_push, get_or_past, get_or_read, ext_get_or}
use Rattle.std.proofs.Math.ListN.{get_or-map}
use Rattle.track_table.specs.Bits.{is_marked}
use Rattle.track_table.specs.Sparse.{IsSparse, numbered, places_of}
use Rattle.track_table.specs.Table.{has_entry}
use Rattle.track_table.proofs.Places.{empty_places, more_places, place_set}

-- ---- lists of which the last element comes or goes

pub length_out : {X : Type 0} (xs : List X) (i : ℕ) (d : X) → i < length xs → length (swap_remove xs i d) + 1 ≡ length xs
length_out xs i d below = grind (arith, common_steps)

pub out_here : {X : Type 0} (xs : List X) (i : ℕ) (d e : X) → i + 1 < length xs → get_or (swap_remove xs i d) i e ≡ get_or xs (length xs - 1) e
out_here xs i d e below = grind (arith, common_steps)

pub out_other : {X : Type 0} (xs : List X) (i k : ℕ) (d e : X) → (k ≡ i → ⊥) → k + 1 < length xs → get_or (swap_remove xs i d) k e ≡ get_or xs k e
out_other xs i k d e other below = grind (arith, common_steps)

got_here : {X : Type 0} (xs : List X) (i : ℕ) (d : X) → i + 1 < length xs → slice_get (swap_remove xs i d) i ≡ slice_get xs (length xs - 1)
got_here xs i d below = grind (arith, common_steps, gets, out_here, length_out)

got_other : {X : Type 0} (xs : List X) (i k : ℕ) (d : X) → (k ≡ i → ⊥) → k + 1 < length xs → slice_get (swap_remove xs i d) k ≡ slice_get xs k
got_other xs i k d other below = grind (arith, common_steps, gets, out_other, length_out)

got_new : {X : Type 0} (xs : List X) (x : X) → slice_get (xs ++ x ∷ []) (length xs) ≡ Some x
got_new xs x = grind (arith, common_steps, gets)

got_old : {X : Type 0} (xs : List X) (x : X) (k : ℕ) → k < length xs → slice_get (xs ++ x ∷ []) k ≡ slice_get xs k
got_old xs x k below = grind (arith, common_steps, gets)

got_set : {X : Type 0} (xs : List X) (i : ℕ) (x : X) → i < length xs → slice_get (set xs i x) i ≡ Some x
got_set xs i x below = grind (arith, common_steps, gets)

got_apart : {X : Type 0} (xs : List X) (i k : ℕ) (x : X) → (k ≡ i → ⊥) → slice_get (set xs i x) k ≡ slice_get xs k
got_apart xs i k x other = grind (arith, common_steps, gets)

-- ---- numbers

-- only a track that has a place has a number
pub numbered_inside : (index : List ℕ) (t i : ℕ) → get_or index t 0 ≡ suc i → t < length index
numbered_inside index t i number = elim (cases_lt t (length index)) [
  | inl inside ↦ inside
  | inr past ↦ absurd (let none : 0 ≡ suc i = sym (get_or_past index t 0 past) ∙ number in omega (arith, none))
]

-- two tracks of one entry are the same
same_track : (count : ℕ) (index tracks : List ℕ) (t q i k : ℕ) → IsSparse count index tracks → get_or index t 0 ≡ suc i → get_or index q 0 ≡ suc k → k ≡ i → q ≡ t
same_track count index tracks t q i k sparse one other e =
    sym (sparse.leads q k other).1 ∙ ap (λ (j : ℕ). get_or tracks j 0) e ∙ (sparse.leads t i one).1

-- ---- the places of a table

pub length_places : {X : Type 0} (index : List ℕ) (entries : List X) → length (places_of index entries) ≡ length index
unfolding places_of
length_places index entries = length-map index (numbered entries)

pub place_is : {X : Type 0} (index : List ℕ) (entries : List X) (t : ℕ) → get_or (places_of index entries) t None ≡ numbered entries (get_or index t 0)
unfolding places_of
place_is index entries t = get_or-map (numbered entries) index t 0

entry_by : {X : Type 0} (entries : List X) (n i : ℕ) (o : Option X) → n ≡ suc i → slice_get entries i ≡ o → numbered entries n ≡ o
entry_by entries n i o is there = rw is there

-- a track without a number has no entry, and one without an entry has no number
pub no_entry : {X : Type 0} (index : List ℕ) (entries : List X) (t : ℕ) → get_or index t 0 ≡ 0 → get_or (places_of index entries) t None ≡ None
no_entry index entries t none = rw (place_is index entries t, none) refl

pub no_number : {X : Type 0} (index tracks : List ℕ) (entries : List X) (t : ℕ) → IsSparse (length entries) index tracks
    → get_or (places_of index entries) t None ≡ None → get_or index t 0 ≡ 0
no_number index tracks entries t sparse none = zero_by (get_or index t 0) (sym (place_is index entries t) ∙ none) (λ i e. (sparse.leads t i e).0) where
  zero_by : (n : ℕ) → numbered entries n ≡ None → ((i : ℕ) → n ≡ suc i → i < length entries) → n ≡ 0
  zero_by zero none within = refl
  zero_by (suc i) none within = absurd (grind (arith, common_steps, gets, within i refl))

pub some_number : {X : Type 0} (index : List ℕ) (entries : List X) (t : ℕ) → has_entry (places_of index entries) t ≡ true → 0 < get_or index t 0
some_number index entries t some = elim (cases_lt 0 (get_or index t 0)) [
  | inl above ↦ above
  | inr none ↦ absurd (false≢true (sym (ap is_some (no_entry index entries t (omega (arith, none)))) ∙ some))
]

-- the number of a track that has one leads to an entry
pub number_inside : (count : ℕ) (index tracks : List ℕ) (t : ℕ) → IsSparse count index tracks → 0 < get_or index t 0 → get_or index t 0 - 1 < count
number_inside count index tracks t sparse some = (sparse.leads t (get_or index t 0 - 1) (omega (arith, some))).0

pub entry_is : {X : Type 0} (index tracks : List ℕ) (entries : List X) (t : ℕ) (x : X) → IsSparse (length entries) index tracks
    → 0 < get_or index t 0 → x ≡ get_or entries (get_or index t 0 - 1) x → Some x ≡ get_or (places_of index entries) t None
entry_is index tracks entries t x sparse some is =
    let i = get_or index t 0 - 1 in
    let there : slice_get entries i ≡ Some x = slice_get_read entries (length entries) i x refl (number_inside (length entries) index tracks t sparse some) is in
    sym (place_is index entries t ∙ entry_by entries (get_or index t 0) i (Some x) (omega (arith, some)) there)

-- the marks where one place changes
pub marks_follow : {X : Type 0} (held later : List Bool) (places : List (Option X)) (t : ℕ) (o : Option X) → t < length places
    → ((q : ℕ) → is_marked held q ≡ has_entry places q) → ((q : ℕ) → is_marked later q ≡ cond (q == t) (is_some o) (is_marked held q))
    → (q : ℕ) → is_marked later q ≡ has_entry (set places t o) q
marks_follow held later places t o inside was each q = each q ∙ rw (was q) (sym (place_set is_some places t q o None inside))

-- the marks where the entry of a place is another
pub still_marked : {X : Type 0} (held : List Bool) (places : List (Option X)) (t : ℕ) (x y : X) → t < length places → Some x ≡ get_or places t None
    → ((q : ℕ) → is_marked held q ≡ has_entry places q) → (q : ℕ) → is_marked held q ≡ has_entry (set places t (Some y)) q
still_marked held places t x y inside is was q = marks_follow held held places t (Some y) inside was each q where
  each : (q : ℕ) → is_marked held q ≡ cond (q == t) true (is_marked held q)
  each q = elim (cases_eq q t) [
    | inl e ↦ rw (eq-eqb q t e) (was q ∙ rw (e, ← is) refl)
    | inr other ↦ rw (ne_eqb q t other) refl
  ]

-- numbers that lead to the same
same_entry : {X : Type 0} (entries now : List X) (n : ℕ) → ((i : ℕ) → n ≡ suc i → slice_get now i ≡ slice_get entries i) → numbered now n ≡ numbered entries n
same_entry entries now zero same = refl
same_entry entries now (suc i) same = same i refl

-- one place changes, and every other stays
pub one_place : {X : Type 0} (index later : List ℕ) (entries now : List X) (t : ℕ) (o : Option X) → length later ≡ length index → t < length index
    → numbered now (get_or later t 0) ≡ o → ((q : ℕ) → (q ≡ t → ⊥) → numbered now (get_or later q 0) ≡ numbered entries (get_or index q 0))
    → places_of later now ≡ set (places_of index entries) t o
one_place index later entries now t o long inside here rest =
    let whole = length_places index entries in
    ext_get_or None _ _ (length_places later now ∙ long ∙ sym whole ∙ sym (length-set (places_of index entries) t o))
    (λ q below. place_is later now q ∙ elim (cases_eq q t) [
      | inl e ↦ rw e (here ∙ sym (get_or-set_same (places_of index entries) t o None (omega (arith, whole, inside))))
      | inr other ↦ rest q other ∙ sym (place_is index entries q) ∙ sym (get_or-set_other (places_of index entries) t q o None other)
    ])

-- ---- an entry comes

pub added_places : {X : Type 0} (index tracks : List ℕ) (entries : List X) (t n : ℕ) (x : X) → IsSparse (length entries) index tracks → t < length index
    → n ≡ length entries + 1 → places_of (set index t n) (entries ++ x ∷ []) ≡ set (places_of index entries) t (Some x)
added_places index tracks entries t n x sparse inside is =
    let now = entries ++ x ∷ [] in
    let number : get_or (set index t n) t 0 ≡ suc (length entries) = get_or-set_same index t n 0 inside ∙ is ∙ add-one (length entries) in
    one_place index (set index t n) entries now t (Some x) (length-set index t n) inside (entry_by now _ (length entries) (Some x) number (got_new entries x))
    (λ q other. rw (get_or-set_other index t q n 0 other) (same_entry entries now (get_or index q 0) (λ i e. got_old entries x i (sparse.leads q i e).0)))

pub added_sparse : (count : ℕ) (index tracks : List ℕ) (t n : ℕ) → IsSparse count index tracks → t < length index → get_or index t 0 ≡ 0 → n ≡ count + 1
    → IsSparse (count + 1) (set index t n) (tracks ++ t ∷ [])
added_sparse count index tracks t n sparse inside none is = record {
  few = rw (length-set index t n) sparse.few;
  whole = length_push tracks t ∙ ap (λ (k : ℕ). k + 1) sparse.whole;
  leads = λ q i e. elim (cases_eq q t) [
    | inl same ↦ (
        let last : i ≡ count = (let number : n ≡ suc i = sym (get_or-set_same index t n 0 inside) ∙ rw same at e in omega (arith, number, is)) in
        (omega (arith, last), get_or_push tracks t 0 i (sparse.whole ∙ sym last) ∙ sym same)
        )
    | inr other ↦ (
        let old = sparse.leads q i (sym (get_or-set_other index t q n 0 other) ∙ e) in
        (omega (arith, old.0), get_or_append_left tracks (t ∷ []) 0 i (omega (arith, old.0, sparse.whole)) ∙ old.1)
        )
  ];
  back = λ i below. elim (cases_lt i count) [
    | inl old ↦ (
        let q = get_or tracks i 0 in
        let there : get_or index q 0 ≡ suc i = sparse.back i old in
        let other : q ≡ t → ⊥ = λ e. (let zero_is : 0 ≡ suc i = sym none ∙ rw e at there in omega (arith, zero_is)) in
        rw (get_or_append_left tracks (t ∷ []) 0 i (omega (arith, old, sparse.whole))) (get_or-set_other index t q n 0 other ∙ there)
        )
    | inr new ↦ (
        let last : count ≡ i = omega (arith, new, below) in
        rw (get_or_push tracks t 0 i (sparse.whole ∙ last)) (get_or-set_same index t n 0 inside ∙ is ∙ omega (arith, last))
        )
  ];
}

-- ---- an entry changes

pub changed_places : {X : Type 0} (index tracks : List ℕ) (entries : List X) (t i : ℕ) (x : X) → IsSparse (length entries) index tracks
    → get_or index t 0 ≡ suc i → places_of index (set entries i x) ≡ set (places_of index entries) t (Some x)
changed_places index tracks entries t i x sparse number =
    let now = set entries i x in
    one_place index index entries now t (Some x) refl (numbered_inside index t i number) (entry_by now _ i (Some x) number (got_set entries i x (sparse.leads t i number).0))
    (λ q other. same_entry entries now (get_or index q 0) (λ k e. got_apart entries i k x
    (λ same. other (sym (sparse.leads q k e).1 ∙ ap (λ (j : ℕ). get_or tracks j 0) same ∙ (sparse.leads t i number).1))))

-- ---- an entry goes, and the last one takes its place

-- the last entry has another number than that of another track
before_last : (count : ℕ) (index tracks : List ℕ) (t i q : ℕ) → IsSparse count index tracks → get_or index t 0 ≡ suc i
    → q ≡ get_or tracks (count - 1) 0 → (q ≡ t → ⊥) → i + 1 < count
before_last count index tracks t i q sparse number is other =
    let here = sparse.leads t i number in
    let apart : i ≡ count - 1 → ⊥ = λ e. other (is ∙ ap (λ (k : ℕ). get_or tracks k 0) (sym e) ∙ here.1) in
    elim (cases_lt (i + 1) count) [ inl before ↦ before | inr past ↦ absurd (apart (omega (arith, past, here.0))) ]

-- the number of a track that is neither of the two
elsewhere : (count : ℕ) (index tracks : List ℕ) (t i last q k : ℕ) → IsSparse count index tracks → get_or index t 0 ≡ suc i
    → last ≡ get_or tracks (count - 1) 0 → (q ≡ t → ⊥) → (q ≡ last → ⊥) → get_or index q 0 ≡ suc k → (k ≡ i → ⊥) × (k + 1 < count)
elsewhere count index tracks t i last q k sparse number is other apart lead = (
  λ e. other (same_track count index tracks t q i k sparse number lead e),
  before_last count index tracks q k last sparse lead is (λ e. apart (sym e)),
)

-- the number of the last entry's track
pub last_number : (count : ℕ) (index tracks : List ℕ) (t i last : ℕ) → IsSparse count index tracks → get_or index t 0 ≡ suc i
    → last ≡ get_or tracks (count - 1) 0 → get_or index last 0 ≡ suc (count - 1)
last_number count index tracks t i last sparse number is =
    let most = (sparse.leads t i number).0 in
    rw is (sparse.back (count - 1) (omega (arith, most)))

-- the last entry's track, as it is read
pub last_read : (count : ℕ) (index tracks : List ℕ) (t i n last : ℕ) → IsSparse count index tracks → get_or index t 0 ≡ suc i → n ≡ length tracks
    → last ≡ get_or tracks (n - 1) last → last ≡ get_or tracks (count - 1) 0
last_read count index tracks t i n last sparse number all read =
    let most = (sparse.leads t i number).0 in
    let end : n - 1 ≡ count - 1 = omega (arith, all, sparse.whole) in
    get_or_read tracks (count - 1) last (omega (arith, most, sparse.whole)) (read ∙ ap (λ k. get_or tracks k last) end) 0

-- the numbers after that
number_gone : (index : List ℕ) (t i last q : ℕ) → (q ≡ t → ⊥) → (q ≡ last → ⊥) → get_or (set (set index last (suc i)) t 0) q 0 ≡ get_or index q 0
number_gone index t i last q other apart =
    get_or-set_other (set index last (suc i)) t q 0 0 other ∙ get_or-set_other index last q (suc i) 0 apart

number_moved : (index : List ℕ) (t i last : ℕ) → (last ≡ t → ⊥) → last < length index → get_or (set (set index last (suc i)) t 0) last 0 ≡ suc i
number_moved index t i last other inside = get_or-set_other (set index last (suc i)) t last 0 0 other ∙ get_or-set_same index last (suc i) 0 inside

number_none : (index : List ℕ) (t i last : ℕ) → t < length index → get_or (set (set index last (suc i)) t 0) t 0 ≡ 0
number_none index t i last inside = get_or-set_same (set index last (suc i)) t 0 0 (omega (arith, inside, length-set index last (suc i)))

pub gone_places : {X : Type 0} (index tracks : List ℕ) (entries : List X) (t i last : ℕ) (d : X) → IsSparse (length entries) index tracks
    → get_or index t 0 ≡ suc i → last ≡ get_or tracks (length entries - 1) 0
    → places_of (set (set index last (suc i)) t 0) (swap_remove entries i d) ≡ set (places_of index entries) t None
gone_places index tracks entries t i last d sparse number is =
    let now = swap_remove entries i d in
    let later = set (set index last (suc i)) t 0 in
    let inside = numbered_inside index t i number in
    let end = last_number (length entries) index tracks t i last sparse number is in
    one_place index later entries now t None (length-set (set index last (suc i)) t 0 ∙ length-set index last (suc i)) inside (rw (number_none index t i last inside) refl)
    (λ q other. elim (cases_eq q last) [
      | inl e ↦ rw (e, number_moved index t i last (λ f. other (e ∙ f)) (numbered_inside index last (length entries - 1) end), end)
          (got_here entries i d (before_last (length entries) index tracks t i q sparse number (e ∙ is) other))
      | inr apart ↦ rw (number_gone index t i last q other apart) (same_entry entries now (get_or index q 0) (λ k lead.
          let away = elsewhere (length entries) index tracks t i last q k sparse number is other apart lead in
          got_other entries i k d away.0 away.1))
    ])

pub gone_sparse : (count left : ℕ) (index tracks : List ℕ) (t i last d : ℕ) → IsSparse count index tracks → get_or index t 0 ≡ suc i
    → last ≡ get_or tracks (count - 1) 0 → left + 1 ≡ count → IsSparse left (set (set index last (suc i)) t 0) (swap_remove tracks i d)
gone_sparse count left index tracks t i last d sparse number is less =
    let here = sparse.leads t i number in
    let inside = numbered_inside index t i number in
    let end = last_number count index tracks t i last sparse number is in
    let there = numbered_inside index last (count - 1) end in
    let shorter = length_out tracks i d (omega (arith, here.0, sparse.whole)) in
    let final : get_or tracks (length tracks - 1) 0 ≡ last = rw sparse.whole (sym is) in
    record {
      few = rw (length-set (set index last (suc i)) t 0, length-set index last (suc i)) sparse.few;
      whole = omega (arith, shorter, sparse.whole, less);
      leads = λ q k lead. elim (cases_eq q t) [
        | inl e ↦ absurd (let none : 0 ≡ suc k = sym (number_none index t i last inside) ∙ rw e at lead in omega (arith, none))
        | inr other ↦ elim (cases_eq q last) [
          | inl e ↦ (
              let moved = number_moved index t i last (λ f. other (e ∙ f)) there in
              let k_is : k ≡ i = (let two : suc k ≡ suc i = sym (rw e at lead) ∙ moved in omega (arith, two)) in
              let before = before_last count index tracks t i q sparse number (e ∙ is) other in
              (omega (arith, k_is, before, less), rw k_is (out_here tracks i d 0 (omega (arith, before, sparse.whole)) ∙ final ∙ sym e))
              )
          | inr apart ↦ (
              let old : get_or index q 0 ≡ suc k = sym (number_gone index t i last q other apart) ∙ lead in
              let away = elsewhere count index tracks t i last q k sparse number is other apart old in
              (omega (arith, away.1, less), out_other tracks i k d 0 away.0 (omega (arith, away.1, sparse.whole)) ∙ (sparse.leads q k old).1)
              )
        ]
      ];
      back = λ k below. elim (cases_eq k i) [
        | inl e ↦ (
            let before : i + 1 < count = omega (arith, below, e, less) in
            let other : last ≡ t → ⊥ = λ f. (let two : suc (count - 1) ≡ suc i = sym end ∙ rw f number in omega (arith, two, before)) in
            rw (e, out_here tracks i d 0 (omega (arith, before, sparse.whole)), final) (number_moved index t i last other there)
            )
        | inr differs ↦ (
            let q = get_or tracks k 0 in
            let old : get_or index q 0 ≡ suc k = sparse.back k (omega (arith, below, less)) in
            let other : q ≡ t → ⊥ = λ f. differs (let two : suc k ≡ suc i = sym old ∙ rw f number in omega (arith, two)) in
            let apart : q ≡ last → ⊥ = λ f. (let two : suc k ≡ suc (count - 1) = sym old ∙ rw f end in omega (arith, two, below, less)) in
            rw (out_other tracks i k d 0 differs (omega (arith, below, less, sparse.whole))) (number_gone index t i last q other apart ∙ old)
            )
      ];
    }

-- ---- no entry, and more places

pub empty_sparse : (n : ℕ) → n ≤ 65535 → IsSparse 0 (replicate n 0) []
empty_sparse n few = record {
  few = rw (length-replicate {A = ℕ} n 0) few;
  whole = refl;
  leads = λ t i e. absurd (let none : 0 ≡ suc i = sym (empty_places n t 0) ∙ e in omega (arith, none));
  back = λ i below. absurd (omega (arith, below));
}

pub none_places : {X : Type 0} (n : ℕ) → places_of {T = X} (replicate n 0) [] ≡ replicate n None
none_places {X} n = ext_get_or None _ _ (length_places (replicate n 0) [] ∙ length-replicate {A = ℕ} n 0 ∙ sym (length-replicate {A = Option X} n None))
    (λ q below. no_entry (replicate n 0) [] q (empty_places n q 0) ∙ sym (empty_places n q None))

pub more_sparse : (count : ℕ) (index tracks : List ℕ) (n : ℕ) → IsSparse count index tracks → length index + n ≤ 65535 → IsSparse count (index ++ replicate n 0) tracks
more_sparse count index tracks n sparse few = record {
  few = rw (length-append index (replicate n 0), length-replicate {A = ℕ} n 0) few;
  whole = sparse.whole;
  leads = λ t i e. sparse.leads t i (sym (more_places index n t 0) ∙ e);
  back = λ i below. more_places index n (get_or tracks i 0) 0 ∙ sparse.back i below;
}

pub wider_places : {X : Type 0} (index : List ℕ) (entries : List X) (n : ℕ) → places_of (index ++ replicate n 0) entries ≡ places_of index entries ++ replicate n None
unfolding places_of
wider_places {X} index entries n = map-append (numbered entries) index (replicate n 0) ∙ ap (λ (ps : List (Option X)). map (numbered entries) index ++ ps) (none_there n) where
  none_there : (n : ℕ) → map (numbered entries) (replicate n 0) ≡ replicate n None
  none_there zero = refl
  none_there (suc n) = ap (λ (ps : List (Option X)). None ∷ ps) (none_there n)
