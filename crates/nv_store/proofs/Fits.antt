-- Which records fit on a track.
use Rattle.std.proofs.Common.{
  ◌≡◌,
  ℕ,
  zero,
  suc,
  ◌+◌,
  ◌-◌,
  ◌<◌,
  ◌==◌,
  ◌↔◌,
  true,
  false,
  List,
  [],
  ◌∷◌,
  ◌++◌,
  length,
  get_or,
  take,
  drop,
  refl,
  sym,
  ap,
  subst,
  ◌∙◌,
  append_assoc,
  arith,
}
use Rattle.std.specs.Prelude.{All, nat_lt, sum_by}
use Rattle.std.specs.List.{list_all}
use Rattle.std.proofs.lemmas.Bool.{and_parts, and_from, both_ways, leb-true, le-leb, lt-ltb, ltb-true, eq-eqb, eqb-true}
use Rattle.std.proofs.lemmas.List.{length-take, take_all, at_drop_more}
use Rattle.std.proofs.lemmas.List.Folds.{list_all-append}
use Rattle.std.proofs.lemmas.List.Sums.{sum_by-append, sum_by-cons}
use Rattle.ckd_types.specs.declared.geometry.Geometry.{Geometry}
use Rattle.ckd_types.specs.declared.record.Record.{Record}
use Rattle.ckd_types.specs.declared.record.Track.{Track}
use Rattle.ckd_types.specs.Geometry.{cost}
use Rattle.ckd_types.specs.Track.{IsCchh, IsRecord, HasZero, Fits, cost_of}
use Rattle.ckd_rules.specs.Facts.{IsFormat}
use Rattle.track_image.specs.Image.{Image}
use Rattle.nv_store.specs.Fit.{is_id, is_record, has_zero, is_fit}

-- the units of some records, and of more behind them
cost-append : (g : Geometry) (xs ys : List Record) → 0 < length xs
    → cost_of g (xs ++ ys) ≡ cost_of g xs + sum_by (λ (r : Record). cost g (length r.key) (length r.body)) ys
cost-append g [] ys some = absurd (omega arith)
cost-append g (x ∷ xs) ys some = sum_by-append (λ (r : Record). cost g (length r.key) (length r.body)) xs ys

record_test : (r : Record) → IsRecord r → is_record r ≡ true
record_test r is =
    let cc : r.id.cchh.cc < 65536 = omega (arith, is.cchh.cc) in
    let hh : r.id.cchh.hh < 65536 = omega (arith, is.cchh.hh) in
    let number : r.id.r < 256 = omega (arith, is.number) in
    and_from _ _ (and_from _ _ (lt-ltb _ _ cc) (and_from _ _ (lt-ltb _ _ hh) (lt-ltb _ _ number)))
    (and_from _ _ (le-leb _ _ is.key) (le-leb _ _ is.body))

records_test : (records : List Record) → All IsRecord records → list_all is_record records ≡ true
records_test [] all = refl
records_test (r ∷ records) all = and_from _ _ (record_test r (all 0 r (omega arith)))
    (records_test records (λ k d below. all (suc k) d (omega arith)))

zero_test : (records : List Record) → HasZero records → has_zero records ≡ true
zero_test [] h = absurd h
zero_test (r ∷ records) h = and_from _ _ (eq-eqb _ _ (ap length h.0)) (eq-eqb _ _ h.1)

-- the track of an image passes the test
pub fit_test : (i : Image) → Fits i.geometry i.track → is_fit i.geometry i.track.records ≡ true
fit_test i fits = and_from _ _ (zero_test _ fits.zero)
    (and_from _ _ (records_test _ fits.records) (le-leb _ _ fits.cost))

no_bytes : (bytes : List ℕ) → length bytes ≡ 0 → bytes ≡ []
no_bytes [] e = refl
no_bytes (b ∷ bytes) e = absurd (omega arith)

zero_from : (records : List Record) → has_zero records ≡ true → HasZero records
zero_from [] h = absurd (both_ways false refl h)
zero_from (r ∷ records) h =
    let tests = and_parts (length r.key == 0) (length r.body == 8) h in
    (no_bytes r.key (eqb-true _ _ tests.0), eqb-true _ _ tests.1)

record_from : (r : Record) → is_record r ≡ true → IsRecord r
record_from r test =
    let tests = and_parts (is_id r.id) _ test in
    let id = and_parts (nat_lt r.id.cchh.cc 65536) _ tests.0 in
    let head = and_parts (nat_lt r.id.cchh.hh 65536) (nat_lt r.id.r 256) id.1 in
    let lengths = and_parts _ _ tests.1 in
    record {
      cchh = record { cc = omega (arith, ltb-true _ _ id.0); hh = omega (arith, ltb-true _ _ head.0) };
      number = omega (arith, ltb-true _ _ head.1);
      key = leb-true _ _ lengths.0;
      body = leb-true _ _ lengths.1;
    }

records_from : (records : List Record) → list_all is_record records ≡ true → All IsRecord records
records_from [] all k d below = absurd (omega arith)
records_from (r ∷ records) all zero d below =
    record_from r (and_parts (is_record r) (list_all is_record records) all).0
records_from (r ∷ records) all (suc k) d below = records_from records
    (and_parts (is_record r) (list_all is_record records) all).1 k d (omega arith)

-- the test says what a track that fits is
pub fit_says : (g : Geometry) (t : Track) → (IsCchh t.home × (is_fit g t.records ≡ true)) ↔ Fits g t
fit_says g t = (says, λ fits. (fits.home, fit_test (record { geometry = g; track = t }) fits))
  where
    says : IsCchh t.home × (is_fit g t.records ≡ true) → Fits g t
    says h =
        let first = and_parts (has_zero t.records) _ h.1 in
        let rest = and_parts (list_all is_record t.records) _ first.1 in
        record {
          home = h.0;
          zero = zero_from t.records first.0;
          records = records_from t.records rest.0;
          cost =
              leb-true _ _ rest.1;
        }

-- where records fit, each of them is a format of what stands before it
next_fits : (g : Geometry) (records behind : List Record) (last : ℕ) (r : Record) → last < length records
    → is_fit g (take (last + 1) records ++ r ∷ behind) ≡ true → IsFormat g records last r
next_fits g records behind last r place fit =
    let front : List Record = take (last + 1) records in
    let tests = and_parts (list_all is_record (front ++ r ∷ behind)) _ (and_parts (has_zero (front ++ r ∷ behind)) _ fit).1 in
    let all = and_parts (list_all is_record front) (list_all is_record (r ∷ behind))
    (sym (list_all-append is_record front (r ∷ behind)) ∙ tests.0) in
    let some : 0 < length front = omega (arith, length-take (last + 1) records) in
    let sum = sum_by-cons (λ (x : Record). cost g (length x.key) (length x.body)) r behind in
    record {
      place = place;
      ranges = record_from r (and_parts (is_record r) (list_all is_record behind) all.1).0;
      room = le-leb _ _ (omega (arith, leb-true _ _ tests.1, cost-append g front (r ∷ behind) some, sum));
    }

-- the next of records that fit behind those that were put
pub rest_fits : (g : Geometry) (now records whole : List Record) (i last : ℕ) (r : Record) → last + 1 ≡ length now
    → i < length records → r ≡ get_or records i r → now ++ drop i records ≡ whole → is_fit g whole ≡ true
    → IsFormat g now last r
rest_fits g now records whole i last r ends below is so_far fit =
    let all : take (last + 1) now ≡ now = take_all (last + 1) now (omega arith) in
    let item : drop i records ≡ r ∷ drop (i + 1) records =
    at_drop_more (λ (ys : List Record). ys) records i r below
    ∙ ap (λ (x : Record). x ∷ drop (i + 1) records) (sym is) in
    let split : whole ≡ take (last + 1) now ++ r ∷ drop (i + 1) records =
    sym so_far ∙ ap (λ (ys : List Record). now ++ ys) item
    ∙ ap (λ (ys : List Record). ys ++ r ∷ drop (i + 1) records) (sym all) in
    next_fits g now (drop (i + 1) records) last r (omega arith) (ap (is_fit g) (sym split) ∙ fit)

-- the first record behind a cut
pub first_fits : (g : Geometry) (records behind : List Record) (last : ℕ) (r : Record) → last < length records
    → 0 < length behind → r ≡ get_or behind 0 r → is_fit g (take (last + 1) records ++ behind) ≡ true
    → IsFormat g records last r
first_fits g records [] last r place some is fit = absurd (omega arith)
first_fits g records (x ∷ behind) last r place some is fit =
    subst (IsFormat g records last) (sym is) (next_fits g records behind last x place fit)

-- what is behind the first one still fits there
pub others_fit : (g : Geometry) (front behind : List Record) (r : Record) → 0 < length behind
    → r ≡ get_or behind 0 r → is_fit g (front ++ behind) ≡ true
    → is_fit g ((front ++ r ∷ []) ++ take (length behind - 1) (drop 1 behind)) ≡ true
others_fit g front [] r some is fit = absurd (omega arith)
others_fit g front (x ∷ behind) r some is fit =
    let rest : take (length (x ∷ behind) - 1) behind ≡ behind = take_all _ behind (omega arith) in
    ap (is_fit g) (append_assoc front (r ∷ []) _ ∙ ap (λ (ys : List Record). front ++ r ∷ ys) rest
    ∙ ap (λ (y : Record). front ++ y ∷ behind) is) ∙ fit
