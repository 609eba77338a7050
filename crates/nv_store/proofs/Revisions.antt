-- Replacements keep the lengths of the records of a track.
use Rattle.std.proofs.Common.{
  ◌≡◌,
  ◌≢◌,
  ℕ,
  ◌+◌,
  ◌<◌,
  ◌≤◌,
  Bool,
  true,
  ◌&&◌,
  ◌↔◌,
  inl,
  inr,
  List,
  [],
  ◌∷◌,
  length,
  get_or,
  take,
  drop,
  refl,
  sym,
  ap,
  subst,
  ◌∙◌,
  arith,
}
use Rattle.std.specs.List.{list_all}
use Rattle.std.proofs.Math.ListN.{set}
use Rattle.std.proofs.Math.Seq.{take-set-lt}
use Rattle.std.proofs.lemmas.Bool.{and_parts, and_from, ltb-true, lt-ltb, eq-eqb, eqb-true, cases_eq, cases_lt}
use Rattle.std.proofs.lemmas.List.{length-set, length-take, get_or-set_same, get_or-set_other, get_or-take, take-set-le, set_past, at_drop_more}
use Rattle.ckd_types.specs.declared.record.Record.{Record}
use Rattle.ckd_types.specs.declared.record.Edit.TheVariants.{Update}
use Rattle.ckd_types.specs.Edit.{edited}
use Rattle.ckd_types.specs.Track.{empty_zero}
use Rattle.ckd_rules.specs.Facts.{IsUpdate}
use Rattle.nv_store.specs.declared.patch.Replacement.{Replacement}
use Rattle.nv_store.specs.declared.patch.Kept.{Kept}
use Rattle.nv_store.specs.declared.patch.Kept.TheVariants.{Whole, UpTo, Nothing}
use Rattle.nv_store.specs.Patch.{is_kept, has_lengths, is_replaceable, revised, stay}

pub place_there : (records : List Record) (i k b : ℕ) → has_lengths records i k b ≡ true → i < length records
place_there records i k b h = ltb-true i (length records) (and_parts _ _ h).0

pub key_there : (records : List Record) (i k b : ℕ) → has_lengths records i k b ≡ true
    → length (get_or records i (empty_zero 0)).key ≡ k
key_there records i k b h = eqb-true _ _ (and_parts _ _ (and_parts _ _ h).1).0

pub body_there : (records : List Record) (i k b : ℕ) → has_lengths records i k b ≡ true
    → length (get_or records i (empty_zero 0)).body ≡ b
body_there records i k b h = eqb-true _ _ (and_parts _ _ (and_parts _ _ h).1).1

pub lengths_from : (x : List Record) (i k b : ℕ) → i < length x → length (get_or x i (empty_zero 0)).key ≡ k
    → length (get_or x i (empty_zero 0)).body ≡ b → has_lengths x i k b ≡ true
lengths_from x i k b place key body = and_from _ _ (lt-ltb _ _ place) (and_from _ _ (eq-eqb _ _ key) (eq-eqb _ _ body))

-- the test of a replacement says that it is an update of the records
pub update_says : (records : List Record) (index : ℕ) (key body : List ℕ)
    → (has_lengths records index (length key) (length body) ≡ true) ↔ IsUpdate records index key body
update_says records index key body = (
  says,
  λ is. lengths_from records index (length key) (length body) is.place
      (sym is.key_length) (sym is.body_length),
)
  where
    says : has_lengths records index (length key) (length body) ≡ true → IsUpdate records index key body
    says h = record {
      place = place_there records index (length key) (length body) h;
      key_length = sym (key_there records index (length key) (length body) h);
      body_length = sym (body_there records index (length key) (length body) h);
    }

-- the record at a place with another key and other data
abbrev changed : List Record → ℕ → List ℕ → List ℕ → Record
changed records i key body = record (get_or records i (empty_zero 0)) { key = key; body = body }

pub lengths_kept : (records : List Record) (i : ℕ) (key body : List ℕ) (j k b : ℕ)
    → has_lengths records i (length key) (length body) ≡ true
    → has_lengths (edited (Update i key body) records) j k b ≡ has_lengths records j k b
lengths_kept records i key body j k b h = elim (cases_eq j i) [ inl same ↦ here same | inr other ↦ there other ]
  where
    here : j ≡ i → has_lengths (edited (Update i key body) records) j k b ≡ has_lengths records j k b
    here same =
        let place : i < length records = place_there records i _ _ h in
        rw (
          same,
          length-set records i (changed records i key body),
          get_or-set_same records i
              (changed records i key body) (empty_zero 0) place,
          key_there records i _ _ h,
          body_there records i _ _ h,
        )
        refl

    there : j ≢ i → has_lengths (edited (Update i key body) records) j k b ≡ has_lengths records j k b
    there other = rw (
      length-set records i (changed records i key body),
      get_or-set_other records i j
          (changed records i key body) (empty_zero 0) other,
    ) refl

both : (a b c d : Bool) → a ≡ b → c ≡ d → (a && c) ≡ (b && d)
both a b c d e f = cc

pub all_kept : (kept : Kept) (records : List Record) (i : ℕ) (key body : List ℕ) (rs : List Replacement)
    → has_lengths records i (length key) (length body) ≡ true
    → list_all (is_replaceable kept (edited (Update i key body) records)) rs ≡ list_all (is_replaceable kept records) rs
all_kept kept records i key body [] h = refl
all_kept kept records i key body (r ∷ rs) h =
    both _ _ _ _ (ap (λ (x : Bool). is_kept kept r.index && x)
    (lengths_kept records i key body r.index (length r.key) (length r.body) h))
    (all_kept kept records i key body rs h)

-- the next replacement of those that are left, and the rest
pub next_replaceable : (kept : Kept) (records : List Record) (rs : List Replacement) (i : ℕ) (r : Replacement)
    → i < length rs → r ≡ get_or rs i r → list_all (is_replaceable kept records) (drop i rs) ≡ true
    → (has_lengths records r.index (length r.key) (length r.body) ≡ true)
    × (list_all (is_replaceable kept records) (drop (i + 1) rs) ≡ true)
next_replaceable kept records rs i r below is all =
    let parts = and_parts (is_replaceable kept records (get_or rs i r))
    (list_all (is_replaceable kept records) (drop (i + 1) rs))
    (sym (at_drop_more (list_all (is_replaceable kept records)) rs i r below) ∙ all) in
    let one : is_replaceable kept records r ≡ true = subst (λ (x : Replacement). is_replaceable kept records x ≡ true)
    (sym is) parts.0 in
    ((and_parts (is_kept kept r.index) _ one).1, parts.1)

pub next_revised : (records : List Record) (rs : List Replacement) (i : ℕ) (r : Replacement) → i < length rs
    → r ≡ get_or rs i r → revised (drop (i + 1) rs) (edited (Update r.index r.key r.body) records)
    ≡ revised (drop i rs) records
next_revised records rs i r below is =
    let left : revised (drop i rs) records ≡ revised (get_or rs i r ∷ drop (i + 1) rs) records =
    at_drop_more (λ (ys : List Replacement). revised ys records) rs i r below in
    subst (λ (x : Replacement). revised (x ∷ drop (i + 1) rs) records ≡ revised (drop i rs) records) (sym is) (sym left)

-- a replacement before a cut is one of what stays
pub update_take : (n i : ℕ) (key body : List ℕ) (records : List Record)
    → take n (edited (Update i key body) records) ≡ edited (Update i key body) (take n records)
update_take n i key body records = elim (cases_lt i n) [ inl before ↦ inside before | inr behind ↦ outside behind ]
  where
    inside : i < n → take n (edited (Update i key body) records) ≡ edited (Update i key body) (take n records)
    inside before = take-set-lt n records i (changed records i key body) before
        ∙ ap (λ (x : Record). set (take n records) i (record x { key = key; body = body }))
        (sym (get_or-take n records i (empty_zero 0) before))

    outside : n ≤ i → take n (edited (Update i key body) records) ≡ edited (Update i key body) (take n records)
    outside behind =
        let past : length (take n records) ≤ i = omega (arith, length-take n records) in
        take-set-le n records i (changed records i key body) behind
        ∙ sym (set_past (take n records) i (changed (take n records) i key body) past)

pub revised_take : (n : ℕ) (rs : List Replacement) (records : List Record)
    → take n (revised rs records) ≡ revised rs (take n records)
revised_take n [] records = refl
revised_take n (r ∷ rs) records = revised_take n rs (edited (Update r.index r.key r.body) records)
    ∙ ap (revised rs) (update_take n r.index r.key r.body records)

pub revised_nothing : (rs : List Replacement) → revised rs [] ≡ []
revised_nothing [] = refl
revised_nothing (r ∷ rs) = revised_nothing rs

pub revised_stay : (kept : Kept) (rs : List Replacement) (records : List Record)
    → stay kept (revised rs records) ≡ revised rs (stay kept records)
revised_stay Whole rs records = refl
revised_stay (UpTo last) rs records = revised_take (last + 1) rs records
revised_stay Nothing rs records = sym (revised_nothing rs)

pub length_revised : (rs : List Replacement) (records : List Record) → length (revised rs records) ≡ length records
length_revised [] records = refl
length_revised (r ∷ rs) records = length_revised rs (edited (Update r.index r.key r.body) records)
    ∙ length-set records r.index (changed records r.index r.key r.body)
