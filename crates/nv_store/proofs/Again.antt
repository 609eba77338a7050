-- Applying a patch to what it gave gives the same.
use Rattle.std.proofs.Common.{
  ◌≡◌,
  ◌≢◌,
  ℕ,
  ◌+◌,
  ◌<◌,
  ◌≤◌,
  Bool,
  true,
  false,
  ◌==◌,
  inl,
  inr,
  cond,
  List,
  [],
  ◌∷◌,
  ◌++◌,
  length,
  get_or,
  take,
  refl,
  sym,
  ap,
  subst,
  ◌∙◌,
  arith,
}
use Rattle.std.specs.Prelude.{nat_lt, Some, None}
use Rattle.std.specs.List.{list_all}
use Rattle.std.proofs.Math.ListN.{get_or-append}
use Rattle.std.proofs.lemmas.Bool.{and_parts, and_from, ltb-true, lt-ltb, eqb-true, leb-true, cases_eq, cases_lt}
use Rattle.std.proofs.lemmas.List.{append-nil, take_at, length-append, length-take, get_or-set_same, get_or-set_other, get_or-take, set-set, set_comm, set_past}
use Rattle.ckd_types.specs.declared.record.Record.{Record}
use Rattle.ckd_types.specs.declared.record.Edit.TheVariants.{Update}
use Rattle.ckd_types.specs.Edit.{edited}
use Rattle.ckd_types.specs.Track.{empty_zero}
use Rattle.track_image.specs.Image.{Image}
use Rattle.nv_store.specs.declared.patch.Replacement.{Replacement}
use Rattle.nv_store.specs.declared.patch.Kept.{Kept}
use Rattle.nv_store.specs.declared.patch.Kept.TheVariants.{Whole, UpTo, Nothing}
use Rattle.nv_store.specs.Fit.{is_fit}
use Rattle.nv_store.specs.Patch.{
  PatchView,
  IsPatch,
  is_whole,
  is_kept,
  reaches,
  has_lengths,
  is_replaceable,
  revised,
  stay,
  patched,
  patched_image,
  applies,
  applied,
}
use Rattle.nv_store.proofs.Revisions.{place_there, key_there, body_there, lengths_from, lengths_kept, all_kept, length_revised, revised_nothing}

abbrev pub put : Replacement → List Record → List Record
put r records = edited (Update r.index r.key r.body) records

abbrev new_record : Replacement → List Record → Record
new_record r records = record (get_or records r.index (empty_zero 0)) { key = r.key; body = r.body }

-- ---- replacements one after the other

pub overwritten : (r s : Replacement) → r.index ≡ s.index → (x : List Record) → put r (put s x) ≡ put r x
overwritten r s same x = elim (cases_lt s.index (length x)) [ inl there ↦ inside there | inr past ↦ outside past ]
  where
    inside : s.index < length x → put r (put s x) ≡ put r x
    inside there = rw (same, get_or-set_same x s.index (new_record s x) (empty_zero 0) there)
        (set-set x s.index (new_record s x) (record (get_or x s.index (empty_zero 0)) { key = r.key; body = r.body }))

    outside : length x ≤ s.index → put r (put s x) ≡ put r x
    outside past = ap (put r) (set_past x s.index (new_record s x) past)

pub commuting : (r s : Replacement) → r.index ≢ s.index → (x : List Record) → put r (put s x) ≡ put s (put r x)
commuting r s other x =
    let rest : s.index ≢ r.index = λ e. other (sym e) in
    rw (
      get_or-set_other x s.index r.index (new_record s x) (empty_zero 0) other,
      get_or-set_other x r.index s.index
          (new_record r x) (empty_zero 0) rest,
    )
    (set_comm x s.index r.index (new_record s x) (new_record r x) rest)

-- a replacement that is replaced later leaves nothing
pub erased : (r s : Replacement) → s.index ≡ r.index → (ws : List Replacement) (x : List Record)
    → put r (revised ws (put s x)) ≡ put r (revised ws x)
erased r s same [] x = overwritten r s (sym same) x
erased r s same (w ∷ ws) x = by_index (erased r s same ws (put w x))
  where
    by_index : put r (revised ws (put s (put w x))) ≡ put r (revised ws (put w x))
        → put r (revised ws (put w (put s x))) ≡ put r (revised ws (put w x))
    by_index rest = elim (cases_eq w.index s.index) [
      | inl e ↦ ap (λ (y : List Record). put r (revised ws y)) (overwritten w s e x)
      | inr other ↦ ap (λ (y : List Record). put r (revised ws y)) (commuting w s other x) ∙ rest
    ]

pub revised-push : (ws : List Replacement) (r : Replacement) (x : List Record)
    → revised (ws ++ r ∷ []) x ≡ put r (revised ws x)
revised-push [] r x = refl
revised-push (w ∷ ws) r x = revised-push ws r (put w x)

revised_between : (rs ws : List Replacement) (x : List Record)
    → revised rs (revised ws (revised rs x)) ≡ revised rs (revised ws x)
revised_between [] ws x = refl
revised_between (r ∷ rs) ws x =
    ap (revised rs) (sym (revised-push ws r (revised rs (put r x))))
    ∙ revised_between rs (ws ++ r ∷ []) (put r x)
    ∙ ap (revised rs) (revised-push ws r (put r x) ∙ erased r r refl ws x)

revised_twice : (rs : List Replacement) (x : List Record) → revised rs (revised rs x) ≡ revised rs x
revised_twice rs x = revised_between rs [] x

-- ---- lengths

pub front_lengths : (kept : Kept) (x : List Record) (i k b : ℕ) → is_kept kept i ≡ true → has_lengths x i k b ≡ true
    → has_lengths (stay kept x) i k b ≡ true
front_lengths Whole x i k b is h = h
front_lengths Nothing x i k b is h = absurd cc
front_lengths (UpTo last) x i k b is h =
    let before : i < last + 1 = omega (arith, leb-true i last is) in
    let place : i < length x = place_there x i k b h in
    let same : get_or (take (last + 1) x) i (empty_zero 0) ≡ get_or x i (empty_zero 0) =
    get_or-take (last + 1) x i (empty_zero 0) before in
    lengths_from (take (last + 1) x) i k b (omega (arith, length-take (last + 1) x))
    (ap (λ (r : Record). length r.key) same ∙ key_there x i k b h)
    (ap (λ (r : Record). length r.body) same ∙ body_there x i k b h)

append_lengths : (x behind : List Record) (i k b : ℕ) → has_lengths x i k b ≡ true
    → has_lengths (x ++ behind) i k b ≡ true
append_lengths x behind i k b h =
    let place : i < length x = place_there x i k b h in
    let same : get_or (x ++ behind) i (empty_zero 0) ≡ get_or x i (empty_zero 0) =
    get_or-append x behind (empty_zero 0) i place in
    lengths_from (x ++ behind) i k b (omega (arith, length-append x behind))
    (ap (λ (r : Record). length r.key) same ∙ key_there x i k b h)
    (ap (λ (r : Record). length r.body) same ∙ body_there x i k b h)

revised_lengths : (rs : List Replacement) (x : List Record) (i k b : ℕ) → list_all (is_replaceable Whole x) rs ≡ true
    → has_lengths x i k b ≡ true → has_lengths (revised rs x) i k b ≡ true
revised_lengths [] x i k b all h = h
revised_lengths (r ∷ rs) x i k b all h =
    let parts = and_parts (is_replaceable Whole x r) (list_all (is_replaceable Whole x) rs) all in
    revised_lengths rs (put r x) i k b (all_kept Whole x r.index r.key r.body rs parts.0 ∙ parts.1)
    (lengths_kept x r.index r.key r.body i k b parts.0 ∙ h)

-- the replacements of what stays
pub front_replaceable : (kept : Kept) (x : List Record) (rs : List Replacement)
    → list_all (is_replaceable kept x) rs ≡ true → list_all (is_replaceable Whole (stay kept x)) rs ≡ true
front_replaceable kept x [] all = refl
front_replaceable kept x (r ∷ rs) all =
    let parts = and_parts (is_replaceable kept x r) (list_all (is_replaceable kept x) rs) all in
    let one = and_parts (is_kept kept r.index) (has_lengths x r.index (length r.key) (length r.body)) parts.0 in
    and_from _ _ (front_lengths kept x r.index (length r.key) (length r.body) one.0 one.1)
    (front_replaceable kept x rs parts.1)

replaceable_again : (kept : Kept) (x behind : List Record) (rs : List Replacement)
    → list_all (is_replaceable kept x) rs ≡ true → (some : List Replacement)
    → list_all (is_replaceable kept x) some ≡ true
    → list_all (is_replaceable kept (revised rs (stay kept x) ++ behind)) some ≡ true
replaceable_again kept x behind rs all [] these = refl
replaceable_again kept x behind rs all (r ∷ some) these =
    let parts = and_parts (is_replaceable kept x r) (list_all (is_replaceable kept x) some) these in
    let one = and_parts (is_kept kept r.index) (has_lengths x r.index (length r.key) (length r.body)) parts.0 in
    let front = front_lengths kept x r.index (length r.key) (length r.body) one.0 one.1 in
    let lengths = append_lengths (revised rs (stay kept x)) behind r.index (length r.key) (length r.body)
    (revised_lengths rs (stay kept x) r.index (length r.key) (length r.body) (front_replaceable kept x rs all)
    front) in
    and_from _ _ (and_from _ _ one.0 lengths) (replaceable_again kept x behind rs all some parts.1)

-- ---- what stays of what was given

pub nothing_behind : (behind : List Record) → true ≡ (length behind == 0) → behind ≡ []
nothing_behind [] e = refl
nothing_behind (r ∷ behind) e = absurd (omega (arith, eqb-true (length (r ∷ behind)) 0 (sym e)))

pub length_front : (last : ℕ) (rs : List Replacement) (x : List Record) → nat_lt last (length x) ≡ true
    → length (revised rs (take (last + 1) x)) ≡ last + 1
length_front last rs x reached =
    let place : last < length x = ltb-true last (length x) reached in
    omega (arith, length_revised rs (take (last + 1) x), length-take (last + 1) x)

pub stay_again : (kept : Kept) (rs : List Replacement) (x behind : List Record) → is_whole kept ≡ (length behind == 0)
    → reaches kept x ≡ true → stay kept (revised rs (stay kept x) ++ behind) ≡ revised rs (stay kept x)
stay_again Whole rs x behind is reached = rw (nothing_behind behind is) (append-nil (revised rs x))
stay_again Nothing rs x behind is reached = sym (revised_nothing rs)
stay_again (UpTo last) rs x behind is reached =
    let front = revised rs (take (last + 1) x) in
    ap (λ (n : ℕ). take n (front ++ behind)) (sym (length_front last rs x reached))
    ∙ take_at front behind (length front) refl

reaches_again : (kept : Kept) (rs : List Replacement) (x behind : List Record) → reaches kept x ≡ true
    → reaches kept (revised rs (stay kept x) ++ behind) ≡ true
reaches_again Whole rs x behind reached = refl
reaches_again Nothing rs x behind reached = refl
reaches_again (UpTo last) rs x behind reached =
    lt-ltb _ _ (omega (arith, length_front last rs x reached, length-append (revised rs (take (last + 1) x)) behind))

some_is : (b : Bool) (i out : Image) → cond b (Some i) None ≡ Some out → (b ≡ true) × (i ≡ out)
some_is true i out e = (refl, cc)
some_is false i out e = absurd cc

-- what is so of a patch that was applied
pub applied_is : (p : PatchView) (i out : Image) → applied p i ≡ Some out
    → (applies p i ≡ true) × (patched_image p i ≡ out)
applied_is p i out e = some_is (applies p i) (patched_image p i) out e

pub applied_again : (p : PatchView) (i out : Image) → IsPatch p → applied p i ≡ Some out → applied p out ≡ Some out
applied_again p i out is e =
    let x = i.track.records in
    let was = applied_is p i out e in
    let reached = and_parts (reaches p.kept x) _ was.0 in
    let tests = and_parts (list_all (is_replaceable p.kept x) p.replaced) _ reached.1 in
    let front : stay p.kept (patched p x) ≡ revised p.replaced (stay p.kept x) =
    stay_again p.kept p.replaced x p.behind is.behind reached.0 in
    let same : patched p (patched p x) ≡ patched p x =
    ap (λ (y : List Record). revised p.replaced y ++ p.behind) front
    ∙ ap (λ (y : List Record). y ++ p.behind) (revised_twice p.replaced (stay p.kept x)) in
    let fit : is_fit i.geometry (patched p (patched p x)) ≡ true = rw same tests.1 in
    let good : applies p (patched_image p i) ≡ true =
    and_from _ _ (reaches_again p.kept p.replaced x p.behind reached.0)
    (and_from _ _ (replaceable_again p.kept x p.behind p.replaced tests.0 p.replaced tests.0) fit) in
    let once : applied p (patched_image p i) ≡ Some (patched_image p i) =
    rw good (ap (λ (y : List Record). Some (record i { track = record i.track { records = y } })) same) in
    subst (λ (y : Image). applied p y ≡ Some y) was.1 once
