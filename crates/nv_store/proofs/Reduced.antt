-- What an edit leaves of what is so of every patch.
use Rattle.std.proofs.Common.{◌≡◌, ℕ, zero, suc, ◌<◌, Bool, true, false, ◌==◌, not, inl, inr, List, [], ◌∷◌, ◌++◌, filter, get_or, length, take, refl, sym, ap, subst, ◌∙◌, arith}
use Rattle.std.proofs.Math.ListN.{set}
use Rattle.std.specs.Prelude.{nat_le}
use Rattle.std.specs.List.{list_all}
use Rattle.std.proofs.lemmas.Bool.{and_parts, and_from, cases_Bool, cases_eq, eq-eqb, ne_eqb}
use Rattle.ckd_types.specs.declared.record.Record.{Record}
use Rattle.ckd_types.specs.declared.record.Edit.{Edit}
use Rattle.ckd_types.specs.declared.record.Edit.TheVariants.{Update, Format, Zero}
use Rattle.nv_store.specs.declared.patch.Replacement.{Replacement}
use Rattle.nv_store.specs.declared.patch.Kept.{Kept}
use Rattle.nv_store.specs.Patch.{PatchView, IsPatch, IsReduced, is_once, is_kept, with_replacement, added}
use Rattle.nv_store.proofs.InOrder.{added_is_patch}
use Rattle.nv_store.proofs.OneMore.{all_replaced, filtered}

-- the replacements of other records
abbrev is_other : ℕ → Replacement → Bool
is_other index r = not (r.index == index)

others_once : (q : Replacement → Bool) (rs : List Replacement) → is_once rs ≡ true → is_once (filter q rs) ≡ true
others_once q [] once = refl
others_once q (r ∷ rs) once =
    let both = and_parts (list_all (is_other r.index) rs) (is_once rs) once in
    elim (cases_Bool (q r)) [
      | inl y ↦ rw y (and_from _ _ (filtered (is_other r.index) q rs both.0) (others_once q rs both.1))
      | inr n ↦ rw n (others_once q rs both.1)
    ]

passed : (q : Replacement → Bool) (rs : List Replacement) → list_all q (filter q rs) ≡ true
passed q [] = refl
passed q (r ∷ rs) = elim (cases_Bool (q r)) [ inl y ↦ rw y (and_from _ _ y (passed q rs)) | inr n ↦ rw n (passed q rs) ]

turned : (a b : ℕ) → not (a == b) ≡ not (b == a)
turned a b = elim (cases_eq a b) [
  | inl e ↦ rw e refl
  | inr other ↦ rw
      (ne_eqb a b other, ne_eqb b a (λ e. other (sym e))) refl
]

replaced_once : (new : Replacement) (rs : List Replacement) → is_once rs ≡ true
    → is_once (with_replacement new rs) ≡ true
replaced_once new [] once = refl
replaced_once new (r ∷ rs) once =
    let both = and_parts (list_all (is_other r.index) rs) (is_once rs) once in
    elim (cases_Bool (r.index == new.index)) [
      | inl same ↦ rw same (and_from _ _ (passed (is_other new.index) rs) (others_once (is_other new.index) rs both.1))
      | inr other ↦ rw other
          (and_from _ _ (all_replaced (is_other r.index) new rs (turned new.index r.index ∙ ap not other) both.0) (replaced_once new rs both.1))
    ]

replaced_stays : (kept : Kept) (new : Replacement) (rs : List Replacement) → is_kept kept new.index ≡ true
    → list_all (λ r. is_kept kept r.index) rs ≡ true → list_all (λ r. is_kept kept r.index) (with_replacement new rs)
    ≡ true
replaced_stays kept new rs here stays = all_replaced (λ (r : Replacement). is_kept kept r.index) new rs here stays

others_stay : (index : ℕ) (rs : List Replacement) → list_all (is_other index) rs ≡ true → filter (is_other index) rs ≡ rs
others_stay index [] all = refl
others_stay index (r ∷ rs) all =
    let both = and_parts (is_other index r) (list_all (is_other index) rs) all in
    rw both.0 (ap (λ l. r ∷ l) (others_stay index rs both.1))

-- the first of a record gives its place to a new one
pub replaced_at : (rs : List Replacement) (n : ℕ) (old new : Replacement) → is_once rs ≡ true → n < length rs → old ≡ get_or rs n old
    → old.index ≡ new.index → list_all (is_other new.index) (take n rs) ≡ true → set rs n new ≡ with_replacement new rs
replaced_at [] n old new once inside is same before = absurd (omega (arith, inside))
replaced_at (r ∷ rs) zero old new once inside is same before =
    let both = and_parts (list_all (is_other r.index) rs) (is_once rs) once in
    let index : r.index ≡ new.index = ap (λ (x : Replacement). x.index) (sym is) ∙ same in
    rw (eq-eqb r.index new.index index)
    (ap (λ l. new ∷ l) (sym (others_stay new.index rs (subst (λ k. list_all (is_other k) rs ≡ true) index both.0))))
replaced_at (r ∷ rs) (suc n) old new once inside is same before =
    let both = and_parts (list_all (is_other r.index) rs) (is_once rs) once in
    let front = and_parts (is_other new.index r) (list_all (is_other new.index) (take n rs)) before in
    rw (not_false (r.index == new.index) front.0) (ap (λ l. r ∷ l) (replaced_at rs n old new both.1 (omega (arith, inside)) is same front.1))
  where
    not_false : (b : Bool) → not b ≡ true → b ≡ false
    not_false true is = absurd cc
    not_false false is = refl

-- one of another record goes behind all
pub replaced_behind : (rs : List Replacement) (new : Replacement) → list_all (is_other new.index) rs ≡ true → rs ++ new ∷ [] ≡ with_replacement new rs
replaced_behind [] new all = refl
replaced_behind (r ∷ rs) new all =
    let both = and_parts (is_other new.index r) (list_all (is_other new.index) rs) all in
    elim (cases_Bool (r.index == new.index)) [
      | inl same ↦ absurd (differ (r.index == new.index) same both.0)
      | inr other ↦ rw other (ap (λ l. r ∷ l) (replaced_behind rs new both.1))
    ]
  where
    differ : (b : Bool) → b ≡ true → not b ≡ true → ⊥
    differ true is other = absurd cc
    differ false is other = absurd cc

pub added_reduced : (p : PatchView) (e : Edit) → IsReduced p → IsReduced (added p e)
added_reduced p (Update index key body) is = elim (cases_Bool (is_kept p.kept index)) [
  | inl here ↦ rw here (record {
    once = replaced_once (record { index = index; key = key; body = body }) p.replaced is.once;
    stays = replaced_stays p.kept (record { index = index; key = key; body = body }) p.replaced here is.stays;
  })
  | inr behind ↦ rw behind (record { once = is.once; stays = is.stays })
]
added_reduced p (Format after new) is = elim (cases_Bool (is_kept p.kept after)) [
  | inl here ↦ rw here (record {
    once = others_once (λ (r : Replacement). nat_le r.index after) p.replaced is.once;
    stays = passed (λ (r : Replacement). nat_le r.index after) p.replaced;
  })
  | inr behind ↦ rw behind (record { once = is.once; stays = is.stays })
]
added_reduced p (Zero new) is = record { once = refl; stays = refl }

-- what is so of every patch is so behind an edit
pub still_so : (p q r : PatchView) (e : Edit) → IsPatch p × IsReduced p → p ≡ q → r ≡ added q e
    → IsPatch r × IsReduced r
still_so p q r e so same is = subst (λ (x : PatchView). IsPatch x × IsReduced x)
    (ap (λ (x : PatchView). added x e) same ∙ sym is)
    (added_is_patch e p.kept p.replaced p.behind so.0.behind, added_reduced p e so.1)

pub same_view : (rs ss : List Replacement) (kept : Kept) (xs ys : List Record) → rs ≡ ss → xs ≡ ys
    → ◌≡◌ {A = PatchView} (record { replaced = rs; kept = kept; behind = xs })
    (record { replaced = ss; kept = kept; behind = ys })
same_view rs ss kept xs ys same_replaced same_behind =
    λ i. record { replaced = same_replaced i; kept = kept; behind = same_behind i }
