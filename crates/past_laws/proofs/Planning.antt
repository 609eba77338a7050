-- A program that is planned for a device whose past was put away is planned for the whole one, where the plans have its path; else it changes neither.
use Rattle.std.proofs.Common.{◌≡◌, ℕ, ◌-◌, ◌≤◌, ◌<◌, List, [], ◌∷◌, ◌++◌, length, drop, sym, ap, ◌∙◌, arith}
use Rattle.std.proofs.lemmas.List.{append_assoc, drop-append-le, set_past}
use Rattle.ckd_types.specs.declared.channel.Ccw.{Ccw}
use Rattle.deck_plan.specs.Plans.{with_program}
use Rattle.plain_defs.specs.History.{History}
use Rattle.plain_defs.specs.Journal.{Plans, planned}
use Rattle.past_laws.specs.PutAway.{IsPutAway, PutAway, whole_plan, whole_plans}
use Rattle.past_laws.proofs.Plans.{IsPath, first, fourth, path_is, second, third}

seam : (away kept plan : List (List Ccw)) (ccws : List Ccw) → length kept ≤ length plan →
    away ++ drop (length kept) (plan ++ ccws ∷ []) ≡ away ++ drop (length kept) plan ++ ccws ∷ []
seam away kept plan ccws few =
    ap (λ (xs : List (List Ccw)). away ++ xs) (drop-append-le (length kept) plan (ccws ∷ []) few) ∙ sym (append_assoc away (drop (length kept) plan) (ccws ∷ []))

module _ (w : PutAway) (ccws : List Ccw) where
  planned_by : (plans : Plans) → ((path : ℕ) → 1 ≤ path → path ≤ 4 → length (planned w.kept path) ≤ length (planned plans path)) → {path : ℕ} → IsPath path →
      path - 1 < length plans → whole_plans w (with_program plans path ccws) ≡ with_program (whole_plans w plans) path ccws
  planned_by (p ∷ ps) few first there =
      ap (λ (xs : List (List Ccw)). xs ∷ whole_plan w (p ∷ ps) 2 ∷ whole_plan w (p ∷ ps) 3 ∷ whole_plan w (p ∷ ps) 4 ∷ [])
      (seam (planned w.programs 1) (planned w.kept 1) p ccws (few 1 (omega arith) (omega arith)))
  planned_by (p ∷ q ∷ ps) few second there =
      ap (λ (xs : List (List Ccw)). whole_plan w (p ∷ q ∷ ps) 1 ∷ xs ∷ whole_plan w (p ∷ q ∷ ps) 3 ∷ whole_plan w (p ∷ q ∷ ps) 4 ∷ [])
      (seam (planned w.programs 2) (planned w.kept 2) q ccws (few 2 (omega arith) (omega arith)))
  planned_by (p ∷ q ∷ r ∷ ps) few third there =
      ap (λ (xs : List (List Ccw)). whole_plan w (p ∷ q ∷ r ∷ ps) 1 ∷ whole_plan w (p ∷ q ∷ r ∷ ps) 2 ∷ xs ∷ whole_plan w (p ∷ q ∷ r ∷ ps) 4 ∷ [])
      (seam (planned w.programs 3) (planned w.kept 3) r ccws (few 3 (omega arith) (omega arith)))
  planned_by (p ∷ q ∷ r ∷ s ∷ ps) few fourth there =
      ap (λ (xs : List (List Ccw)). whole_plan w (p ∷ q ∷ r ∷ s ∷ ps) 1 ∷ whole_plan w (p ∷ q ∷ r ∷ s ∷ ps) 2 ∷ whole_plan w (p ∷ q ∷ r ∷ s ∷ ps) 3 ∷ xs ∷ [])
      (seam (planned w.programs 4) (planned w.kept 4) s ccws (few 4 (omega arith) (omega arith)))
  planned_by [] few first there = absurd (omega (arith, there))
  planned_by [] few second there = absurd (omega (arith, there))
  planned_by [] few third there = absurd (omega (arith, there))
  planned_by [] few fourth there = absurd (omega (arith, there))
  planned_by (p ∷ []) few second there = absurd (omega (arith, there))
  planned_by (p ∷ []) few third there = absurd (omega (arith, there))
  planned_by (p ∷ []) few fourth there = absurd (omega (arith, there))
  planned_by (p ∷ q ∷ []) few third there = absurd (omega (arith, there))
  planned_by (p ∷ q ∷ []) few fourth there = absurd (omega (arith, there))
  planned_by (p ∷ q ∷ r ∷ []) few fourth there = absurd (omega (arith, there))

  pub planning_whole : (plans : Plans) (h : History) → IsPutAway w plans h → (path : ℕ) → 1 ≤ path → path ≤ 4 → path - 1 < length plans →
      whole_plans w (with_program plans path ccws) ≡ with_program (whole_plans w plans) path ccws
  planning_whole plans h away path least most there = planned_by plans away.few (path_is path least most) there

  pub planning_none : (plans : Plans) (path : ℕ) → length plans ≤ path - 1 → with_program plans path ccws ≡ plans
  planning_none plans path past = set_past plans (path - 1) (planned plans path ++ ccws ∷ []) past
