-- The programs of a device whose past was put away are those of the whole one, in other places.
use Rattle.std.proofs.Common.{◌≡◌, ℕ, zero, suc, ◌+◌, ◌-◌, ◌≤◌, ◌<◌, List, [], ◌++◌, length, drop, get_or, refl, ap, ◌∙◌, arith}
use Rattle.std.proofs.lemmas.List.{get_or-append_right, get_or-drop, length-append, length-drop}
use Rattle.ckd_types.specs.declared.channel.Ccw.{Ccw}
use Rattle.plain_defs.specs.Journal.{Plans, planned, program_of}
use Rattle.past_laws.specs.PutAway.{PutAway, whole_ordinal, whole_plan, whole_plans}

-- what is so of each of the four paths
pub data IsPath : ℕ → Type 0 where
  first : IsPath 1
  second : IsPath 2
  third : IsPath 3
  fourth : IsPath 4

pub path_is : (path : ℕ) → 1 ≤ path → path ≤ 4 → IsPath path
path_is zero least most = absurd (omega (arith, least))
path_is (suc zero) least most = first
path_is (suc (suc zero)) least most = second
path_is (suc (suc (suc zero))) least most = third
path_is (suc (suc (suc (suc zero)))) least most = fourth
path_is (suc (suc (suc (suc (suc n))))) least most = absurd (omega (arith, most))

planned_by : (w : PutAway) (plans : Plans) {path : ℕ} → IsPath path → planned (whole_plans w plans) path ≡ whole_plan w plans path
planned_by w plans first = refl
planned_by w plans second = refl
planned_by w plans third = refl
planned_by w plans fourth = refl

module _ (w : PutAway) (plans : Plans) (path : ℕ) (least : 1 ≤ path) (most : path ≤ 4) where
  pub planned_whole : planned (whole_plans w plans) path ≡ whole_plan w plans path
  planned_whole = planned_by w plans (path_is path least most)

  -- so many programs fewer, of which so many fewer were started
  pub left_whole : (later : ℕ) → length (planned w.kept path) ≤ length (planned plans path) → length (planned (whole_plans w plans) path) - (length (planned w.programs path) + later)
      ≡ length (planned plans path) - (length (planned w.kept path) + later)
  left_whole later few =
      let whole : length (planned (whole_plans w plans) path) ≡ length (planned w.programs path) + (length (planned plans path) - length (planned w.kept path)) =
      ap length planned_whole ∙ length-append (planned w.programs path) (drop (length (planned w.kept path)) (planned plans path))
      ∙ ap (λ (n : ℕ). length (planned w.programs path) + n) (length-drop (length (planned w.kept path)) (planned plans path)) in
      omega (arith, whole, few)

  -- the program of a place behind those that are kept
  pub program_whole : (ordinal : ℕ) → length (planned w.kept path) < ordinal →
      program_of (whole_plans w plans) path (whole_ordinal w path ordinal) ≡ program_of plans path ordinal
  program_whole ordinal behind =
      let n = length (planned w.kept path) in
      let m = length (planned w.programs path) in
      let i = ordinal - n - 1 in
      let place : m + (ordinal - n) - 1 ≡ m + i = omega (arith, behind) in
      let other : n + i ≡ ordinal - 1 = omega (arith, behind) in
      ap (λ (ccws : List (List Ccw)). get_or ccws (m + (ordinal - n) - 1) []) planned_whole
      ∙ ap (λ (q : ℕ). get_or (planned w.programs path ++ drop n (planned plans path)) q []) place
      ∙ get_or-append_right (planned w.programs path) (drop n (planned plans path)) m (m + i) [] refl (omega arith)
      ∙ ap (λ (q : ℕ). get_or (drop n (planned plans path)) q []) (omega arith)
      ∙ get_or-drop n (planned plans path) i []
      ∙ ap (λ (q : ℕ). get_or (planned plans path) q []) other
