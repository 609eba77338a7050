-- How a program comes to the places of a deck.
use Rattle.std.proofs.Common.{◌≡◌, ◌≤◌, ◌<◌, ◌+◌, ◌-◌, ◌==◌, ◌∷◌, [], ◌++◌, ◌⊎◌, inl, inr, ℕ, zero, suc, List, Bool, true, false, cond, length, map, get_or, refl}
use Rattle.std.proofs.Common.{arith, ap, sym, ◌∙◌}
use Rattle.std.proofs.lemmas.Bool.{cases_eq, cases_lt}
use Rattle.std.proofs.lemmas.List.{append-nil, get_or-set_other, get_or-set_same, get_or_append_left, get_or_push, get_or_read, length-append, length-set, length_push, map-append}
use Rattle.std.specs.Prelude.{slice_index_or, slice_set}
use Rattle.ckd_types.specs.declared.channel.Ccw.{Ccw}
use Rattle.deck_plan.specs.Plans.{PlansByPath, no_plans, plan_of, with_program}
use Rattle.deck_text.specs.declared.line.PlannedProgram.{PlannedProgram}
use Rattle.deck_text.specs.declared.planned.ProgramPlace.{ProgramPlace}
use Rattle.deck_text.specs.Plans.{HasPlans}
use Rattle.deck_text.specs.Places.{planned_as, plan_at, planned_at, first_place, IsPlanned}
use Rattle.deck_text.proofs.PlanLemmas.{has_more}

same_programs : (f g : ProgramPlace → PlannedProgram) (places : List ProgramPlace)
    → ((k : ℕ) → k < length places → f (slice_index_or places k first_place) ≡ g (slice_index_or places k first_place)) → map f places ≡ map g places
same_programs f g [] h = refl
same_programs f g (p ∷ places) h =
    let first : f p ≡ g p = h 0 (omega arith) in
    let others = same_programs f g places (λ k lt. h (suc k) (omega arith)) in
    rw (first, others) refl

pub none_planned : (plans : List PlansByPath) → HasPlans [] plans → IsPlanned [] plans
none_planned plans h = record { there = λ k lt. absurd (omega (arith, lt)); plans_of_all = h }

module _ (places : List ProgramPlace) (plans : List PlansByPath) (d path : ℕ) (x new : PlansByPath) (program : List Ccw) (h : IsPlanned places plans)
    (small : d < 16) (was : x ≡ get_or plans d x) (made : new ≡ with_program x path program) (new_plan : plan_of new path ≡ plan_of x path ++ program ∷ []) where
  here : d < length plans
  here = omega (arith, h.plans_of_all.devices, small)

  x_is : x ≡ slice_index_or plans d no_plans
  x_is = get_or_read plans d x here was no_plans

  here_now : slice_index_or (slice_set plans d new) d no_plans ≡ new
  here_now = get_or-set_same plans d new no_plans here

  other_plan : (p : ℕ) → (p - 1 ≡ path - 1 → ⊥) → plan_of new p ≡ plan_of x p
  other_plan p ne =
      ap (λ (y : PlansByPath). plan_of y p) made ∙ get_or-set_other x (path - 1) (p - 1) (plan_of x path ++ program ∷ []) [] ne

  -- what was planned on a path of a device
  was_planned : (o : ProgramPlace) → o.device ≡ d → plan_of x o.path ≡ plan_at plans o
  was_planned o same =
      ap (λ (y : PlansByPath). plan_of y o.path) x_is ∙ ap (λ (k : ℕ). plan_of (slice_index_or plans k no_plans) o.path) (sym same)

  is_planned : (o : ProgramPlace) → o.device ≡ d → plan_at (slice_set plans d new) o ≡ plan_of new o.path
  is_planned o same =
      ap (λ (k : ℕ). plan_of (slice_index_or (slice_set plans d new) k no_plans) o.path) same ∙ ap (λ (y : PlansByPath). plan_of y o.path) here_now

  -- what a place's plan has is kept, and at most a program comes behind it
  grown : (o : ProgramPlace) → (more : List (List Ccw)) × (plan_at (slice_set plans d new) o ≡ plan_at plans o ++ more)
  grown o = elim (cases_eq o.device d) [
    | inl same ↦ elim (cases_eq (o.path - 1) (path - 1)) [
      | inl one ↦ (
        program ∷ [],
        is_planned o same
            ∙ ap (λ (k : ℕ). slice_index_or new k []) one
            ∙ new_plan
            ∙ ap (λ (l : List (List Ccw)). l ++ program ∷ []) (ap (λ (k : ℕ). slice_index_or x k []) (sym one) ∙ was_planned o same),
      )
      | inr other ↦ ([], is_planned o same ∙ other_plan o.path other ∙ was_planned o same ∙ sym (append-nil (plan_at plans o)))
    ]
    | inr other ↦ (
      [],
      ap (λ (y : PlansByPath). plan_of y o.path) (get_or-set_other plans d o.device new no_plans other) ∙ sym (append-nil (plan_at plans o)),
    )
  ]

  kept_here : (o : ProgramPlace) → o.index < length (plan_at plans o) → planned_at (slice_set plans d new) o ≡ planned_at plans o
  kept_here o lt =
      let g = grown o in
      ap (λ (l : List (List Ccw)). planned_as o.path o.device (slice_index_or l o.index [])) g.1
      ∙ ap (planned_as o.path o.device) (get_or_append_left (plan_at plans o) g.0 [] o.index lt)

  still_there : (o : ProgramPlace) → o.index < length (plan_at plans o) → o.index < length (plan_at (slice_set plans d new) o)
  still_there o lt =
      let g = grown o in
      omega (arith, lt, ap length g.1, length-append (plan_at plans o) g.0)

  abbrev pub place : ProgramPlace
  place = record { path = path; device = d; index = length (plan_of x path) }

  added_plan : plan_at (slice_set plans d new) place ≡ plan_of x path ++ program ∷ []
  added_plan = ap (λ (y : PlansByPath). plan_of y path) here_now ∙ new_plan

  added : planned_at (slice_set plans d new) place ≡ planned_as path d program
  added =
      ap (λ (l : List (List Ccw)). planned_as path d (slice_index_or l (length (plan_of x path)) [])) added_plan
      ∙ ap (planned_as path d) (get_or_push (plan_of x path) program [] (length (plan_of x path)) refl)

  pub all_planned : map (planned_at (slice_set plans d new)) (places ++ place ∷ []) ≡ map (planned_at plans) places ++ planned_as path d program ∷ []
  all_planned =
      map-append (planned_at (slice_set plans d new)) places (place ∷ [])
      ∙ ap (λ (l : List PlannedProgram). l ++ planned_at (slice_set plans d new) place ∷ [])
      (same_programs (planned_at (slice_set plans d new)) (planned_at plans) places (λ k lt. kept_here (slice_index_or places k first_place) (h.there k lt)))
      ∙ ap (λ (p : PlannedProgram). map (planned_at plans) places ++ p ∷ []) added

  each_there : (k : ℕ) → k < length (places ++ place ∷ []) → (slice_index_or (places ++ place ∷ []) k first_place).index
      < length (plan_at (slice_set plans d new) (slice_index_or (places ++ place ∷ []) k first_place))
  each_there k lt = elim (cases_lt k (length places)) [
    | inl before ↦
        rw (get_or_append_left places (place ∷ []) first_place k before) (still_there (slice_index_or places k first_place) (h.there k before))
    | inr behind ↦
        let last : length places ≡ k = omega (arith, behind, lt, length_push places place) in
        rw (get_or_push places place first_place k last) (omega (arith, ap length added_plan, length_push (plan_of x path) program))
  ]

  pub still_planned : IsPlanned (places ++ place ∷ []) (slice_set plans d new)
  still_planned = record {
    there = each_there;
    plans_of_all = has_more (map (planned_at plans) places) _ plans d x new (planned_as path d program) h.plans_of_all refl small was made all_planned;
  }

-- the places, with one that is spelled in the code's words
pub placed : (places all : List ProgramPlace) (path d device index n : ℕ) → all ≡ places ++ record { path = path; device = device; index = index } ∷ []
    → d ≡ device → index ≡ n → all ≡ places ++ record { path = path; device = d; index = n } ∷ []
placed places all path d device index n is at there = rw (at, ← there) is
