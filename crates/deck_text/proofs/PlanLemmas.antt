-- How a program comes to the plans of its device.
use Rattle.std.proofs.Common.{◌≡◌, ◌≤◌, ◌<◌, ◌+◌, ◌-◌, ◌==◌, ◌∷◌, [], ◌++◌, ℕ, zero, suc, List, Bool, true, false, cond, length, get_or, length-append, refl}
use Rattle.std.proofs.Common.{arith, ap, sym, ◌∙◌}
use Rattle.std.proofs.Math.ListN.{length-set}
use Rattle.std.proofs.lemmas.List.{get_or_read}
use Rattle.std.proofs.lemmas.Bool.{true≢false}
use Rattle.std.proofs.lemmas.Bool.Decides.{Decides-eqb}
use Rattle.std.specs.Prelude.{if◌then◌else◌, slice_index_or, slice_set}
use Rattle.ckd_types.specs.declared.channel.Ccw.{Ccw}
use Rattle.deck_plan.specs.Plans.{PlansByPath, no_plans, plan_of, with_program}
use Rattle.deck_text.specs.declared.line.PlannedProgram.{PlannedProgram}
use Rattle.deck_text.specs.Plans.{plan_added, planned_all, plans_of, HasPlans}

pub planned_more : (d : ℕ) (plans : PlansByPath) (ps : List PlannedProgram) (p : PlannedProgram)
    → planned_all d plans (ps ++ p ∷ []) ≡ plan_added d (planned_all d plans ps) p
planned_more d plans [] p = refl
planned_more d plans (q ∷ ps) p = planned_more d (plan_added d plans q) ps p

-- no plan has more than n programs
abbrev pub IsBounded : PlansByPath → ℕ → Type 0
IsBounded plans n = (j : ℕ) → length (slice_index_or plans j []) ≤ n

bounded_set : (plans : PlansByPath) (i j n : ℕ) (plan : List (List Ccw)) → length plan ≤ n → length (slice_index_or plans j []) ≤ n
    → length (slice_index_or (slice_set plans i plan) j []) ≤ n
bounded_set [] i j n plan one old = old
bounded_set (p ∷ plans) zero zero n plan one old = one
bounded_set (p ∷ plans) zero (suc j) n plan one old = old
bounded_set (p ∷ plans) (suc i) zero n plan one old = old
bounded_set (p ∷ plans) (suc i) (suc j) n plan one old = bounded_set plans i j n plan one old

bounded_with : (plans : PlansByPath) (path n : ℕ) (program : List Ccw) → IsBounded plans n → IsBounded (with_program plans path program) (n + 1)
bounded_with plans path n program h = λ j.
    bounded_set plans (path - 1) j (n + 1) (plan_of plans path ++ program ∷ []) (omega (arith, length-append (plan_of plans path) (program ∷ []), h (path - 1)))
    (omega (arith, h j))

bounded_if : (b : Bool) (plans more : PlansByPath) (n : ℕ) → IsBounded plans n → IsBounded more (n + 1) → IsBounded (if b then more else plans) (n + 1)
bounded_if true plans more n h g = g
bounded_if false plans more n h g = λ j. omega (arith, h j)

bounded_all : (d : ℕ) (plans : PlansByPath) (ps : List PlannedProgram) (n : ℕ) → IsBounded plans n → IsBounded (planned_all d plans ps) (n + length ps)
bounded_all d plans [] n h = λ j. omega (arith, h j)
bounded_all d plans (p ∷ ps) n h = λ j.
    omega (
      arith,
      bounded_all d (plan_added d plans p) ps (n + 1)
          (bounded_if (p.device == d) plans (with_program plans p.path p.program) n h (bounded_with plans p.path n p.program h)) j,
    )

bounded_none : IsBounded no_plans 0
bounded_none zero = omega arith
bounded_none (suc zero) = omega arith
bounded_none (suc (suc zero)) = omega arith
bounded_none (suc (suc (suc zero))) = omega arith
bounded_none (suc (suc (suc (suc j)))) = omega arith

-- no plan has more programs than the deck
pub plan_bound : (programs : List PlannedProgram) (d path : ℕ) → length (plan_of (plans_of programs d) path) ≤ length programs
plan_bound programs d path = omega (arith, bounded_all d no_plans programs 0 bounded_none (path - 1))

-- what a place of a list holds where it was set, and elsewhere
set_here : (plans : List PlansByPath) (i : ℕ) (new : PlansByPath) → i < length plans → slice_index_or (slice_set plans i new) i no_plans ≡ new
set_here [] i new lt = absurd (omega arith)
set_here (p ∷ plans) zero new lt = refl
set_here (p ∷ plans) (suc i) new lt = set_here plans i new (omega arith)

set_elsewhere : (plans : List PlansByPath) (i j : ℕ) (new : PlansByPath) → (i ≡ j → ⊥) → slice_index_or (slice_set plans i new) j no_plans ≡ slice_index_or plans j no_plans
set_elsewhere [] i j new ne = refl
set_elsewhere (p ∷ plans) zero zero new ne = absurd (ne refl)
set_elsewhere (p ∷ plans) zero (suc j) new ne = refl
set_elsewhere (p ∷ plans) (suc i) zero new ne = refl
set_elsewhere (p ∷ plans) (suc i) (suc j) new ne = set_elsewhere plans i j new (λ e. ne (ap suc e))

-- the plans of a device have room for one more program
pub has_room : (programs : List PlannedProgram) (plans : List PlansByPath) (d path : ℕ) (x : PlansByPath) → HasPlans programs plans → d < 16 → x ≡ get_or plans d x
    → length programs < 512 → length (plan_of x path) < 65535
has_room programs plans d path x h lt is few =
    let e : x ≡ plans_of programs d = get_or_read plans d x (omega (arith, h.devices)) is no_plans ∙ h.each d lt in
    rw e (omega (arith, plan_bound programs d path))

-- a device's plans, where a program came to those of device d
each_more : (b : Bool) (programs : List PlannedProgram) (plans : List PlansByPath) (d e : ℕ) (p : PlannedProgram) → (d == e) ≡ b → HasPlans programs plans → d < 16
    → e < 16
    → slice_index_or (slice_set plans d (with_program (plans_of programs d) p.path p.program)) e no_plans
    ≡ cond b (with_program (plans_of programs e) p.path p.program) (plans_of programs e)
each_more true programs plans d e p is h dlt elt =
    let same : d ≡ e = (Decides-eqb d e).0 is in
    rw (← same) (set_here plans d (with_program (plans_of programs d) p.path p.program) (omega (arith, h.devices)))
each_more false programs plans d e p is h dlt elt =
    set_elsewhere plans d e (with_program (plans_of programs d) p.path p.program) (λ same. absurd (true≢false (sym ((Decides-eqb d e).1 same) ∙ is)))
    ∙ h.each e elt

-- a program comes to the deck and to the plans of its device
pub has_more : (programs more : List PlannedProgram) (plans : List PlansByPath) (d : ℕ) (x new : PlansByPath) (p : PlannedProgram) → HasPlans programs plans → d ≡ p.device
    → p.device < 16 → x ≡ get_or plans d x → new ≡ with_program x p.path p.program → more ≡ programs ++ p ∷ []
    → HasPlans more (slice_set plans d new)
has_more programs more plans d x new p h at lt was is all =
    let e : x ≡ plans_of programs p.device =
    get_or_read plans d x (omega (arith, h.devices)) was no_plans ∙ ap (λ (k : ℕ). slice_index_or plans k no_plans) at ∙ h.each p.device lt in
    let made : new ≡ with_program (plans_of programs p.device) p.path p.program = is ∙ ap (λ (y : PlansByPath). with_program y p.path p.program) e in
    rw (all, made, at)
    (record {
      devices = length-set plans p.device (with_program (plans_of programs p.device) p.path p.program) ∙ h.devices;
      each = λ k klt. each_more (p.device == k) programs plans p.device k p refl h lt klt ∙ sym (planned_more k no_plans programs p);
    })
