-- Plans with a program more behind those of a path: the others keep their places, and what gives bytes still does.
use Rattle.std.proofs.Common.{◌≡◌, ◌<◌, ◌≤◌, ◌-◌, ℕ, zero, suc, List, [], ◌∷◌, ◌++◌, length, refl, length-append, arith}
use Rattle.std.specs.Prelude.{slice_index_or, slice_set}
use Rattle.std.proofs.lemmas.List.{get_or_append_left}
use Rattle.ckd_types.specs.declared.channel.Ccw.{Ccw}
use Rattle.deck_plan.specs.Plans.{with_program}
use Rattle.plain_defs.specs.Journal.{Plans}
use Rattle.plain_defs.specs.Whole.{GiveBytes, GivesAll}
use Rattle.device_laws.proofs.MorePlans.{AreLonger}

module _ (program : List Ccw) where
  abbrev with_one : Plans → ℕ → Plans
  with_one plans i = slice_set plans i (slice_index_or plans i [] ++ program ∷ [])

  not_fewer : (plans : Plans) (i j : ℕ) → length (slice_index_or plans j []) ≤ length (slice_index_or (with_one plans i) j [])
  not_fewer [] i j = omega arith
  not_fewer (p ∷ plans) zero zero = let sum = length-append p (program ∷ []) in omega (arith, sum)
  not_fewer (p ∷ plans) zero (suc j) = omega arith
  not_fewer (p ∷ plans) (suc i) zero = omega arith
  not_fewer (p ∷ plans) (suc i) (suc j) = not_fewer plans i j

  same_place : (plans : Plans) (i j n : ℕ) → n < length (slice_index_or plans j []) →
      slice_index_or (slice_index_or (with_one plans i) j []) n [] ≡ slice_index_or (slice_index_or plans j []) n []
  same_place [] i j n lt = refl
  same_place (p ∷ plans) zero zero n lt = get_or_append_left p (program ∷ []) [] n lt
  same_place (p ∷ plans) zero (suc j) n lt = refl
  same_place (p ∷ plans) (suc i) zero n lt = refl
  same_place (p ∷ plans) (suc i) (suc j) n lt = same_place plans i j n lt

  appended_gives : (p : List (List Ccw)) (n : ℕ) → GivesAll program → GivesAll (slice_index_or p n []) → GivesAll (slice_index_or (p ++ program ∷ []) n [])
  appended_gives [] zero new old = new
  appended_gives [] (suc n) new old = old
  appended_gives (y ∷ p) zero new old = old
  appended_gives (y ∷ p) (suc n) new old = appended_gives p n new old

  all_give : (plans : Plans) (i j n : ℕ) → GivesAll program → GivesAll (slice_index_or (slice_index_or plans j []) n []) →
      GivesAll (slice_index_or (slice_index_or (with_one plans i) j []) n [])
  all_give [] i j n new old = old
  all_give (p ∷ plans) zero zero n new old = appended_gives p n new old
  all_give (p ∷ plans) zero (suc j) n new old = old
  all_give (p ∷ plans) (suc i) zero n new old = old
  all_give (p ∷ plans) (suc i) (suc j) n new old = all_give plans i j n new old

pub with_program_longer : (plans : Plans) (path : ℕ) (program : List Ccw) → AreLonger plans (with_program plans path program)
with_program_longer plans path program = record {
  least = λ k. not_fewer program plans (path - 1) (k - 1);
  same = λ k n some inside. same_place program plans (path - 1) (k - 1) (n - 1) (omega (arith, some, inside));
}

pub with_program_gives : (plans : Plans) (path : ℕ) (program : List Ccw) → GivesAll program → GiveBytes plans → GiveBytes (with_program plans path program)
with_program_gives plans path program new old k n least most = all_give program plans (path - 1) (k - 1) (n - 1) new (old k n least most)
