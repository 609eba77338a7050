-- What planning and forgetting come to, by their answers.
use Rattle.std.proofs.Common.{◌≡◌, ℕ, List, subst}
use Rattle.std.specs.Prelude.{Result, Ok, Err}
use Rattle.ckd_types.specs.declared.channel.Ccw.{Ccw}
use Rattle.device_core.specs.declared.forget.NotForgotten.{NotForgotten}
use Rattle.device_core.specs.declared.plan.NotPlanned.{NotPlanned}
use Rattle.subsystem_core.specs.Comes.{AreStill, Changes}
use Rattle.subsystem_core.specs.Planned.{ForgotBy, HasForgotten, IsPlanned, PlannedBy}
use Rattle.subsystem_core.specs.Standing.{StayForgetting}
use Rattle.ckd_c.specs.Calls.{Device, forgotten_well}
use Rattle.ckd_c.proofs.Refusing.{all_still, one_changes}

module _ {old new : List Device} where
  pub is_planned : (n m p q : ℕ) (program other : List Ccw) (u : Unit {0}) → m ≡ n → q ≡ p → other ≡ program →
      Changes m (PlannedBy q other (Ok u)) old new → Changes n (IsPlanned p program) old new
  is_planned n m p q program other u same path words c =
      subst (λ (k : ℕ). Changes k (IsPlanned p program) old new) same
      (subst (λ (k : ℕ). Changes m (IsPlanned k program) old new) path
      (subst (λ (w : List Ccw). Changes m (IsPlanned q w) old new) words
      (one_changes (PlannedBy q other (Ok u)) (IsPlanned q other) (λ a b p. p.planned) c)))

  pub not_planned : {n path : ℕ} {program : List Ccw} {e : NotPlanned} → Changes n (PlannedBy path program (Err e)) old new → AreStill old new
  not_planned {path = path} {program = program} {e = e} c = all_still (PlannedBy path program (Err e)) (λ a b p. p.same) c

  pub has_forgotten : (n m : ℕ) (u : Unit {0}) → m ≡ n → Changes m (ForgotBy (Ok u)) old new → Changes n HasForgotten old new
  has_forgotten n m u same c = subst (λ (k : ℕ). Changes k HasForgotten old new) same (one_changes (ForgotBy (Ok u)) HasForgotten (λ a b p. p.forgot) c)

  pub stands_so : (n m : ℕ) (u : Unit {0}) → m ≡ n → StayForgetting {E = NotForgotten} m (Ok u) old new → StayForgetting n forgotten_well old new
  stands_so n m u same s =
      subst (λ (k : ℕ). StayForgetting k forgotten_well old new) same (record { forgot = s.forgot; same = s.same })

  pub not_forgotten : {n : ℕ} {e : NotForgotten} → Changes n (ForgotBy (Err e)) old new → AreStill old new
  not_forgotten {e = e} c = all_still (ForgotBy (Err e)) (λ a b p. p.same) c
