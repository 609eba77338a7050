-- A walk over some tracks does what one over all tracks does, where the others change nothing.
use Rattle.std.proofs.Common.{◌≡◌, ◌∙◌, ◌+◌, ◌-◌, ◌<◌, ◌≤◌, ℕ, zero, suc, Bool, refl, sym, ap, arith}
use Rattle.device_outside.specs.Interaction.{Interaction, Done, and_then}
use Rattle.device_outside.specs.Keeper.{Hearing}
use Rattle.device_outside.specs.Outside.{Outside, Ran, done}
use Rattle.device_outside.proofs.Runs.{joined}
use Rattle.device_defs.specs.Losses.{over}
use Rattle.device_defs.specs.Store.{Store}
use Rattle.device_store.proofs.Losing.{over_more}
use Rattle.device_store.proofs.Moves.{from_equal}

module _ {F P H : Type 0} (f : ℕ → Store F P H → Store F P H) (s : Store F P H) where
  over_skip : (n k : ℕ) (z : Store F P H) → z ≡ over n f s → ((q : ℕ) → n ≤ q → q < n + k → f q z ≡ z) → z ≡ over (n + k) f s
  over_skip n zero z is same = let e : n ≡ n + 0 = omega arith in is ∙ ap (λ (m : ℕ). over m f s) e
  over_skip n (suc k) z is same =
      let e : (n + k) + 1 ≡ n + suc k = omega arith in
      sym (same (n + k) (omega arith) (omega arith))
      ∙ ap (f (n + k)) (over_skip n k z is (λ q le lt. same q le (omega (arith, lt))))
      ∙ sym (over_more f (n + k) s)
      ∙ ap (λ (m : ℕ). over m f s) e

  -- tracks that stay as they are may be left out
  pub over_to : (n m : ℕ) (z : Store F P H) → n ≤ m → z ≡ over n f s → ((q : ℕ) → n ≤ q → q < m → f q z ≡ z) → z ≡ over m f s
  over_to n m z le is same =
      let e : n + (m - n) ≡ m = omega (arith, le) in
      over_skip n (m - n) z is (λ q from lt. same q from (omega (arith, lt, le))) ∙ ap (λ (m : ℕ). over m f s) e

module _ {R I K S : Type 0} {had : Bool → Type 0} {hears : Hearing I K} (i : ℕ → Interaction R I S (Unit {0}))
    (step : ℕ → S → Interaction R I S (Unit {0})) (more : (n : ℕ) → i (n + 1) ≡ and_then (i n) (λ z _. step n z)) where
  ran_skip : (n k : ℕ) {u w : Outside R K} {z : S} → Ran had hears (i n) u z tt w → ((q : ℕ) → n ≤ q → q < n + k → step q z ≡ Done z tt) →
      Ran had hears (i (n + k)) u z tt w
  ran_skip n zero ran same = let e : n ≡ n + 0 = omega arith in from_equal i e refl ran
  ran_skip n (suc k) ran same =
      let e : (n + k) + 1 ≡ n + suc k = omega arith in
      from_equal (λ x. x) (sym (more (n + k)) ∙ ap i e) refl
      (joined (λ z _. step (n + k) z) (ran_skip n k ran (λ q le lt. same q le (omega (arith, lt))))
      (from_equal (λ x. x) (sym (same (n + k) (omega arith) (omega arith))) refl done))

  -- tracks of which nothing is told may be left out
  pub ran_to : (n m : ℕ) {u w : Outside R K} {z : S} → n ≤ m → Ran had hears (i n) u z tt w → ((q : ℕ) → n ≤ q → q < m → step q z ≡ Done z tt) →
      Ran had hears (i m) u z tt w
  ran_to n m le ran same =
      let e : n + (m - n) ≡ m = omega (arith, le) in
      from_equal i e refl (ran_skip n (m - n) ran (λ q from lt. same q from (omega (arith, lt, le))))
