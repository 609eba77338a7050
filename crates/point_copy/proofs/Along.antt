-- What holds where lines begin, and is kept by all that is done, holds where they come to.
use Rattle.std.proofs.Common.{◌≡◌, ℕ, zero, suc, Bool, true, false, List, [], ◌∷◌, refl, subst}
use Rattle.std.specs.Prelude.{if◌then◌else◌}
use Rattle.subsystem_defs.specs.declared.event.Event.TheVariants as events
use Rattle.subsystem_defs.specs.Lines.{Asked, Once, Replace, Unpair, Run, Settle, most_backs, most_steps}
use Rattle.line_drive.specs.Driven as D
use Rattle.line_drive.specs.Driven.{
  Course,
  Occurred,
  Comes,
  Replaces,
  Unpairs,
  Step,
  Goes,
  Ends,
  onward,
  moved,
  is_busy_at,
  settles_at,
  steps_on,
  run_on,
  backs_on,
  line_on,
  driven,
}

module _ {G E : Type 0} (p : G → Type 0) where
  -- where it goes on it holds
  abbrev pub Holds : Step G E → Type 0
  Holds s = (h : G) → s ≡ Goes h → p h

  abbrev GoesAs : Step G E → G → Type 0
  GoesAs s h = s ≡ Goes h

  same_goes : (x y : G) → GoesAs (Goes x) y → x ≡ y
  same_goes x y e = cc

  pub goes_holds : (g : G) → p g → Holds (Goes g)
  goes_holds g holds = λ h is. subst p (same_goes g h is) holds

  pub onward_holds : (s : Step G E) (f : G → Step G E) → Holds s → ((g : G) → p g → Holds (f g)) → Holds (onward s f)
  onward_holds (Goes g) f first next = next g (first g refl)
  onward_holds (Ends e) f first next = λ h is. absurd (cc)

  test_holds : (b : Bool) (x y : Step G E) → Holds x → Holds y → Holds (if b then x else y)
  test_holds true x y in_x in_y = in_x
  test_holds false x y in_x in_y = in_y

module _ {G E : Type 0} (c : Course G E) (p : G → Type 0) (did : (g : G) (o : Occurred) → p g → p (c.did g o))
    (behind : (g : G) → p g → Holds p (c.behind g)) where
  moved_holds : (g : G) (o : Occurred) → p g → Holds p (moved c g o)
  moved_holds g o holds = behind (c.did g o) (did g o holds)

  steps_hold : (n d : ℕ) (g : G) → p g → Holds p (steps_on c n d g)
  unfolding D.steps_on
  steps_hold zero d g holds = goes_holds p g holds
  steps_hold (suc n) d g holds =
      test_holds p (is_busy_at c g d) (onward (moved c g (Comes (events.Step d))) (steps_on c n d)) (Goes g)
      (onward_holds p (moved c g (Comes (events.Step d))) (steps_on c n d) (moved_holds g (Comes (events.Step d)) holds) (λ h q. steps_hold n d h q))
      (goes_holds p g holds)

  run_holds : (d : ℕ) (g : G) → p g → Holds p (run_on c d g)
  run_holds d g holds = test_holds p (is_busy_at c g d) (steps_on c most_steps d g) (c.behind g) (steps_hold most_steps d g holds) (behind g holds)

  backs_hold : (n d : ℕ) (g : G) → p g → Holds p (backs_on c n d g)
  unfolding D.backs_on
  backs_hold zero d g holds = goes_holds p g holds
  backs_hold (suc n) d g holds =
      onward_holds p (moved c g (Comes (events.Back d))) (λ h. if settles_at c g d then Goes h else backs_on c n d h)
      (moved_holds g (Comes (events.Back d)) holds)
      (λ h q. test_holds p (settles_at c g d) (Goes h) (backs_on c n d h) (goes_holds p h q) (backs_hold n d h q))

  line_holds : (x : Asked) (g : G) → p g → Holds p (line_on c x g)
  line_holds (Once e) g holds = moved_holds g (Comes e) holds
  line_holds (Replace d side) g holds = moved_holds g (Replaces d side) holds
  line_holds (Unpair a) g holds = moved_holds g (Unpairs a) holds
  line_holds (Run d) g holds = run_holds d g holds
  line_holds (Settle d) g holds = backs_hold most_backs d g holds

  pub driven_keeps : (xs : List Asked) (g : G) → p g → Holds p (driven c xs g)
  unfolding D.driven
  driven_keeps [] g holds = goes_holds p g holds
  driven_keeps (x ∷ xs) g holds = onward_holds p (line_on c x g) (driven c xs) (line_holds x g holds) (λ h q. driven_keeps xs h q)
