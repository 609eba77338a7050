-- Lines that are done along two courses, of which each occurrence keeps alike what was, and that no event ends.
use Rattle.std.proofs.Common.{◌≡◌, ℕ, zero, suc, Bool, true, false, List, [], ◌∷◌, refl, sym, ap, subst}
use Rattle.std.specs.Prelude.{if◌then◌else◌}
use Rattle.subsystem_defs.specs.declared.event.Event.TheVariants as events
use Rattle.subsystem_defs.specs.Happening.{happens}
use Rattle.subsystem_defs.specs.Lines.{Asked, Once, Replace, Unpair, Run, Settle, is_busy, is_settled, most_backs, most_steps}
use Rattle.subsystem_defs.specs.Subsystem.{Subsystem, mounted_in}
use Rattle.line_drive.specs.Driven as driving
use Rattle.line_drive.specs.Driven.{
  Course,
  Occurred,
  Comes,
  Replaces,
  Unpairs,
  Step,
  Goes,
  backs_on,
  driven,
  is_busy_at,
  line_on,
  moved,
  onward,
  settles_at,
  steps_on,
}

-- both go on, and are alike then
pub record Alike {G H E F : Type 0} (alike : G → H → Type 0) (x : Step G E) (y : Step H F) : Type 0 where
  pub left : G
  pub right : H
  pub goes_left : x ≡ Goes left
  pub goes_right : y ≡ Goes right
  pub is : alike left right

module _ {G H E F : Type 0} (c : Course G E) (k : Course H F) (alike : G → H → Type 0)
    (subs : (g : G) (h : H) → alike g h → c.sub g ≡ k.sub h)
    (did : (g : G) (h : H) (o : Occurred) → alike g h → alike (c.did g o) (k.did h o))
    (left_goes : (g : G) → c.behind g ≡ Goes g) (right_goes : (h : H) → k.behind h ≡ Goes h) where
  abbrev Both : Step G E → Step H F → Type 0
  Both x y = Alike alike x y

  here : (g : G) (h : H) → alike g h → Both (Goes g) (Goes h)
  here g h is = record { left = g; right = h; goes_left = refl; goes_right = refl; is = is }

  behind_alike : (g : G) (h : H) → alike g h → Both (c.behind g) (k.behind h)
  behind_alike g h is = record { left = g; right = h; goes_left = left_goes g; goes_right = right_goes h; is = is }

  moved_alike : (g : G) (h : H) (o : Occurred) → alike g h → Both (moved c g o) (moved k h o)
  moved_alike g h o is = behind_alike (c.did g o) (k.did h o) (did g h o is)

  onward_alike : (x : Step G E) (y : Step H F) (f : G → Step G E) (e : H → Step H F) → Both x y →
      ((g : G) (h : H) → alike g h → Both (f g) (e h)) → Both (onward x f) (onward y e)
  onward_alike x y f e b rest =
      subst (λ (z : Step G E). Both (onward z f) (onward y e)) (sym b.goes_left)
      (subst (λ (z : Step H F). Both (f b.left) (onward z e)) (sym b.goes_right) (rest b.left b.right b.is))

  if_alike : (a b : Bool) (x p : Step G E) (y q : Step H F) → a ≡ b → Both x y → Both p q → Both (if a then x else p) (if b then y else q)
  if_alike true true x p y q same first second = first
  if_alike true false x p y q same first second = absurd (cc)
  if_alike false true x p y q same first second = absurd (cc)
  if_alike false false x p y q same first second = second

  busy : (d : ℕ) (g : G) (h : H) → alike g h → is_busy_at c g d ≡ is_busy_at k h d
  busy d g h is = ap (λ (s : Subsystem). is_busy (mounted_in s.mounted d)) (subs g h is)

  settled : (d : ℕ) (g : G) (h : H) → alike g h → settles_at c g d ≡ settles_at k h d
  settled d g h is = ap (λ (s : Subsystem). is_settled (happens s (events.Back d)).end) (subs g h is)

  steps_alike : (n d : ℕ) (g : G) (h : H) → alike g h → Both (steps_on c n d g) (steps_on k n d h)
  unfolding driving.steps_on
  steps_alike zero d g h is = here g h is
  steps_alike (suc n) d g h is =
      if_alike (is_busy_at c g d) (is_busy_at k h d) (onward (moved c g (Comes (events.Step d))) (steps_on c n d)) (Goes g)
      (onward (moved k h (Comes (events.Step d))) (steps_on k n d)) (Goes h) (busy d g h is)
      (onward_alike (moved c g (Comes (events.Step d))) (moved k h (Comes (events.Step d))) (steps_on c n d) (steps_on k n d)
      (moved_alike g h (Comes (events.Step d)) is) (λ v w so. steps_alike n d v w so)) (here g h is)

  backs_alike : (n d : ℕ) (g : G) (h : H) → alike g h → Both (backs_on c n d g) (backs_on k n d h)
  unfolding driving.backs_on
  backs_alike zero d g h is = here g h is
  backs_alike (suc n) d g h is =
      onward_alike (moved c g (Comes (events.Back d))) (moved k h (Comes (events.Back d)))
      (λ v. if settles_at c g d then Goes v else backs_on c n d v) (λ w. if settles_at k h d then Goes w else backs_on k n d w)
      (moved_alike g h (Comes (events.Back d)) is)
      (λ v w so. if_alike (settles_at c g d) (settles_at k h d) (Goes v) (backs_on c n d v) (Goes w) (backs_on k n d w) (settled d g h is) (here v w so)
      (backs_alike n d v w so))

  line_alike : (x : Asked) (g : G) (h : H) → alike g h → Both (line_on c x g) (line_on k x h)
  line_alike (Once e) g h is = moved_alike g h (Comes e) is
  line_alike (Replace d side) g h is = moved_alike g h (Replaces d side) is
  line_alike (Unpair a) g h is = moved_alike g h (Unpairs a) is
  line_alike (Run d) g h is =
      if_alike (is_busy_at c g d) (is_busy_at k h d) (steps_on c most_steps d g) (c.behind g) (steps_on k most_steps d h) (k.behind h) (busy d g h is)
      (steps_alike most_steps d g h is) (behind_alike g h is)
  line_alike (Settle d) g h is = backs_alike most_backs d g h is

  pub driven_alike : (xs : List Asked) (g : G) (h : H) → alike g h → Both (driven c xs g) (driven k xs h)
  unfolding driving.driven
  driven_alike [] g h is = here g h is
  driven_alike (x ∷ xs) g h is =
      onward_alike (line_on c x g) (line_on k x h) (driven c xs) (driven k xs) (line_alike x g h is) (λ v w so. driven_alike xs v w so)
