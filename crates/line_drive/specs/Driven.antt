-- What some event lines come to where something is done behind each event. G is what stands in a run for whoever has the devices.
use Rattle.std.specs.Prelude.{ℕ, zero, suc, Bool, List, [], ◌∷◌, if◌then◌else◌}
use Rattle.ckd_types.specs.declared.paths.Side.{Side}
use Rattle.subsystem_defs.specs.declared.event.Event.{Event}
use Rattle.subsystem_defs.specs.declared.event.Event.TheVariants as events
use Rattle.subsystem_defs.specs.Happening.{happens, replaced, unpaired}
use Rattle.subsystem_defs.specs.Lines.{Asked, Once, Replace, Unpair, Run, Settle, is_busy, is_settled, most_backs, most_steps}
use Rattle.subsystem_defs.specs.Subsystem.{Subsystem, mounted_in, unfailing}

-- one thing that is done: an event, or an order with a new empty volume, of which no call fails
pub data Occurred : Type 0 where
  Comes : Event → Occurred
  Replaces : ℕ → Side → Occurred
  Unpairs : ℕ → Occurred

-- it goes on from here, or ended with this
pub data Step (G E : Type 0) : Type 0 where
  Goes : G → Step G E
  Ends : E → Step G E

-- how it goes on: its devices, what an occurrence makes of it, and what comes of what is done behind each
pub record Course (G E : Type 0) : Type 0 where
  pub sub : G → Subsystem
  pub did : G → Occurred → G
  pub behind : G → Step G E

-- and then this, where it goes on
abbrev pub onward : {G E : Type 0} → Step G E → (G → Step G E) → Step G E
onward (Goes g) f = f g
onward (Ends e) f = Ends e

abbrev pub moved : {G E : Type 0} → Course G E → G → Occurred → Step G E
moved c g o = c.behind (c.did g o)

abbrev pub is_busy_at : {G E : Type 0} → Course G E → G → ℕ → Bool
is_busy_at c g d = is_busy (mounted_in (c.sub g).mounted d)

-- A program to its end

unfoldable pub steps_on : {G E : Type 0} → Course G E → ℕ → ℕ → G → Step G E
steps_on c zero d g = Goes g
steps_on c (suc n) d g = if is_busy_at c g d then onward (moved c g (Comes (events.Step d))) (steps_on c n d) else Goes g

-- with nothing to do it is one event, which is idle
abbrev pub run_on : {G E : Type 0} → Course G E → ℕ → G → Step G E
run_on c d g = if is_busy_at c g d then steps_on c most_steps d g else c.behind g

-- All of the work in the background

abbrev pub settles_at : {G E : Type 0} → Course G E → G → ℕ → Bool
settles_at c g d = is_settled (happens (c.sub g) (events.Back d)).end

unfoldable pub backs_on : {G E : Type 0} → Course G E → ℕ → ℕ → G → Step G E
backs_on c zero d g = Goes g
backs_on c (suc n) d g = onward (moved c g (Comes (events.Back d))) (λ h. if settles_at c g d then Goes h else backs_on c n d h)

-- The whole

abbrev pub line_on : {G E : Type 0} → Course G E → Asked → G → Step G E
line_on c (Once e) g = moved c g (Comes e)
line_on c (Replace d side) g = moved c g (Replaces d side)
line_on c (Unpair a) g = moved c g (Unpairs a)
line_on c (Run d) g = run_on c d g
line_on c (Settle d) g = backs_on c most_backs d g

-- some lines, one after another, until one of them ends it
unfoldable pub driven : {G E : Type 0} → Course G E → List Asked → G → Step G E
driven c [] g = Goes g
driven c (x ∷ xs) g = onward (line_on c x g) (driven c xs)

-- The run of the devices alone, behind whose events nothing is done

abbrev pub run_did : Subsystem → Occurred → Subsystem
run_did s (Comes e) = (happens s e).behind
run_did s (Replaces d side) = (replaced s d side unfailing).behind
run_did s (Unpairs a) = (unpaired s a unfailing).behind

abbrev pub run_course : {E : Type 0} → Course Subsystem E
run_course = record { sub = λ s. s; did = run_did; behind = Goes }
