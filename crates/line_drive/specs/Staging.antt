-- What a call of whoever has the devices leaves, and what may be asked of it.
use Rattle.std.specs.Prelude.{◌≡◌, ℕ, List, [], ◌∷◌, Result, Ok, Err}
use Rattle.subsystem_defs.specs.declared.event.Event.TheVariants as events
use Rattle.subsystem_defs.specs.Lines.{Asked, Once, Replace, Unpair, Run, Settle}
use Rattle.line_drive.specs.declared.stage.Stopped.{Stopped}
use Rattle.line_drive.specs.declared.stage.Stopped.TheVariants.{NoMemory, Ended}
use Rattle.line_drive.specs.Driven.{Occurred, Comes, Replaces, Unpairs, Step, Goes, Ends}

-- it has the same devices, and all that might be asked of it still may
pub record GoesOn {S : Type 0} (numbers : S → List ℕ) (may : S → Occurred → Type 0) (old new : S) : Type 0 where
  pub same : numbers new ≡ numbers old
  pub still : (o : Occurred) → may old o → may new o

-- it ended as the run does. Nothing is said at want of memory
abbrev pub StopsBy : {G E : Type 0} → Step G E → Stopped E → Type 0
StopsBy step NoMemory = Unit {0}
StopsBy step (Ended e) = step ≡ Ends e

-- it stands where the run goes on, or ended as it does
abbrev pub Reaches : {G E T : Type 0} → (G → Type 0) → Step G E → Result T (Stopped E) → Type 0
Reaches {G = G} stands step (Ok x) = (g : G) × (step ≡ Goes g) × stands g
Reaches stands step (Err why) = StopsBy step why

-- what a line asks for may be asked
abbrev pub LineMay : (Occurred → Type 0) → Asked → Type 0
LineMay may (Once e) = may (Comes e)
LineMay may (Replace d side) = may (Replaces d side)
LineMay may (Unpair a) = may (Unpairs a)
LineMay may (Run d) = may (Comes (events.Step d))
LineMay may (Settle d) = may (Comes (events.Back d))

abbrev pub LinesMay : (Occurred → Type 0) → List Asked → Type 0
LinesMay may [] = Unit {0}
LinesMay may (x ∷ xs) = LineMay may x × LinesMay may xs
