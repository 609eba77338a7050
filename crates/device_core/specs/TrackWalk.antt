-- How a command's way over tracks is seen, and what its chain keeps on it.
use Rattle.std.specs.Prelude.{◌≡◌, ◌<◌, ℕ, ◌*◌, Bool, true, false, Option, Some, IsSome}
use Rattle.ckd_chain.specs.declared.mark.Stage.{Stage}
use Rattle.ckd_chain.specs.declared.mark.Stage.TheVariants as stages
use Rattle.ckd_chain.specs.declared.progress.Progress.{Progress}
use Rattle.ckd_chain.specs.declared.progress.Progress.TheVariants as progresses
use Rattle.ckd_chain.specs.Facts.{MayBeWritten}
use Rattle.ckd_chain.specs.State.{ChainState}
use Rattle.ckd_rules.specs.Acts.{is_given}
use Rattle.ckd_chain.specs.Steps.{again_from}
use Rattle.device_defs.specs.declared.answers.Came.{Came}
use Rattle.device_defs.specs.declared.answers.Came.TheVariants.{Ends, Checks, HalfOpen}
use Rattle.device_defs.specs.Command.{Went, Over, On}
use Rattle.device_defs.specs.Outcomes.{Turn}
use Rattle.event_notes.specs.Loose.{LooseView, weight}
use Rattle.device_core.specs.Words.{IsReady}
use Rattle.device_core.specs.declared.track_walk.Step.{Step}
use Rattle.device_core.specs.declared.track_walk.Step.TheVariants as steps

-- nothing is known of memory
abbrev pub maybe : Bool → Type 0
maybe ok = Unit {0}

abbrev pub turn_with : ChainState → Came → Turn
turn_with chain came = record { came = came; chain = chain }

abbrev pub went_with : ChainState → Step → Went
went_with chain (steps.Over came) = Over (turn_with chain came)
went_with chain (steps.On t) = On chain t

-- the chain is at a word whose command has begun, on a device of so many cylinders
pub record IsAt (cylinders : ℕ) (chain : ChainState) : Type 0 where
  pub running : IsSome chain.at.next
  pub begun : IsSome chain.stage
  pub back : IsSome chain.before.next
  pub cylinders_are : chain.fixed.cylinders ≡ cylinders

abbrev pub may_be_written : Option Stage → Bool
may_be_written (Some stages.Over) = true
may_be_written (Some (stages.Asks act)) = is_given act
may_be_written _ = false

-- its command waits until its write is done or not, and then it can be ended
pub record IsHeld (chain : ChainState) : Type 0 where
  pub running : IsSome chain.at.next
  pub begun : IsSome chain.stage
  pub back : IsSome chain.before.next
  pub written : may_be_written chain.stage ≡ true

-- the program goes on behind a command that isn't its last
abbrev pub RunsOn : ChainState → Came → Type 0
RunsOn chain (Ends e) = e.over ≡ false → IsReady chain
RunsOn chain (Checks e) = Unit {0}
RunsOn chain (HalfOpen t) = IsHeld chain

pub record Left (cylinders : ℕ) (chain : ChainState) (came : Came) : Type 0 where
  pub cylinders_are : chain.fixed.cylinders ≡ cylinders
  pub goes : RunsOn chain came

-- the command at hand of the one chain is that of the other: memory that lacks leads to the same place
pub record IsSameHand (old new : ChainState) : Type 0 where
  pub again : again_from new ≡ again_from old

abbrev pub GoesOn : ℕ → ChainState → ChainState → Step → Type 0
GoesOn cylinders old new (steps.Over came) = Left cylinders new came
GoesOn cylinders old new (steps.On t) = IsAt cylinders new × IsSameHand old new × (t < cylinders * 15)

-- what a step with an image leaves
abbrev pub Waits : ℕ → ChainState → ChainState → Progress → Type 0
Waits cylinders old new (progresses.Ended e) = Left cylinders new (Ends e)
Waits cylinders old new (progresses.Need t) = IsAt cylinders new × IsSameHand old new
Waits cylinders old new (progresses.Write t e) = IsAt cylinders new × IsSameHand old new × MayBeWritten new.stage
Waits cylinders old new (progresses.Local act) = IsAt cylinders new

-- a command that goes on to another track left as many loose tracks and acts as there were
abbrev pub KeepsWeight : ℕ → LooseView → Step → Type 0
KeepsWeight n new (steps.Over came) = Unit {0}
KeepsWeight n new (steps.On t) = weight new ≡ n

-- whether a command came out with a write that is half done
abbrev pub is_half : Came → Bool
is_half (HalfOpen t) = true
is_half _ = false

abbrev pub is_half_over : Step → Bool
is_half_over (steps.Over came) = is_half came
is_half_over (steps.On t) = false
