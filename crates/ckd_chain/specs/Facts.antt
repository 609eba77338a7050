-- What a running chain keeps to, and what may be asked of it.
use Rattle.std.specs.Prelude.{◌≡◌, ℕ, ◌+◌, ◌*◌, ◌≤◌, ◌<◌, length, true, false, IsSome, IfSome, ⊤, Option, Some, None}
use Rattle.ckd_chain.specs.declared.mark.Mark.{Mark}
use Rattle.ckd_chain.specs.declared.mark.Stage.{Stage}
use Rattle.ckd_chain.specs.declared.mark.Stage.TheVariants.{Over, Looks, Asks}
use Rattle.ckd_chain.specs.declared.progress.Progress.{Progress}
use Rattle.ckd_chain.specs.declared.progress.Progress.TheVariants.{Ended, Need, Write}
use Rattle.ckd_chain.specs.declared.progress.Settled.{Settled}
use Rattle.ckd_chain.specs.declared.progress.Settled.TheVariants as settles
use Rattle.ckd_chain.specs.State.{ChainState}
use Rattle.ckd_chain.specs.Steps.{chain_opened, stage_of, start_of}
use Rattle.ckd_rules.specs.Acts.{is_given}
use Rattle.ckd_rules.specs.Facts.{HasRoom, Stands, IsRunning, IsLook, Suits}
use Rattle.track_image.specs.Image.{Image}

-- a place between two commands, on a device with this many tracks
pub record IsMark (tracks : ℕ) (m : Mark) : Type 0 where
  pub stands : Stands tracks m.stance
  pub running : IfSome m.next (λ i. IsRunning i m.stance)

-- a command that has begun: how it ends is known, and it was counted
pub record IsEnding (s : ChainState) : Type 0 where
  pub held : IsSome s.held
  pub commands : s.at.stance.commands ≡ s.before.stance.commands + 1

-- or it wasn't counted yet
pub record IsOpen (s : ChainState) : Type 0 where
  pub commands : s.at.stance.commands ≡ s.before.stance.commands
  pub moved : s.at.stance.moved ≡ s.before.stance.moved

abbrev pub IsAtStage : ChainState → Stage → Type 0
IsAtStage s Over = IsEnding s
IsAtStage s (Looks look) = IsOpen s × IsLook (s.fixed.cylinders * 15) look
IsAtStage s (Asks act) = IsOpen s

pub record IsBegun (s : ChainState) (stage : Stage) : Type 0 where
  pub room : HasRoom s.before.stance
  pub running : IsSome s.at.next
  pub at : IsAtStage s stage

-- the next command may be counted
pub record IsReady (s : ChainState) : Type 0 where
  pub held : s.held ≡ None
  pub room : IfSome s.at.next (λ i. HasRoom s.at.stance)

abbrev pub AtHand : ChainState → Option Stage → Type 0
AtHand s None = IsReady s
AtHand s (Some stage) = IsBegun s stage

pub record IsChain (s : ChainState) : Type 0 where
  pub some : 1 ≤ s.fixed.cylinders
  pub most : s.fixed.cylinders ≤ 4369
  pub words : length s.ccws ≤ 256
  pub stands : Stands (s.fixed.cylinders * 15) s.at.stance
  pub word : IfSome s.at.next (λ i. i < 65536)
  pub before : IsMark (s.fixed.cylinders * 15) s.before
  pub hand : AtHand s s.stage

-- an edit is of the track that was looked at, and suits it
abbrev pub SuitsTrack : Option Image → Progress → Type 0
SuitsTrack (Some image) (Write t e) = Suits image.geometry image.track.records e
SuitsTrack image progress = ⊤

-- the track that is needed is one of the device
abbrev pub NeedsTrack : ℕ → Progress → Type 0
NeedsTrack tracks (Need t) = t < tracks
NeedsTrack tracks progress = ⊤

-- with the image of the track that it looks at, a command goes on to the track behind it
abbrev pub FurtherFrom : ChainState → Stage → Option Image → Progress → Type 0
FurtherFrom s (Looks look) (Some image) (Need t) = t ≡ s.at.stance.track + 1
FurtherFrom s stage image progress = ⊤

abbrev pub GoesFurther : ChainState → Option Image → Progress → Type 0
GoesFurther s image progress = FurtherFrom (chain_opened s) (stage_of s) image progress

-- with its end a command is counted
abbrev pub CountsEnd : ChainState → ChainState → Progress → Type 0
CountsEnd old new (Ended e) = new.at.stance.commands ≡ (start_of old).stance.commands + 1
CountsEnd old new progress = ⊤

-- it asks the device
abbrev pub IsAsking : Option Stage → Type 0
IsAsking (Some (Asks act)) = ⊤
IsAsking _ = ⊥

-- written: its ending is held, or it asks an act that gives bytes
abbrev pub MayBeWritten : Option Stage → Type 0
MayBeWritten (Some Over) = ⊤
MayBeWritten (Some (Asks act)) = is_given act ≡ true
MayBeWritten _ = ⊥

abbrev pub MayBeSent : Option Stage → Type 0
MayBeSent (Some (Asks act)) = is_given act ≡ false
MayBeSent _ = ⊥

abbrev pub MayBeRefused : Option Stage → Type 0
MayBeRefused (Some (Asks act)) = is_given act ≡ true
MayBeRefused _ = ⊥

-- an equipment check or a data check may stand in place of any step
abbrev pub MaySettle : ChainState → Settled → Type 0
MaySettle s settles.Written = MayBeWritten s.stage
MaySettle s (settles.Sent bytes) = MayBeSent s.stage
MaySettle s settles.BadParameter = MayBeRefused s.stage
MaySettle s settles.Equipment = ⊤
MaySettle s settles.DataCheck = ⊤
