-- One event of a worker at a device, and what the worker is told.
use Rattle.std.specs.Prelude.{◌&&◌, ◌||◌, ℕ, Bool, true, false, Option, Some, None, is_some, if◌then◌else◌}
use Rattle.plain_defs.specs.History.{is_path_of}
use Rattle.track_image.specs.Image.{Image}
use Rattle.device_outside.specs.Interaction.{Interaction, Done, Try, and_then}
use Rattle.device_defs.specs.declared.answers.StartFault.{StartFault}
use Rattle.device_defs.specs.declared.answers.StartFault.TheVariants.{Secondary, Busy, PlanDone, Shut, Reserved}
use Rattle.device_defs.specs.declared.answers.Did.{Did}
use Rattle.device_defs.specs.declared.answers.Did.TheVariants.{Nothing as DidNothing, Fault, BadBytes}
use Rattle.device_defs.specs.Command.{command}
use Rattle.device_defs.specs.Contents.{Contents}
use Rattle.device_defs.specs.Cutting.{is_of_command}
use Rattle.device_defs.specs.Device.{Device}
use Rattle.device_defs.specs.Events.{background, second}
use Rattle.device_defs.specs.Start.{is_finished, start, start_fault}
use Rattle.device_defs.specs.Store.{HalfWrite, Origin, OfCommand, OfCut, OfBackground}
use Rattle.path_workers.specs.declared.events.Came.{Came}
use Rattle.path_workers.specs.declared.events.Came.TheVariants.{Went, Again, Over}

-- a device that another path has, or holds, may be let go; one that is lent, or shut, or has no program left for the path stays so
abbrev pub start_came : Option StartFault → Came
start_came None = Went
start_came (Some (Busy holder)) = Again
start_came (Some (Reserved owner)) = Again
start_came (Some (Secondary of)) = Over
start_came (Some PlanDone) = Over
start_came (Some (Shut owner)) = Over

abbrev pub is_of_background : Origin → Bool
is_of_background (OfCommand bypass e) = false
is_of_background (OfCut bypass) = false
is_of_background OfBackground = true

module _ {H : Type 0} where
  -- a write is half done that a command, or the background, began
  abbrev pub is_commands : Option (HalfWrite H) → Bool
  is_commands None = false
  is_commands (Some h) = is_of_command h.origin

  abbrev pub is_backgrounds : Option (HalfWrite H) → Bool
  is_backgrounds None = false
  is_backgrounds (Some h) = is_of_background h.origin

abbrev pub half_came : Bool → Came
half_came own = if own then Went else Again

-- the background finds nothing to do by itself, or it can't be done
abbrev pub is_idle : Did → Bool
is_idle DidNothing = true
is_idle (Fault side) = true
is_idle (BadBytes side) = true
is_idle _ = false

-- it is over where it rests at a device that is finished
abbrev pub rested_came : Bool → Bool → Came
rested_came rests finished = if rests then (if finished then Over else Again) else Went

module _ {F P H : Type 0} where
  abbrev pub has_own_half : Device F P H → ℕ → Bool
  has_own_half d path = is_path_of d.history.running path && is_commands d.store.half

  -- what a path's worker is told
  abbrev pub path_came : Device F P H → ℕ → Came
  path_came d path =
      if is_some d.store.lent then Over
      else if is_some d.store.half then half_came (has_own_half d path)
      else if is_path_of d.history.running path then Went
      else start_came (start_fault d path)

  -- no path has anything left to do there
  abbrev pub is_done : Device F P H → Bool
  is_done d = is_some d.store.lent || is_finished d

-- An event, whatever it answers

abbrev pub whatever : {R I S A : Type 0} → Interaction R I S A → Interaction R I S (Unit {0})
whatever i = and_then i (λ s a. Done s tt)

abbrev pub nothing : {R I S : Type 0} → S → Interaction R I S (Unit {0})
nothing s = Done s tt

-- the start of a path's next program, unless something keeps it out
abbrev pub started_by : {F P H R : Type 0} → Device F P H → ℕ → Option StartFault → Interaction R Image (Device F P H) (Unit {0})
started_by d path (Some fault) = nothing d
started_by d path None = Try (λ had. nothing (if had then start d path else d))

module _ {F P H R : Type 0} (c : Contents F P H R) where
  -- the other part of a write that is half done, where it is one's own
  abbrev pub half_event : Device F P H → Bool → Interaction R Image (Device F P H) (Unit {0})
  half_event d own = if own then whatever (second c d) else nothing d

  -- of a path: the other part of its command's write, the next command of its program, or the start of its next program
  abbrev pub path_event : Device F P H → ℕ → Interaction R Image (Device F P H) (Unit {0})
  path_event d path =
      if is_some d.store.lent then nothing d
      else if is_some d.store.half then half_event d (has_own_half d path)
      else if is_path_of d.history.running path then whatever (command c d)
      else started_by d path (start_fault d path)

  -- in the background: the other part of its own write, or what is next to be done
  abbrev pub background_event : Device F P H → Interaction R Image (Device F P H) (Unit {0})
  background_event d =
      if is_some d.store.lent then nothing d
      else if is_some d.store.half then half_event d (is_backgrounds d.store.half)
      else whatever (background c d)
