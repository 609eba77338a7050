-- How far the run of a line, or of a deck, is, with the lines that were told so far.
use Rattle.std.specs.Prelude.{◌≡◌, ℕ, List, ◌++◌, map}
use Rattle.deck_plan.specs.declared.event.EventLine.{EventLine}
use Rattle.device_outside.specs.declared.volume.Volume.{Ghosts}
use Rattle.report_text.specs.declared.event.Happened.{Happened}
use Rattle.report_text.specs.declared.line.ReportLine.{ReportLine}
use Rattle.subsystem_core.specs.declared.subsystem.Subsystem.{Subsystem}
use Rattle.subsystem_defs.specs.declared.event.Event.{Event}
use Rattle.subsystem_defs.specs.Happening.{happens}
use Rattle.subsystem_defs.specs.Lines.{Logged, asked_by, backs, last_behind, run_lines, steps}
use Rattle.subsystem_defs.specs.Subsystem as runs
use Rattle.deck_run.specs.Recording.{all_lines, lines_when}
use Rattle.deck_run.specs.Standing.{StandsAs}

module _ {V : Type 0} {G : Ghosts V} where
  -- wherever a run stood as the code, this event happened, and what it did was told
  pub record IsRecorded (s z : Subsystem V G) (told more : List ReportLine) (e : Event) (did : runs.Subsystem → Happened) : Type 0 where
    pub stands : (run : runs.Subsystem) → StandsAs s run → StandsAs z (happens run e).behind
    pub lines : (run : runs.Subsystem) → StandsAs s run → more ≡ told ++ lines_when run e (did run)

  -- these events happened, and each was told
  pub record GoesOn (s z : Subsystem V G) (told more : List ReportLine) (events : runs.Subsystem → List Logged) : Type 0 where
    pub stands : (run : runs.Subsystem) → StandsAs s run → StandsAs z (last_behind run (events run))
    pub lines : (run : runs.Subsystem) → StandsAs s run → more ≡ told ++ all_lines (events run)

  -- the code stands where so many steps are left to this end, and to all of these lines
  pub record StepsLeft (s : Subsystem V G) (told : List ReportLine) (d n : ℕ) (last : runs.Subsystem) (all : List ReportLine) : Type 0 where
    pub now : runs.Subsystem
    pub stands : StandsAs s now
    pub rest : last_behind now (steps n d now) ≡ last
    pub lines : told ++ all_lines (steps n d now) ≡ all

  -- or so many pieces of work in the background
  pub record BacksLeft (s : Subsystem V G) (told : List ReportLine) (d n : ℕ) (last : runs.Subsystem) (all : List ReportLine) : Type 0 where
    pub now : runs.Subsystem
    pub stands : StandsAs s now
    pub rest : last_behind now (backs n d now) ≡ last
    pub lines : told ++ all_lines (backs n d now) ≡ all

  -- or these event lines
  pub record LinesLeft (s : Subsystem V G) (told : List ReportLine) (es : List EventLine) (last : runs.Subsystem) (all : List ReportLine) : Type 0 where
    pub now : runs.Subsystem
    pub stands : StandsAs s now
    pub rest : last_behind now (run_lines (map asked_by es) now) ≡ last
    pub lines : told ++ all_lines (run_lines (map asked_by es) now) ≡ all
