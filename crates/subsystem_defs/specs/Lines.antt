-- What the event lines of a deck ask for, and the run of them.
use Rattle.std.specs.Prelude.{ℕ, zero, suc, Bool, true, false, ◌||◌, List, [], ◌∷◌, ◌++◌, Option, Some, None, is_some, if◌then◌else◌}
use Rattle.ckd_types.specs.declared.paths.Side.{Side}
use Rattle.deck_plan.specs.declared.event.EventLine.{EventLine}
use Rattle.deck_plan.specs.declared.event.EventLine.TheVariants as lines
use Rattle.device_defs.specs.declared.answers.Did.{Did}
use Rattle.device_defs.specs.declared.answers.Did.TheVariants as dids
use Rattle.subsystem_defs.specs.declared.end.EventEnd.{EventEnd}
use Rattle.subsystem_defs.specs.declared.end.EventEnd.TheVariants as ends
use Rattle.subsystem_defs.specs.declared.event.Event.{Event}
use Rattle.subsystem_defs.specs.declared.event.Event.TheVariants as events
use Rattle.subsystem_defs.specs.Happening.{EventHappened, quietly, happens, replaced, unpaired}
use Rattle.subsystem_defs.specs.Subsystem.{Mounted, Subsystem, mounted_in, unfailing}

-- what a line asks for: one event; one with a new empty volume, of which no call fails; or as many as it takes
pub data Asked : Type 0 where
  Once : Event → Asked
  Replace : ℕ → Side → Asked
  Unpair : ℕ → Asked
  Run : ℕ → Asked  -- the rest of a program
  Settle : ℕ → Asked  -- all of the work in the background

abbrev pub asked_by : EventLine → Asked
asked_by (lines.Start path d) = Once (events.Start path d)
asked_by (lines.Step d) = Once (events.Step d)
asked_by (lines.Run d) = Run d
asked_by (lines.Back d) = Once (events.Back d)
asked_by (lines.Settle d) = Settle d
asked_by (lines.Reset path d) = Once (events.Reset path d)
asked_by lines.FailCache = Once events.FailCache
asked_by lines.FailStore = Once events.FailStore
asked_by (lines.FailVolume d side) = Once (events.FailVolume d side)
asked_by lines.RepairCache = Once events.RepairCache
asked_by lines.RepairStore = Once events.RepairStore
asked_by (lines.Replace d side) = Replace d side
asked_by (lines.Pair a b) = Once (events.Pair a b)
asked_by (lines.Unpair a) = Unpair a
asked_by (lines.Suspend a) = Once (events.Suspend a)
asked_by (lines.Resume a) = Once (events.Resume a)
asked_by lines.Power = Once events.Power

-- an event of a run, and what asked for it
pub record Logged : Type 0 where
  pub asked : Asked
  pub happened : EventHappened

abbrev pub logged : Asked → EventHappened → Logged
logged asked h = record { asked = asked; happened = h }

-- the rest goes on behind it
abbrev pub and_so_on : Asked → EventHappened → (Subsystem → List Logged) → List Logged
and_so_on asked h rest = logged asked h ∷ rest h.behind

-- A program to its end

abbrev pub is_busy : Option Mounted → Bool
is_busy (Some m) = is_some m.device.store.half || is_some m.device.history.running
is_busy None = false

-- at most 4,096 commands end, each in two events, and a half write may be open from before
abbrev pub most_steps : ℕ
most_steps = 8193

abbrev pub step_logged : Subsystem → ℕ → (Subsystem → List Logged) → List Logged
step_logged s d rest = and_so_on (Run d) (happens s (events.Step d)) rest

unfoldable pub steps : ℕ → ℕ → Subsystem → List Logged
steps zero d s = []
steps (suc n) d s = if is_busy (mounted_in s.mounted d) then step_logged s d (steps n d) else []

-- with nothing to do it is one event, which is idle
abbrev pub run_logged : Subsystem → ℕ → List Logged
run_logged s d =
    if is_busy (mounted_in s.mounted d) then steps most_steps d s else logged (Run d) (quietly s s ends.Idle) ∷ []

-- All of the work in the background

abbrev pub stops : Did → Bool
stops dids.Nothing = true
stops (dids.Fault side) = true
stops (dids.BadBytes side) = true
stops _ = false

abbrev pub is_settled : EventEnd → Bool
is_settled (ends.Back did) = stops did
is_settled _ = false

-- of at most 960 tracks each is recovered or destaged in two events, and copied in one; 64 are staged; a half write may be open from
-- before; and the last event does nothing
abbrev pub most_backs : ℕ
most_backs = 2946

abbrev pub back_logged : EventHappened → ℕ → (Subsystem → List Logged) → List Logged
back_logged h d rest = logged (Settle d) h ∷ (if is_settled h.end then [] else rest h.behind)

unfoldable pub backs : ℕ → ℕ → Subsystem → List Logged
backs zero d s = []
backs (suc n) d s = back_logged (happens s (events.Back d)) d (backs n d)

-- The whole

unfoldable pub line_logged : Subsystem → Asked → List Logged
line_logged s (Once e) = logged (Once e) (happens s e) ∷ []
line_logged s (Replace d side) = logged (Replace d side) (replaced s d side unfailing) ∷ []
line_logged s (Unpair a) = logged (Unpair a) (unpaired s a unfailing) ∷ []
line_logged s (Run d) = run_logged s d
line_logged s (Settle d) = backs most_backs d s

-- the subsystem behind some events
abbrev pub last_behind : Subsystem → List Logged → Subsystem
last_behind s [] = s
last_behind s (t ∷ ts) = last_behind t.happened.behind ts

abbrev pub followed_by : List Logged → Subsystem → (Subsystem → List Logged) → List Logged
followed_by ts s rest = ts ++ rest (last_behind s ts)

-- the events of some lines
unfoldable pub run_lines : List Asked → Subsystem → List Logged
run_lines [] s = []
run_lines (x ∷ xs) s = followed_by (line_logged s x) s (run_lines xs)
