-- A device of the deck, as the lines of a report that were read so far make it.
use Rattle.std.specs.Prelude.{ℕ, ◌+◌, ◌==◌, ◌&&◌, ◌||◌, not, nat_le, nat_lt, Bool, true, false}
use Rattle.std.specs.Prelude.{List, [], ◌∷◌, length, count_by, Option, Some, None, if◌then◌else◌}
use Rattle.std.specs.List.{list_any}
use Rattle.ckd_types.specs.declared.channel.Ccw.{Ccw}
use Rattle.ckd_types.specs.declared.channel.CommandEnd.{CommandEnd}
use Rattle.ckd_types.specs.declared.channel.Note.TheVariants.{Plain}
use Rattle.ckd_types.specs.declared.paths.Owner.{Owner}
use Rattle.ckd_types.specs.declared.sense.Sense.{Sense}
use Rattle.ckd_types.specs.Ccw.{ccw_at}
use Rattle.ckd_types.specs.Parameters.{is_provisional}
use Rattle.ckd_rules.specs.Ending.{check}
use Rattle.ckd_rules.specs.Ends.{end_at_word}
use Rattle.ckd_rules.specs.Walk.{TrackEdit}
use Rattle.deck_audit.specs.declared.state.HalfWrite.{HalfWrite}
use Rattle.deck_audit.specs.declared.state.HalfWrite.TheVariants.{Closed, OfCommand, OfBackground}
use Rattle.deck_audit.specs.declared.state.OpenProgram.{OpenProgram}
use Rattle.deck_audit.specs.declared.state.Outline.{Outline}
use Rattle.deck_text.specs.declared.line.DeviceLine.{DeviceLine}
use Rattle.deck_text.specs.declared.line.PlannedProgram.{PlannedProgram}
use Rattle.deck_text.specs.Plans.{plans_of}
use Rattle.plain_defs.specs.Effect.{effect_on}
use Rattle.plain_defs.specs.History.{History, OpenEntry, no_history, plain_of, open_part}
use Rattle.plain_defs.specs.Journal.{Plans, planned, program_of, replay}
use Rattle.plain_defs.specs.Legal.{is_of_path, next_edit}
use Rattle.plain_defs.specs.Loose.{is_loose_there}
use Rattle.plain_defs.specs.PlainState.{PlainState, empty_state, is_admitted}
use Rattle.plain_defs.specs.Program.{Part}
use Rattle.report_text.specs.declared.answers.StartAnswer.{StartAnswer}
use Rattle.report_text.specs.declared.answers.StartAnswer.TheVariants as start

-- its number, what it was empty, the programs planned for it, what the lines made of its past, its half write, and to
-- which device it is lent
pub record AuditedDevice : Type 0 where
  pub number : ℕ
  pub empty : PlainState
  pub plans : Plans
  pub history : History
  pub half : HalfWrite
  pub lent : Option ℕ

abbrev pub new_device : List PlannedProgram → DeviceLine → AuditedDevice
new_device programs line = record {
  number = line.number;
  empty = empty_state line.geometry line.cylinders;
  plans = plans_of programs line.number;
  history = no_history;
  half = Closed;
  lent = None;
}

abbrev pub open_program : Option OpenEntry → Option OpenProgram
open_program (Some o) = Some (record { path = o.path; ordinal = o.ordinal })
open_program None = None

-- the plain device that it then is
abbrev pub state_of : AuditedDevice → PlainState
state_of a = plain_of a.plans a.empty a.history

abbrev pub has_loose : AuditedDevice → Bool
has_loose a = nat_lt 0 (length (state_of a).loose)

-- as much of it as tells which lines may come
abbrev pub outline_of : AuditedDevice → Outline
outline_of a = record {
  number = a.number;
  running = open_program a.history.running;
  half = a.half;
  lent = a.lent;
  loose = has_loose a;
}

-- the program that runs, and how far it is
abbrev pub part_of_open : AuditedDevice → OpenEntry → Part
part_of_open a o = open_part a.plans (replay a.plans a.empty a.history.items) o

abbrev pub words_of_open : AuditedDevice → OpenEntry → List Ccw
words_of_open a o = program_of a.plans o.path o.ordinal

-- neither a program runs nor is a half write open
abbrev pub is_closed : HalfWrite → Bool
is_closed Closed = true
is_closed OfCommand = false
is_closed OfBackground = false

abbrev pub runs : Option OpenEntry → Bool
runs (Some o) = true
runs None = false

abbrev pub is_idle : AuditedDevice → Bool
is_idle a = not (runs a.history.running) && is_closed a.half

-- What a START is answered, the first that applies

-- the ordinal of the path's next program
abbrev pub next_ordinal : AuditedDevice → ℕ → ℕ
next_ordinal a path = count_by (is_of_path path) a.history.items + 1

abbrev pub has_left : AuditedDevice → ℕ → Bool
has_left a path = nat_le (next_ordinal a path) (length (planned a.plans path))

abbrev pub may_start : AuditedDevice → ℕ → Bool
may_start a path = has_left a path && is_admitted (state_of a).paths path (program_of a.plans path (next_ordinal a path))

abbrev pub four_paths : List ℕ
four_paths = 1 ∷ 2 ∷ 3 ∷ 4 ∷ []

-- the owner holds the device, from this path or from every path with a program left
abbrev pub held_answer : AuditedDevice → Option Owner → StartAnswer
held_answer a (Some owner) = if list_any (may_start a) four_paths then start.Reserved owner else start.Shut owner
held_answer a None = start.Done

abbrev pub free_answer : AuditedDevice → ℕ → StartAnswer
free_answer a path =
    if not (has_left a path) then start.Done
    else if may_start a path then start.Accepted (next_ordinal a path)
    else held_answer a (state_of a).paths.owner

abbrev pub running_answer : AuditedDevice → ℕ → Option OpenEntry → StartAnswer
running_answer a path (Some o) = start.Busy o.path
running_answer a path None = free_answer a path

abbrev pub lent_answer : AuditedDevice → ℕ → Option ℕ → StartAnswer
lent_answer a path (Some of) = start.Secondary of
lent_answer a path None = running_answer a path a.history.running

abbrev pub own_runs : Option OpenEntry → ℕ → Bool
own_runs (Some o) path = o.path == path
own_runs None path = false

abbrev pub start_answer : AuditedDevice → ℕ → StartAnswer
start_answer a path = if own_runs a.history.running path then start.Running else lent_answer a path a.lent

-- The next command of the program that runs

-- how it ends on the plain device
abbrev pub plain_end_at : ℕ → List Ccw → Part → Option ℕ → Option CommandEnd
plain_end_at path ccws p (Some i) =
    Some (end_at_word i (ccw_at ccws i) (effect_on p.fixed p.state path p.stance (ccw_at ccws i)).outcome)
plain_end_at path ccws p None = None

abbrev pub plain_end : AuditedDevice → OpenEntry → Option CommandEnd
plain_end a o = plain_end_at o.path (words_of_open a o) (part_of_open a o) (part_of_open a o).next

-- how it ends with equipment check or data check, of that sense
abbrev pub check_end : List Ccw → ℕ → Sense → CommandEnd
check_end ccws i sense = record {
  index = i;
  status = check;
  residual = (ccw_at ccws i).count;
  note = Plain;
  sent = [];
  sense = Some sense;
  over = true;
}

abbrev pub edit_of : AuditedDevice → OpenEntry → Option TrackEdit
edit_of a o = next_edit o.path (words_of_open a o) (part_of_open a o)

-- a loose track is edited only as data of cache fast write
abbrev pub is_edit_legal : Part → Option TrackEdit → Bool
is_edit_legal p (Some e) = not (is_loose_there p.state e.track) || is_provisional p.stance.extent
is_edit_legal p None = true

abbrev pub is_next_legal : AuditedDevice → Option OpenEntry → Bool
is_next_legal a (Some o) = is_edit_legal (part_of_open a o) (edit_of a o)
is_next_legal a None = true

-- a track becomes loose only directly before a command that edits it as such data
abbrev pub loosens : Part → Option TrackEdit → ℕ → Bool
loosens p (Some e) t = (e.track == t) && is_provisional p.stance.extent && not (is_loose_there p.state t)
loosens p None t = false

abbrev pub may_loosen : AuditedDevice → Option OpenEntry → ℕ → Bool
may_loosen a (Some o) t = loosens (part_of_open a o) (edit_of a o) t
may_loosen a None t = false

-- A deck's devices

abbrev pub device_in : List AuditedDevice → ℕ → Option AuditedDevice
device_in [] d = None
device_in (a ∷ devices) d = if a.number == d then Some a else device_in devices d

abbrev pub with_device : List AuditedDevice → AuditedDevice → List AuditedDevice
with_device [] b = []
with_device (a ∷ devices) b = if a.number == b.number then b ∷ devices else a ∷ with_device devices b
