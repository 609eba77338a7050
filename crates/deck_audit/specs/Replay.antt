-- What each line makes of a device that is replayed, and what it answers.
use Rattle.std.specs.Prelude.{ℕ, ◌+◌, ◌-◌, ◌==◌, ◌&&◌, ◌||◌, ◌≡◌, not, nat_lt, Bool, true, false, List, [], length, replicate, slice_index_or, slice_set}
use Rattle.std.specs.Prelude.{Option, Some, None, if◌then◌else◌}
use Rattle.ckd_types.specs.declared.channel.Ccw.{Ccw}
use Rattle.ckd_types.specs.declared.channel.CommandEnd.{CommandEnd}
use Rattle.ckd_types.specs.declared.paths.Owner.{Owner}
use Rattle.ckd_types.specs.declared.sense.Sense.{Sense}
use Rattle.ckd_types.specs.Parameters.{is_provisional}
use Rattle.ckd_types.specs.Volume.{empty_volume}
use Rattle.ckd_chain.specs.Steps.{begun_chain, behind, end_with}
use Rattle.ckd_rules.specs.Walk.{TrackEdit}
use Rattle.deck_plan.specs.Plans.{PlansByPath, plan_of}
use Rattle.deck_text.specs.declared.line.DeviceLine.{DeviceLine}
use Rattle.plain_defs.specs.declared.journal.Act.{Act}
use Rattle.plain_defs.specs.Effect.{Effect}
use Rattle.plain_defs.specs.Loose.{act_done, cfw_lost, is_loose_there, power_off}
use Rattle.plain_defs.specs.PlainState.{PlainState, empty_state, fixed_of, is_admitted, reset_path, with_sense}
use Rattle.plain_defs.specs.Program.{sense_begun}
use Rattle.plain_device.specs.Between.{IsEditOn, behind_edit, effect_of, fixed_with}
use Rattle.report_text.specs.declared.answers.StartAnswer.{StartAnswer}
use Rattle.report_text.specs.declared.answers.StartAnswer.TheVariants as start
use Rattle.deck_audit.specs.declared.replayed.Pending.{Pending}
use Rattle.deck_audit.specs.declared.replayed.Running.{Running}
use Rattle.deck_audit.specs.declared.state.HalfWrite.TheVariants.{Closed}
use Rattle.deck_audit.specs.declared.state.OpenProgram.{OpenProgram}
use Rattle.deck_audit.specs.declared.state.Outline.{Outline}
use Rattle.deck_audit.specs.Replayed.{PendingState, ReplayedState}

abbrev pub new_replayed : DeviceLine → ReplayedState
new_replayed line = record {
  number = line.number;
  device = empty_state line.geometry line.cylinders;
  started = replicate 4 0;
  used = replicate 4 false;
  waits = replicate 4 false;
  powered = false;
  running = None;
  pending = None;
  half = Closed;
  lent = None;
}

-- the chain stands on the device, between two commands
pub record IsOn (device : PlainState) (r : Running) : Type 0 where
  pub fixed : r.chain.fixed ≡ fixed_with device r.chain.fixed.number
  pub stage : r.chain.stage ≡ None

abbrev pub IsPendingOn : PlainState → Pending → Type 0
IsPendingOn device p = IsEditOn device p.edit

abbrev pub program_of : Option Running → Option OpenProgram
program_of (Some o) = Some (record { path = o.path; ordinal = o.ordinal })
program_of None = None

abbrev pub outline_of : ReplayedState → Outline
outline_of r = record {
  number = r.number;
  running = program_of r.running;
  half = r.half;
  lent = r.lent;
  loose = nat_lt 0 (length r.device.loose);
}

-- START

abbrev pub started_on : ReplayedState → ℕ → ℕ
started_on r path = slice_index_or r.started (path - 1) 0

abbrev pub has_left : PlansByPath → ReplayedState → ℕ → Bool
has_left plans r path = nat_lt (started_on r path) (length (plan_of plans path))

abbrev pub next_program : PlansByPath → ReplayedState → ℕ → List Ccw
next_program plans r path = slice_index_or (plan_of plans path) (started_on r path) []

abbrev pub may_start : PlansByPath → ReplayedState → ℕ → Bool
may_start plans r path = has_left plans r path && is_admitted r.device.paths path (next_program plans r path)

abbrev pub any_may_start : PlansByPath → ReplayedState → Bool
any_may_start plans r = may_start plans r 1 || may_start plans r 2 || may_start plans r 3 || may_start plans r 4

abbrev pub held_answer : PlansByPath → ReplayedState → Option Owner → StartAnswer
held_answer plans r (Some owner) = if any_may_start plans r then start.Reserved owner else start.Shut owner
held_answer plans r None = start.Done

abbrev pub free_answer : PlansByPath → ReplayedState → ℕ → StartAnswer
free_answer plans r path =
    if not (has_left plans r path) then start.Done
    else if may_start plans r path then start.Accepted (started_on r path + 1)
    else held_answer plans r r.device.paths.owner

abbrev pub running_answer : PlansByPath → ReplayedState → ℕ → Option Running → StartAnswer
running_answer plans r path (Some o) = start.Busy o.path
running_answer plans r path None = free_answer plans r path

abbrev pub lent_answer : PlansByPath → ReplayedState → ℕ → Option ℕ → StartAnswer
lent_answer plans r path (Some of) = start.Secondary of
lent_answer plans r path None = running_answer plans r path r.running

abbrev pub own_runs : Option Running → ℕ → Bool
own_runs (Some o) path = o.path == path
own_runs None path = false

abbrev pub start_answer : PlansByPath → ReplayedState → ℕ → StartAnswer
start_answer plans r path = if own_runs r.running path then start.Running else lent_answer plans r path r.lent

-- the path's next program starts
abbrev pub started_next : PlansByPath → ReplayedState → ℕ → ReplayedState
started_next plans r path = record r {
  device = record r.device { paths = sense_begun r.device.paths path (next_program plans r path) };
  started = slice_set r.started (path - 1) (started_on r path + 1);
  used = slice_set r.used (path - 1) true;
  powered = true;
  running = Some (record {
    path = path;
    ordinal = started_on r path + 1;
    chain = begun_chain (next_program plans r path) (fixed_of r.device);
  });
}

-- The end of a command, of which the device has nothing yet

abbrev pub effect_at : ReplayedState → Running → Effect
effect_at r o = effect_of r.device o.path o.chain

abbrev pub next_end_at : ReplayedState → Running → Option ℕ → Option CommandEnd
next_end_at r o (Some i) = Some (end_with o.chain (effect_at r o).outcome)
next_end_at r o None = None

abbrev pub next_end_by : ReplayedState → Option Running → Option CommandEnd
next_end_by r (Some o) = next_end_at r o o.chain.at.next
next_end_by r None = None

abbrev pub next_end : ReplayedState → Option CommandEnd
next_end r = next_end_by r r.running

abbrev pub ended_of : ReplayedState → Running → ReplayedState
ended_of r o = record r {
  running = Some (record o { chain = behind o.chain (effect_at r o).outcome });
  pending = Some (record {
    edit = (effect_at r o).edit;
    paths = (effect_at r o).paths;
    provisional = is_provisional o.chain.at.stance.extent;
  });
}

abbrev pub ended_at : ReplayedState → Running → Option ℕ → ReplayedState
ended_at r o (Some i) = ended_of r o
ended_at r o None = r

abbrev pub ended_by : ReplayedState → Option Running → ReplayedState
ended_by r (Some o) = ended_at r o o.chain.at.next
ended_by r None = r

abbrev pub ended_next : ReplayedState → ReplayedState
ended_next r = ended_by r r.running

-- an attempt gave the end of this device's next command, of which this is then pending, and its program goes on so
abbrev pub IsNext : ReplayedState → Option CommandEnd → Option PendingState → Option Running → Type 0
IsNext r end pending running = (end ≡ next_end r) × (record r { running = running; pending = pending } ≡ ended_next r)

-- What stands behind an end: acts of cache fast write, that come before it

-- a loose track is edited only as data of cache fast write
abbrev pub is_edit_legal : PlainState → Bool → Option TrackEdit → Bool
is_edit_legal d provisional (Some e) = not (is_loose_there d e.track) || provisional
is_edit_legal d provisional None = true

abbrev pub is_legal_by : PlainState → Option PendingState → Bool
is_legal_by d (Some p) = is_edit_legal d p.provisional p.edit
is_legal_by d None = true

abbrev pub is_legal : ReplayedState → Bool
is_legal r = is_legal_by r.device r.pending

-- a track becomes loose only directly before a command that edits it as such data
abbrev pub loosens : PlainState → Bool → Option TrackEdit → ℕ → Bool
loosens d provisional (Some e) t = (e.track == t) && provisional && not (is_loose_there d t)
loosens d provisional None t = false

abbrev pub may_loosen_by : PlainState → Option PendingState → ℕ → Bool
may_loosen_by d (Some p) t = loosens d p.provisional p.edit t
may_loosen_by d None t = false

abbrev pub may_loosen : ReplayedState → ℕ → Bool
may_loosen r t = may_loosen_by r.device r.pending t

abbrev pub acted : ReplayedState → Act → ReplayedState
acted r act = record r { device = act_done r.device act }

-- all loose tracks go back, while no command waits
abbrev pub lost : ReplayedState → ReplayedState
lost r = record r { device = cfw_lost r.device; pending = None }

-- The device has what the command did, or only the sense of a check

abbrev pub settled_by : ReplayedState → Option PendingState → ReplayedState
settled_by r (Some p) = record r { device = behind_edit r.device p.edit p.paths; pending = None }
settled_by r None = r

abbrev pub settled : ReplayedState → ReplayedState
settled r = settled_by r r.pending

-- Resets

abbrev pub reset_on : ReplayedState → ℕ → ReplayedState
reset_on r path = record r {
  device = record r.device { paths = reset_path r.device.paths path };
  used = slice_set r.used (path - 1) false;
}

abbrev pub reset_waiting : ReplayedState → ℕ → ReplayedState
reset_waiting r path =
    if slice_index_or r.waits (path - 1) false then record (reset_on r path) { waits = slice_set r.waits (path - 1) false } else r

-- no program runs any more, and the resets that waited follow
unfoldable pub closed : ReplayedState → ReplayedState
closed r = reset_waiting (reset_waiting (reset_waiting (reset_waiting (record r { running = None }) 1) 2) 3) 4

abbrev pub checked_with : ReplayedState → Sense → Option Running → ReplayedState
checked_with r sense (Some o) =
    closed (record r { device = record r.device { paths = with_sense r.device.paths o.path (Some sense) }; pending = None })
checked_with r sense None = r

-- a command ended with a check, and did nothing
abbrev pub checked : ReplayedState → Sense → ReplayedState
checked r sense = checked_with r sense r.running

abbrev pub is_used_on : ReplayedState → ℕ → Bool
is_used_on r path = slice_index_or r.used (path - 1) false

abbrev pub reset_used : ReplayedState → ℕ → ReplayedState
reset_used r path = if is_used_on r path then reset_on r path else r

abbrev pub wait_used : ReplayedState → ℕ → ReplayedState
wait_used r path =
    if is_used_on r path then record r { waits = slice_set r.waits (path - 1) true } else r

-- the reset of the running program's path cuts it; that of another one waits, and of a path that used nothing is none
abbrev pub reset_by : ReplayedState → ℕ → Option Running → ReplayedState
reset_by r path (Some o) = if o.path == path then closed (reset_on r path) else wait_used r path
reset_by r path None = reset_used r path

abbrev pub reset : ReplayedState → ℕ → ReplayedState
reset r path = reset_by r path r.running

-- Loss of power

-- a program that runs is over
abbrev pub cut : ReplayedState → ReplayedState
cut r = record r { running = None; pending = None; waits = replicate 4 false }

abbrev pub dark : ReplayedState → ReplayedState
dark r = record r {
  device = power_off r.device;
  used = replicate 4 false;
  waits = replicate 4 false;
  powered = false;
  pending = None;
  half = Closed;
}

-- before the first start it changes nothing of the device
abbrev pub without_power : ReplayedState → ReplayedState
without_power r = if r.powered then dark r else record r { half = Closed }

-- Loans

abbrev pub lent_to : ReplayedState → ℕ → ReplayedState
lent_to r of = record r { lent = Some of }

-- it comes back empty
abbrev pub given_back : ReplayedState → ReplayedState
given_back r = record r {
  device = record r.device { volume = empty_volume r.device.cylinders; loose = [] };
  pending = None;
  lent = None;
}
