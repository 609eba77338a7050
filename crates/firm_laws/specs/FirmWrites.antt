-- The firm writes of a device: each track that an effect made firm, with what it is then, in order.
use Rattle.std.specs.Prelude.{ℕ, zero, suc, ◌==◌, List, [], ◌∷◌, ◌++◌, length, Option, Some, None, if◌then◌else◌}
use Rattle.ckd_types.specs.declared.channel.Ccw.{Ccw}
use Rattle.ckd_types.specs.declared.record.Track.{Track}
use Rattle.ckd_types.specs.Ccw.{ccw_at}
use Rattle.ckd_types.specs.Edit.{apply_edit}
use Rattle.ckd_types.specs.Volume.{track_in}
use Rattle.ckd_rules.specs.Walk.{TrackEdit}
use Rattle.plain_defs.specs.declared.journal.Act.{Act}
use Rattle.plain_defs.specs.declared.journal.Act.TheVariants.{Loosen, Harden, CfwLost}
use Rattle.plain_defs.specs.declared.journal.Acted.{Acted}
use Rattle.plain_defs.specs.declared.journal.Item.{Item}
use Rattle.plain_defs.specs.declared.journal.Item.TheVariants as items
use Rattle.plain_defs.specs.Effect.{effect_on}
use Rattle.plain_defs.specs.History.{OpenEntry, History}
use Rattle.plain_defs.specs.Journal.{Plans, program_of, effects_of, replay, replay_item}
use Rattle.plain_defs.specs.Loose.{is_loose_there, act_done}
use Rattle.plain_defs.specs.PlainState.{PlainState}
use Rattle.plain_defs.specs.Program.{Part, first_part, acts_at, command_run, part_of}
use Rattle.track_image.specs.Image.{Image}
use Rattle.device_outside.specs.Keeper.{Message, BeforeEdit, Firm}
use Rattle.device_defs.specs.Marks.{MarksDevice}
use Rattle.subsystem_defs.specs.Decks.{Firsts, empty_firsts}
use Rattle.subsystem_defs.specs.Promised.{first_of}

-- the number of a track that an effect made firm, and the track as it is then
abbrev pub FirmWrite : Type 0
FirmWrite = ℕ × Track

-- Of a history

-- of a command's edit: one where its track isn't loose
abbrev pub edit_writes : PlainState → Option TrackEdit → List FirmWrite
edit_writes state None = []
edit_writes state (Some e) =
    if is_loose_there state e.track then [] else (e.track, apply_edit e.edit (track_in state.volume e.track)) ∷ []

-- of an act: one where a loose track becomes firm, as it is
abbrev pub act_writes : PlainState → Act → List FirmWrite
act_writes state (Loosen t) = []
act_writes state (Harden t) = (t, track_in state.volume t) ∷ []
act_writes state CfwLost = []

-- of acts, one after another
abbrev pub acts_writes : PlainState → List Act → List FirmWrite
acts_writes state [] = []
acts_writes state (act ∷ acts) = act_writes state act ++ acts_writes (act_done state act) acts

-- of the acts behind the last end of a program's part, while it runs
abbrev pub acted_writes : List Acted → Part → Option ℕ → List FirmWrite
acted_writes acts p (Some i) = acts_writes p.state (acts_at acts (length p.ends))
acted_writes acts p None = []

-- of its next command
abbrev pub step_writes : ℕ → List Ccw → Part → Option ℕ → List FirmWrite
step_writes path ccws p (Some i) = edit_writes p.state (effect_on p.fixed p.state path p.stance (ccw_at ccws i)).edit
step_writes path ccws p None = []

-- of the first k commands of a program, with their acts
unfoldable pub part_writes : PlainState → ℕ → List Ccw → List Acted → ℕ → List FirmWrite
part_writes state path ccws acts zero = acted_writes acts (first_part state path ccws) (first_part state path ccws).next
part_writes state path ccws acts (suc k) =
    let p = part_of state path ccws acts k in
    let q = command_run path ccws p in
    part_writes state path ccws acts k ++ (step_writes path ccws p p.next ++ acted_writes acts q q.next)

-- of an item: of a program that was cut, also of the command whose half write was open; a new volume is none
abbrev pub item_writes : Plans → PlainState → Item → List FirmWrite
item_writes plans state (items.Program e) =
    part_writes state e.path (program_of plans e.path e.ordinal) e.acts (effects_of e.how e.ends)
item_writes plans state (items.Act act) = act_writes state act
item_writes plans state _ = []

-- of a journal
abbrev pub journal_writes : Plans → PlainState → List Item → List FirmWrite
journal_writes plans state [] = []
journal_writes plans state (x ∷ xs) = item_writes plans state x ++ journal_writes plans (replay_item plans state x) xs

-- of the commands of the running program that ended
abbrev pub running_writes : Plans → PlainState → Option OpenEntry → List FirmWrite
running_writes plans state (Some o) = part_writes state o.path (program_of plans o.path o.ordinal) o.acts (length o.ends)
running_writes plans state None = []

-- of a history that began with this device
abbrev pub firm_writes : Plans → PlainState → History → List FirmWrite
firm_writes plans empty h = journal_writes plans empty h.items ++ running_writes plans (replay plans empty h.items) h.running

-- of a device of a run, where the volume of its number held these tracks first
abbrev pub firm_writes_on : Firsts → MarksDevice → List FirmWrite
firm_writes_on firsts d = firm_writes d.plans (first_of (firsts d.store.device) d) d.history

-- where it was empty
abbrev pub firm_writes_of : MarksDevice → List FirmWrite
firm_writes_of d = firm_writes_on empty_firsts d

-- Of messages

-- those of the device of a number that tell of a firm track, in their order
abbrev pub firms_in : ℕ → List (Message Image) → List FirmWrite
firms_in n [] = []
firms_in n (BeforeEdit d t i ∷ ms) = firms_in n ms
firms_in n (Firm d t i ∷ ms) = if d == n then (t, i.track) ∷ firms_in n ms else firms_in n ms
