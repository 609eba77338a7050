-- What a device's journal holds, the plain device that it leads to, and the edits that it acknowledged.
use Rattle.std.specs.Prelude.{ℕ, ◌-◌, List, [], ◌∷◌, ◌++◌, length, slice_index_or, Option, None}
use Rattle.ckd_types.specs.declared.channel.Ccw.{Ccw}
use Rattle.ckd_types.specs.declared.channel.CommandEnd.{CommandEnd}
use Rattle.ckd_types.specs.declared.sense.Sense.{Sense}
use Rattle.ckd_types.specs.Volume.{empty_volume}
use Rattle.ckd_rules.specs.Walk.{TrackEdit}
use Rattle.plain_defs.specs.declared.journal.How.{How}
use Rattle.plain_defs.specs.declared.journal.How.TheVariants.{Full, Cut, Checked}
use Rattle.plain_defs.specs.declared.journal.Item.{Item}
use Rattle.plain_defs.specs.declared.journal.Item.TheVariants.{Program, Reset, Fresh, Act, Power}
use Rattle.plain_defs.specs.Acknowledged.{EditTold, told_by_act, acknowledged_of}
use Rattle.plain_defs.specs.Acknowledged.EditTold.{Lost}
use Rattle.plain_defs.specs.Entry.{ProgramEntry}
use Rattle.plain_defs.specs.Loose.{act_done, power_off}
use Rattle.plain_defs.specs.PlainState.{PathsState, PlainState, with_sense, reset_path}
use Rattle.plain_defs.specs.Program.{Part, part_of}

-- of each path the programs that are planned, in their order
abbrev pub Plans : Type 0
Plans = List (List (List Ccw))

abbrev pub planned : Plans → ℕ → List (List Ccw)
planned plans path = slice_index_or plans (path - 1) []

abbrev pub program_of : Plans → ℕ → ℕ → List Ccw
program_of plans path ordinal = slice_index_or (planned plans path) (ordinal - 1) []

-- the first commands of an entry's program, with its acts
abbrev pub entry_part : Plans → PlainState → ProgramEntry → ℕ → Part
entry_part plans state e k = part_of state e.path (program_of plans e.path e.ordinal) e.acts k

-- how many commands took effect: all that ended; as many as were counted when it was cut; all but the last
abbrev pub effects_of : How → List CommandEnd → ℕ
effects_of Full ends = length ends
effects_of (Cut effect) ends = effect
effects_of Checked ends = length ends - 1

-- and how many of them ended, so that they were told as done
abbrev pub told_of : How → List CommandEnd → ℕ
told_of Full ends = length ends
told_of (Cut effect) ends = length ends
told_of Checked ends = length ends - 1

abbrev pub last_sense : List CommandEnd → Option Sense
last_sense [] = None
last_sense (e ∷ []) = e.sense
last_sense (e ∷ f ∷ ends) = last_sense (f ∷ ends)

-- a command that had no effect left its sense
abbrev pub checked_paths : PathsState → ProgramEntry → How → PathsState
checked_paths paths e Full = paths
checked_paths paths e (Cut effect) = paths
checked_paths paths e Checked = with_sense paths e.path (last_sense e.ends)

-- the device behind an entry of this program
abbrev pub replay_program : List Ccw → PlainState → ProgramEntry → PlainState
replay_program ccws state e =
    let p = part_of state e.path ccws e.acts (effects_of e.how e.ends) in
    record p.state { paths = checked_paths p.state.paths e e.how }

abbrev pub replay_entry : Plans → PlainState → ProgramEntry → PlainState
replay_entry plans state e = replay_program (program_of plans e.path e.ordinal) state e

abbrev pub replay_item : Plans → PlainState → Item → PlainState
replay_item plans state (Program e) = replay_entry plans state e
replay_item plans state (Reset path) = record state { paths = reset_path state.paths path }
replay_item plans state Fresh = record state { volume = empty_volume state.cylinders; loose = [] }
replay_item plans state (Act act) = act_done state act
replay_item plans state Power = power_off state

-- the plain device that a journal leads to
abbrev pub replay : Plans → PlainState → List Item → PlainState
replay plans state [] = state
replay plans state (x ∷ xs) = replay plans (replay_item plans state x) xs

abbrev pub item_told : Plans → PlainState → Item → List EditTold
item_told plans state (Program e) = (entry_part plans state e (told_of e.how e.ends)).told
item_told plans state (Reset path) = []
item_told plans state Fresh = Lost ∷ []
item_told plans state (Act act) = told_by_act act
item_told plans state Power = Lost ∷ []

abbrev pub journal_told : Plans → PlainState → List Item → List EditTold
journal_told plans state [] = []
journal_told plans state (x ∷ xs) = item_told plans state x ++ journal_told plans (replay_item plans state x) xs

-- the edits that a journal acknowledged, in their order
abbrev pub acknowledged : Plans → PlainState → List Item → List TrackEdit
acknowledged plans state items = acknowledged_of (journal_told plans state items)
