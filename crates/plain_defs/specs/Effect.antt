-- What one command does, over what each track is and what is kept of the paths.
use Rattle.std.specs.Prelude.{ℕ, ◌*◌, List, [], slice_set, Option, None, Some}
use Rattle.ckd_types.specs.declared.channel.Ccw.{Ccw}
use Rattle.ckd_types.specs.declared.record.Track.{Track}
use Rattle.ckd_types.specs.Edit.{apply_edit}
use Rattle.ckd_types.specs.Fixed.{Fixed}
use Rattle.ckd_types.specs.Sense.{reject_sense}
use Rattle.ckd_types.specs.Volume.{track_in}
use Rattle.ckd_rules.specs.declared.grouping.GroupFault.{GroupFault}
use Rattle.ckd_rules.specs.declared.opening.Opening.{Opening}
use Rattle.ckd_rules.specs.declared.opening.Opening.TheVariants.{Over, Looks, Asks}
use Rattle.ckd_rules.specs.declared.order.LocalAct.{LocalAct}
use Rattle.ckd_rules.specs.declared.order.Look.{Look}
use Rattle.ckd_rules.specs.declared.stance.Stance.{Stance}
use Rattle.ckd_rules.specs.Ending.{Outcome, refused}
use Rattle.ckd_rules.specs.Opening.{opening_of}
use Rattle.ckd_rules.specs.Walk.{TrackEdit, Walked, untouched, walk}
use Rattle.plain_defs.specs.Acts.{act_fault, act_bytes, paths_after, act_outcome}
use Rattle.plain_defs.specs.PlainState.{PathsState, PlainState, with_sense}

-- how a command came out, the tracks that it looked at in order, its edit, and what is kept of the paths behind it
pub record Effect : Type 0 where
  pub outcome : Outcome
  pub touched : List ℕ
  pub edit : Option TrackEdit
  pub paths : PathsState

-- the path keeps the sense
abbrev pub kept_by : PathsState → ℕ → Walked → Effect
kept_by paths path w = record {
  outcome = w.outcome;
  touched = w.touched;
  edit = w.edit;
  paths =
      with_sense paths path w.outcome.ending.sense;
}

-- a command that began at a stance looks at tracks, from the one of another stance on
abbrev pub walked_look : Fixed → (ℕ → Track) → Stance → Ccw → Look → Stance → Walked
walked_look device tracks start c look s = walk (device.cylinders * 15) device.geometry tracks start c look s

-- an act that the device refuses is reject message 4
abbrev pub acted_by : Fixed → PathsState → ℕ → Stance → Ccw → LocalAct → Option GroupFault → Effect
acted_by device paths path s c act (Some fault) = kept_by paths path (untouched (refused s c (reject_sense 4)))
acted_by device paths path s c act None = record {
  outcome =
      act_outcome s c (act_bytes device.geometry paths path act) act;
  touched = [];
  edit = None;
  paths =
      paths_after paths path act;
}

abbrev pub effect_of_act : Fixed → PathsState → ℕ → Stance → Ccw → LocalAct → Effect
effect_of_act device paths path s c act = acted_by device paths path s c act (act_fault paths path act)

-- a command that has begun, with the stance that it has then
abbrev pub effect_by : Fixed → PathsState → (ℕ → Track) → ℕ → Stance → Ccw → Stance → Opening → Effect
effect_by device paths tracks path start c s (Over e) =
    kept_by paths path (untouched (record { stance = s; ending = e }))
effect_by device paths tracks path start c s (Looks look) = kept_by paths path (walked_look device tracks start c look s)
effect_by device paths tracks path start c s (Asks act) = effect_of_act device paths path start c act

-- the whole effect of one command of a path, where each track is what it is
abbrev pub command_effect : Fixed → PathsState → (ℕ → Track) → ℕ → Stance → Ccw → Effect
command_effect device paths tracks path s c = effect_by device paths tracks path s c (opening_of device s c).stance
    (opening_of device s c).opening

-- on a plain device, of a program that goes by what the device was when it began
abbrev pub effect_on : Fixed → PlainState → ℕ → Stance → Ccw → Effect
effect_on device state path s c = command_effect device state.paths (track_in state.volume) path s c

-- a volume with the edit of a command
abbrev pub edited_volume : List Track → Option TrackEdit → List Track
edited_volume v None = v
edited_volume v (Some e) = slice_set v e.track (apply_edit e.edit (track_in v e.track))

-- the plain device behind a command
abbrev pub behind_effect : PlainState → Effect → PlainState
behind_effect state e = record state { volume = edited_volume state.volume e.edit; paths = e.paths }
