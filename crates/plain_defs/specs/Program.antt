-- A channel program on a plain device, built one command after another; acts stand between its commands.
use Rattle.std.specs.Prelude.{ℕ, zero, suc, ◌==◌, ◌||◌, Bool, List, [], ◌∷◌, ◌++◌, length, Option, None, Some, if◌then◌else◌}
use Rattle.ckd_types.specs.declared.channel.Ccw.{Ccw}
use Rattle.ckd_types.specs.declared.channel.CommandEnd.{CommandEnd}
use Rattle.ckd_types.specs.Ccw.{ccw_at}
use Rattle.ckd_types.specs.Fixed.{Fixed}
use Rattle.ckd_types.specs.Sense.{zero_sense}
use Rattle.ckd_rules.specs.declared.stance.Stance.{Stance}
use Rattle.ckd_rules.specs.Ends.{end_at_word, goes_to}
use Rattle.ckd_rules.specs.Stance.{first_stance}
use Rattle.plain_defs.specs.declared.journal.Act.{Act}
use Rattle.plain_defs.specs.declared.journal.Acted.{Acted}
use Rattle.plain_defs.specs.Acknowledged.{EditTold, told_by_edit, told_by_act}
use Rattle.plain_defs.specs.Effect.{Effect, effect_on, behind_effect}
use Rattle.plain_defs.specs.Loose.{act_done}
use Rattle.plain_defs.specs.PlainState.{PathsState, PlainState, fixed_of, with_sense}

-- behind some commands of a program: the device and what the program goes by of it, the stance, the word of the
-- next command unless the chain is over, the ends, and what was told of edits
pub record Part : Type 0 where
  pub fixed : Fixed
  pub state : PlainState
  pub stance : Stance
  pub next : Option ℕ
  pub ends : List CommandEnd
  pub told : List EditTold

-- sense, reserve, release and unconditional reserve send the sense that a path has
abbrev pub sends_sense : ℕ → Bool
sends_sense command = (command == 0x04) || (command == 0xb4) || (command == 0x94) || (command == 0x14)

abbrev pub starts_with_sense : List Ccw → Bool
starts_with_sense ccws = sends_sense (ccw_at ccws 0).command

-- every other program begins with a sense of zeros
abbrev pub sense_begun : PathsState → ℕ → List Ccw → PathsState
sense_begun paths path ccws = if starts_with_sense ccws then paths else with_sense paths path (Some zero_sense)

abbrev pub first_part : PlainState → ℕ → List Ccw → Part
first_part state path ccws = record {
  fixed = fixed_of state;
  state =
      record state { paths = sense_begun state.paths path ccws };
  stance = first_stance;
  next = Some 0;
  ends = [];
  told = [];
}

-- the acts that stand behind so many ends
abbrev pub acts_at : List Acted → ℕ → List Act
acts_at [] n = []
acts_at (a ∷ acts) n = if a.after == n then a.act ∷ acts_at acts n else acts_at acts n

abbrev pub acts_done : PlainState → List Act → PlainState
acts_done state [] = state
acts_done state (act ∷ acts) = acts_done (act_done state act) acts

abbrev pub with_act : Part → Act → Part
with_act p act = record p { state = act_done p.state act; told = p.told ++ told_by_act act }

abbrev pub with_acts : List Act → Part → Part
with_acts [] p = p
with_acts (act ∷ acts) p = with_acts acts (with_act p act)

abbrev pub acted_at : List Acted → Part → Option ℕ → Part
acted_at acts p (Some i) = with_acts (acts_at acts (length p.ends)) p
acted_at acts p None = p

-- with the acts behind its last end, while it runs
abbrev pub acts_made : List Acted → Part → Part
acts_made acts p = acted_at acts p p.next

-- the command of word i ended
abbrev pub ended_with : List Ccw → Part → ℕ → Effect → Part
ended_with ccws p i e = record p {
  state = behind_effect p.state e;
  stance = e.outcome.stance;
  next = goes_to ccws i e.outcome;
  ends = p.ends ++ end_at_word i (ccw_at ccws i) e.outcome ∷ [];
  told = p.told ++ told_by_edit p.state e.edit;
}

abbrev pub stepped_at : ℕ → List Ccw → Part → Option ℕ → Part
stepped_at path ccws p (Some i) = ended_with ccws p i (effect_on p.fixed p.state path p.stance (ccw_at ccws i))
stepped_at path ccws p None = p

-- one command more, unless the chain is over
abbrev pub command_run : ℕ → List Ccw → Part → Part
command_run path ccws p = stepped_at path ccws p p.next

abbrev pub one_more : ℕ → List Ccw → List Acted → Part → Part
one_more path ccws acts p = acts_made acts (command_run path ccws p)

-- the first k commands of a program, with their acts
unfoldable pub part_of : PlainState → ℕ → List Ccw → List Acted → ℕ → Part
part_of state path ccws acts zero = acts_made acts (first_part state path ccws)
part_of state path ccws acts (suc k) = one_more path ccws acts (part_of state path ccws acts k)

-- all of it: at most 4,096 commands end
abbrev pub whole_run : PlainState → ℕ → List Ccw → List Acted → Part
whole_run state path ccws acts = part_of state path ccws acts 4096
