-- What a command asks of the device that its path is on.
use Rattle.std.specs.Prelude.{ℕ, List, [], Option, None, Some}
use Rattle.ckd_types.specs.declared.channel.Ccw.{Ccw}
use Rattle.ckd_types.specs.declared.geometry.Geometry.{Geometry}
use Rattle.ckd_types.specs.declared.paths.GroupId.{GroupId}
use Rattle.ckd_types.specs.Sense.{zero_sense}
use Rattle.ckd_rules.specs.declared.grouping.GroupFault.{GroupFault}
use Rattle.ckd_rules.specs.declared.order.LocalAct.{LocalAct}
use Rattle.ckd_rules.specs.declared.order.LocalAct.TheVariants.{Sense, SenseId, Reserve, Release, Steal, SetGroup, SenseGroup}
use Rattle.ckd_rules.specs.declared.stance.Stance.{Stance}
use Rattle.ckd_rules.specs.Acts.{sense_id_bytes, answered, taken}
use Rattle.ckd_rules.specs.Ending.{Outcome}
use Rattle.ckd_rules.specs.Grouping.{group_fault, paths_set, owner_set, group_bytes, state_in}
use Rattle.plain_defs.specs.PlainState.{PathsState, sense_for, with_sense, owner_of}

-- why the device refuses an act, where it does
abbrev pub act_fault : PathsState → ℕ → LocalAct → Option GroupFault
act_fault paths path (SetGroup function id) = group_fault function id (state_in paths.states path)
act_fault paths path _ = None

-- the bytes that an act answers: reserve, release and unconditional reserve answer as sense does
abbrev pub act_bytes : Geometry → PathsState → ℕ → LocalAct → List ℕ
act_bytes g paths path Sense = (sense_for paths path).bytes
act_bytes g paths path Reserve = (sense_for paths path).bytes
act_bytes g paths path Release = (sense_for paths path).bytes
act_bytes g paths path Steal = (sense_for paths path).bytes
act_bytes g paths path SenseId = sense_id_bytes g
act_bytes g paths path (SetGroup function id) = []
act_bytes g paths path SenseGroup = group_bytes (state_in paths.states path) path paths.owner

-- a sense that was sent is zero
abbrev pub sensed : PathsState → ℕ → PathsState
sensed paths path = with_sense paths path (Some zero_sense)

-- whom the path stands for holds the device
abbrev pub reserved : PathsState → ℕ → PathsState
reserved paths path = record paths { owner = Some (owner_of paths path) }

-- a change of the paths' groups, and what it makes of the reservation
abbrev pub regrouped : PathsState → ℕ → ℕ → GroupId → PathsState
regrouped paths path function id =
    let states = paths_set paths.states path function id in
    record paths { states = states; owner = owner_set states path function id paths.owner }

-- unconditional reserve moves the reservation, whoever held the device
abbrev pub paths_after : PathsState → ℕ → LocalAct → PathsState
paths_after paths path Sense = sensed paths path
paths_after paths path Reserve = sensed (reserved paths path) path
paths_after paths path Release = sensed (record paths { owner = None }) path
paths_after paths path Steal = sensed (reserved paths path) path
paths_after paths path SenseId = paths
paths_after paths path (SetGroup function id) = regrouped paths path function id
paths_after paths path SenseGroup = paths

-- how a command comes out whose act the device did
abbrev pub act_outcome : Stance → Ccw → List ℕ → LocalAct → Outcome
act_outcome s c bytes (SetGroup function id) = taken s c
act_outcome s c bytes act = answered s c bytes
