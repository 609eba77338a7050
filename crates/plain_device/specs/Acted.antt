-- How the device answers what a command of a path asks of it.
use Rattle.std.specs.Prelude.{ℕ, Option, None, Some}
use Rattle.ckd_chain.specs.declared.progress.Settled.{Settled}
use Rattle.ckd_chain.specs.declared.progress.Settled.TheVariants.{Written, Sent, BadParameter}
use Rattle.ckd_rules.specs.declared.grouping.GroupFault.{GroupFault}
use Rattle.ckd_rules.specs.declared.order.LocalAct.{LocalAct}
use Rattle.ckd_rules.specs.declared.order.LocalAct.TheVariants.{SetGroup}
use Rattle.ckd_types.specs.declared.geometry.Geometry.{Geometry}
use Rattle.plain_defs.specs.Acts.{act_fault, act_bytes, paths_after}
use Rattle.plain_defs.specs.PlainState.{PathsState}

-- with bytes, unless the command sends none
abbrev pub answer_of : Geometry → PathsState → ℕ → LocalAct → Settled
answer_of g paths path (SetGroup function id) = Written
answer_of g paths path act = Sent (act_bytes g paths path act)

abbrev pub settled_with : Geometry → PathsState → ℕ → LocalAct → Option GroupFault → Settled
settled_with g paths path act (Some fault) = BadParameter
settled_with g paths path act None = answer_of g paths path act

abbrev pub settled_act : Geometry → PathsState → ℕ → LocalAct → Settled
settled_act g paths path act = settled_with g paths path act (act_fault paths path act)

abbrev pub paths_with : PathsState → ℕ → LocalAct → Option GroupFault → PathsState
paths_with paths path act (Some fault) = paths
paths_with paths path act None = paths_after paths path act

-- a refused act is not done
abbrev pub paths_behind : PathsState → ℕ → LocalAct → PathsState
paths_behind paths path act = paths_with paths path act (act_fault paths path act)
