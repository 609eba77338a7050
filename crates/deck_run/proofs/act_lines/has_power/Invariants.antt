use Rattle.std.proofs.Common.{◌≡◌, drop}
use Rattle.subsystem_defs.specs.Beside.{has_power}
use Rattle.deck_run.proofs.act_lines.has_power.Given as goal

abbrev pub invariant-loop-item : goal.invariant-loop-item
invariant-loop-item l = has_power l.items ≡ has_power (drop l.item-index l.items)
