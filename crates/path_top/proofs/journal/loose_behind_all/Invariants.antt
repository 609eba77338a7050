use Rattle.std.proofs.Common.{◌≡◌, take}
use Rattle.path_top.specs.Journals.{loose_behind_all}
use Rattle.path_top.proofs.journal.loose_behind_all.Given as goal

abbrev pub invariant-loop-acted : goal.invariant-loop-acted
invariant-loop-acted l = l.loose ≡ loose_behind_all l.fn.before (take l.acted-index l.acts)
