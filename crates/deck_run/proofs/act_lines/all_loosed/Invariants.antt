use Rattle.std.proofs.Common.{◌≡◌, take, map}
use Rattle.deck_run.specs.Loosening.{loosed_by}
use Rattle.deck_run.proofs.act_lines.all_loosed.Given as goal

-- those so far
abbrev pub invariant-loop-act : goal.invariant-loop-act
invariant-loop-act g l = l.told.items ≡ map (loosed_by l.d l.count l.number) (take l.act-index l.acts)
