use Rattle.std.proofs.Common.{◌≡◌, take}
use Rattle.std.specs.Prelude.{map}
use Rattle.page_text.proofs.lines.kept.Given as goal

-- the lines so far
abbrev pub invariant-loop-line : goal.invariant-loop-line
invariant-loop-line l = l.kept.items ≡ map (λ x. x.now) (take l.line-index l.lines)
