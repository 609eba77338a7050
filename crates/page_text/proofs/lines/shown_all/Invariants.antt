use Rattle.std.proofs.Common.{◌≡◌, ◌++◌, drop}
use Rattle.std.specs.Prelude.{None}
use Rattle.page_text.specs.Lines.{shown_all}
use Rattle.page_text.proofs.lines.shown_all.Given as goal

-- what is left, behind what was shown, is the whole
abbrev pub invariant-loop-line : goal.invariant-loop-line
invariant-loop-line l = l.all.items ++ shown_all l.deck l.before (drop l.line-index l.lines) ≡ shown_all l.deck None l.lines
