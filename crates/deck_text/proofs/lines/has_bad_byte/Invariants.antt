use Rattle.std.proofs.Common.{◌≡◌, drop}
use Rattle.std.specs.Prelude.{◌||◌}
use Rattle.deck_text.specs.Lines.{has_bad_byte}
use Rattle.deck_text.proofs.lines.has_bad_byte.Given as goal

-- a bad byte so far, or one that is left
abbrev pub invariant-loop-b : goal.invariant-loop-b
invariant-loop-b l = (l.bad || has_bad_byte (drop l.b-index l.line)) ≡ has_bad_byte l.line
