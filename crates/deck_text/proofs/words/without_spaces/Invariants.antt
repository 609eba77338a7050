use Rattle.std.proofs.Common.{◌≡◌, drop}
use Rattle.deck_text.specs.Words.{words_of}
use Rattle.deck_text.proofs.words.without_spaces.Given as goal

-- only spaces so far
abbrev pub invariant-loop-i : goal.invariant-loop-i
invariant-loop-i l = words_of (drop l.i l.line) ≡ words_of l.line
