use Rattle.std.proofs.Common.{◌≡◌, length}
use Rattle.deck_text.proofs.DigitPairs.{Read}
use Rattle.deck_text.proofs.ccw.read_pairs.Given as goal

-- what the pairs so far say
abbrev pub invariant-loop-i : goal.invariant-loop-i
invariant-loop-i l = Read l.greatest l.i l.bytes l.word × (length l.bytes ≡ length l.fn.bytes)
