use Rattle.std.proofs.Common.{◌≡◌, ◌≤◌, ◌+◌, ◌*◌, [], length, take}
use Rattle.deck_text.specs.Words.{words_of}
use Rattle.deck_text.specs.Forms.{bytes_of}
use Rattle.deck_text.proofs.ccw.bytes_of.Given as goal

-- the bytes so far, and those of the words that are left, for which there is room
abbrev pub invariant-words : goal.invariant-words
invariant-words l =
    (bytes_of (take l.len l.bytes.items) (words_of l.rest) ≡ bytes_of [] (words_of l.fn.rest))
    × (2 * l.len + length l.rest ≤ 2 * length l.bytes.items + 1)

abbrev pub decreases-words : goal.decreases-words
decreases-words l = length l.rest
