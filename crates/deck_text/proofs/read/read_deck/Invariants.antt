use Rattle.std.proofs.Common.{◌≡◌, ◌≤◌, ◌+◌, length}
use Rattle.deck_text.specs.Lines.{text_lines}
use Rattle.deck_text.specs.Parse.{read_lines, reading_begun}
use Rattle.deck_text.proofs.read.read_deck.Given as goal

-- reading the rest from here is reading all
abbrev pub invariant-loop-rest : goal.invariant-loop-rest
invariant-loop-rest l =
    (read_lines l.number l.reading (text_lines l.rest) ≡ read_lines 1 reading_begun (text_lines l.text))
    × (l.number + length l.rest ≤ 16777217)

abbrev pub decreases-loop-rest : goal.decreases-loop-rest
decreases-loop-rest l = length l.rest
