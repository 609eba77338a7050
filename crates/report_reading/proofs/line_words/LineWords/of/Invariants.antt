use Rattle.std.proofs.Common.{◌≡◌, ◌++◌, List, ℕ, Bor, length, map, take}
use Rattle.report_reading.specs.Places.{cut_words}
use Rattle.report_reading.proofs.line_words.LineWords.of.Given as goal

-- the words in the places so far, and those of what is left
abbrev pub invariant-loop-count : goal.invariant-loop-count
invariant-loop-count l =
    (cut_words l.text ≡ map (λ (x : Bor (List ℕ)). x.now) (take l.count l.first) ++ cut_words l.left)
    × (length l.first ≡ 8)
