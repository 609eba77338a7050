use Rattle.std.proofs.Common.{◌≡◌, ◌++◌, drop}
use Rattle.std.specs.List.{flat_map}
use Rattle.page_text.specs.DeckRows.{deck_programs, line_programs}
use Rattle.page_text.proofs.deck_rows.put_programs.Given as goal

-- what is left, behind what was put, is the whole
abbrev pub invariant-loop-i : goal.invariant-loop-i
invariant-loop-i l = l.page ++ flat_map (line_programs l.deck) (drop l.i l.deck.devices) ≡ l.fn.page ++ deck_programs l.deck
