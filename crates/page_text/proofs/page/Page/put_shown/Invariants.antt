use Rattle.std.proofs.Common.{◌≡◌, ◌++◌, drop}
use Rattle.std.specs.List.{flat_map}
use Rattle.page_text.specs.Pieces.{char_text}
use Rattle.page_text.proofs.page.Page.put_shown.Given as goal

-- what is left, behind what was put, is the whole
abbrev pub invariant-loop-b : goal.invariant-loop-b
invariant-loop-b l = l.self ++ flat_map char_text (drop l.b-index l.text) ≡ l.fn.self ++ flat_map char_text l.text
