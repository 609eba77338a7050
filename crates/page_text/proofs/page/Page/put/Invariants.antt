use Rattle.std.proofs.Common.{◌≡◌, ◌++◌, drop}
use Rattle.std.specs.List.{flat_map}
use Rattle.page_text.specs.Pieces.{piece_text}
use Rattle.page_text.proofs.page.Page.put.Given as goal

-- what is left, behind what was put, is the whole
abbrev pub invariant-loop-piece : goal.invariant-loop-piece
invariant-loop-piece l = l.self ++ flat_map piece_text (drop l.piece-index l.pieces) ≡ l.fn.self ++ flat_map piece_text l.pieces
