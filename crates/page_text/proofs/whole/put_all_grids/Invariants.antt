use Rattle.std.proofs.Common.{◌≡◌, ◌++◌, drop}
use Rattle.std.specs.List.{flat_map}
use Rattle.page_text.specs.Whole.{grid_text}
use Rattle.page_text.proofs.whole.put_all_grids.Given as goal

-- what is left, behind what was put, is the whole
abbrev pub invariant-loop-i : goal.invariant-loop-i
invariant-loop-i l = l.page ++ flat_map (grid_text l.shown) (drop l.i l.deck.devices) ≡ l.fn.page ++ flat_map (grid_text l.shown) l.deck.devices
