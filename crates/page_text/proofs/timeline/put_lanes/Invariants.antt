use Rattle.std.proofs.Common.{◌≡◌, ◌++◌, drop}
use Rattle.std.specs.List.{flat_map}
use Rattle.page_text.specs.Timeline.{lanes_text, section_text}
use Rattle.page_text.proofs.timeline.put_lanes.Given as goal

-- what is left, behind what was put, is the whole
abbrev pub invariant-loop-i : goal.invariant-loop-i
invariant-loop-i l =
    l.page ++ flat_map (section_text l.more l.to l.shown) (drop l.i l.deck.devices) ≡ l.fn.page ++ lanes_text l.deck.devices l.more l.to l.shown
