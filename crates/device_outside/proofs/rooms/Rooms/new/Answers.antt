use Rattle.std.proofs.Common.{◌≡◌, [], ap, arith, map, replicate, ◌∙◌}
use Rattle.std.specs.Prelude.{vec_capacity}
use Rattle.device_outside.specs.Rooms.{held_in, no_room}
use Rattle.device_outside.proofs.RoomLemmas.{all_none, none_held, none_parted}
use Rattle.device_outside.proofs.rooms.Rooms.new.Goals as goal

pub invariant_of-result : goal.invariant_of-result
invariant_of-result c =
    rw (c.in_ok-region.ensures.items, all_none c.args.count _ _ _ c.in_ok-resize.ensures.items c.new-rooms.ensures.items c.new-rooms.ensures.len)
    (none_parted (vec_capacity c.in_ok-region.region) c.args.count (omega (arith, c.in_ok-region.ensures.capacity)))

pub returns : goal.returns
returns c =
    ap (map (held_in _)) (all_none c.args.count _ _ _ c.in_ok-resize.ensures.items c.new-rooms.ensures.items c.new-rooms.ensures.len)
    ∙ none_held _ c.args.count
