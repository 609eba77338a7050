use Rattle.std.proofs.Common.{◌<◌, ap, arith, length, refl}
use Rattle.std.proofs.lemmas.List.{get_or_read, length-map}
use Rattle.std.specs.Prelude.{vec_capacity}
use Rattle.device_outside.specs.Rooms.{held_in, no_room}
use Rattle.device_outside.proofs.RoomLemmas.{anew_holds, over_holds, put_anew, room_for, written_over}
use Rattle.device_outside.proofs.rooms.Rooms.set.Goals as goal

pub invariant_of-self : goal.invariant_of-self
invariant_of-self c =
    let there : c.args.i < length c.self.inside.rooms.items = omega (arith, c.requires.there, ap length c.self.view_is, length-map c.self.inside.rooms.items (held_in c.self.inside.region.items)) in
    written_over (vec_capacity c.self.inside.region) _ c.put_over.ensures.room c.self.inside.region.items _ c.args.bytes.now c.self.inside.rooms.items c.args.i
    c.index-old.result.now _ there (get_or_read c.self.inside.rooms.items c.args.i c.index-old.result.now there c.index-old.ensures no_room)
    c.self.invariant (omega (arith, c.if-len-bytes_of.true, c.bytes_of.ensures)) c.put_over.ensures.bytes refl

pub returns-then-len-bytes_of : goal.returns-then-len-bytes_of
returns-then-len-bytes_of c =
    let there : c.args.i < length c.self.inside.rooms.items = omega (arith, c.requires.there, ap length c.self.view_is, length-map c.self.inside.rooms.items (held_in c.self.inside.region.items)) in
    rw (← c.self.view_is)
    (over_holds (vec_capacity c.self.inside.region) _ c.put_over.ensures.room c.self.inside.region.items _ c.args.bytes.now c.self.inside.rooms.items
    c.args.i c.index-old.result.now _ there
    (get_or_read c.self.inside.rooms.items c.args.i c.index-old.result.now there c.index-old.ensures no_room)
    c.self.invariant (omega (arith, c.if-len-bytes_of.true, c.bytes_of.ensures)) c.put_over.ensures.bytes refl)

pub put_behind-requires-clause-room : goal.put_behind-requires-clause-room
put_behind-requires-clause-room c =
    let there : c.args.i < length c.self.inside.rooms.items = omega (arith, c.requires.there, ap length c.self.view_is, length-map c.self.inside.rooms.items (held_in c.self.inside.region.items)) in
    rw c.bytes_of-2.ensures
    (room_for (vec_capacity c.self.inside.region) c.self.inside.region.items c.self.inside.rooms.items c.args.i (length c.args.bytes.now)
    c.index-old.result.now c.size_for-size.result there
    (get_or_read c.self.inside.rooms.items c.args.i c.index-old.result.now there c.index-old.ensures no_room) c.self.invariant
    (omega (arith, c.if-len-bytes_of.false, c.bytes_of.ensures)) c.size_for-size.ensures)

pub invariant_of-self-2 : goal.invariant_of-self-2
invariant_of-self-2 c =
    let there : c.args.i < length c.self.inside.rooms.items = omega (arith, c.requires.there, ap length c.self.view_is, length-map c.self.inside.rooms.items (held_in c.self.inside.region.items)) in
    put_anew (vec_capacity c.self.inside.region) _ c.put_behind.ensures.room c.self.inside.region.items _ c.args.bytes.now c.self.inside.rooms.items c.args.i
    c.index-old.result.now _ c.size_for-size.result there
    (get_or_read c.self.inside.rooms.items c.args.i c.index-old.result.now there c.index-old.ensures no_room) c.self.invariant
    (omega (arith, c.if-len-bytes_of.false, c.bytes_of.ensures)) c.size_for-size.ensures (rw (← c.bytes_of-2.ensures) c.put_behind.ensures.bytes)
    (rw (c.len-start.ensures, c.self.inside.region.ok.0) refl)

pub returns : goal.returns
returns c =
    let there : c.args.i < length c.self.inside.rooms.items = omega (arith, c.requires.there, ap length c.self.view_is, length-map c.self.inside.rooms.items (held_in c.self.inside.region.items)) in
    rw (← c.self.view_is)
    (anew_holds (vec_capacity c.self.inside.region) _ c.put_behind.ensures.room c.self.inside.region.items _ c.args.bytes.now c.self.inside.rooms.items
    c.args.i c.index-old.result.now _ c.size_for-size.result there
    (get_or_read c.self.inside.rooms.items c.args.i c.index-old.result.now there c.index-old.ensures no_room) c.self.invariant
    (omega (arith, c.if-len-bytes_of.false, c.bytes_of.ensures)) c.size_for-size.ensures (rw (← c.bytes_of-2.ensures) c.put_behind.ensures.bytes)
    (rw (c.len-start.ensures, c.self.inside.region.ok.0) refl))
