use Rattle.std.proofs.Common.{◌≡◌, ◌≤◌, ◌<◌, ◌+◌, Some, length, sym, ◌∙◌, arith}
use Rattle.std.proofs.lemmas.List.{length-set, length_push, set_past}
use Rattle.track_table.specs.Sparse.{places_of}
use Rattle.track_table.proofs.SparsePlaces.{added_places, added_sparse, length_places, marks_follow, no_number}
use Rattle.track_table.proofs.Pigeonhole.{few_entries}
use Rattle.track_table.proofs.table.TrackTable.add.Goals as goal

pub returns-then-len-place : goal.returns-then-len-place
returns-then-len-place g c =
    let past : length c.self.inside.index.items ≤ c.args.t = omega (arith, c.len.ensures, c.if-len-place.true, c.from-place.ensures, c.get.ensures.value) in
    rw (← c.self.view_is) (sym (set_past _ c.args.t _ (rw length_places past)))

-- fewer entries than places
pub overflow_cast-len : goal.overflow_cast-len
overflow_cast-len g c =
    let index = c.self.inside.index.items in
    let inside : c.args.t < length index = omega (arith, c.len.ensures, c.if-len-place.false, c.from-place.ensures, c.get.ensures.value) in
    let room = few_entries (length c.self.inside.entries.items) index c.self.inside.tracks.items c.args.t c.self.invariant.0 inside
    (no_number index c.self.inside.tracks.items c.self.inside.entries.items c.args.t c.self.invariant.0 (rw c.self.view_is c.requires)) in
    omega (arith, room, c.len-2.ensures, c.self.invariant.0.few)

pub push_reserved-requires : goal.push_reserved-requires
push_reserved-requires g c =
    let index = c.self.inside.index.items in
    let inside : c.args.t < length index = omega (arith, c.len.ensures, c.if-len-place.false, c.from-place.ensures, c.get.ensures.value) in
    let room = few_entries (length c.self.inside.entries.items) index c.self.inside.tracks.items c.args.t c.self.invariant.0 inside
    (no_number index c.self.inside.tracks.items c.self.inside.entries.items c.args.t c.self.invariant.0 (rw c.self.view_is c.requires)) in
    omega (arith, room, c.self.invariant.2)

pub push_reserved-requires-2 : goal.push_reserved-requires-2
push_reserved-requires-2 g c =
    let index = c.self.inside.index.items in
    let inside : c.args.t < length index = omega (arith, c.len.ensures, c.if-len-place.false, c.from-place.ensures, c.get.ensures.value) in
    let room = few_entries (length c.self.inside.entries.items) index c.self.inside.tracks.items c.args.t c.self.invariant.0 inside
    (no_number index c.self.inside.tracks.items c.self.inside.entries.items c.args.t c.self.invariant.0 (rw c.self.view_is c.requires)) in
    omega (arith, room, c.self.invariant.3, c.self.invariant.0.whole)

pub invariant_of-self : goal.invariant_of-self
invariant_of-self g c =
    let index = c.self.inside.index.items in
    let tracks = c.self.inside.tracks.items in
    let entries = c.self.inside.entries.items in
    let sparse = c.self.invariant.0 in
    let t = c.args.t in
    let n = c.len-2.result + 1 in
    let here : c.from-place.result ≡ t = c.from-place.ensures ∙ c.get.ensures.value in
    let inside : t < length index = omega (arith, c.len.ensures, c.if-len-place.false, here) in
    let none = no_number index tracks entries t sparse (rw c.self.view_is c.requires) in
    let number : n ≡ length entries + 1 = omega (arith, c.len-2.ensures) in
    let long = length-set index t n in
    let entered = c.push_reserved.ensures.items in (
      rw (here, entered, c.push_reserved-2.ensures.items, length_push entries c.args.entry) (added_sparse (length entries) index tracks t n sparse inside none number),
      rw (here, entered, added_places index tracks entries t n c.args.entry sparse inside number)
          (marks_follow c.self.inside.held c.set.new.self (places_of index entries) t (Some c.args.entry) (rw length_places inside) c.self.invariant.1 c.set.ensures.each),
      rw here (omega (arith, long, c.self.invariant.2, c.push_reserved.ensures.capacity)),
      rw here (omega (arith, long, c.self.invariant.3, c.push_reserved-2.ensures.capacity)),
    )

pub returns : goal.returns
returns g c =
    let index = c.self.inside.index.items in
    let here : c.from-place.result ≡ c.args.t = c.from-place.ensures ∙ c.get.ensures.value in
    let inside : c.args.t < length index = omega (arith, c.len.ensures, c.if-len-place.false, here) in
    rw (← c.self.view_is, here, c.push_reserved.ensures.items)
    (added_places index c.self.inside.tracks.items c.self.inside.entries.items c.args.t (c.len-2.result + 1) c.args.entry c.self.invariant.0 inside (omega (arith, c.len-2.ensures)))
