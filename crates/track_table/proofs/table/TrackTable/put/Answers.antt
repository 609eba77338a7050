use Rattle.std.proofs.Common.{◌≡◌, ◌-◌, ◌<◌, suc, length, get_or, sym, arith}
use Rattle.std.proofs.lemmas.List.{length-set}
use Rattle.track_table.specs.Sparse.{places_of}
use Rattle.track_table.proofs.SparsePlaces.{changed_places, entry_is, length_places, no_entry, number_inside, numbered_inside, still_marked}
use Rattle.track_table.proofs.table.TrackTable.put.Goals as goal

pub index_mut-requires : goal.index_mut-requires
index_mut-requires g c =
    let within = number_inside (length c.self.inside.entries.items) c.self.inside.index.items c.self.inside.tracks.items c.args.t c.self.invariant.0
    (omega (arith, c.number_of-number.ensures, c.if-number-gt0.true)) in
    omega (arith, within, c.from.ensures, c.number_of-number.ensures)

pub invariant_of-self : goal.invariant_of-self
invariant_of-self g c =
    let index = c.self.inside.index.items in
    let entries = c.self.inside.entries.items in
    let t = c.args.t in
    let i = c.from.result - 1 in
    let number : get_or index t 0 ≡ suc i = omega (arith, c.number_of-number.ensures, c.if-number-gt0.true, c.from.ensures) in
    let place : i ≡ get_or index t 0 - 1 = omega (arith, number) in
    let some : 0 < get_or index t 0 = omega (arith, number) in
    let there = entry_is index c.self.inside.tracks.items entries t c.index_mut.result.now c.self.invariant.0 some (rw (← place) c.index_mut.ensures.value) in
    let inside = numbered_inside index t i number in (
      rw (length-set entries i c.replace.new.dest) c.self.invariant.0,
      rw (changed_places index c.self.inside.tracks.items entries t i c.replace.new.dest c.self.invariant.0 number)
          (still_marked c.self.inside.held (places_of index entries) t c.index_mut.result.now c.replace.new.dest (rw length_places inside) there c.self.invariant.1),
      omega (arith, c.self.invariant.2),
      c.self.invariant.3,
    )

pub returns-then-number-gt0-clause-now : goal.returns-then-number-gt0-clause-now
returns-then-number-gt0-clause-now g c =
    let index = c.self.inside.index.items in
    let number : get_or index c.args.t 0 ≡ suc (c.from.result - 1) = omega (arith, c.number_of-number.ensures, c.if-number-gt0.true, c.from.ensures) in
    rw (← c.self.view_is, ← c.replace.ensures.after)
    (changed_places index c.self.inside.tracks.items c.self.inside.entries.items c.args.t (c.from.result - 1) c.replace.new.dest c.self.invariant.0 number)

pub returns-then-number-gt0-clause-was : goal.returns-then-number-gt0-clause-was
returns-then-number-gt0-clause-was g c =
    let index = c.self.inside.index.items in
    let some : 0 < get_or index c.args.t 0 = omega (arith, c.number_of-number.ensures, c.if-number-gt0.true) in
    let place : c.from.result - 1 ≡ get_or index c.args.t 0 - 1 = omega (arith, c.number_of-number.ensures, c.from.ensures) in
    rw (← c.self.view_is, c.replace.ensures.value)
    (entry_is index c.self.inside.tracks.items c.self.inside.entries.items c.args.t c.index_mut.result.now c.self.invariant.0 some (rw (← place) c.index_mut.ensures.value))

pub add-requires : goal.add-requires
add-requires g c = rw (← c.self.view_is) (no_entry c.self.inside.index.items c.self.inside.entries.items c.args.t (omega (arith, c.number_of-number.ensures, c.if-number-gt0.false)))

pub returns-clause-was : goal.returns-clause-was
returns-clause-was g c = rw (← c.self.view_is)
    (sym (no_entry c.self.inside.index.items c.self.inside.entries.items c.args.t (omega (arith, c.number_of-number.ensures, c.if-number-gt0.false))))
