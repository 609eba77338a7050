use Rattle.std.proofs.Common.{◌≡◌, ◌-◌, suc, length, get_or, refl, arith}
use Rattle.std.proofs.lemmas.List.{length-set}
use Rattle.track_table.specs.Sparse.{places_of}
use Rattle.track_table.proofs.SparsePlaces.{changed_places, entry_is, length_places, number_inside, numbered_inside, some_number, still_marked}
use Rattle.track_table.proofs.table.TrackTable.entry_mut.Goals as goal

pub overflow_sub-entry : goal.overflow_sub-entry
overflow_sub-entry g c =
    let some = some_number c.self.inside.index.items c.self.inside.entries.items c.args.t (rw c.self.view_is c.requires) in
    omega (arith, some, c.number_of.ensures, c.from-entry.ensures)

pub index_mut-requires : goal.index_mut-requires
index_mut-requires g c =
    let index = c.self.inside.index.items in
    let some = some_number index c.self.inside.entries.items c.args.t (rw c.self.view_is c.requires) in
    let within = number_inside (length c.self.inside.entries.items) index c.self.inside.tracks.items c.args.t c.self.invariant.0 some in
    omega (arith, within, c.number_of.ensures, c.from-entry.ensures)

pub invariant_of-self-lent : goal.invariant_of-self-lent
invariant_of-self-lent g c w =
    let index = c.self.inside.index.items in
    let entries = c.self.inside.entries.items in
    let t = c.args.t in
    let i = c.from-entry.result - 1 in
    let some = some_number index entries t (rw c.self.view_is c.requires) in
    let place : i ≡ get_or index t 0 - 1 = omega (arith, c.number_of.ensures, c.from-entry.ensures) in
    let number : get_or index t 0 ≡ suc i = omega (arith, some, place) in
    let there = entry_is index c.self.inside.tracks.items entries t c.index_mut.result.now c.self.invariant.0 some (rw (← place) c.index_mut.ensures.value) in
    let inside = numbered_inside index t i number in (
      rw (length-set entries i w) c.self.invariant.0,
      rw (changed_places index c.self.inside.tracks.items entries t i w c.self.invariant.0 number)
          (still_marked c.self.inside.held (places_of index entries) t c.index_mut.result.now w (rw length_places inside) there c.self.invariant.1),
      omega (arith, c.self.invariant.2),
      c.self.invariant.3,
    )

pub returns : goal.returns
returns g c =
    let index = c.self.inside.index.items in
    let entries = c.self.inside.entries.items in
    let t = c.args.t in
    let i = c.from-entry.result - 1 in
    let some = some_number index entries t (rw c.self.view_is c.requires) in
    let place : i ≡ get_or index t 0 - 1 = omega (arith, c.number_of.ensures, c.from-entry.ensures) in
    let number : get_or index t 0 ≡ suc i = omega (arith, some, place) in (
      (refl {a = c.index_mut.result.ghost_name}, λ w. rw (← c.self.view_is) (changed_places index c.self.inside.tracks.items entries t i w c.self.invariant.0 number)),
      record {
        writes_back = tt;
        value = rw (← c.self.view_is)
            (entry_is index c.self.inside.tracks.items entries t c.index_mut.result.now c.self.invariant.0 some (rw (← place) c.index_mut.ensures.value));
      },
    )
