use Rattle.std.proofs.Common.{◌≡◌, ◌-◌, ◌<◌, suc, None, length, get_or, sym, ◌∙◌, arith}
use Rattle.std.proofs.Math.ListN.{set}
use Rattle.std.proofs.lemmas.List.{length-set}
use Rattle.track_table.specs.Sparse.{places_of}
use Rattle.track_table.proofs.Places.{set_same}
use Rattle.track_table.proofs.SparsePlaces.{entry_is, gone_places, gone_sparse, last_number, last_read, length_places, marks_follow, no_entry, numbered_inside}
use Rattle.track_table.proofs.table.TrackTable.take.Goals as goal

pub returns-then-number-eq0-clause-now : goal.returns-then-number-eq0-clause-now
returns-then-number-eq0-clause-now g c =
    let none = no_entry c.self.inside.index.items c.self.inside.entries.items c.args.t (sym c.number_of-number.ensures ∙ c.if-number-eq0.true) in
    rw (← c.self.view_is) (set_same _ c.args.t None none)

pub returns-then-number-eq0-clause-was : goal.returns-then-number-eq0-clause-was
returns-then-number-eq0-clause-was g c = rw (← c.self.view_is)
    (sym (no_entry c.self.inside.index.items c.self.inside.entries.items c.args.t (sym c.number_of-number.ensures ∙ c.if-number-eq0.true)))

pub overflow_sub-len : goal.overflow_sub-len
overflow_sub-len g c =
    let number : get_or c.self.inside.index.items c.args.t 0 ≡ suc (c.from-entry.result - 1) = omega (arith, c.number_of-number.ensures, c.if-number-eq0.false, c.from-entry.ensures) in
    omega (arith, (c.self.invariant.0.leads c.args.t (c.from-entry.result - 1) number).0, c.self.invariant.0.whole, c.len.ensures)

pub index-requires : goal.index-requires
index-requires g c =
    let number : get_or c.self.inside.index.items c.args.t 0 ≡ suc (c.from-entry.result - 1) = omega (arith, c.number_of-number.ensures, c.if-number-eq0.false, c.from-entry.ensures) in
    omega (arith, (c.self.invariant.0.leads c.args.t (c.from-entry.result - 1) number).0, c.self.invariant.0.whole, c.len.ensures)

pub index_mut-requires : goal.index_mut-requires
index_mut-requires g c =
    let count = length c.self.inside.entries.items in
    let index = c.self.inside.index.items in
    let tracks = c.self.inside.tracks.items in
    let sparse = c.self.invariant.0 in
    let t = c.args.t in
    let i = c.from-entry.result - 1 in
    let last = c.index.result.now in
    let number : get_or index t 0 ≡ suc i = omega (arith, c.number_of-number.ensures, c.if-number-eq0.false, c.from-entry.ensures) in
    let end = last_read count index tracks t i c.len.result last sparse number (omega (arith, c.len.ensures)) c.index.ensures in
    let inside = numbered_inside index last (count - 1) (last_number count index tracks t i last sparse number end) in
    omega (arith, inside, c.from.ensures, c.get.ensures.value)

pub index_mut-requires-2 : goal.index_mut-requires-2
index_mut-requires-2 g c =
    let number : get_or c.self.inside.index.items c.args.t 0 ≡ suc (c.from-entry.result - 1) = omega (arith, c.number_of-number.ensures, c.if-number-eq0.false, c.from-entry.ensures) in
    omega (arith, numbered_inside c.self.inside.index.items c.args.t (c.from-entry.result - 1) number, c.from-2.ensures, c.get-2.ensures.value)

pub swap_remove-requires : goal.swap_remove-requires
swap_remove-requires g c =
    let number : get_or c.self.inside.index.items c.args.t 0 ≡ suc (c.from-entry.result - 1) = omega (arith, c.number_of-number.ensures, c.if-number-eq0.false, c.from-entry.ensures) in
    omega (arith, (c.self.invariant.0.leads c.args.t (c.from-entry.result - 1) number).0, c.self.invariant.0.whole)

pub invariant_of-self : goal.invariant_of-self
invariant_of-self g c =
    let count = length c.self.inside.entries.items in
    let index = c.self.inside.index.items in
    let tracks = c.self.inside.tracks.items in
    let sparse = c.self.invariant.0 in
    let t = c.args.t in
    let i = c.from-entry.result - 1 in
    let last = c.index.result.now in
    let number : get_or index t 0 ≡ suc i = omega (arith, c.number_of-number.ensures, c.if-number-eq0.false, c.from-entry.ensures) in
    let end = last_read count index tracks t i c.len.result last sparse number (omega (arith, c.len.ensures)) c.index.ensures in
    let last_is : c.from.result ≡ last = c.from.ensures ∙ c.get.ensures.value in
    let t_is : c.from-2.result ≡ t = c.from-2.ensures ∙ c.get-2.ensures.value in
    let number_is : c.number_of-number.result ≡ suc i = omega (arith, c.number_of-number.ensures, number) in
    let gone = c.swap_remove-2.ensures.items in
    let places = places_of index c.self.inside.entries.items in
    let later = set (set index last (suc i)) t 0 in
    let long : length later ≡ length index = length-set (set index last (suc i)) t 0 ∙ length-set index last (suc i) in (
      rw (last_is, t_is, number_is, c.swap_remove.ensures.items)
          (gone_sparse count (length c.swap_remove-2.new.self.items) index tracks t i last c.swap_remove.result sparse number end (omega (arith, c.swap_remove-2.ensures.len))),
      rw (last_is, t_is, number_is, gone, gone_places index tracks c.self.inside.entries.items t i last c.swap_remove-2.result sparse number end)
          (marks_follow c.self.inside.held c.set.new.self places t None (rw length_places (numbered_inside index t i number)) c.self.invariant.1 c.set.ensures.each),
      rw (last_is, t_is, number_is) (omega (arith, long, c.self.invariant.2, c.swap_remove-2.ensures.capacity)),
      rw (last_is, t_is, number_is) (omega (arith, long, c.self.invariant.3, c.swap_remove.ensures.capacity)),
    )

pub returns-clause-now : goal.returns-clause-now
returns-clause-now g c =
    let count = length c.self.inside.entries.items in
    let index = c.self.inside.index.items in
    let tracks = c.self.inside.tracks.items in
    let sparse = c.self.invariant.0 in
    let t = c.args.t in
    let i = c.from-entry.result - 1 in
    let last = c.index.result.now in
    let number : get_or index t 0 ≡ suc i = omega (arith, c.number_of-number.ensures, c.if-number-eq0.false, c.from-entry.ensures) in
    let end = last_read count index tracks t i c.len.result last sparse number (omega (arith, c.len.ensures)) c.index.ensures in
    let last_is : c.from.result ≡ last = c.from.ensures ∙ c.get.ensures.value in
    let t_is : c.from-2.result ≡ t = c.from-2.ensures ∙ c.get-2.ensures.value in
    let number_is : c.number_of-number.result ≡ suc i = omega (arith, c.number_of-number.ensures, number) in
    let gone = c.swap_remove-2.ensures.items in
    rw (← c.self.view_is, last_is, t_is, number_is, gone)
    (gone_places index tracks c.self.inside.entries.items t i last c.swap_remove-2.result sparse number end)

pub returns-clause-was : goal.returns-clause-was
returns-clause-was g c =
    let index = c.self.inside.index.items in
    let some : 0 < get_or index c.args.t 0 = omega (arith, c.number_of-number.ensures, c.if-number-eq0.false) in
    let place : c.from-entry.result - 1 ≡ get_or index c.args.t 0 - 1 = omega (arith, c.number_of-number.ensures, c.from-entry.ensures) in
    rw (← c.self.view_is)
    (entry_is index c.self.inside.tracks.items c.self.inside.entries.items c.args.t c.swap_remove-2.result c.self.invariant.0 some (rw (← place) c.swap_remove-2.ensures.value))
