use Rattle.std.proofs.Common.{◌≡◌, ◌-◌, ◌<◌, length, get_or, sym, ◌∙◌, arith}
use Rattle.track_table.proofs.SparsePlaces.{entry_is, no_entry, number_inside}
use Rattle.track_table.proofs.table.TrackTable.get.Goals as goal

pub returns-then-number-eq0 : goal.returns-then-number-eq0
returns-then-number-eq0 g c = rw (← c.self.view_is)
    (sym (no_entry c.self.inside.index.items c.self.inside.entries.items c.args.t (sym c.number_of-number.ensures ∙ c.if-number-eq0.true)))

pub index-requires : goal.index-requires
index-requires g c =
    let within = number_inside (length c.self.inside.entries.items) c.self.inside.index.items c.self.inside.tracks.items c.args.t c.self.invariant.0
    (omega (arith, c.number_of-number.ensures, c.if-number-eq0.false)) in
    omega (arith, within, c.from.ensures, c.number_of-number.ensures)

pub returns : goal.returns
returns g c =
    let index = c.self.inside.index.items in
    let some : 0 < get_or index c.args.t 0 = omega (arith, c.number_of-number.ensures, c.if-number-eq0.false) in
    let place : c.from.result - 1 ≡ get_or index c.args.t 0 - 1 = omega (arith, c.number_of-number.ensures, c.from.ensures) in
    rw (← c.self.view_is)
    (entry_is index c.self.inside.tracks.items c.self.inside.entries.items c.args.t c.index.result.now c.self.invariant.0 some (rw (← place) c.index.ensures))
