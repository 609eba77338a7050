use Rattle.std.proofs.Common.{false, None, ap, sym, ◌∙◌, arith}
use Rattle.std.specs.Prelude.{Option, is_some}
use Rattle.track_table.proofs.Places.{empty_places}
use Rattle.track_table.proofs.SparsePlaces.{empty_sparse, none_places}
use Rattle.track_table.proofs.table.TrackTable.new.Goals as goal

pub invariant_of-result : goal.invariant_of-result
invariant_of-result g c =
    let none : Option g.row.T.Denot = None in (
      rw (c.new.ensures.items, c.new-2.ensures.items, c.new-3.ensures.items) (empty_sparse 0 (omega arith)),
      λ t. rw (c.new.ensures.items, c.new-2.ensures.items, c.in_ok-new.ensures, none_places 0) (empty_places 65535 t false ∙ sym (ap is_some (empty_places 0 t none))),
      omega (arith, c.new.ensures.len),
      omega (arith, c.new.ensures.len),
    )

pub returns : goal.returns
returns g c = rw (c.new.ensures.items, c.new-2.ensures.items) (none_places 0)
