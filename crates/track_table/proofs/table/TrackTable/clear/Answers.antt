use Rattle.std.proofs.Common.{◌≡◌, false, length, vec_len, replicate, None, ap, sym, ◌∙◌, arith}
use Rattle.std.specs.Prelude.{Option, is_some}
use Rattle.std.proofs.lemmas.List.{length-replicate}
use Rattle.track_table.proofs.Places.{empty_places}
use Rattle.track_table.proofs.SparsePlaces.{empty_sparse, length_places, none_places}
use Rattle.track_table.proofs.table.TrackTable.clear.Goals as goal

pub invariant_of-self : goal.invariant_of-self
invariant_of-self g c =
    let n = vec_len c.self.inside.index in
    let none : Option g.row.T.Denot = None in
    let all : c.fill.new.self.items ≡ replicate n 0 = c.fill.ensures.items (λ y e. e) in
    let long = ap length all ∙ length-replicate n 0 in (
      rw (all, c.clear.ensures.items, c.clear-2.ensures.items) (empty_sparse n (omega (arith, c.self.invariant.0.few))),
      λ t. rw (all, c.clear.ensures.items, c.clear-3.ensures, none_places n) (empty_places 65535 t false ∙ sym (ap is_some (empty_places n t none))),
      omega (arith, long, c.clear.ensures.capacity, c.self.invariant.2),
      omega (arith, long, c.clear-2.ensures.capacity, c.self.invariant.3),
    )

pub returns : goal.returns
returns g c =
    let n = vec_len c.self.inside.index in
    let all : c.fill.new.self.items ≡ replicate n 0 = c.fill.ensures.items (λ y e. e) in
    let long : length c.self.inside.index.items ≡ n = omega arith in
    rw (← c.self.view_is, length_places, long, all, c.clear.ensures.items) (none_places n)
