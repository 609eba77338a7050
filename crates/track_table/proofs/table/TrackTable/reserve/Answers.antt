use Rattle.std.proofs.Common.{◌≡◌, ◌-◌, ◌+◌, ◌++◌, None, length, replicate, sym, ap, ◌∙◌, arith}
use Rattle.std.specs.Prelude.{Option, is_some}
use Rattle.std.proofs.lemmas.List.{append-nil, length-append, length-replicate}
use Rattle.track_table.proofs.Places.{more_places}
use Rattle.track_table.proofs.SparsePlaces.{length_places, more_sparse, wider_places}
use Rattle.track_table.proofs.table.TrackTable.reserve.Goals as goal

pub returns-in_err-make_room-clause-free : goal.returns-in_err-make_room-clause-free
returns-in_err-make_room-clause-free g c = rw (← c.self.view_is, length_places) (λ few. absurd (omega (arith, few, c.len-places.ensures, c.if-places-tracks.true)))

pub returns-in_err-make_room-2-clause-free : goal.returns-in_err-make_room-2-clause-free
returns-in_err-make_room-2-clause-free g c = rw (← c.self.view_is, length_places) (λ few. absurd (omega (arith, few, c.len-places.ensures, c.if-places-tracks.true)))

pub returns-in_err-make_room-3-clause-free : goal.returns-in_err-make_room-3-clause-free
returns-in_err-make_room-3-clause-free g c = rw (← c.self.view_is, length_places) (λ few. absurd (omega (arith, few, c.len-places.ensures, c.if-places-tracks.true)))

pub invariant_of-self-then-places-tracks : goal.invariant_of-self-then-places-tracks
invariant_of-self-then-places-tracks g c =
    let none : Option g.row.T.Denot = None in
    let index = c.self.inside.index.items in
    let entries = c.self.inside.entries.items in
    let n = c.args.tracks - c.len-places.result in
    let all : c.add_places.new.index.items ≡ index ++ replicate n 0 = rw c.in_ok-make_room-3.ensures.items at c.add_places.ensures in
    let long : length c.add_places.new.index.items ≡ c.args.tracks =
    ap length all ∙ length-append index (replicate n 0) ∙ ap (λ k. length index + k) (length-replicate n 0) ∙ omega (arith, c.len-places.ensures, c.if-places-tracks.true) in (
      rw (all, c.in_ok-make_room.ensures.items, c.in_ok-make_room-2.ensures.items)
          (more_sparse (length entries) index c.self.inside.tracks.items n c.self.invariant.0 (omega (arith, c.len-places.ensures, c.if-places-tracks.true, c.requires))),
      λ t. rw (all, c.in_ok-make_room.ensures.items, wider_places index entries n) (c.self.invariant.1 t ∙ sym (ap is_some (more_places _ n t none))),
      rw long c.in_ok-make_room.ensures.room,
      rw long c.in_ok-make_room-2.ensures.room,
    )

pub returns-in_ok-make_room-3-clause-made : goal.returns-in_ok-make_room-3-clause-made
returns-in_ok-make_room-3-clause-made g c =
    let index = c.self.inside.index.items in
    let n = c.args.tracks - c.len-places.result in
    let all : c.add_places.new.index.items ≡ index ++ replicate n 0 = rw c.in_ok-make_room-3.ensures.items at c.add_places.ensures in
    let more : n ≡ c.args.tracks - length index = omega (arith, c.len-places.ensures) in
    rw (← c.self.view_is, all, c.in_ok-make_room.ensures.items, length_places, ← more) (wider_places index c.self.inside.entries.items n)

pub returns-else-places-tracks-clause-made : goal.returns-else-places-tracks-clause-made
returns-else-places-tracks-clause-made g c =
    let none : c.args.tracks - length c.self.inside.index.items ≡ 0 = omega (arith, c.len-places.ensures, c.if-places-tracks.false) in
    rw (← c.self.view_is, length_places, none) (sym (append-nil _))
