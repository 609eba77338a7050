use Rattle.std.proofs.Common.{refl, sym, subst, arith}
use Rattle.std.specs.Prelude.{slice_index_or}
use Rattle.device_turn.specs.Seating.{IsAt}
use Rattle.device_turn.proofs.Zips.{zip_at, zip_set}
use Rattle.path_threads.proofs.Walking.{rests_at, zip_long}
use Rattle.path_threads.proofs.walks.round.Goals as goal

pub bounds-seats-i : goal.bounds-seats-i
bounds-seats-i g c = let l = zip_long (IsAt 5) c.args.turns.now c.loop-i.seats c.loop-i.invariant.0 in let t = c.loop-i-test.true in omega (arith, l, t)

pub background_turn-requires : goal.background_turn-requires
background_turn-requires g c = record {
  at = subst (λ t. IsAt 5 t (slice_index_or c.loop-i.seats c.loop-i.i c.index-seats-i.result)) (sym c.index-turns-i.is)
      (zip_at (IsAt 5) c.args.turns.now c.loop-i.seats c.loop-i.i c.index-turns-i.result c.index-seats-i.result c.loop-i.invariant.0 c.loop-i-test.true);
}

pub loop-i-preserved : goal.loop-i-preserved
loop-i-preserved g c =
    let at = zip_at (IsAt 5) c.args.turns.now c.loop-i.seats c.loop-i.i c.index-turns-i.result c.index-seats-i.result c.loop-i.invariant.0 c.loop-i-test.true in
    let rests = rests_at 5 (slice_index_or c.args.turns.now c.loop-i.i c.index-turns-i.result) (slice_index_or c.loop-i.seats c.loop-i.i c.index-seats-i.result)
    c.background_turn.new.seat at c.in_ok-now.ensures.rests in
    (zip_set (IsAt 5) c.args.turns.now c.loop-i.seats c.loop-i.i c.index-turns-i.result c.background_turn.new.seat c.loop-i.invariant.0 rests, refl)
