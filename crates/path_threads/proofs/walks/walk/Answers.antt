use Rattle.std.proofs.Common.{ℕ, refl, sym, subst, ◌∙◌, arith}
use Rattle.std.specs.Prelude.{slice_index_or}
use Rattle.device_turn.specs.Seating.{IsAt}
use Rattle.device_turn.proofs.Zips.{zip_at, zip_set}
use Rattle.path_threads.proofs.Walking.{rests_at, zip_long}
use Rattle.path_threads.proofs.walks.walk.Goals as goal

pub index_mut-requires : goal.index_mut-requires
index_mut-requires g c =
    let l = zip_long (IsAt c.args.path) c.args.turns.now c.loop-i.seats.items c.loop-i.invariant.1 in
    let t = c.loop-i-test.true in
    let k = c.loop-i.seats.ok.0 in
    omega (arith, l, t, k)

pub visit-requires : goal.visit-requires
visit-requires g c =
    let at = zip_at (IsAt c.args.path) c.args.turns.now c.loop-i.seats.items c.loop-i.i c.index-turns-i.result c.index_mut.result.now c.loop-i.invariant.1
    c.loop-i-test.true in
    let first = subst (λ t. IsAt c.args.path t (slice_index_or c.loop-i.seats.items c.loop-i.i c.index_mut.result.now)) (sym c.index-turns-i.is) at in
    let own = subst (λ s. IsAt c.args.path c.index-turns-i.result s) (sym c.index_mut.ensures.value) first in
    record { at = subst (λ (n : ℕ). IsAt n c.index-turns-i.result c.index_mut.result.now) (sym c.loop-i.invariant.0) own }

pub loop-i-preserved : goal.loop-i-preserved
loop-i-preserved g c =
    let at = zip_at (IsAt c.args.path) c.args.turns.now c.loop-i.seats.items c.loop-i.i c.index-turns-i.result c.index_mut.result.now c.loop-i.invariant.1
    c.loop-i-test.true in
    let own = subst (λ s. IsAt c.args.path (slice_index_or c.args.turns.now c.loop-i.i c.index-turns-i.result) s) (sym c.index_mut.ensures.value) at in
    let rests = rests_at c.args.path (slice_index_or c.args.turns.now c.loop-i.i c.index-turns-i.result) c.index_mut.result.now c.visit.new.seat own
    c.in_ok-done.ensures.rests in (
      c.visit.ensures.path ∙ c.loop-i.invariant.0,
      zip_set (IsAt c.args.path) c.args.turns.now c.loop-i.seats.items c.loop-i.i c.index-turns-i.result c.visit.new.seat c.loop-i.invariant.1 rests,
      refl,
    )

pub returns-then-not-done : goal.returns-then-not-done
returns-then-not-done g c =
    let at = zip_at (IsAt c.args.path) c.args.turns.now c.loop-i.seats.items c.loop-i.i c.index-turns-i.result c.index_mut.result.now c.loop-i.invariant.1
    c.loop-i-test.true in
    let own = subst (λ s. IsAt c.args.path (slice_index_or c.args.turns.now c.loop-i.i c.index-turns-i.result) s) (sym c.index_mut.ensures.value) at in
    let rests = rests_at c.args.path (slice_index_or c.args.turns.now c.loop-i.i c.index-turns-i.result) c.index_mut.result.now c.visit.new.seat own
    c.in_ok-done.ensures.rests in
    zip_set (IsAt c.args.path) c.args.turns.now c.loop-i.seats.items c.loop-i.i c.index-turns-i.result c.visit.new.seat c.loop-i.invariant.1 rests
