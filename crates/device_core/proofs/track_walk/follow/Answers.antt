use Rattle.std.proofs.Common.{◌≡◌, ◌∙◌, refl, subst, ap, sym}
use Rattle.std.specs.Prelude.{is_some}
use Rattle.event_notes.specs.Loose.{weight}
use Rattle.device_core.proofs.Halves.{none_by}
use Rattle.device_outside.proofs.Runs.{ran_weaker}
use Rattle.device_defs.specs.Contents.{contents}
use Rattle.device_store.specs.State.{state_of}
use Rattle.device_core.specs.TrackWalk.{Left, GoesOn, KeepsWeight, is_half_over}
use Rattle.device_core.proofs.track_walk.follow.Goals as goal
use Rattle.std.proofs.Common.{◌*◌}
use Rattle.device_core.proofs.Rests.{rest_first, rest_on, rest_over, rest_lacked, rest_none}

pub look-requires-clause-track : goal.look-requires-clause-track
look-requires-clause-track g c = rw c.loop-turn.invariant.cylinders c.loop-turn.invariant.inside

pub look-requires-clause-at : goal.look-requires-clause-at
look-requires-clause-at g c = rw c.loop-turn.invariant.cylinders c.loop-turn.invariant.at

pub loop-turn-init : goal.loop-turn-init
loop-turn-init g c = record {
  number = refl;
  cylinders = refl;
  geometry = refl;
  loose = refl;
  none = c.requires.none;
  takes = c.requires.takes;
  at = c.requires.at;
  hand = record { again = refl };
  inside = c.requires.track;
  rest = rest_first contents (c.args.store.now.cylinders * 15) c.args.first _ _ _ _;
  lacks = rest_first contents (c.args.store.now.cylinders * 15) c.args.first _ _ _ _;
}

pub loop-turn-preserved : goal.loop-turn-preserved
loop-turn-preserved g c =
    let goes = subst (λ n. GoesOn n c.loop-turn.chain c.look.new.chain c.in-Ok.step) c.loop-turn.invariant.cylinders c.in-Ok.ensures.goes in
    let on = subst (λ x. GoesOn c.args.store.now.cylinders c.loop-turn.chain c.look.new.chain x) c.in-On.is goes in
    let same = subst (λ x. KeepsWeight (weight c.loop-turn.store.loose) c.look.new.store.loose x) c.in-On.is c.in-Ok.ensures.on in
    let ran = rw c.in-On.is at c.in-Ok.ensures.run in
    record {
      number = c.in-Ok.ensures.fixed.0 ∙ c.loop-turn.invariant.number;
      cylinders = c.in-Ok.ensures.fixed.1 ∙ c.loop-turn.invariant.cylinders;
      geometry = c.in-Ok.ensures.fixed.2 ∙ c.loop-turn.invariant.geometry;
      loose = same ∙ c.loop-turn.invariant.loose;
      none = none_by c.look.new.store.half (subst (λ x. is_some c.look.new.store.half ≡ is_half_over x) c.in-On.is c.in-Ok.ensures.half);
      takes = c.in-Ok.ensures.takes;
      at = on.0;
      hand = record { again = on.1.again ∙ c.loop-turn.invariant.hand.again };
      inside = on.2;
      rest = rest_on contents (c.args.store.now.cylinders * 15) c.loop-turn._turn c.args.first c.loop-turn.chain c.loop-turn.t (state_of c.loop-turn.store)
          c.loop-turn.invariant.rest (rw (c.from.ensures, c.from-2.ensures) at c.loop-turn-test.true) ran;
      lacks = rest_on contents (c.args.store.now.cylinders * 15) c.loop-turn._turn c.args.first c.loop-turn.chain c.loop-turn.t (state_of c.loop-turn.store)
          c.loop-turn.invariant.lacks (rw (c.from.ensures, c.from-2.ensures) at c.loop-turn-test.true) (ran_weaker (λ ok e. tt) ran);
    }

pub returns-in-Over-clause-run : goal.returns-in-Over-clause-run
returns-in-Over-clause-run g c =
    rest_over contents (c.args.store.now.cylinders * 15) c.loop-turn._turn c.args.first c.loop-turn.chain c.loop-turn.t (state_of c.loop-turn.store)
    c.loop-turn.invariant.rest (rw (c.from.ensures, c.from-2.ensures) at c.loop-turn-test.true) (rw c.in-Over.is at c.in-Ok.ensures.run)

pub returns-in-Err-clause-run : goal.returns-in-Err-clause-run
returns-in-Err-clause-run g c =
    rest_lacked contents (c.args.store.now.cylinders * 15) c.loop-turn._turn c.args.first c.loop-turn.chain c.loop-turn.t (state_of c.loop-turn.store)
    c.loop-turn.invariant.lacks (rw (c.from.ensures, c.from-2.ensures) at c.loop-turn-test.true) c.in-Err.ensures.run

pub returns-clause-run : goal.returns-clause-run
returns-clause-run g c =
    rw c.check.ensures.turn (rest_none contents (c.args.store.now.cylinders * 15) c.loop-turn._turn c.args.first c.loop-turn.chain c.loop-turn.t
    (state_of c.loop-turn.store) c.loop-turn.invariant.rest (rw (c.from.ensures, c.from-2.ensures) at c.loop-turn-test.false))

pub returns-in-Err-clause-hand : goal.returns-in-Err-clause-hand
returns-in-Err-clause-hand g c = record { again = c.in-Err.ensures.hand.again ∙ c.loop-turn.invariant.hand.again }

pub returns-in-Over-clause-left : goal.returns-in-Over-clause-left
returns-in-Over-clause-left g c =
    let goes = subst (λ n. GoesOn n c.loop-turn.chain c.look.new.chain c.in-Ok.step) c.loop-turn.invariant.cylinders c.in-Ok.ensures.goes in
    subst (λ x. GoesOn c.args.store.now.cylinders c.loop-turn.chain c.look.new.chain x) c.in-Over.is goes

pub returns-clause-left : goal.returns-clause-left
returns-clause-left g c =
    subst (λ n. Left n c.check.new.chain c.check.result) c.loop-turn.invariant.at.cylinders_are c.check.ensures.left

pub returns-in-Over-clause-half : goal.returns-in-Over-clause-half
returns-in-Over-clause-half g c = subst (λ x. is_some c.look.new.store.half ≡ is_half_over x) c.in-Over.is c.in-Ok.ensures.half

pub returns-clause-half : goal.returns-clause-half
returns-clause-half g c = ap is_some c.loop-turn.invariant.none ∙ sym c.check.ensures.half
