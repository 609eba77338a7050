use Rattle.std.proofs.Common.{◌∙◌, refl, ap}
use Rattle.device_defs.specs.Contents.{contents}
use Rattle.device_store.specs.State.{state_of, outside_of}
use Rattle.device_store.proofs.Hearings.{hear_on, hear_over, hear_end}
use Rattle.device_store.proofs.store.DeviceStore.hear.Goals as goal

pub loop-turn-init : goal.loop-turn-init
loop-turn-init g c = record { number = refl; cylinders = refl; geometry = refl; half = refl; loose = refl; rest = λ k. record { ends = λ s a z ran. ran } }

pub loop-turn-preserved : goal.loop-turn-preserved
loop-turn-preserved g c = record {
  number = c.drop_noted.ensures.leaves.number ∙ c.loop-turn.invariant.number;
  cylinders = c.drop_noted.ensures.leaves.cylinders ∙ c.loop-turn.invariant.cylinders;
  geometry = c.drop_noted.ensures.leaves.geometry ∙ c.loop-turn.invariant.geometry;
  half = c.drop_noted.ensures.leaves.half ∙ c.loop-turn.invariant.half;
  loose = c.drop_noted.ensures.leaves.loose ∙ c.loop-turn.invariant.loose;
  rest = λ k. hear_on contents 960 c.loop-turn._turn c.in-Some.t (state_of c.loop-turn.self) c.loop-turn-test.true (c.loop-turn.invariant.rest k)
      c.in-Some.ensures c.drop_noted.ensures.state (ap (λ x. outside_of (g.P.Port.view c.next_notice.new.self) g.V.Volume.view x k)
      c.drop_noted.ensures.leaves.volume);
}

pub returns-in-None-clause-run : goal.returns-in-None-clause-run
returns-in-None-clause-run g c =
    λ k. hear_over contents 960 c.loop-turn._turn (state_of c.loop-turn.self) c.loop-turn-test.true (c.loop-turn.invariant.rest k) c.in-None.ensures

pub returns-clause-run : goal.returns-clause-run
returns-clause-run g c = λ k. hear_end contents 960 c.loop-turn._turn (state_of c.loop-turn.self) c.loop-turn-test.false (c.loop-turn.invariant.rest k)
