use Rattle.std.proofs.Common.{◌∙◌, refl, sym, ap}
use Rattle.std.specs.Prelude.{is_some}
use Rattle.device_defs.specs.Contents.{contents}
use Rattle.device_defs.specs.Orders.{given_up}
use Rattle.device_store.specs.State.{state_of}
use Rattle.device_store.proofs.Losing.{over_more, over_none}
use Rattle.device_store.proofs.store.DeviceStore.give_up_all.Goals as goal

pub loop-t-init : goal.loop-t-init
loop-t-init g c = record {
  number = refl;
  cylinders = refl;
  geometry = refl;
  volume = refl;
  half = refl;
  loose = refl;
  state = sym (over_none (given_up contents) (state_of c.args.self.now));
}

pub loop-t-preserved : goal.loop-t-preserved
loop-t-preserved g c = record {
  number = c.give_up.ensures.leaves.number ∙ c.loop-t.invariant.number;
  cylinders = c.give_up.ensures.leaves.cylinders ∙ c.loop-t.invariant.cylinders;
  geometry = c.give_up.ensures.leaves.geometry ∙ c.loop-t.invariant.geometry;
  volume = c.give_up.ensures.volume ∙ c.loop-t.invariant.volume;
  half = c.give_up.ensures.leaves.half ∙ c.loop-t.invariant.half;
  loose = c.give_up.ensures.leaves.loose ∙ c.loop-t.invariant.loose;
  state = c.give_up.ensures.state ∙ ap (λ n. given_up contents n (state_of c.loop-t.self)) c.track.ensures
      ∙ ap (given_up contents c.loop-t.t) c.loop-t.invariant.state
      ∙ sym (over_more (given_up contents) c.loop-t.t (state_of c.args.self.now));
}

pub give_up-requires-clause-away : goal.give_up-requires-clause-away
give_up-requires-clause-away g c = ap (λ p. is_some p.lent) c.loop-t.invariant.volume ∙ c.requires
