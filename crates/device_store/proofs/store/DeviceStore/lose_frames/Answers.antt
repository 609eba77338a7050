use Rattle.std.proofs.Common.{◌∙◌, ◌*◌, ◌<◌, refl, sym, ap, arith}
use Rattle.event_notes.specs.Loose.{is_loose_in}
use Rattle.device_store.specs.State.{state_of}
use Rattle.device_store.proofs.Losing.{over_none}
use Rattle.device_store.proofs.Passed.{gone, next_gone, all_gone}
use Rattle.device_store.proofs.store.DeviceStore.lose_frames.Goals as goal

pub loop-t-init : goal.loop-t-init
loop-t-init g c = record {
  number = refl;
  cylinders = refl;
  geometry = refl;
  volume = refl;
  half = refl;
  weight = refl;
  firm = c.requires.firm;
  low = omega arith;
  state = sym (over_none gone (state_of c.args.self.now));
}

pub lose_frame-requires-clause-track : goal.lose_frame-requires-clause-track
lose_frame-requires-clause-track g c = c.in-Some.ensures.1

pub loop-t-preserved : goal.loop-t-preserved
loop-t-preserved g c =
    let i = c.loop-t.invariant in
    let n = c.loop-t.self.cylinders * 15 in
    let t = c.in-Some.t in
    let here : t < n = c.in-Some.ensures.1 in
    let last = next_gone n c.loop-t.from t (state_of c.args.self.now) (state_of c.loop-t.self) i.state c.in-Some.ensures in record {
      number = c.lose_frame.ensures.leaves.number ∙ i.number;
      cylinders = c.lose_frame.ensures.leaves.cylinders ∙ i.cylinders;
      geometry = c.lose_frame.ensures.leaves.geometry ∙ i.geometry;
      volume = c.lose_frame.ensures.leaves.volume ∙ i.volume;
      half = c.lose_frame.ensures.leaves.half ∙ i.half;
      weight = c.lose_frame.ensures.weight ∙ i.weight;
      firm = λ t. ap (λ l. is_loose_in l.loose t) c.lose_frame.ensures.leaves.loose ∙ i.firm t;
      low = omega (arith, c.get-from.ensures.value, here, i.cylinders);
      state = c.lose_frame.ensures.state ∙ rw c.get-from.ensures.value last;
    }

pub returns-clause-state : goal.returns-clause-state
returns-clause-state g c =
    let i = c.loop-t.invariant in
    let z = state_of c.loop-t.self in
    all_gone (c.args.self.now.cylinders * 15) c.loop-t.from (state_of c.args.self.now) z i.low i.state
    (λ q low high. c.in_default.ensures q low (omega (arith, high, i.cylinders)))
