use Rattle.std.proofs.Common.{◌≡◌, ◌∙◌, ◌*◌, refl, sym, arith}
use Rattle.device_outside.specs.Outside.{done}
use Rattle.device_outside.proofs.Runs.{joined}
use Rattle.device_defs.specs.Contents.{contents}
use Rattle.device_defs.specs.Losses.{all_firm_told, firm_told, over, settled_but}
use Rattle.device_store.specs.State.{state_of}
use Rattle.device_store.proofs.Moves.{from_equal}
use Rattle.device_store.proofs.Sweeps.{sweep_more, sweep_none, at_settled_but}
use Rattle.device_store.proofs.store.DeviceStore.settle_all.Goals as goal

pub loop-t-init : goal.loop-t-init
loop-t-init g c = record {
  number = refl;
  cylinders = refl;
  geometry = refl;
  volume = refl;
  half = refl;
  weight = refl;
  firm = λ q e. e;
  takes = c.requires.takes;
  ran = λ p. from_equal (λ i. i) (sym (sweep_none contents (settled_but contents c.args.writing.now) (state_of c.args.self.now))) refl done;
}

pub loop-t-preserved : goal.loop-t-preserved
loop-t-preserved g c = record {
  number = c.settle_other.ensures.leaves.number ∙ c.loop-t.invariant.number;
  cylinders = c.settle_other.ensures.leaves.cylinders ∙ c.loop-t.invariant.cylinders;
  geometry = c.settle_other.ensures.leaves.geometry ∙ c.loop-t.invariant.geometry;
  volume = c.settle_other.ensures.volume ∙ c.loop-t.invariant.volume;
  half = c.settle_other.ensures.leaves.half ∙ c.loop-t.invariant.half;
  weight = c.settle_other.ensures.leaves.weight ∙ c.loop-t.invariant.weight;
  firm = λ q e. c.settle_other.ensures.firm q (c.loop-t.invariant.firm q e);
  takes = c.settle_other.ensures.takes;
  ran = λ p. from_equal (λ i. i)
      (sym (sweep_more contents (settled_but contents c.args.writing.now) (λ q t ne y o. at_settled_but contents t q o ne y c.args.writing.now) c.loop-t.t
      (state_of c.args.self.now))) refl
      (joined (λ x _. firm_told contents c.loop-t.t (settled_but contents c.args.writing.now c.loop-t.t x)) (c.loop-t.invariant.ran p)
      (from_equal (λ n. firm_told contents n (settled_but contents c.args.writing.now n (state_of c.loop-t.self))) c.track.ensures refl
      (c.settle_other.ensures.run p)));
}

pub returns-clause-run : goal.returns-clause-run
returns-clause-run g c =
    let all : c.loop-t.t ≡ c.args.self.now.cylinders * 15 = omega (arith, c.loop-t-test.false, c.loop-t.auto.t-end) in
    λ p. from_equal (λ n. all_firm_told contents n (over n (settled_but contents c.args.writing.now) (state_of c.args.self.now))) all refl
    (c.loop-t.invariant.ran p)
