use Rattle.std.proofs.Common.{◌≡◌, ◌∙◌, ◌*◌, ◌+◌, ℕ, refl, sym, arith}
use Rattle.device_outside.specs.Interaction.{and_then}
use Rattle.device_outside.specs.Outside.{done}
use Rattle.device_outside.proofs.Runs.{joined}
use Rattle.device_defs.specs.Contents.{contents}
use Rattle.device_defs.specs.Losses.{all_firm_told, firm_told, over, patch_lost, store_lost}
use Rattle.device_defs.specs.Store.{patch_at}
use Rattle.device_store.specs.Looks.{StoreOf}
use Rattle.device_store.specs.State.{state_of}
use Rattle.device_store.proofs.Marked.{has_place, none_some}
use Rattle.device_store.proofs.Moves.{from_equal}
use Rattle.device_store.proofs.Passed.{untold}
use Rattle.device_store.proofs.Skipping.{ran_to}
use Rattle.device_store.proofs.Sweeps.{sweep_more, sweep_none, at_patch_lost}
use Rattle.device_store.proofs.store.DeviceStore.lose_store.Goals as goal

abbrev lost : ℕ → StoreOf → StoreOf
lost t z = patch_lost contents t z

more : (s : StoreOf) (n : ℕ) → all_firm_told contents (n + 1) (over (n + 1) lost s)
    ≡ and_then (all_firm_told contents n (over n lost s)) (λ x _. firm_told contents n (lost n x))
more s n = sweep_more contents lost (λ q t ne y o. at_patch_lost contents t q o ne y) n s

pub loop-t-init : goal.loop-t-init
loop-t-init g c = record {
  number = refl;
  cylinders = refl;
  geometry = refl;
  volume = refl;
  half = refl;
  weight = refl;
  takes = c.requires.takes;
  low = omega arith;
  ran = λ p. from_equal (λ i. i) (sym (sweep_none contents lost (state_of c.args.self.now))) refl done;
}

pub lose_patch-requires-clause-track : goal.lose_patch-requires-clause-track
lose_patch-requires-clause-track g c =
    let t = c.in-Some.t in
    let here = has_place c.loop-t.self.patches t (sym (c.patched_tracks.ensures t) ∙ c.in-Some.ensures.2) in
    omega (arith, here, c.loop-t.self.patch_of_each)

pub loop-t-preserved : goal.loop-t-preserved
loop-t-preserved g c =
    let i = c.loop-t.invariant in
    let s = state_of c.args.self.now in
    let z = state_of c.loop-t.self in
    let t = c.in-Some.t in
    let here = has_place c.loop-t.self.patches t (sym (c.patched_tracks.ensures t) ∙ c.in-Some.ensures.2) in record {
      number = c.lose_patch.ensures.leaves.number ∙ i.number;
      cylinders = c.lose_patch.ensures.leaves.cylinders ∙ i.cylinders;
      geometry = c.lose_patch.ensures.leaves.geometry ∙ i.geometry;
      volume = c.lose_patch.ensures.volume ∙ i.volume;
      half = c.lose_patch.ensures.leaves.half ∙ i.half;
      weight = c.lose_patch.ensures.leaves.weight ∙ i.weight;
      takes = c.lose_patch.ensures.takes;
      low = omega (arith, c.get-from.ensures.value, here, c.loop-t.self.patch_of_each, i.cylinders);
      ran = λ p. rw c.get-from.ensures.value (from_equal (λ i. i) (sym (more s t)) refl (joined (λ x _. firm_told contents t (lost t x))
          (ran_to (λ n. all_firm_told contents n (over n lost s)) (λ n x. firm_told contents n (lost n x)) (more s) c.loop-t.from t c.in-Some.ensures.0 (i.ran p)
          (λ q low high. untold q z (none_some (patch_at z q) (sym (c.patched_tracks.ensures q) ∙ c.in-Some.ensures.3 q low high)) (c.no_firm.ensures q)))
          (c.lose_patch.ensures.run p)));
    }

pub returns-clause-run : goal.returns-clause-run
unfolding store_lost
returns-clause-run g c =
    let i = c.loop-t.invariant in
    let s = state_of c.args.self.now in
    let z = state_of c.loop-t.self in
    λ p. ran_to (λ n. all_firm_told contents n (over n lost s)) (λ n x. firm_told contents n (lost n x)) (more s) c.loop-t.from (c.args.self.now.cylinders * 15)
    i.low (i.ran p) (λ q low high. untold q z (none_some (patch_at z q) (sym (c.patched_tracks.ensures q) ∙ c.in_default.ensures q low)) (c.no_firm-2.ensures q))
