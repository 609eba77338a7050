use Rattle.std.proofs.Common.{◌≡◌, ap, length, List, ℕ, ◌∙◌, refl, arith}
use Rattle.std.proofs.lemmas.Grind.{common_steps}
use Rattle.std.proofs.lemmas.List.{length-replicate}
use Rattle.disk_image.proofs.Found.{faults_push, no_faults}
use Rattle.disk_image.proofs.volume.find_bad.Goals as goal

pub loop-n-init : goal.loop-n-init
loop-n-init g c = record {
  so = no_faults _ c.args.layout.geometry _ c.new-found.ensures.items;
  held = refl;
  size = ap (λ (l : List ℕ). length l) c.in_ok-room.ensures ∙ length-replicate _ _;
  later = omega arith;
}

pub loop-n-preserved : goal.loop-n-preserved
loop-n-preserved g c =
    let is : c.unwrap-t.result ≡ c.loop-n.n = grind (arith, common_steps) in
    record {
      so = faults_push _ _ _ c.loop-n.n _ _ _ c.loop-n.invariant.held is c.loop-n.invariant.so c.in_ok-note_bad.ensures.noted;
      held = c.in_ok-note_bad.ensures.held ∙ c.loop-n.invariant.held;
      size = c.in_ok-note_bad.ensures.size ∙ c.loop-n.invariant.size;
      later = omega (arith, c.loop-n.invariant.later, c.in_ok-note_bad.ensures.later);
    }
