use Rattle.std.proofs.Common.{◌≡◌, ◌*◌, ◌<◌, ap, length, sym, ◌∙◌, refl, arith, ℕ}
use Rattle.std.proofs.lemmas.Grind.{common_steps}
use Rattle.std.proofs.lemmas.Result.{err_from_is_err_and}
use Rattle.std.proofs.lemmas.List.{length-set}
use Rattle.volume_file.specs.File.{ImageVolume}
use Rattle.disk_image.proofs.Found.{bad_first, bad_unloaded, good_push, tracks_push}
use Rattle.disk_image.proofs.volume.load_volume.Goals as goal

pub returns-in_err-image-clause-bad : goal.returns-in_err-image-clause-bad
returns-in_err-image-clause-bad g c =
    let p = err_from_is_err_and c.from_residual-in_err-image.result c.from_residual-in_err-image.ensures.1 in
    let is : c.unwrap-t.result ≡ c.loop-n.n = grind (arith, common_steps) in
    let inv = c.loop-n.invariant in
    let less : c.loop-n.n < c.args.layout.cylinders * 15 = omega (arith, c.loop-n-test.true, inv.count) in
    rw (p.1, p.2) (bad_unloaded _ _ _ (bad_first _ _ c.args.layout c.loop-n.n _ _ inv.held is less inv.good c.in_err-image.ensures.bad))

pub set-requires-clause-model : goal.set-requires-clause-model
set-requires-clause-model g c = c.in_ok-image.ensures.placed.model ∙ sym c.loop-n.invariant.model

pub loop-n-preserved : goal.loop-n-preserved
loop-n-preserved g c =
    let is : c.unwrap-t.result ≡ c.loop-n.n = grind (arith, common_steps) in
    let inv = c.loop-n.invariant in
    record {
      so = tracks_push _ _ c.loop-n.volume c.set.new.self _ c.loop-n.n _ c.in_ok-image.image inv.held is c.set.ensures
          (omega (arith, c.loop-n-test.true, inv.images, inv.count)) inv.model inv.so c.in_ok-image.ensures.track;
      good = good_push _ _ c.args.layout.geometry c.loop-n.n _ inv.held is inv.good c.in_ok-image.ensures.good;
      held = c.in_ok-image.ensures.held ∙ inv.held;
      size = c.in_ok-image.ensures.size ∙ inv.size;
      later = omega (arith, inv.later, c.in_ok-image.ensures.later);
      model = ap (λ (v : ImageVolume). v.geometry) c.set.ensures ∙ inv.model;
      cylinders = ap (λ (v : ImageVolume). v.cylinders) c.set.ensures ∙ inv.cylinders;
      images = ap (λ (v : ImageVolume). length v.images) c.set.ensures ∙ length-set _ _ _ ∙ inv.images;
      count = inv.count;
    }
