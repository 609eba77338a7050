use Rattle.std.proofs.Common.{◌≡◌, ◌*◌, ◌<◌, ap, length, List, ℕ, ◌∙◌, refl, arith}
use Rattle.std.proofs.lemmas.Grind.{common_steps}
use Rattle.std.proofs.lemmas.List.{length-replicate}
use Rattle.std.proofs.lemmas.Result.{err_from_is_err_and}
use Rattle.disk_image.proofs.Found.{bad_first, good_push, none_bad}
use Rattle.image_tool.proofs.Listed.{no_rows, rows_end, rows_on}
use Rattle.image_tool.proofs.reading.list_tracks.Goals as goal

pub loop-n-init : goal.loop-n-init
loop-n-init g c = record {
  so = no_rows c.args.layout _ _ c.new-rows.ensures.items;
  good = none_bad _ c.args.layout.geometry;
  held = refl;
  size = ap (λ (l : List ℕ). length l) c.in_ok-room.ensures ∙ length-replicate _ _;
  later = omega arith;
  model = refl;
  count = grind (arith, common_steps);
}

pub returns-in_err-image-clause-bad : goal.returns-in_err-image-clause-bad
returns-in_err-image-clause-bad g c =
    let p = err_from_is_err_and c.from_residual-in_err-image.result c.from_residual-in_err-image.ensures.1 in
    let is : c.unwrap-t.result ≡ c.loop-n.n = grind (arith, common_steps) in
    let inv = c.loop-n.invariant in
    let less : c.loop-n.n < c.args.layout.cylinders * 15 = omega (arith, c.loop-n-test.true, inv.count) in
    rw (p.1, p.2) (bad_first _ _ c.args.layout c.loop-n.n _ _ inv.held is less inv.good c.in_err-image.ensures.bad)

pub loop-n-preserved : goal.loop-n-preserved
loop-n-preserved g c =
    let is : c.unwrap-t.result ≡ c.loop-n.n = grind (arith, common_steps) in
    let inv = c.loop-n.invariant in
    record {
      so = rows_on _ _ c.args.layout c.loop-n.n _ c.in_ok-image.image c.row_of.result c.loop-n.rows.items c.push.new.self.items inv.held is
          c.in_ok-image.ensures.placed c.in_ok-image.ensures.track inv.so c.row_of.ensures c.in_ok-push.ensures.items;
      good = good_push _ _ c.args.layout.geometry c.loop-n.n _ inv.held is inv.good c.in_ok-image.ensures.good;
      held = c.in_ok-image.ensures.held ∙ inv.held;
      size = c.in_ok-image.ensures.size ∙ inv.size;
      later = omega (arith, inv.later, c.in_ok-image.ensures.later);
      model = inv.model;
      count = inv.count;
    }

pub returns-clause-rows : goal.returns-clause-rows
returns-clause-rows g c =
    rows_end c.args.layout _ _ _ _ (omega (arith, c.loop-n-test.false, c.loop-n.auto.n-end, c.loop-n.invariant.count)) c.loop-n.invariant.so
