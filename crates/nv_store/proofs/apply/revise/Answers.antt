use Rattle.std.proofs.Common.{◌∙◌, arith}
use Rattle.nv_store.proofs.Revisions.{all_kept, next_replaceable, next_revised}
use Rattle.nv_store.proofs.apply.revise.Goals as goal

pub replace-requires : goal.replace-requires
replace-requires c = (next_replaceable c.args.kept c.loop-r.image.track.records c.args.replaced.now c.loop-r.r-index
    c.r-item.result (omega arith) c.r-item.is c.loop-r.invariant.rest).0

pub loop-r-preserved : goal.loop-r-preserved
loop-r-preserved c =
    let image = c.loop-r.image in
    let r = c.r-item.result in
    let next = next_replaceable c.args.kept image.track.records c.args.replaced.now c.loop-r.r-index r (omega arith)
    c.r-item.is c.loop-r.invariant.rest in
    record {
      records = rw c.replace.ensures (next_revised image.track.records c.args.replaced.now c.loop-r.r-index r
          (omega arith) c.r-item.is ∙ c.loop-r.invariant.records);
      rest = rw c.replace.ensures (all_kept c.args.kept image.track.records r.index r.key r.body _ next.0 ∙ next.1);
      geometry = rw c.replace.ensures c.loop-r.invariant.geometry;
      home = rw c.replace.ensures c.loop-r.invariant.home;
    }
