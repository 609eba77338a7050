use Rattle.std.proofs.Common.{◌/◌, ◌^◌, arith}
use Rattle.track_table.proofs.Words.{low_ones, upper_part, lower_part}
use Rattle.track_table.proofs.bits.place_of.Goals as goal

pub loop-width-preserved-then-before-here : goal.loop-width-preserved-then-before-here
loop-width-preserved-then-before-here c =
    let l = c.loop-width in
    record {
      sum = l.invariant.sum;
      here = rw (low_ones (c.args.word / 2 ^ l.place) (l.width / 2) (omega (arith, l.invariant.most))) at c.if-before-here.true;
      most = omega (arith, l.invariant.most);
      some = omega arith;
    }

pub loop-width-preserved : goal.loop-width-preserved
loop-width-preserved c =
    let l = c.loop-width in
    let h = l.width / 2 in
    let low = low_ones (c.args.word / 2 ^ l.place) h (omega (arith, l.invariant.most)) in
    let enough = rw low at c.if-before-here.false in
    let lower = lower_part c.args.word l.place h in
    let upper = upper_part c.args.word l.place l.width h (omega arith) in
    record {
      sum = rw low (omega (arith, l.invariant.sum, enough, lower));
      here = rw low (omega (arith, l.invariant.here, enough, upper));
      most = omega (arith, l.invariant.most);
      some = omega arith;
    }
