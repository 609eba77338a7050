use Rattle.std.proofs.Common.{◌+◌, ◌-◌, ◌*◌, w64, rules, arith}
use Rattle.std.specs.Int.{trailing_zeros}
use Rattle.track_table.proofs.AskedWords.{FromPlace, bit_is_track, least_in_word, lowest_bit, lowest_is, none_in_word, none_joined, none_left}
use Rattle.track_table.proofs.marks.least_from.Goals as goal

pub loop-k-init : goal.loop-k-init
loop-k-init g c =
    let n = c.next_word-k in record {
      least = rw c.from-from.ensures at n.ensures.least;
      most = n.ensures.most;
      none = λ q low high. n.ensures.none q (omega (arith, low, c.from-from.ensures)) high;
      last = n.ensures.last (omega (arith, c.from-from.ensures, c.ranges.from));
    }

pub track-requires : goal.track-requires
track-requires g c =
    let k = c.loop-k.k in
    let v = c.bits_from-word.result in
    let bits : FromPlace c.word.result (c.args.from - 64 * k) v = rw (c.saturating_sub.ensures, c.from-from.ensures) at c.bits_from-word.ensures in
    let lowest = lowest_bit c.word.result (c.args.from - 64 * k) v bits (search (rules, arith)) c.bits_from-word.type_inv in
    let p = g.M.Marks.marked c.args.marks.now in
    bit_is_track p k (trailing_zeros w64 v) c.loop-k-test.true lowest.inside c.word.ensures.last
    (lowest_is p k c.word.result (c.args.from - 64 * k) v (trailing_zeros w64 v) c.word.ensures.marks lowest)

pub returns-then-word-ne0 : goal.returns-then-word-ne0
returns-then-word-ne0 g c =
    let k = c.loop-k.k in
    let v = c.bits_from-word.result in
    let bits : FromPlace c.word.result (c.args.from - 64 * k) v = rw (c.saturating_sub.ensures, c.from-from.ensures) at c.bits_from-word.ensures in
    let lowest = lowest_bit c.word.result (c.args.from - 64 * k) v bits (search (rules, arith)) c.bits_from-word.type_inv in
    rw c.track.ensures
    (least_in_word (g.M.Marks.marked c.args.marks.now) c.args.from k c.word.result v (trailing_zeros w64 v) c.loop-k-test.true
    c.word.ensures.marks c.word.ensures.last bits lowest c.loop-k.invariant.none)

pub loop-k-preserved : goal.loop-k-preserved
loop-k-preserved g c =
    let l = c.loop-k in
    let n = c.next_word-k-in-loop-k in
    let p = g.M.Marks.marked c.args.marks.now in
    let v = c.bits_from-word.result in
    let bits : FromPlace c.word.result (c.args.from - 64 * l.k) v = rw (c.saturating_sub.ensures, c.from-from.ensures) at c.bits_from-word.ensures in
    let here = none_in_word p c.args.from l.k c.word.result v c.word.ensures.marks bits c.if-word-ne0.false l.invariant.none in
    record {
      least = omega (arith, l.invariant.least, n.ensures.least);
      most = n.ensures.most;
      none = none_joined p c.args.from (64 * (l.k + 1)) (64 * n.result) here n.ensures.none;
      last = l.invariant.last;
    }

pub returns : goal.returns
returns g c = none_left (g.M.Marks.marked c.args.marks.now) c.args.from c.loop-k.k c.loop-k-test.false c.loop-k.invariant.none c.loop-k.invariant.last
