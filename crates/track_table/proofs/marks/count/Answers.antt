use Rattle.std.proofs.Common.{◌≡◌, ◌+◌, ◌*◌, ◌∙◌, arith}
use Rattle.std.proofs.lemmas.Nat.{ones-le}
use Rattle.track_table.specs.Tracks.{count_below}
use Rattle.track_table.proofs.AskedWords.{count_all, count_past, count_word, no_count}
use Rattle.track_table.proofs.Counts.{few_marked}
use Rattle.track_table.proofs.marks.count.Given.{Over}
use Rattle.track_table.proofs.marks.count.Goals as goal

pub loop-k-init : goal.loop-k-init
loop-k-init g c =
    let p = g.M.Marks.marked c.args.marks.now in
    let past = count_past p 0 (64 * c.next_word-k.result) (omega arith) (λ q low high. c.next_word-k.ensures.none q (omega arith) high) in
    record {
      counted = omega (arith, past, no_count p);
      few = omega arith;
      most = c.next_word-k.ensures.most;
      last = c.next_word-k.ensures.last (omega arith);
    }

pub loop-k-preserved : goal.loop-k-preserved
loop-k-preserved g c =
    let l = c.loop-k in
    let p = g.M.Marks.marked c.args.marks.now in
    let more = count_word p l.k c.word.result c.word.ensures.marks c.word.type_inv in
    let past = count_past p (64 * (l.k + 1)) (64 * c.next_word-k-in-loop-k.result) (omega (arith, c.next_word-k-in-loop-k.ensures.least)) c.next_word-k-in-loop-k.ensures.none in
    record {
      counted = omega (arith, past, more, l.invariant.counted);
      few = omega (arith, l.invariant.few, ones-le 64 _ c.word.type_inv, c.next_word-k-in-loop-k.ensures.least);
      most = c.next_word-k-in-loop-k.ensures.most;
      last = l.invariant.last;
    }

all : (g : Over) (c : goal.After-loop-k g) → c.loop-k.count ≡ count_below 65535 (g.M.Marks.marked c.args.marks.now)
all g c =
    let end : 64 * c.loop-k.k ≡ 65536 = omega (arith, c.loop-k.invariant.most, c.loop-k-test.false) in
    rw end at c.loop-k.invariant.counted ∙ count_all (g.M.Marks.marked c.args.marks.now) c.loop-k.invariant.last

pub overflow_cast-result : goal.overflow_cast-result
overflow_cast-result g c = omega (arith, all g c, few_marked 65535 (g.M.Marks.marked c.args.marks.now))

pub returns-clause-value : goal.returns-clause-value
returns-clause-value g c = all g c

pub returns-clause-range : goal.returns-clause-range
returns-clause-range g c = omega (arith, all g c, few_marked 65535 (g.M.Marks.marked c.args.marks.now))
