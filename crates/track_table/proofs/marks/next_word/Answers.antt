use Rattle.std.proofs.Common.{◌≡◌, ◌+◌, ◌*◌, ◌/◌, ◌%◌, w64, rules, arith}
use Rattle.std.specs.Int.{trailing_zeros}
use Rattle.std.proofs.lemmas.Nat.Bits.{bit_at-zero}
use Rattle.track_table.proofs.AskedWords.{IsLowest, lowest_bit, none_before, none_joined}
use Rattle.track_table.proofs.marks.next_word.Given.{Over}
use Rattle.track_table.proofs.marks.next_word.Goals as goal

pub loop-k-init : goal.loop-k-init
loop-k-init g c = record {
  least = omega arith;
  most = c.requires;
  none = λ q low high. absurd (omega (arith, low, high));
  last = λ less. absurd (omega (arith, less));
}

pub loop-k-preserved : goal.loop-k-preserved
loop-k-preserved g c =
    let l = c.loop-k in
    let p = g.M.Marks.marked c.args.marks.now in
    let none = none_before p l.k c.group.result c.bits_from-group.result 64 c.group.ensures.words c.bits_from-group.ensures
    (omega arith) (λ i below. rw c.if-group-ne0.false (bit_at-zero i)) in
    let n = c.next_group-k.result in
    let end : 64 * (l.k / 64 * 64 + 64) ≡ 4096 * (l.k / 64 + 1) = omega arith in
    let start : 4096 * n ≡ 64 * (64 * n) = omega arith in
    let here = rw end at (none_joined p (64 * c.args.from) (64 * l.k) (64 * (l.k / 64 * 64 + 64)) l.invariant.none none) in
    let past = c.next_group-k.ensures in
    record {
      least = omega (arith, l.invariant.least, past.least);
      most = omega (arith, past.most);
      none = rw start at (none_joined p (64 * c.args.from) (4096 * (l.k / 64 + 1)) (4096 * n) here past.none);
      last = λ less. c.group.ensures.last;
    }

lowest : (g : Over) (c : goal.Then-group-ne0 g) → IsLowest c.group.result (c.loop-k.k % 64) c.bits_from-group.result (trailing_zeros w64 c.bits_from-group.result)
lowest g c = lowest_bit c.group.result (c.loop-k.k % 64) c.bits_from-group.result c.bits_from-group.ensures (search (rules, arith)) c.bits_from-group.type_inv

pub returns-then-group-ne0-clause-least : goal.returns-then-group-ne0-clause-least
returns-then-group-ne0-clause-least g c = omega (arith, (lowest g c).reached, c.loop-k.invariant.least)

pub returns-then-group-ne0-clause-most : goal.returns-then-group-ne0-clause-most
returns-then-group-ne0-clause-most g c = omega (arith, (lowest g c).inside, c.loop-k-test.true)

pub returns-then-group-ne0-clause-none : goal.returns-then-group-ne0-clause-none
returns-then-group-ne0-clause-none g c =
    let l = c.loop-k in
    let p = g.M.Marks.marked c.args.marks.now in
    let z = trailing_zeros w64 c.bits_from-group.result in
    none_joined p (64 * c.args.from) (64 * l.k) (64 * (l.k / 64 * 64 + z)) l.invariant.none
    (none_before p l.k c.group.result c.bits_from-group.result z c.group.ensures.words c.bits_from-group.ensures
    (omega (arith, (lowest g c).inside)) (lowest g c).least)

pub returns-clause-last : goal.returns-clause-last
returns-clause-last g c = λ less. c.loop-k.invariant.last (omega (arith, less, c.loop-k-test.false))
