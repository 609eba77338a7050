use Rattle.std.proofs.Common.{◌≡◌, ℕ, ◌∙◌, get_or, arith}
use Rattle.std.proofs.lemmas.List.{length-set}
use Rattle.track_table.proofs.MarkLists.{all_zero, no_bits, no_marks, one_more_zero}
use Rattle.track_table.proofs.Places.{empty_places}
use Rattle.track_table.proofs.bits.TrackBits.clear.Goals as goal

pub loop-k-preserved : goal.loop-k-preserved
loop-k-preserved c =
    let l = c.loop-k in
    let words = l.self-inside.words.items in
    record {
      whole = length-set words l.k 0 ∙ l.invariant.whole;
      zeros = one_more_zero words l.k l.invariant.zeros (omega (arith, l.invariant.whole, c.loop-k-test.true));
    }

pub invariant_of-self : goal.invariant_of-self
invariant_of-self c =
    let l = c.loop-k in
    let words = l.self-inside.words.items in
    let zeros : (k : ℕ) → get_or words k 0 ≡ 0 = all_zero words 1024 l.invariant.whole (λ k below. l.invariant.zeros k (omega (arith, below, c.loop-k-test.false))) in
    (l.invariant.whole, no_bits words zeros 65535, λ k below unused. zeros k, λ j below none. empty_places 16 j 0)

pub returns : goal.returns
returns c =
    let l = c.loop-k in
    let words = l.self-inside.words.items in
    no_marks words l.invariant.whole (all_zero words 1024 l.invariant.whole (λ k below. l.invariant.zeros k (omega (arith, below, c.loop-k-test.false))))
