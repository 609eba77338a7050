use Rattle.std.proofs.Common.{◌≡◌, ◌+◌, ◌*◌, length, sym, ◌∙◌, arith}
use Rattle.std.proofs.lemmas.Bool.{eq-eqb}
use Rattle.track_table.specs.Bits.{is_marked}
use Rattle.track_table.specs.Tracks.{count_below}
use Rattle.track_table.proofs.AskedWords.{bit_is_track, count_all, count_past, count_word, in_front, no_count}
use Rattle.track_table.proofs.MarkLists.{length_marks, no_last}
use Rattle.track_table.proofs.Rising.{nth_is, past_count}
use Rattle.track_table.proofs.bits.TrackBits.nth.Goals as goal

pub loop-k-init : goal.loop-k-init
loop-k-init c =
    let p = is_marked c.args.self.now in
    let past = count_past p 0 (64 * c.next_word-k.result) (omega arith) (λ q low high. c.next_word-k.ensures.none q (omega arith) high) in
    record { counted = omega (arith, past, no_count p); most = c.next_word-k.ensures.most }

pub loop-k-preserved : goal.loop-k-preserved
loop-k-preserved c =
    let l = c.loop-k in
    let n = c.next_word-k-in-loop-k in
    let p = is_marked c.args.self.now in
    let more = count_word p l.k c.word-word.result c.word-word.ensures.marks c.word-word.type_inv in
    let past = count_past p (64 * (l.k + 1)) (64 * n.result) (omega (arith, n.ensures.least)) n.ensures.none in
    record { counted = omega (arith, past, more, l.invariant.counted, c.if-before-here.false); most = n.ensures.most }

pub track-requires : goal.track-requires
track-requires c =
    let p = is_marked c.args.self.now in
    bit_is_track p c.loop-k.k c.place_of.result c.loop-k-test.true c.place_of.ensures.range c.word-word.ensures.last
    (sym (c.word-word.ensures.marks c.place_of.result c.place_of.ensures.range) ∙ eq-eqb _ _ c.place_of.ensures.set)

pub returns-then-before-here : goal.returns-then-before-here
returns-then-before-here c =
    let marks = c.args.self.now in
    let k = c.loop-k.k in
    let x = c.place_of.result in
    let count : count_below (64 * k + x) (is_marked marks) ≡ c.args.i =
    omega (
      arith,
      in_front (is_marked marks) k c.word-word.result x c.word-word.ensures.marks (omega (arith, c.place_of.ensures.range)),
      c.place_of.ensures.before,
      c.loop-k.invariant.counted,
    ) in
    rw c.track.ensures
    (sym (nth_is marks (64 * k + x) c.args.i (sym (c.word-word.ensures.marks x c.place_of.ensures.range) ∙ eq-eqb _ _ c.place_of.ensures.set) count))

pub returns : goal.returns
returns c =
    let marks = c.args.self.now in
    let all : length marks ≡ 65535 = rw c.self.view_is at (length_marks c.self.inside.words.items) in
    let last = rw c.self.view_is at (no_last c.self.inside.words.items) in
    let end : 64 * c.loop-k.k ≡ 65536 = omega (arith, c.loop-k.invariant.most, c.loop-k-test.false) in
    let few = rw end at c.loop-k.invariant.counted in
    sym (past_count marks 65535 c.args.i all (omega (arith, few, count_all (is_marked marks) last)))
