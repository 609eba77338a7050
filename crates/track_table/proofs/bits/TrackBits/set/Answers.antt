use Rattle.std.proofs.Common.{◌≡◌, ℕ, ◌<◌, ◌/◌, ◌%◌, ◌==◌, Bool, false, cond, List, get_or, ap, ◌∙◌, rules, arith}
use Rattle.std.specs.Int.{bit_at}
use Rattle.std.proofs.lemmas.Grind.{get_or_default_zero}
use Rattle.std.proofs.lemmas.List.{length-set}
use Rattle.track_table.specs.Bits.{marks_of, is_marked}
use Rattle.track_table.proofs.Places.{place_set}
use Rattle.track_table.proofs.MarkLists.{marks_set, length_marks, last_kept, used_set, groups_set}
use Rattle.track_table.proofs.bits.TrackBits.set.Goals as goal

-- the bits of the word that was changed
bits_of : (c : goal.After-self-2-1) → (i : ℕ) → i < 64 → (bit_at c.with_bit-word.result i == 1)
    ≡ cond (i == c.args.t % 64) c.args.marked (bit_at (get_or c.self.inside.words.items (c.args.t / 64) 0) i == 1)
bits_of c =
    let words = c.self.inside.words.items in
    let below : c.args.t < 65535 = search rules in
    let word : c.index.result.now ≡ get_or words (c.args.t / 64) 0 =
    rw (c.from-k.ensures, c.get-t.ensures.value) at c.index.ensures
    ∙ get_or_default_zero words (c.args.t / 64) c.index.result.now (omega (arith, c.self.invariant.0, below)) in
    rw (c.from.ensures, c.get-t.ensures.value, word) at c.with_bit-word.ensures

pub invariant_of-self : goal.invariant_of-self
invariant_of-self c =
    let words = c.self.inside.words.items in
    let below : c.args.t < 65535 = search rules in
    let bits = bits_of c in
    rw (c.from-k.ensures, c.get-t.ensures.value) (
      length-set words (c.args.t / 64) c.with_bit-word.result ∙ c.self.invariant.0,
      last_kept words c.args.t c.with_bit-word.result c.args.marked c.self.invariant.0 c.self.invariant.1 below bits,
      used_set words c.self.inside.used (c.args.t / 64) c.with_bit-word.result c.with_bit-used.result c.self.invariant.0 (search rules)
          (omega (arith, below)) c.self.invariant.2 (rw (c.from-k.ensures, c.get-t.ensures.value) at c.with_bit-used.ensures),
      groups_set c.self.inside.used c.self.inside.groups (c.args.t / 64 / 64) c.with_bit-used.result c.with_bit-self-inside.result (search rules)
          (omega (arith, below)) c.self.invariant.3 (rw (c.from-k.ensures, c.get-t.ensures.value) at c.with_bit-self-inside.ensures),
    )

pub returns-clause-marks : goal.returns-clause-marks
returns-clause-marks c =
    rw (← c.self.view_is, c.from-k.ensures, c.get-t.ensures.value)
    (marks_set c.self.inside.words.items c.args.t c.with_bit-word.result c.args.marked c.self.invariant.0 c.self.invariant.1 (search rules) (bits_of c))

pub returns-clause-each : goal.returns-clause-each
returns-clause-each c = λ q.
    let words = c.self.inside.words.items in
    let below : c.args.t < 65535 = search rules in
    let marks = marks_set words c.args.t c.with_bit-word.result c.args.marked c.self.invariant.0 c.self.invariant.1 below (bits_of c) in
    rw (← c.self.view_is, c.from-k.ensures, c.get-t.ensures.value)
    (ap (λ (m : List Bool). is_marked m q) marks ∙ place_set (λ (x : Bool). x)
    (marks_of words) c.args.t q c.args.marked false (omega (arith, below, length_marks words)))
