use Rattle.std.proofs.Common.{◌≡◌, get_or, ap, ◌∙◌, arith}
use Rattle.std.proofs.lemmas.Grind.{get_or_default_zero}
use Rattle.track_table.specs.Bits.{marks_of}
use Rattle.track_table.proofs.MarkLists.{word_is, no_last}
use Rattle.track_table.proofs.bits.RefTrackBitsMarks.word.Goals as goal

pub returns-clause-marks : goal.returns-clause-marks
returns-clause-marks c =
    let words = c.self.inside.now.words.items in
    let word : c.index.result.now ≡ get_or words c.args.k 0 =
    c.index.ensures ∙ get_or_default_zero words c.args.k c.index.result.now (omega (arith, c.self.invariant.0, c.requires)) in
    let marks : marks_of words ≡ c.args.self.now.now = ap (λ x. x.now) c.self.view_is in
    rw (← marks, word) (word_is words c.args.k c.self.invariant.0 c.self.invariant.1)

pub returns-clause-last : goal.returns-clause-last
returns-clause-last c =
    let marks : marks_of c.self.inside.now.words.items ≡ c.args.self.now.now = ap (λ x. x.now) c.self.view_is in
    rw (← marks) (no_last c.self.inside.now.words.items)
