use Rattle.std.proofs.Common.{◌≡◌, ap}
use Rattle.track_table.specs.Bits.{marks_of}
use Rattle.track_table.proofs.MarkLists.{group_is, no_last}
use Rattle.track_table.proofs.bits.RefTrackBitsMarks.group.Goals as goal

pub returns-clause-words : goal.returns-clause-words
returns-clause-words c =
    let words = c.self.inside.now.words.items in
    let marks : marks_of words ≡ c.args.self.now.now = ap (λ x. x.now) c.self.view_is in
    rw (← marks) (group_is words c.self.inside.now.used c.args.j c.self.invariant.0 c.self.invariant.1 c.requires c.self.invariant.2)

pub returns-clause-last : goal.returns-clause-last
returns-clause-last c =
    let marks : marks_of c.self.inside.now.words.items ≡ c.args.self.now.now = ap (λ x. x.now) c.self.view_is in
    rw (← marks) (no_last c.self.inside.now.words.items)
