use Rattle.std.proofs.Common.{◌≡◌, ap}
use Rattle.track_table.specs.Bits.{marks_of}
use Rattle.track_table.proofs.MarkLists.{groups_are}
use Rattle.track_table.proofs.bits.RefTrackBitsMarks.groups.Goals as goal

pub returns : goal.returns
returns c =
    let words = c.self.inside.now.words.items in
    let marks : marks_of words ≡ c.args.self.now.now = ap (λ x. x.now) c.self.view_is in
    rw (← marks) (groups_are words c.self.inside.now.used c.self.inside.now.groups c.self.invariant.0 c.self.invariant.1 c.self.invariant.2 c.self.invariant.3)
