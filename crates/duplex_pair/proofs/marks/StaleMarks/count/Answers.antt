use Rattle.std.proofs.Common.{◌∙◌, sym, ap}
use Rattle.track_table.specs.Bits.{is_marked}
use Rattle.track_table.specs.Tracks.{count_below}
use Rattle.std.proofs.Common.{List, Bool, length}
use Rattle.duplex_pair.proofs.Fronts.{counted}
use Rattle.duplex_pair.proofs.marks.StaleMarks.count.Goals as goal

pub returns : goal.returns
returns c =
    let i = c.self.invariant in
    c.count.ensures.value ∙ sym (counted c.self.inside.marks c.self.inside.tracks i.0 i.1 i.2)
    ∙ ap (λ (l : List Bool). count_below (length l) (is_marked l)) c.self.view_is
