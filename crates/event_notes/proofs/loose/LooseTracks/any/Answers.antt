use Rattle.std.proofs.Common.{◌∙◌, ap, sym, length}
use Rattle.std.specs.Prelude.{is_some}
use Rattle.track_table.specs.Tracks.{least}
use Rattle.event_notes.specs.Loose.{is_loose_in}
use Rattle.event_notes.proofs.Loosely.{least_is}
use Rattle.event_notes.proofs.loose.LooseTracks.any.Goals as goal

pub returns : goal.returns
returns c =
    let i = c.self.invariant in
    let is = least_is c.self.inside.marks c.self.inside.tracks i.0 i.1 i.2 in
    c.is_some.ensures ∙ ap is_some (c.first.ensures ∙ sym is) ∙ ap (λ v. is_some (least (length v.loose) (is_loose_in v.loose))) c.self.view_is
