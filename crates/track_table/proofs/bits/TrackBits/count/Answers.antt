use Rattle.std.proofs.Common.{◌≡◌, ℕ, length, sym, ap, ◌∙◌}
use Rattle.track_table.specs.Bits.{is_marked}
use Rattle.track_table.specs.Tracks.{count_below}
use Rattle.track_table.proofs.MarkLists.{length_marks}
use Rattle.track_table.proofs.Rising.{length_marked}
use Rattle.track_table.proofs.bits.TrackBits.count.Goals as goal

pub returns-clause-listed : goal.returns-clause-listed
returns-clause-listed c =
    let marks = c.args.self.now in
    let all : length marks ≡ 65535 = rw c.self.view_is at (length_marks c.self.inside.words.items) in
    c.count.ensures.value ∙ sym (length_marked marks 0 ∙ ap (λ (n : ℕ). count_below n (is_marked marks)) all)
