use Rattle.std.proofs.Common.{ℕ, List, slice_get, ap, ◌∙◌}
use Rattle.loss_model.specs.Lost.{lost_tracks}
use Rattle.loss_model.proofs.Fronts.{front_listed}
use Rattle.loss_model.proofs.lost.LostList.nth.Goals as goal

pub returns : goal.returns
returns c = c.nth.ensures ∙ ap (λ (ts : List ℕ). slice_get ts c.args.i)
    (front_listed c.self.inside.marks 0 c.self.inside.tracks c.self.invariant.2 ∙ ap lost_tracks c.self.view_is)
