use Rattle.std.proofs.Common.{length, ap, ◌∙◌}
use Rattle.loss_model.specs.Lost.{lost_tracks}
use Rattle.loss_model.proofs.Fronts.{front_listed}
use Rattle.loss_model.proofs.lost.LostList.len.Goals as goal

pub returns : goal.returns
returns c = c.from.ensures ∙ c.count.ensures.listed ∙ ap length (front_listed c.self.inside.marks 0
    c.self.inside.tracks c.self.invariant.2) ∙ ap (λ marks. length (lost_tracks marks)) c.self.view_is
