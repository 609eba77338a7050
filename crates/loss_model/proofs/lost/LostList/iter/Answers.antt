use Rattle.std.proofs.Common.{ap, ◌∙◌}
use Rattle.loss_model.specs.Lost.{lost_tracks}
use Rattle.loss_model.proofs.Fronts.{front_listed}
use Rattle.loss_model.proofs.lost.LostList.iter.Goals as goal

pub returns : goal.returns
returns c = c.iter.ensures ∙ front_listed c.self.inside.marks 0 c.self.inside.tracks c.self.invariant.2 ∙ ap lost_tracks c.self.view_is
