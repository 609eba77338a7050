use Rattle.path_top.proofs.Told.{empty_tells}
use Rattle.path_top.proofs.top.over_new_bay.Goals as goal

pub returns-clause-told : goal.returns-clause-told
returns-clause-told g c = empty_tells c.new-bay.result c.new-bay.ensures _ _ _ _ _ _ c.paths_top_on.ensures.told
