use Rattle.image_tool.proofs.Telling.{no_file, shows_file}
use Rattle.image_tool.proofs.reading.serve_to_volume.Goals as goal

pub returns-in-Ok-clause-told : goal.returns-in-Ok-clause-told
returns-in-Ok-clause-told g c = shows_file _ _ _ _ c.in-Ok.volume c.in-Ok.ensures.whole c.in-Ok.ensures.found c.show_file.ensures.told

pub returns-in-Err-clause-told : goal.returns-in-Err-clause-told
returns-in-Err-clause-told g c = no_file _ _ _ _ c.in-Err.fault c.in-Err.ensures.found c.refuse.ensures.told
