use Rattle.image_tool.proofs.Telling.{none_written, some_written}
use Rattle.image_tool.proofs.reading.tell_found.Goals as goal

pub returns-then-is_empty-clause-told : goal.returns-then-is_empty-clause-told
returns-then-is_empty-clause-told g c = none_written _ _ _ _ _ c.is_empty.ensures c.if-is_empty.true c.tell_good.ensures.told

pub returns-clause-told : goal.returns-clause-told
returns-clause-told g c = some_written _ _ _ _ _ c.is_empty.ensures c.if-is_empty.false c.tell_bad.ensures.told
