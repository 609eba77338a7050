use Rattle.image_tool.proofs.Telling.{checks, checks_not}
use Rattle.image_tool.proofs.reading.serve_check.Goals as goal

pub returns-in-Ok-clause-told : goal.returns-in-Ok-clause-told
returns-in-Ok-clause-told g c =
    checks _ _ _ _ c.in-Ok.found.items c.in-Ok.ensures.found
    (rw c.deref.ensures.value at c.tell_found.ensures.told)

pub returns-in-Err-clause-told : goal.returns-in-Err-clause-told
returns-in-Err-clause-told g c = checks_not _ _ _ _ c.in-Err.fault c.in-Err.ensures.fault c.refuse.ensures.told
