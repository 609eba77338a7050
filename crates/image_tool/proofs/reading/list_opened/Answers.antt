use Rattle.image_tool.proofs.Listed.{listed}
use Rattle.image_tool.proofs.Telling.{bad_held, no_list}
use Rattle.std.proofs.Common.{refl}
use Rattle.image_tool.proofs.reading.list_opened.Goals as goal

pub returns-in-Ok-clause-told : goal.returns-in-Ok-clause-told
returns-in-Ok-clause-told g c =
    listed _ _ _ _ c.args.layout c.in-Ok.rows.items c.requires.layout c.requires.opened c.in-Ok.ensures.rows
    (rw c.deref.ensures.value at c.show_rows.ensures.told)

pub returns-in-Err-clause-told : goal.returns-in-Err-clause-told
returns-in-Err-clause-told g c =
    no_list _ _ _ _ c.in-Err.fault (bad_held _ _ c.args.layout _ c.requires.opened refl c.in-Err.ensures.bad) c.refuse.ensures.told
