use Rattle.std.proofs.Common.{ℕ, List, Option, sym, subst}
use Rattle.disk_image.specs.Image.{IsLayoutOf}
use Rattle.image_tool.proofs.Listed.{list_on}
use Rattle.image_tool.proofs.Openings.{not_held, opened}
use Rattle.image_tool.proofs.Stored.{opened_now}
use Rattle.image_tool.proofs.Telling.{no_list}
use Rattle.image_tool.proofs.reading.serve_list.Goals as goal

pub list_opened-requires-clause-layout : goal.list_opened-requires-clause-layout
list_opened-requires-clause-layout g c =
    subst (λ (h : Option (List ℕ)). IsLayoutOf h c.in-Ok.layout) (sym c.in-Ok.ensures.held) c.in-Ok.ensures.layout

pub list_opened-requires-clause-opened : goal.list_opened-requires-clause-opened
list_opened-requires-clause-opened g c = opened_now _ _ c.in-Ok.layout c.in-Ok.ensures.held (opened _ _ c.in-Ok.ensures.told)

pub returns-in-Ok-clause-told : goal.returns-in-Ok-clause-told
returns-in-Ok-clause-told g c = list_on _ _ _ _ _ c.in-Ok.ensures.held c.list_opened.ensures.told

pub returns-in-Err-clause-told : goal.returns-in-Err-clause-told
returns-in-Err-clause-told g c = no_list _ _ _ _ c.in-Err.fault (not_held _ _ c.in-Err.ensures.told) c.refuse.ensures.told
