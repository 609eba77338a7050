use Rattle.std.proofs.Common.{ap, ◌∙◌}
use Rattle.disk_image.specs.Opening.{head_in}
use Rattle.std.proofs.lemmas.Result.{err_from_is_err_and}
use Rattle.disk_image.proofs.Opened.{early_told, head_told, layout_opened, layout_told}
use Rattle.disk_image.proofs.opening.open_image.Goals as goal

pub returns-in_err-field-clause-told : goal.returns-in_err-field-clause-told
returns-in_err-field-clause-told g c =
    let p = err_from_is_err_and c.from_residual-in_err-field.result c.from_residual-in_err-field.ensures.1 in
    rw (p.1, p.2) (early_told _ _ c.in_err-field.ensures.early)

pub returns-in_err-geometry-clause-told : goal.returns-in_err-geometry-clause-told
returns-in_err-geometry-clause-told g c =
    let p = err_from_is_err_and c.from_residual-in_err-geometry.result c.from_residual-in_err-geometry.ensures.1 in
    rw (p.1, p.2)
    (head_told _ _ c.in_ok-size.size c.in_ok-field.field.items _ c.len.ensures.same c.in_ok-size.ensures.size c.in_ok-field.ensures.bytes
    c.in_ok-field.ensures.size (c.in_err-geometry.ensures.exact ∙ ap head_in c.deref.ensures.value))

pub returns-clause-told : goal.returns-clause-told
returns-clause-told g c =
    layout_told _ _ c.in_ok-size.size c.in_ok-field.field.items c.in_ok-geometry.geometry _ c.len.ensures.same c.in_ok-size.ensures.size
    c.in_ok-field.ensures.bytes c.in_ok-field.ensures.size
    (c.in_ok-geometry.ensures.exact ∙ ap head_in c.deref.ensures.value) c.layout_by.ensures.exact

pub returns-clause-layout : goal.returns-clause-layout
returns-clause-layout g c = layout_opened _ c.in_ok-size.size _ c.in_ok-size.ensures.size c.layout_by.ensures.range c.layout_by.ensures.size
