use Rattle.std.proofs.Common.{sym, ◌∙◌}
use Rattle.volume_file.proofs.Fields.{head_spelled}
use Rattle.volume_file.proofs.head.head_in.Goals as goal

pub returns-then-field-eq0-2-clause-spelled : goal.returns-then-field-eq0-2-clause-spelled
returns-then-field-eq0-2-clause-spelled c =
    head_spelled c.args.field.now c.in_ok-geometry.geometry c.in_ok-cylinders.cylinders (sym c.starts_with.ensures.value ∙ c.if-not-starts_with.false)
    c.if-field-eq-HEAD.true
    (sym c.byte_at.ensures ∙ c.in_ok-geometry.ensures.byte)
    (sym c.byte_at-2.ensures ∙ sym c.in_ok-cylinders.ensures.same)
    c.if-field-eq0.true
    c.if-field-eq0-2.true
