use Rattle.std.proofs.Common.{◌≡◌, ap, ◌∙◌}
use Rattle.volume_file.specs.Answers.{Progress}
use Rattle.volume_file.proofs.Told.{end_told, not_none}
use Rattle.volume_file.proofs.reader.FileReader.finish.Goals as goal

pub returns-then-not-is_empty-clause-told : goal.returns-then-not-is_empty-clause-told
returns-then-not-is_empty-clause-told g c =
    let at : c.self.inside.offset ≡ c.args.self.now.offset = ap (λ (p : Progress). p.offset) c.self.view_is in
    rw at (end_told c.args.self.now.offset _ _ _ c.in_ok-field.field.items c.in_ok-field.ensures.field
    (λ none. not_none _ c.is_empty.result c.is_empty.ensures c.if-not-is_empty.true (c.in_ok-field.field.ok.0 ∙ none)))
