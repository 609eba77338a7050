use Rattle.std.proofs.Common.{◌∙◌, subst, sym}
use Rattle.path_top.specs.Answers.{TellsOn}
use Rattle.path_top.proofs.Complete.{usage_is_no_read}
use Rattle.path_top.proofs.serve.serve_words.Goals as goal

pub returns-else-is_paths-clause-told : goal.returns-else-is_paths-clause-told
returns-else-is_paths-clause-told g c =
    subst (λ b. TellsOn (g.B.VolumeBay.view c.args.bay.now) c.usage.result b (g.S.Source.left c.args.source.now) (g.S.Source.left c.args.source.now)
    (g.K.Sink.held c.args.sink.now) (g.K.Sink.held c.usage.new.sink)) (sym c.if-is_paths.false ∙ c.is_paths.ensures)
    (c.usage.ensures.told (g.S.Source.left c.args.source.now))

pub returns-else-is_paths-clause-read : goal.returns-else-is_paths-clause-read
returns-else-is_paths-clause-read g c = λ is.
    usage_is_no_read c.usage.result (g.S.Source.left c.args.source.now) (g.S.Source.left c.args.source.now) (g.K.Sink.held c.args.sink.now)
    (g.K.Sink.held c.usage.new.sink) (c.usage.ensures.told (g.S.Source.left c.args.source.now)) is
