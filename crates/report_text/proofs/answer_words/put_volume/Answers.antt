use Rattle.std.proofs.Common.{◌∷◌, []}
use Rattle.std.specs.Prelude.{decimal}
use Rattle.ckd_outside.proofs.Lines.{puts_stopped}
use Rattle.report_text.specs.declared.keyword.Keyword.TheVariants as words
use Rattle.report_text.specs.Keywords.{keyword_text}
use Rattle.report_text.specs.Words.{side_key}
use Rattle.report_text.proofs.Spaced.{spaced_longer, spaced_then}
use Rattle.report_text.proofs.answer_words.put_volume.Goals as goal

pub returns-in_err-put_key-clause-bytes : goal.returns-in_err-put_key-clause-bytes
returns-in_err-put_key-clause-bytes g c =
    puts_stopped _ _ _ _ _ _ _ c.from_residual.ensures.1
    (spaced_longer _ (g.K.Sink.held c.args.sink.now) _ _ [] _ (keyword_text words.Volume ∷ [])
    (decimal c.args.device ∷ keyword_text (side_key c.args.side) ∷ []) c.in_err-put_key.ensures.bytes)

pub returns-clause-bytes : goal.returns-clause-bytes
returns-clause-bytes g c =
    spaced_then _ _ _ _ _ _ (keyword_text words.Volume ∷ []) (decimal c.args.device ∷ keyword_text
    (side_key c.args.side) ∷ []) _ c.in_ok-put_key.ensures.bytes c.put_side.ensures.bytes
