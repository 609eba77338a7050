use Rattle.std.proofs.Common.{◌∷◌, []}
use Rattle.std.specs.Prelude.{decimal}
use Rattle.ckd_outside.proofs.Lines.{puts_stopped}
use Rattle.report_text.specs.declared.keyword.Keyword.TheVariants as words
use Rattle.report_text.specs.Keywords.{keyword_text}
use Rattle.report_text.proofs.Spaced.{spaced_longer, spaced_then}
use Rattle.report_text.proofs.answer_words.put_writes.Goals as goal

pub returns-in_err-put_count-clause-bytes : goal.returns-in_err-put_count-clause-bytes
returns-in_err-put_count-clause-bytes g c =
    puts_stopped _ _ _ _ _ _ _ c.from_residual.ensures.1
    (spaced_longer _ (g.K.Sink.held c.args.sink.now) _ _ [] _ (keyword_text words.Writes ∷ decimal c.args.writes ∷
    []) (keyword_text words.Lost ∷ decimal c.args.lost ∷ []) c.in_err-put_count.ensures.bytes)

pub returns-clause-bytes : goal.returns-clause-bytes
returns-clause-bytes g c =
    spaced_then _ _ _ _ _ _ (keyword_text words.Writes ∷ decimal c.args.writes ∷ [])
    (keyword_text words.Lost ∷ decimal c.args.lost ∷ []) _ c.in_ok-put_count.ensures.bytes
    c.put_count-2.ensures.bytes
