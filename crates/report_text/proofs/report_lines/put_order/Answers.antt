use Rattle.std.proofs.Common.{[]}
use Rattle.ckd_outside.proofs.Lines.{puts_stopped}
use Rattle.report_text.specs.Words.{answer_words, order_words}
use Rattle.report_text.proofs.Spaced.{spaced_longer, spaced_then}
use Rattle.report_text.proofs.report_lines.put_order.Goals as goal

pub returns-in_err-put-clause-bytes : goal.returns-in_err-put-clause-bytes
returns-in_err-put-clause-bytes g c =
    puts_stopped _ _ _ _ _ _ _ c.from_residual.ensures.1
    (spaced_longer _ (g.K.Sink.held c.args.sink.now) _ _ [] _ (order_words c.args.order.now) (answer_words c.args.answer.now) c.in_err-put.ensures.bytes)

pub returns-clause-bytes : goal.returns-clause-bytes
returns-clause-bytes g c =
    spaced_then _ _ _ _ _ _ (order_words c.args.order.now) (answer_words c.args.answer.now) _ c.in_ok-put.ensures.bytes c.put-2.ensures.bytes
