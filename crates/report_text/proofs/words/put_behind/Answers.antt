use Rattle.std.proofs.Common.{[]}
use Rattle.std.specs.Prelude.{decimal, map}
use Rattle.ckd_outside.proofs.Lines.{puts_stopped}
use Rattle.report_text.proofs.Spaced.{spaced_longer, spaced_then}
use Rattle.report_text.proofs.words.put_behind.Goals as goal

pub returns-in_err-put_numbers-clause-bytes : goal.returns-in_err-put_numbers-clause-bytes
returns-in_err-put_numbers-clause-bytes g c =
    puts_stopped _ _ _ _ _ _ _ c.from_residual.ensures.1
    (spaced_longer _ (g.K.Sink.held c.args.sink.now) _ _ [] _ (map decimal c.args.numbers.now)
    (g.W.Words.words c.args.words.now) c.in_err-put_numbers.ensures.bytes)

pub returns-clause-bytes : goal.returns-clause-bytes
returns-clause-bytes g c =
    spaced_then _ _ _ _ _ _ (map decimal c.args.numbers.now) (g.W.Words.words c.args.words.now) _ c.in_ok-put_numbers.ensures.bytes c.put.ensures.bytes
