use Rattle.std.proofs.Common.{ℕ, List, subst}
use Rattle.ckd_outside.specs.Texts.{Moves, Stops}
use Rattle.ckd_outside.proofs.Lines.{puts_stopped}
use Rattle.report_text.proofs.Spaced.{numbers_spaced}
use Rattle.report_text.proofs.words.put_numbers.Goals as goal

pub returns-in_err-put_all-clause-bytes : goal.returns-in_err-put_all-clause-bytes
returns-in_err-put_all-clause-bytes g c =
    puts_stopped _ _ _ _ _ _ _ c.from_residual.ensures.1
    (subst (λ (l : List ℕ). Stops (g.K.Sink.held c.args.sink.now) c.args.buffer.now (g.K.Sink.held c.put_all.new.sink) c.put_all.new.buffer l)
    (numbers_spaced c.args.numbers.now) c.in_err-put_all.ensures.bytes)

pub returns-clause-bytes : goal.returns-clause-bytes
returns-clause-bytes g c =
    subst (λ (l : List ℕ). Moves (g.K.Sink.held c.args.sink.now) c.args.buffer.now (g.K.Sink.held c.put_all.new.sink) c.put_all.new.buffer l)
    (numbers_spaced c.args.numbers.now) c.in_ok-put_all.ensures.bytes
