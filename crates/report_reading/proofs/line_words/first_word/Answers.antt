use Rattle.std.proofs.Common.{arith}
use Rattle.report_reading.proofs.CutWords.{at_space, no_space}
use Rattle.report_reading.proofs.line_words.first_word.Goals as goal

pub returns-in-Some : goal.returns-in-Some
returns-in-Some c =
    let found = c.in-Some.ensures in
    at_space c.args.text.now c.in-Some.end found.0.high (λ j low. found.0.before j (omega arith) low) found.1

pub returns-in-None : goal.returns-in-None
returns-in-None c =
    let none = c.in-None.ensures in
    no_space c.args.text.now (λ k inside. none k (omega arith) inside)
