use Rattle.report_reading.proofs.LinesAgain.{line_again, lines_apart}
use Rattle.report_reading.proofs.law.reads_back.Goals as goal

pub returns-clause-again : goal.returns-clause-again
returns-clause-again c line h = line_again line h

pub returns-clause-apart : goal.returns-clause-apart
returns-clause-apart c line other h g formed same = lines_apart line other h g formed same
