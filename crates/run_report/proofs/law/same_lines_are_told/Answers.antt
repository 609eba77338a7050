use Rattle.run_report.proofs.ToldAs.{same_lines}
use Rattle.run_report.proofs.law.same_lines_are_told.Goals as goal

pub returns : goal.returns
returns c asked end reads writes before behind other then h g = same_lines end reads writes h g asked
