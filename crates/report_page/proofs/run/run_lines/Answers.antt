use Rattle.std.proofs.Common.{ap}
use Rattle.device_outside.specs.Bay.{Bay}
use Rattle.report_page.proofs.run.run_lines.Goals as goal

pub returns : goal.returns
returns c = c.in_ok-ran.ensures.lines (ap (λ (b : Bay). b.spoiled) c.new-bay.ensures)
