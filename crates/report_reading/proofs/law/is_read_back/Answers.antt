use Rattle.report_reading.proofs.law.is_read_back.Goals as goal

pub returns : goal.returns
returns c = λ names. c.reads_back.ensures.again _ (c.in_ranges.ensures names)
