use Rattle.std.proofs.Common.{◌∙◌, ap, sym}
use Rattle.std.proofs.lemmas.Slice.Eq.{bytes_eq-Decides}
use Rattle.report_text.specs.declared.line.ReportLine.TheVariants.{Data}
use Rattle.report_reading.specs.Reading.{line_of}
use Rattle.report_reading.proofs.DataPieces.{data_apart, data_starts}
use Rattle.report_reading.proofs.data.is_data_of.Goals as goal

pub returns-in-Some-clause-text : goal.returns-in-Some-clause-text
returns-in-Some-clause-text c = c.is_digits_of.ensures
    ∙ data_starts c.args.text.now c.args.bytes.now c.in-Some.digits.now c.in-Some.ensures.cases.0 c.in-Some.ensures.cases.1

pub returns-in-Some-clause-read : goal.returns-in-Some-clause-read
returns-in-Some-clause-read c = λ is.
    ap line_of ((bytes_eq-Decides c.args.text.now _).0 (sym (returns-in-Some-clause-text c) ∙ is))
    ∙ c.reads_back.ensures.again (Data c.args.bytes.now) c.bytes_range.ensures

pub returns-in-None-clause-text : goal.returns-in-None-clause-text
returns-in-None-clause-text c = data_apart c.args.text.now c.args.bytes.now c.in-None.ensures.cases
