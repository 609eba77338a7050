use Rattle.std.proofs.Common.{◌∙◌, ap}
use Rattle.report_text.specs.declared.line.ReportLine.TheVariants.{Data}
use Rattle.report_reading.specs.Reading.{line_of}
use Rattle.report_reading.proofs.DataPieces.{front_ends, front_is, front_whole}
use Rattle.report_reading.proofs.data.data_end.Goals as goal

pub returns-clause-read : goal.returns-clause-read
returns-clause-read c =
    ap line_of (front_is c.args.text.now c.in_ok-digits.digits.now c.args.bytes.now c.in_ok-end.end
    c.in_ok-digits.ensures.cases.0 c.in_ok-digits.ensures.cases.1 c.in_ok-end.ensures.digits)
    ∙ c.reads_back.ensures.again (Data c.args.bytes.now) c.bytes_range.ensures

pub returns-clause-none : goal.returns-clause-none
returns-clause-none c =
    front_whole c.args.text.now c.in_ok-digits.digits.now c.args.bytes.now c.in_ok-end.end
    c.in_ok-digits.ensures.cases.0 c.in_ok-digits.ensures.cases.1 c.in_ok-end.ensures.digits

pub returns-clause-stands : goal.returns-clause-stands
returns-clause-stands c =
    front_ends c.args.text.now c.in_ok-digits.digits.now c.args.bytes.now c.in_ok-end.end
    c.in_ok-digits.ensures.cases.0 c.in_ok-digits.ensures.cases.1 c.in_ok-end.ensures.digits c.in_ok-end.ensures.stands
