use Rattle.report_reading.proofs.EndPieces.{byte_stands}
use Rattle.report_reading.proofs.end_ahead.byte_ahead.Goals as goal

pub returns : goal.returns
returns c =
    byte_stands c.args.text.now c.in_ok-rest.rest.now c.in_ok-rest-2.rest.now _ c.in_ok-rest.ensures
    c.in_ok-rest-2.ensures.cases.0 c.in_ok-rest-2.ensures.cases.1
