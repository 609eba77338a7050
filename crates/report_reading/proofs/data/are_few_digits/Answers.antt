use Rattle.std.proofs.Common.{◌+◌, ◌∙◌, ap, sym, drop}
use Rattle.std.specs.Str.{bytes_eq}
use Rattle.hex.specs.Hex.{encode_upper}
use Rattle.report_reading.proofs.DataPieces.{at_end, digits_on}
use Rattle.report_reading.proofs.data.are_few_digits.Goals as goal

pub returns-in-None : goal.returns-in-None
returns-in-None c =
    sym
    (c.loop-b.invariant
    ∙ ap (bytes_eq c.loop-b.rest.now) (digits_on c.args.bytes.now c.loop-b.b-index c.loop-b-test.true)
    ∙ c.in-None.ensures (encode_upper (drop (c.loop-b.b-index + 1) c.args.bytes.now)))

pub loop-b-preserved : goal.loop-b-preserved
loop-b-preserved c =
    c.loop-b.invariant
    ∙ ap (bytes_eq c.loop-b.rest.now) (digits_on c.args.bytes.now c.loop-b.b-index c.loop-b-test.true)
    ∙ c.in-Some.ensures (encode_upper (drop (c.loop-b.b-index + 1) c.args.bytes.now))

pub returns : goal.returns
returns c =
    c.is_empty.ensures ∙ sym (c.loop-b.invariant ∙ at_end c.loop-b.rest.now c.args.bytes.now c.loop-b.b-index c.loop-b-test.false)
