use Rattle.std.proofs.Common.{◌≡◌, drop}
use Rattle.std.specs.Str.{bytes_eq}
use Rattle.hex.specs.Hex.{encode_upper}
use Rattle.report_reading.proofs.data.are_few_digits.Given as goal

-- the rest of the digits and of the bytes decide
abbrev pub invariant-loop-b : goal.invariant-loop-b
invariant-loop-b l = bytes_eq l.digits (encode_upper l.bytes) ≡ bytes_eq l.rest (encode_upper (drop l.b-index l.bytes))
