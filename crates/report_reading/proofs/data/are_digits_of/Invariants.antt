use Rattle.std.proofs.Common.{◌≡◌, ◌≤◌, ◌-◌, ◌*◌, length, drop}
use Rattle.std.specs.Str.{bytes_eq}
use Rattle.hex.specs.Hex.{encode_upper}
use Rattle.report_reading.proofs.data.are_digits_of.Given as goal

-- the rest of the digits and of the bytes decide
abbrev pub invariant-blocks-2 : goal.invariant-blocks-2
invariant-blocks-2 l = (l.i ≤ length l.bytes)
    × (bytes_eq l.text (encode_upper l.bytes) ≡ bytes_eq (drop (2 * l.i) l.text) (encode_upper (drop l.i l.bytes)))

abbrev pub decreases-blocks-2 : goal.decreases-blocks-2
decreases-blocks-2 l = length l.bytes - l.i
