use Rattle.std.proofs.Common.{◌≡◌, ◌≤◌, ◌-◌, ◌*◌, ◌++◌, length, take, drop}
use Rattle.hex.specs.Hex.{encode_upper}
use Rattle.ckd_outside.proofs.digits.write_hex_digits.Given as goal

abbrev pub invariant-blocks-2 : goal.invariant-blocks-2
invariant-blocks-2 l =
    (l.i ≤ length l.bytes) × (length l.out ≡ 2 * length l.bytes) × (take (2 * l.i) l.out ++ encode_upper (drop l.i l.bytes) ≡ encode_upper l.bytes)

abbrev pub decreases-blocks-2 : goal.decreases-blocks-2
decreases-blocks-2 l = length l.bytes - l.i

abbrev pub invariant-bytes : goal.invariant-bytes
invariant-bytes l =
    (l.i ≤ length l.bytes) × (length l.out ≡ 2 * length l.bytes) × (take (2 * l.i) l.out ++ encode_upper (drop l.i l.bytes) ≡ encode_upper l.bytes)

abbrev pub decreases-bytes : goal.decreases-bytes
decreases-bytes l = length l.bytes - l.i
