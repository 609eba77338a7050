use Rattle.std.proofs.Common.{◌≡◌, ◌<◌, ◌≤◌, ◌^◌, length, drop}
use Rattle.report_text.specs.Numbers.{are_digits, value_after}
use Rattle.report_text.proofs.numbers.number_of.Given as goal

-- what the digits so far say
abbrev pub invariant-loop-b : goal.invariant-loop-b
invariant-loop-b l =
    (are_digits (drop l.b-index l.bytes) ≡ are_digits l.bytes)
    × (value_after l.value (drop l.b-index l.bytes) ≡ value_after 0 l.bytes)
    × (l.value < 10 ^ l.b-index)
    × (length l.bytes ≤ 20)
