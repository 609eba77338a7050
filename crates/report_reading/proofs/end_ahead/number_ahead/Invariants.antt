use Rattle.std.proofs.Common.{◌≡◌, ◌≤◌, true, take}
use Rattle.report_text.specs.Numbers.{are_digits, value_after}
use Rattle.report_reading.proofs.end_ahead.number_ahead.Given as goal

-- the digits so far have this value
abbrev pub invariant-loop-i : goal.invariant-loop-i
invariant-loop-i l =
    (are_digits (take l.i l.text) ≡ true) × (value_after 0 (take l.i l.text) ≡ l.value) × (l.value ≤ 65535)
