-- A call whose fault has a cause, behind others that didn't fail.
use Rattle.std.proofs.Common.{◌≤◌, ℕ, Result, Ok, Err, OnErr, arith, le_trans}
use Rattle.ckd_outside.specs.Causes.{HasCause, Rose}

rose_before : (a b c : ℕ) → a ≤ b → Rose b c → Rose a c
rose_before a b c le rose = omega (arith, le, rose)

failed_before : {T E : Type 0} (a b c : ℕ) (r : Result T E) → a ≤ b → OnErr r (Rose b c) → OnErr r (Rose a c)
failed_before a b c (Ok x) le failed = tt
failed_before a b c (Err e) le failed = rose_before a b c le failed

pub caused_then : {T E : Type 0} (a b c : ℕ) (r : Result T E) → a ≤ b → HasCause b c r → HasCause a c r
caused_then a b c r le cause = record { later = le_trans le cause.later; failed = failed_before a b c r le cause.failed }

-- whatever is answered
pub caused : {T E : Type 0} (a b c : ℕ) (r : Result T E) → a ≤ b → b ≤ c → Rose b c → HasCause a c r
caused a b c (Ok x) le later rose = record { later = le_trans le later; failed = tt }
caused a b c (Err e) le later rose = record { later = le_trans le later; failed = rose_before a b c le rose }
