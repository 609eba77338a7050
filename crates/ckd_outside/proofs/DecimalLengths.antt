-- How many decimal digits a number below 65,536 has.
use Rattle.std.proofs.Common.{◌≡◌, ◌≤◌, ◌<◌, ◌/◌, ℕ, length, arith}
use Rattle.std.specs.Prelude.{decimal}
use Rattle.itoa.proofs.Decimal.{length_one, length_two, length_pair, length_four}

pub length_three : (n : ℕ) → 100 ≤ n → n < 1000 → length (decimal n) ≡ 3
length_three n lo hi = omega (arith, length_pair n lo (omega arith), length_one (n / 100) (omega arith))

pub length_of_four : (n : ℕ) → 1000 ≤ n → n < 10000 → length (decimal n) ≡ 4
length_of_four n lo hi = omega (arith, length_pair n (omega arith) (omega arith), length_two (n / 100) (omega arith) (omega arith))

pub length_five : (n : ℕ) → 10000 ≤ n → n < 65536 → length (decimal n) ≡ 5
length_five n lo hi = omega (arith, length_four n lo (omega arith), length_one (n / 10000) (omega arith))
