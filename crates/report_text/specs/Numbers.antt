-- Numbers in a line: decimal digits without a leading zero.
use Rattle.std.specs.Prelude.{ℕ, ◌+◌, ◌-◌, ◌*◌, ◌==◌, ◌&&◌, not, nat_le, nat_lt, Bool, true, List, [], ◌∷◌, length, slice_index, Option, Some, None}
use Rattle.std.specs.Prelude.{if◌then◌else◌}

abbrev pub is_digit : ℕ → Bool
is_digit b = nat_le 48 b && nat_le b 57

abbrev pub are_digits : List ℕ → Bool
are_digits [] = true
are_digits (b ∷ bytes) = is_digit b && are_digits bytes

-- the value of the digits behind a number
abbrev pub value_after : ℕ → List ℕ → ℕ
value_after n [] = n
value_after n (b ∷ bytes) = value_after (n * 10 + (b - 48)) bytes

-- one to twenty bytes, as many as a number of 64 bits has, without a leading zero
abbrev pub has_form : List ℕ → Bool
has_form bytes =
    nat_lt 0 (length bytes) && nat_le (length bytes) 20 && not (nat_lt 1 (length bytes) && (slice_index bytes 0 == 48))

abbrev pub number_of : List ℕ → Option ℕ
number_of bytes = if has_form bytes && are_digits bytes then Some (value_after 0 bytes) else None

abbrev pub within : ℕ → ℕ → Option ℕ → Option ℕ
within least most None = None
within least most (Some n) = if nat_le least n && nat_le n most then Some n else None

abbrev pub number_in : ℕ → ℕ → List ℕ → Option ℕ
number_in least most bytes = within least most (number_of bytes)
