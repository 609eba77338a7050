-- What is seen of a source and of a sink in memory.
use Rattle.std.specs.Prelude.{ℕ, ◌+◌, ◌-◌, ◌^◌, ◌==◌, ◌&&◌, Bool, List, min, nat_lt, count_by}
use Rattle.std.specs.List.{list_any}

-- a source: what is left, the most bytes of a read, how many reads there were and which fail, and its faults
pub record Supply : Type 0 where
  pub left : List ℕ
  pub piece : ℕ
  pub reads : ℕ
  pub fail_reads : List ℕ
  pub faults : ℕ

-- a sink: what it holds, how many more bytes it takes, the most bytes of a write, how many writes there were and which fail, and its faults
pub record Store : Type 0 where
  pub held : List ℕ
  pub room : ℕ
  pub piece : ℕ
  pub writes : ℕ
  pub fail_writes : List ℕ
  pub faults : ℕ

-- the number of calls, one call on
abbrev pub one_more : ℕ → ℕ
one_more calls = min (calls + 1) (2 ^ 32 - 1)

-- whether the next call after so many is one of the numbers
abbrev pub is_next : ℕ → List ℕ → Bool
is_next calls numbers = nat_lt calls (2 ^ 32 - 1) && list_any (λ n. n == calls + 1) numbers

-- the entries of a list of call numbers whose call is still to come after so many calls
abbrev pub to_come : ℕ → List ℕ → ℕ
to_come calls numbers = count_by (λ n. nat_lt calls n) numbers
