-- What is seen of the slots of a nonvolatile store.
use Rattle.std.specs.Prelude.{ℕ, ◌+◌, Bool, List, [], ◌∷◌, length, Option, Some, None, if◌then◌else◌, nat_lt}
use Rattle.device_outside.specs.declared.port.SlotGrant.{SlotGrant}
use Rattle.device_outside.specs.declared.port.SlotGrant.TheVariants.{Given, Denied, Down}

pub record Store : Type 0 where
  pub slots : ℕ  -- how many there are
  pub used : List ℕ  -- those in use, in rising order
  pub up : Bool

-- what is granted, but for the number of a slot
abbrev pub grant : Store → SlotGrant
grant s = if s.up then (if nat_lt (length s.used) s.slots then Given 0 else Denied) else Down

-- the numbers at which something is kept, where the first has the number n
abbrev pub numbers_from : {T : Type 0} → ℕ → List (Option T) → List ℕ
numbers_from n [] = []
numbers_from n (None ∷ rest) = numbers_from (n + 1) rest
numbers_from n (Some x ∷ rest) = n ∷ numbers_from (n + 1) rest
