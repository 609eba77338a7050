-- What is sent of the pieces of an area.
use Rattle.std.specs.Prelude.{◌≡◌, ℕ, ◌-◌, List, ◌++◌, length, take}
use Rattle.ckd_read.specs.declared.sending.Sending.{Sending}

-- a part of the area came to what was sent so far, up to the count
pub record Takes (old new : Sending) (area : List ℕ) : Type 0 where
  pub bytes : new.bytes.items ≡ old.bytes.items ++ take old.left area
  pub left : new.left ≡ old.left - length area
