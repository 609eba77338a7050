-- What the words of a program keep to.
use Rattle.std.specs.Prelude.{◌≡◌, ◌<◌, ◌≤◌, ℕ, ◌+◌, true, false, List, length}
use Rattle.ckd_types.specs.declared.channel.Ccw.{Ccw}
use Rattle.ckd_types.specs.Ccw.{is_chained, is_transfer, ccw_at}
use Rattle.ckd_types.specs.Commands.{is_search}

-- word i of a list: a transfer leads to a command, and a chained command has what it may need behind it
pub record IsWord (ccws : List Ccw) (i : ℕ) (c : Ccw) : Type 0 where
  pub first : is_transfer c ≡ true → 0 < i
  pub target : is_transfer c ≡ true → c.count < length ccws
  pub command : is_transfer c ≡ true → is_transfer (ccw_at ccws c.count) ≡ false
  pub count : is_transfer c ≡ false → 0 < c.count
  pub given : is_transfer c ≡ false → length c.given ≤ c.count
  pub next : is_transfer c ≡ false → is_chained c ≡ true → i + 1 < length ccws
  pub skip : is_transfer c ≡ false → is_chained c ≡ true → is_search c.command ≡ true → i + 2 < length ccws
