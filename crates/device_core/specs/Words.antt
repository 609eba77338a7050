-- A chain between two commands of a program that runs, and the ends of its commands.
use Rattle.std.specs.Prelude.{◌≡◌, ◌<◌, ℕ, IsSome, length}
use Rattle.ckd_types.specs.declared.channel.CommandEnd.{CommandEnd}
use Rattle.ckd_types.specs.Roomy.{Roomy}
use Rattle.ckd_chain.specs.State.{ChainState}
use Rattle.ckd_chain.specs.Steps.{chain_opened}

-- it is at a word, and so it is where it goes back to for want of memory
pub record IsReady (chain : ChainState) : Type 0 where
  pub running : IsSome chain.at.next
  pub back : IsSome (chain_opened chain).before.next

-- on a device of so many cylinders
pub record IsAtWord (cylinders : ℕ) (chain : ChainState) : Type 0 where
  pub ready : IsReady chain
  pub cylinders_are : chain.fixed.cylinders ≡ cylinders

-- there is room for one end more, which can still be counted
pub record HasEndRoom (ends : Roomy CommandEnd) : Type 0 where
  pub room : 0 < ends.spare
  pub counted : length ends.items < 65534
