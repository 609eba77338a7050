-- Where the chain of a running program stands on its device, and with what it goes on there.
use Rattle.std.specs.Prelude.{◌≡◌, ◌<◌, ◌*◌, ℕ, Some, IfSome}
use Rattle.ckd_types.specs.declared.geometry.Geometry.{Geometry}
use Rattle.ckd_types.specs.Ccw.{ccw_at}
use Rattle.ckd_chain.specs.Facts.{IsChain}
use Rattle.ckd_chain.specs.State.{ChainState}
use Rattle.ckd_chain.specs.Steps.{chain_opened, need_of, word_of}
use Rattle.plain_defs.specs.Whole.{GivesBytes}

-- a chain that keeps to what chains keep to, of a device with this many cylinders
pub record IsChainOf (n : ℕ) (chain : ChainState) : Type 0 where
  pub is : IsChain chain
  pub cylinders : chain.fixed.cylinders ≡ n

-- on a track of the device where it looks at one, with an extent on the device, also once its command has begun
pub record IsWithin (n : ℕ) (chain : ChainState) : Type 0 where
  pub needs : (t : ℕ) → need_of chain ≡ Some t → t < n
  pub used : IfSome chain.at.stance.extent (λ e. e.last < n)
  pub extent : IfSome (chain_opened chain).at.stance.extent (λ e. e.last < n)

-- a chain of a program of a device with this many cylinders and this geometry. Each of its words gives bytes
pub record RunsOn (n : ℕ) (g : Geometry) (chain : ChainState) : Type 0 where
  pub is : IsChainOf n chain
  pub geometry : chain.fixed.geometry ≡ g
  pub gives : (i : ℕ) → GivesBytes (ccw_at chain.ccws i)

-- a chain that looks at track t
pub record LooksAt (n : ℕ) (g : Geometry) (chain : ChainState) (t : ℕ) : Type 0 where
  pub within : IsWithin (n * 15) chain
  pub needs : need_of chain ≡ Some t
  pub geometry : chain.fixed.geometry ≡ g
  pub gives : GivesBytes (word_of chain)
