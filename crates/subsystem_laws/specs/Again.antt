-- What want of memory leaves of a device as it was.
use Rattle.std.specs.Prelude.{◌≡◌, false, option_map}
use Rattle.ckd_chain.specs.State.{ChainState}
use Rattle.ckd_chain.specs.Steps.{again_from, chain_opened}
use Rattle.device_defs.specs.Sound.{DeviceStore}
use Rattle.device_laws.specs.Whole.{WholeDevice}

-- the place that a chain goes back to for want of memory
abbrev pub word_again : ChainState → ChainState
word_again chain = again_from (chain_opened chain)

-- the marks and the patches of its tracks, and the number of its data of cache fast write
pub record HasSameMarks (s z : DeviceStore) : Type 0 where
  pub lost : z.lost ≡ s.lost
  pub loose : z.loose ≡ s.loose
  pub sides : z.a ≡ s.a
  pub patches : z.patches ≡ s.patches
  pub half : z.half ≡ s.half
  pub number : z.number ≡ s.number

-- What is kept of its paths, with who holds it, its plans, and where its program is. Of a device that is no pair all of its history and its marks too: on a
-- pair a side that failed meanwhile may have left tracks firm, or lost
pub record IsAgain (d e : WholeDevice) : Type 0 where
  pub paths : e.paths ≡ d.paths
  pub plans : e.plans ≡ d.plans
  pub word : option_map word_again e.chain ≡ option_map word_again d.chain
  pub history : d.store.paired ≡ false → e.history ≡ d.history
  pub marks : d.store.paired ≡ false → HasSameMarks d.store e.store
