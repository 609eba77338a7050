-- How the state of a pair is told.
use Rattle.device_defs.specs.Pairs as defs
use Rattle.device_core.specs.declared.pairs.PairState.{PairState}
use Rattle.device_core.specs.declared.pairs.PairState.TheVariants.{Duplex, Pending, Suspended}

abbrev pub pair_seen : PairState → defs.PairState
pair_seen Duplex = defs.Duplex
pair_seen Pending = defs.Pending
pair_seen Suspended = defs.Suspended
