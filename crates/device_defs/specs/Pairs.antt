-- In which state a pair is: it is read off its marks.
use Rattle.std.specs.Prelude.{ℕ, ◌&&◌, ◌||◌, not, Bool, Option, None, Some, is_some, if◌then◌else◌}
use Rattle.track_table.specs.Tracks.{least}
use Rattle.device_defs.specs.Store.{Store, tracks_of, stale_at}

-- both sides have each track; some track is still to be copied; a side failed or is held
pub data PairState : Type 0 where
  Duplex : PairState
  Pending : PairState
  Suspended : PairState

module _ {F P H : Type 0} where
  abbrev pub has_stale : Store F P H → Bool
  has_stale s = is_some (least (tracks_of s) (λ t. stale_at s.a t || stale_at s.b t))

  abbrev pub state_of_pair : Store F P H → PairState
  state_of_pair s = if not (s.a.up && s.b.up) || s.held then Suspended else if has_stale s then Pending else Duplex

  -- None: it is no pair
  abbrev pub pair_state : Store F P H → Option PairState
  pair_state s = if s.paired then Some (state_of_pair s) else None
