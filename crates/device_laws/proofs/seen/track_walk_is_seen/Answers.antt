use Rattle.std.proofs.Common.{◌*◌}
use Rattle.device_laws.specs.Standing.{LooksAt}
use Rattle.device_laws.proofs.ChainFeeds.{chain_feeds}
use Rattle.device_laws.proofs.counted.Walks.{follow_so}
use Rattle.device_laws.proofs.seen.track_walk_is_seen.Goals as goal

pub returns : goal.returns
returns h c = λ cylinders g n first t chain s e u z turn at r.
    follow_so _ _ (cylinders * 15) g (LooksAt cylinders g) (chain_feeds cylinders g) n first chain t s at e u z turn r
