use Rattle.deck_top.proofs.EmptyBays.{told_bytes}
use Rattle.deck_top.proofs.bytes.holds_bytes.Goals as goal

pub returns : goal.returns
returns c = told_bytes c.args.volume.now c.tracks_hold_bytes.ensures
