use Rattle.device_turn.proofs.Members.{opens}
use Rattle.device_turn.proofs.place.Turn.place.Goals as goal

pub new-requires : goal.new-requires
new-requires g c = rw (c.in_default.ensures.items, c.new-slots.ensures.items) (opens _ _ _ c.args.holder c.requires.keeps c.requires.unused)
