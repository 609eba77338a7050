use Rattle.std.proofs.Common.{◌∙◌}
use Rattle.disk_image.proofs.Views.{none_written, set_back, written}
use Rattle.disk_image.proofs.image.write_into.Goals as goal

pub returns-then-set-clause-left : goal.returns-then-set-clause-left
returns-then-set-clause-left g c =
    written _ _ _ _ _ c.set.new.self _ _ c.requires.layout c.requires.track (c.set.ensures.size ∙ c.requires.room)
    (set_back _ _ _ _ c.set.ensures.fits c.set.ensures.room c.if-set.true) c.write_room.ensures.bytes

pub returns-clause-left : goal.returns-clause-left
returns-clause-left g c = none_written _ _ _ _ c.requires.layout
