use Rattle.disk_image.proofs.Created.{empty_put, empty_set}
use Rattle.disk_image.proofs.creating.write_empty.Goals as goal

pub returns-clause-put : goal.returns-clause-put
returns-clause-put g c = λ has.
    empty_put c.args.geometry c.args.t _ _ c.set.new.self _ _ has
    (empty_set _ _ _ _ _ c.in_ok-image.image c.set.result c.requires c.in_ok-image.ensures c.fits.ensures c.bytes.ensures.value c.set.ensures.fits
    c.set.ensures.room)
    c.in_ok-write_room.ensures.bytes
