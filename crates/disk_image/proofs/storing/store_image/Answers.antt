use Rattle.std.proofs.Common.{List, ℕ, subst}
use Rattle.disk_image.specs.Calls.{PutsAll}
use Rattle.disk_image.specs.File.{place_of}
use Rattle.disk_image.proofs.StoredTracks.{image_set}
use Rattle.disk_image.proofs.storing.store_image.Goals as goal

pub returns-clause-bytes : goal.returns-clause-bytes
returns-clause-bytes g c =
    subst
    (λ (r : List ℕ). PutsAll (g.F.DiskFile.held c.args.file.now) (place_of c.args.geometry c.args.t) r c.write_room.result
    (g.F.DiskFile.held c.write_room.new.file))
    (image_set c.args.geometry c.args.room.now c.set.new.self c.bytes.result.now c.args.image.now c.set.result c.requires.room c.requires.model
    c.fits.ensures c.bytes.ensures.value c.set.ensures.fits c.set.ensures.room)
    c.write_room.ensures.bytes
