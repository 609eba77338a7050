use Rattle.std.proofs.Common.{take, arith}
use Rattle.track_image.proofs.Tracks.{found_packed}
use Rattle.track_image.proofs.reading.image_at.Goals as goal

pub of-requires : goal.of-requires
of-requires c = found_packed c.args.geometry c.args.home c.args.bytes.now
    (take c.in-Ok.found.count c.find_all.new.places) c.in-Ok.found.spent (λ i. omega (arith, c.type_inv.bytes i))
    c.in-Ok.ensures.found c.in-Ok.ensures.exact
