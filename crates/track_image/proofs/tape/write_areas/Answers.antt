use Rattle.track_image.proofs.Places.{written_twice}
use Rattle.track_image.proofs.tape.write_areas.Goals as goal

pub returns : goal.returns
returns c = rw (c.write_at-2.ensures, c.write_at.ensures)
    (written_twice c.args.at c.args.key.now c.args.body.now c.args.bytes.now c.requires)
