use Rattle.image_runner.proofs.Planned.{write_refused}
use Rattle.image_runner.proofs.volume.PlannedVolume.write_track.Goals as goal

pub returns-then-is_listed : goal.returns-then-is_listed
returns-then-is_listed g c =
    rw (c.counted-self.ensures.value, c.counted-self-then-is_listed.ensures.value)
    (write_refused (g.V.Volume.view c.args.self.now.volume) c.args.t c.args.bytes.now c.args.self.now.reads c.args.self.now.writes
    c.args.self.now.faults)
