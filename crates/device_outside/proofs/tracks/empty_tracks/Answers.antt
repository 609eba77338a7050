use Rattle.std.proofs.Common.{◌*◌, ◌∙◌, ap, arith, length}
use Rattle.std.proofs.lemmas.Grind.{common_steps}
use Rattle.std.proofs.lemmas.List.{length-set}
use Rattle.device_outside.specs.Disk.{empty_bytes}
use Rattle.device_outside.proofs.RoomLemmas.{next_made}
use Rattle.device_outside.proofs.tracks.empty_tracks.Goals as goal

pub loop-n-preserved : goal.loop-n-preserved
loop-n-preserved c = (
  next_made empty_bytes c.loop-n.n c.from-in-loop-n.result (c.args.cylinders * 15) c.loop-n.tracks _ c.empty_bytes.result (omega arith)
      (omega arith) (grind (arith, common_steps)) c.set.ensures c.loop-n.invariant.0,
  ap length c.set.ensures ∙ length-set c.loop-n.tracks c.from-in-loop-n.result c.empty_bytes.result ∙ c.loop-n.invariant.1,
)
