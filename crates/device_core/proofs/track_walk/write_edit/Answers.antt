use Rattle.std.proofs.Common.{refl, ap, sym, subst, Some}
use Rattle.device_outside.specs.Outside.{done}
use Rattle.device_outside.proofs.Runs.{ended, joined}
use Rattle.device_defs.specs.Command.{Over, came_of_write}
use Rattle.device_defs.specs.Contents.{contents}
use Rattle.device_defs.specs.Memory.{had_by}
use Rattle.device_core.specs.TrackWalk.{Left}
use Rattle.device_core.proofs.track_walk.write_edit.Goals as goal

pub returns-in-Err-clause-run : goal.returns-in-Err-clause-run
returns-in-Err-clause-run g c = joined (had_by (came_of_write contents c.args.chain.now c.args.t)) c.in-Err.ensures.run done

pub returns-in-Ok-clause-run : goal.returns-in-Ok-clause-run
returns-in-Ok-clause-run g c =
    joined (had_by (came_of_write contents c.args.chain.now c.args.t)) c.in-Ok.ensures.run (ended refl (ap (λ x. Some (Over x)) (sym c.wrote.ensures.turn)))

pub returns-in-Ok-clause-goes : goal.returns-in-Ok-clause-goes
returns-in-Ok-clause-goes g c = subst (λ n. Left n c.wrote.new.chain c.wrote.result) c.requires.at.cylinders_are c.wrote.ensures.left
