use Rattle.subsystem_laws.proofs.turning.SameAgain.{background_again, command_again}
use Rattle.subsystem_laws.proofs.turning.Wanting.{background_lacked, command_lacked, same_volume}
use Rattle.subsystem_laws.proofs.turns.want_of_memory_leaves_device.Goals as goal

pub returns : goal.returns
returns c = record {
  command = λ first d e u z o s none runs chains r. let x = command_lacked s o none runs chains r in (x.beside, same_volume s x);
  background = λ first d e u z s none r. let x = background_lacked s none r in (x.beside, same_volume s x);
  same = λ d e u z o chain runs now r. command_again d o chain runs now r;
  same_by_itself = λ d e u z r. background_again d r;
}
