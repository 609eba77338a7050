use Rattle.subsystem_laws.proofs.looking.Keeps.{peek_keeps_own}
use Rattle.subsystem_laws.proofs.looks.look_keeps_own.Goals as goal

pub returns : goal.returns
returns g c = λ d e u z a t r. peek_keeps_own d e t r
