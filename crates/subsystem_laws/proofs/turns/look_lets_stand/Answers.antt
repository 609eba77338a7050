use Rattle.device_defs.specs.Contents.{contents}
use Rattle.subsystem_laws.proofs.looking.EitherWay.{look_had}
use Rattle.subsystem_laws.proofs.turning.SameAgain.{peek_again}
use Rattle.subsystem_laws.proofs.turning.Standing.{peek_stands}
use Rattle.subsystem_laws.proofs.turns.look_lets_stand.Goals as goal

pub returns-clause-stands : goal.returns-clause-stands
returns-clause-stands c = λ first d e u z t a s lt may r. let o = look_had contents d t r in peek_stands s (λ k m q l h. h) o.0 t lt may o.1

pub returns-clause-same : goal.returns-clause-same
returns-clause-same c = λ d e u z t a r. peek_again d t r
