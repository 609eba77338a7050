use Rattle.subsystem_laws.proofs.turning.Found.{peek_finds}
use Rattle.subsystem_laws.proofs.turning.Wanting.{peek_beside}
use Rattle.subsystem_laws.proofs.turns.look_finds_plain_track.Goals as goal

pub returns : goal.returns
returns c = λ first d e u z t a s lt may r. (peek_finds s t lt may r, (peek_beside s t lt may r).beside)
