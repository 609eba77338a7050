use Rattle.subsystem_laws.proofs.turning.Standing.{power_stands, reset_stands}
use Rattle.subsystem_laws.proofs.turns.cuts_let_stand.Goals as goal

pub returns : goal.returns
returns c = record {
  reset = λ first d e u z a path s r. reset_stands s (λ k m r l h. h) path a r;
  power = λ first d e u z a s r. power_stands s (λ k m r l h. h) a r;
}
