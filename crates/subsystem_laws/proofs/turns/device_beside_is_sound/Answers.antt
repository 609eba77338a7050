use Rattle.subsystem_laws.proofs.turning.Sound.{beside_sound, beside_plain}
use Rattle.subsystem_laws.proofs.turns.device_beside_is_sound.Goals as goal

pub returns : goal.returns
returns c = record {
  sound = λ first d u s. (s.held, s.untold.a, s.untold.b, beside_sound d u s);
  plain = λ first d u s. beside_plain d u s;
}
