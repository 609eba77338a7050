use Rattle.subsystem_laws.proofs.turning.NewDevice.{first_stands, new_stands}
use Rattle.subsystem_laws.proofs.turns.new_device_stands.Goals as goal

pub returns : goal.returns
returns c = record {
  first = λ first d g n plans u some is a b gives. first_stands first d g n plans u some is a b gives;
  empty = λ d g n plans u some most a b gives. new_stands d g n plans u some most a b gives;
}
