-- Devices that are sound over what their volumes tell.
use Rattle.std.specs.Prelude.{List, [], ◌∷◌}
use Rattle.device_outside.specs.After.{Tells}
use Rattle.device_defs.specs.Sound.{IsSound}
use Rattle.device_laws.specs.Agrees.{Held}
use Rattle.subsystem_laws.specs.WholeStood.{Stood}

-- track by track: its frame, its patch and what its sides hold agree with the plain device of its history
pub record StandsSound (x : Stood) : Type 0 where
  pub holdings : Held
  pub a : Tells x.a holdings.a
  pub b : Tells x.b holdings.b
  pub sound : IsSound x.device holdings

abbrev pub AreSound : List Stood → Type 0
AreSound [] = Unit {0}
AreSound (x ∷ xs) = StandsSound x × AreSound xs
