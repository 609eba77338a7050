-- Over which bay a deck runs.
use Rattle.std.specs.Prelude.{◌≡◌, []}
use Rattle.device_outside.specs.Bay.{Bay}

-- this is so of a bay that is new, and of what is left of it
pub record OverNewBay (p : Bay → Bay → Type 0) : Type 0 where
  pub before : Bay
  pub behind : Bay
  pub is_new : before ≡ record { spoiled = []; made = 0; taken = [] }
  pub is_so : p before behind
