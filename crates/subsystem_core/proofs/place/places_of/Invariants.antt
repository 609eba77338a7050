use Rattle.std.proofs.Common.{◌≡◌, ◌<◌, ℕ, length, slice_index_or}
use Rattle.subsystem_core.specs.Devices.{numbers_of}
use Rattle.subsystem_core.proofs.place.places_of.Given as goal

abbrev pub invariant-loop-i : goal.invariant-loop-i
invariant-loop-i g l = record {
  places : length l.places ≡ 16;
  table : (j : ℕ) → j < l.i → slice_index_or l.places (slice_index_or (numbers_of l.devices) j 0) 0 ≡ j;
}
