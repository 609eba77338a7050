-- Behind lines of a deck with small devices each device is as small.
use Rattle.std.proofs.Common.{◌≡◌, ◌≤◌, ℕ, take, map, Some}
use Rattle.deck_text.specs.DeckLines.{DeckLines}
use Rattle.subsystem_defs.specs.Decks.{Firsts, run_on}
use Rattle.subsystem_defs.specs.Lines.{asked_by}
use Rattle.subsystem_defs.specs.Subsystem.{Mounted, mounted_in}
use Rattle.subsystem_laws.proofs.KeptSizes.{sized_behind}
use Rattle.deck_run.specs.Fronts.{front_on}
use Rattle.volume_save.specs.Devices.{HasSmallDevices}

-- behind all of them
pub small_in_run : (firsts : Firsts) (deck : DeckLines) (d : ℕ) (m : Mounted) → HasSmallDevices deck →
    mounted_in (run_on firsts deck).behind.mounted d ≡ Some m → m.device.store.cylinders ≤ 64
small_in_run firsts deck d m small there = sized_behind (λ n. n ≤ 64) firsts deck (map asked_by deck.events) d m small there

-- behind the first n
pub small_in_front : (firsts : Firsts) (deck : DeckLines) (n d : ℕ) (m : Mounted) → HasSmallDevices deck →
    mounted_in (front_on firsts deck n).behind.mounted d ≡ Some m → m.device.store.cylinders ≤ 64
small_in_front firsts deck n d m small there = sized_behind (λ k. k ≤ 64) firsts deck (map asked_by (take n deck.events)) d m small there
