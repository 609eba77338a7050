-- Which devices a deck has.
use Rattle.std.specs.Prelude.{◌≤◌, ℕ, All, Bool}
use Rattle.deck_text.specs.declared.line.DeviceLine.{DeviceLine}
use Rattle.deck_text.specs.DeckLines.{DeckLines}
use Rattle.deck_run.specs.Opening.{numbers_in}
use Rattle.device_outside.specs.Lists.{is_in}

-- the deck has a device of this number
abbrev pub is_declared : DeckLines → ℕ → Bool
is_declared d n = is_in n (numbers_in d.devices)

-- each of them has as many cylinders as a volume file may have. In every deck that was read that is so
abbrev pub HasSmallDevices : DeckLines → Type 0
HasSmallDevices d = All (λ (line : DeviceLine). line.cylinders ≤ 64) d.devices
