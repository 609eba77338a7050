-- What the lines of a deck excuse: how often something of a device may have failed, by the FAIL and FAULT lines.
use Rattle.std.specs.Prelude.{◌≡◌, ℕ, ◌+◌, ◌==◌, ◌&&◌, ◌||◌, Bool, true, false, List, [], ◌∷◌, Option, Some, None, is_some, length, count_by, map, if◌then◌else◌}
use Rattle.std.specs.List.{range_with_len}
use Rattle.deck_plan.specs.declared.event.EventLine.{EventLine}
use Rattle.deck_plan.specs.declared.event.EventLine.TheVariants as lines
use Rattle.deck_text.specs.declared.line.FaultLine.{FaultLine}
use Rattle.deck_text.specs.DeckLines.{DeckLines}
use Rattle.device_defs.specs.declared.counts.Counts.{Counts}
use Rattle.device_outside.specs.Lists.{is_in}
use Rattle.subsystem_defs.specs.Closing.{where_true}
use Rattle.subsystem_defs.specs.Decks.{Firsts, empty_firsts}
use Rattle.subsystem_defs.specs.Happening.{is_lent_to}
use Rattle.subsystem_defs.specs.Subsystem.{Mounted, number_of}
use Rattle.path_top.specs.Pairs.{paired_on}

-- The lines

abbrev pub is_cache_loss : EventLine → Bool
is_cache_loss lines.FailCache = true
is_cache_loss _ = false

abbrev pub is_store_loss : EventLine → Bool
is_store_loss lines.FailStore = true
is_store_loss _ = false

-- the device of which a side is lost
abbrev pub side_loss : EventLine → Option ℕ
side_loss (lines.FailVolume d side) = Some d
side_loss _ = None

abbrev pub is_device : Option ℕ → ℕ → Bool
is_device (Some d) n = d == n
is_device None n = false

-- of a side of this device
abbrev pub is_side_loss : ℕ → EventLine → Bool
is_side_loss n e = is_device (side_loss e) n

-- the FAULT lines of this device
abbrev pub faults_of : DeckLines → ℕ → ℕ
faults_of deck n = count_by (λ (f : FaultLine). f.device == n) deck.faults

-- and those of the devices among these that are lent to it
abbrev pub lent_faults : DeckLines → ℕ → List Mounted → ℕ
lent_faults deck n [] = 0
lent_faults deck n (m ∷ ms) = (if is_lent_to m.device.store.lent n then faults_of deck (number_of m) else 0) + lent_faults deck n ms

-- how often each thing failed at most, where no calls of volumes are counted, on volumes that hold these tracks first
abbrev pub excuses_on : Firsts → DeckLines → ℕ → Counts
excuses_on firsts deck n = record {
  reads = 0;
  writes = 0;
  failed = faults_of deck n + lent_faults deck n (paired_on firsts deck).mounted;
  losses = record {
    cache = count_by is_cache_loss deck.events;
    store = count_by is_store_loss deck.events;
    sides = count_by (is_side_loss n) deck.events;
  };
}

-- on empty ones
abbrev pub excuses_of : DeckLines → ℕ → Counts
excuses_of deck n = excuses_on empty_firsts deck n

-- The lost tracks that are told of a device with so many tracks

-- tracks of it, in rising order
abbrev pub AreTracks : ℕ → List ℕ → Type 0
AreTracks n lost = lost ≡ where_true (λ (t : ℕ). is_in t lost) (range_with_len 0 n)

-- their marks
abbrev pub marks_by : ℕ → List ℕ → List Bool
marks_by n lost = map (λ (t : ℕ). is_in t lost) (range_with_len 0 n)

-- Where nothing fails

abbrev pub is_fail : EventLine → Bool
is_fail e = is_cache_loss e || (is_store_loss e || is_some (side_loss e))

-- no line is a FAIL or a FAULT
abbrev pub fails_nothing : DeckLines → Bool
fails_nothing deck = (length deck.faults == 0) && (count_by is_fail deck.events == 0)
