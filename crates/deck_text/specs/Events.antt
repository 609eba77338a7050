-- What the words behind the first one say in an event line.
use Rattle.std.specs.Prelude.{ℕ, List, codes, Bool, Option, Some, None, Result, Ok, Err, if◌then◌else◌}
use Rattle.std.specs.Str.{bytes_eq}
use Rattle.ckd_types.specs.declared.paths.Side.{Side}
use Rattle.deck_plan.specs.declared.event.EventLine.{EventLine}
use Rattle.deck_plan.specs.declared.event.EventLine.TheVariants as events
use Rattle.deck_text.specs.declared.keyword.EventWord.{EventWord}
use Rattle.deck_text.specs.declared.keyword.EventWord.TheVariants.{Start, Step, Run, Back, Settle, Reset, Fail, Repair}
use Rattle.deck_text.specs.declared.keyword.EventWord.TheVariants.{Replace, Pair, Unpair, Suspend, Resume, Power}
use Rattle.deck_text.specs.declared.keyword.EventPart.{EventPart}
use Rattle.deck_text.specs.declared.keyword.EventPart.TheVariants.{Cache, Store}
use Rattle.deck_text.specs.declared.line.DeckWhy.{DeckWhy}
use Rattle.deck_text.specs.declared.line.DeckWhy.TheVariants.{Words}
use Rattle.deck_text.specs.declared.line.DeviceLine.{DeviceLine}
use Rattle.deck_text.specs.Words.{one_word, two_words, three_words}
use Rattle.deck_text.specs.Forms.{needed, then_read, device_of, no_words, path_and_device, side_by_word}

-- one device
abbrev pub device_words : List DeviceLine → List (List ℕ) → Result ℕ DeckWhy
device_words devices words = then_read (needed Words (one_word words)) (device_of devices)

-- two devices
abbrev pub pair_words : List DeviceLine → List (List ℕ) → Result (ℕ × ℕ) DeckWhy
pair_words devices words =
    then_read (needed Words (two_words words)) (λ w.
    then_read (device_of devices w.0) (λ a. then_read (device_of devices w.1) (λ b. Ok (a, b))))

-- a device and a side
abbrev pub side_words : List DeviceLine → List ℕ → List ℕ → Result (ℕ × Side) DeckWhy
side_words devices device side = then_read (needed Words (side_by_word side)) (λ s. then_read (device_of devices device) (λ d. Ok (d, s)))

-- CACHE, or STORE
unfoldable pub part_word : List ℕ → Option EventPart
part_word word = if bytes_eq word (codes "CACHE") then Some Cache else if bytes_eq word (codes "STORE") then Some Store else None

unfoldable pub is_volume : List ℕ → Bool
is_volume word = bytes_eq word (codes "VOLUME")

abbrev pub part_words : List (List ℕ) → Result EventPart DeckWhy
part_words words = then_read (needed Words (one_word words)) (λ w. needed Words (part_word w))

abbrev pub failed_part : EventPart → EventLine
failed_part Cache = events.FailCache
failed_part Store = events.FailStore

abbrev pub repaired_part : EventPart → EventLine
repaired_part Cache = events.RepairCache
repaired_part Store = events.RepairStore

-- FAIL CACHE, FAIL STORE, and with three words FAIL VOLUME d s
abbrev pub fail_by : Option (List ℕ × List ℕ × List ℕ) → List DeviceLine → List (List ℕ) → Result EventLine DeckWhy
fail_by None devices words = then_read (part_words words) (λ part. Ok (failed_part part))
fail_by (Some w) devices words =
    if is_volume w.0 then then_read (side_words devices w.1 w.2) (λ at. Ok (events.FailVolume at.0 at.1)) else Err Words

abbrev pub fail_line : List DeviceLine → List (List ℕ) → Result EventLine DeckWhy
fail_line devices words = fail_by (three_words words) devices words

abbrev pub repair_line : List (List ℕ) → Result EventLine DeckWhy
repair_line words = then_read (part_words words) (λ part. Ok (repaired_part part))

abbrev pub replace_line : List DeviceLine → List (List ℕ) → Result EventLine DeckWhy
replace_line devices words =
    then_read (needed Words (two_words words)) (λ w. then_read (side_words devices w.0 w.1) (λ at. Ok (events.Replace at.0 at.1)))

abbrev pub event_line : List DeviceLine → EventWord → List (List ℕ) → Result EventLine DeckWhy
event_line devices Start words = then_read (path_and_device devices words) (λ at. Ok (events.Start at.0 at.1))
event_line devices Step words = then_read (device_words devices words) (λ d. Ok (events.Step d))
event_line devices Run words = then_read (device_words devices words) (λ d. Ok (events.Run d))
event_line devices Back words = then_read (device_words devices words) (λ d. Ok (events.Back d))
event_line devices Settle words = then_read (device_words devices words) (λ d. Ok (events.Settle d))
event_line devices Reset words = then_read (path_and_device devices words) (λ at. Ok (events.Reset at.0 at.1))
event_line devices Fail words = fail_line devices words
event_line devices Repair words = repair_line words
event_line devices Replace words = replace_line devices words
event_line devices Pair words = then_read (pair_words devices words) (λ at. Ok (events.Pair at.0 at.1))
event_line devices Unpair words = then_read (device_words devices words) (λ d. Ok (events.Unpair d))
event_line devices Suspend words = then_read (device_words devices words) (λ d. Ok (events.Suspend d))
event_line devices Resume words = then_read (device_words devices words) (λ d. Ok (events.Resume d))
event_line devices Power words = then_read (no_words words) (λ _. Ok events.Power)
