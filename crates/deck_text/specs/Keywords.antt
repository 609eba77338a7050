-- The first words of lines.
use Rattle.std.specs.Prelude.{ℕ, List, codes, Option, Some, None, if◌then◌else◌}
use Rattle.std.specs.Str.{bytes_eq}
use Rattle.deck_text.specs.declared.keyword.EventWord.{EventWord}
use Rattle.deck_text.specs.declared.keyword.EventWord.TheVariants.{Start, Step, Run, Back, Settle, Reset, Fail, Repair}
use Rattle.deck_text.specs.declared.keyword.EventWord.TheVariants.{Replace, Pair, Unpair, Suspend, Resume, Power}
use Rattle.deck_text.specs.declared.keyword.DeckKeyword.{DeckKeyword}
use Rattle.deck_text.specs.declared.keyword.DeckKeyword.TheVariants.{Deck, Cache, Store, Device, Fault, Program, Ccw, End, Events, Event}

-- the words of the lines up to the events
unfoldable pub head_of : List ℕ → Option DeckKeyword
head_of word =
    if bytes_eq word (codes "DECK") then Some Deck
    else if bytes_eq word (codes "CACHE") then Some Cache
    else if bytes_eq word (codes "STORE") then Some Store
    else if bytes_eq word (codes "DEVICE") then Some Device
    else if bytes_eq word (codes "FAULT") then Some Fault
    else if bytes_eq word (codes "PROGRAM") then Some Program
    else if bytes_eq word (codes "CCW") then Some Ccw
    else if bytes_eq word (codes "END") then Some End
    else if bytes_eq word (codes "EVENTS") then Some Events
    else None

-- the words of events
unfoldable pub event_word_of : List ℕ → Option EventWord
event_word_of word =
    if bytes_eq word (codes "START") then Some Start
    else if bytes_eq word (codes "STEP") then Some Step
    else if bytes_eq word (codes "RUN") then Some Run
    else if bytes_eq word (codes "BACK") then Some Back
    else if bytes_eq word (codes "SETTLE") then Some Settle
    else if bytes_eq word (codes "RESET") then Some Reset
    else if bytes_eq word (codes "FAIL") then Some Fail
    else if bytes_eq word (codes "REPAIR") then Some Repair
    else if bytes_eq word (codes "REPLACE") then Some Replace
    else if bytes_eq word (codes "PAIR") then Some Pair
    else if bytes_eq word (codes "UNPAIR") then Some Unpair
    else if bytes_eq word (codes "SUSPEND") then Some Suspend
    else if bytes_eq word (codes "RESUME") then Some Resume
    else if bytes_eq word (codes "POWER") then Some Power
    else None

abbrev pub orelse : Option DeckKeyword → Option EventWord → Option DeckKeyword
orelse (Some keyword) event = Some keyword
orelse None (Some event) = Some (Event event)
orelse None None = None

abbrev pub keyword_of : List ℕ → Option DeckKeyword
keyword_of word = orelse (head_of word) (event_word_of word)
