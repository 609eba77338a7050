-- What a line does to a reading.
use Rattle.std.specs.Prelude.{ℕ, ◌<◌, nat_le, Bool, true, false, List, [], ◌∷◌, ◌++◌, length, slice_index_or, Option, Some, None, Result, Ok, Err}
use Rattle.std.specs.Prelude.{if◌then◌else◌}
use Rattle.ckd_types.specs.declared.channel.Ccw.{Ccw}
use Rattle.ckd_types.specs.declared.channel.Why.{Why}
use Rattle.ckd_types.specs.Program.{first_fault}
use Rattle.deck_text.specs.declared.line.DeckWhy.{DeckWhy}
use Rattle.deck_text.specs.declared.line.DeckWhy.TheVariants as reasons
use Rattle.deck_text.specs.declared.line.Which.TheVariants as limits
use Rattle.deck_text.specs.declared.line.DeckFault.{DeckFault}
use Rattle.deck_text.specs.declared.line.DeckFault.TheVariants.{Refused, Limit}
use Rattle.deck_text.specs.declared.keyword.DeckKeyword.{DeckKeyword}
use Rattle.deck_text.specs.declared.keyword.DeckKeyword.TheVariants.{Deck, Cache, Store, Device, Fault, Program, Ccw as ChannelWord, End, Events, Event}
use Rattle.deck_text.specs.declared.place.LinePlace.{LinePlace}
use Rattle.deck_text.specs.declared.place.LinePlace.TheVariants as places
use Rattle.deck_text.specs.DeckLines.{DeckLines}
use Rattle.deck_text.specs.Lines.{is_comment, has_bad_byte}
use Rattle.deck_text.specs.Words.{words_of}
use Rattle.deck_text.specs.Keywords.{keyword_of}
use Rattle.deck_text.specs.Forms.{no_words, deck_line, count_line, device_line, fault_line, path_and_device, ccw_line}
use Rattle.deck_text.specs.Events.{event_line}

-- where a reading is, the deck so far, and of the program that is open its words and their lines
pub record State : Type 0 where
  pub place : LinePlace
  pub deck : DeckLines
  pub words : List Ccw
  pub lines : List ℕ

-- where a program is open the deck has room for it
abbrev pub HasRoom : LinePlace → ℕ → Type 0
HasRoom (places.Inside path device) programs = programs < 512
HasRoom _ programs = Unit {0}

-- which lines may stand at a place
abbrev pub may_stand : DeckKeyword → LinePlace → Bool
may_stand Deck places.Front = true
may_stand Cache places.Sizes = true
may_stand Store places.Slots = true
may_stand Device places.FirstDevice = true
may_stand Device places.Devices = true
may_stand Fault places.Devices = true
may_stand Fault places.Faults = true
may_stand Program places.Devices = true
may_stand Program places.Faults = true
may_stand Program places.Programs = true
may_stand ChannelWord (places.Inside path device) = true
may_stand End (places.Inside path device) = true
may_stand Events places.Devices = true
may_stand Events places.Faults = true
may_stand Events places.Programs = true
may_stand (Event word) places.Events = true
may_stand _ _ = false

-- a line's own reason stands at the line
abbrev pub or_refuse : {T : Type 0} → ℕ → Result T DeckWhy → (T → Result State DeckFault) → Result State DeckFault
or_refuse n (Err why) go = Err (Refused n why)
or_refuse n (Ok x) go = go x

-- the path and the device of the program that is open
abbrev pub open_program : LinePlace → Option (ℕ × ℕ)
open_program (places.Inside path device) = Some (path, device)
open_program _ = None

-- the program is a part of the deck, and none is open
abbrev pub file_ended : State → ℕ × ℕ → State
file_ended s at = record s {
  place = places.Programs;
  deck = record s.deck { programs = s.deck.programs ++ record { path = at.0; device = at.1; program = s.words } ∷ [] };
  words = [];
  lines = [];
}

-- a program's END: its first bad word is named, or END where there is no word
abbrev pub end_program : ℕ → State → Option (ℕ × ℕ) → Option (ℕ × Why) → Result State DeckFault
end_program n s None fault = Err (Refused n reasons.Order)
end_program n s (Some at) (Some fault) = Err (Refused (slice_index_or s.lines fault.0 n) reasons.Program)
end_program n s (Some at) None = Ok (file_ended s at)

-- what a line with this first word does
abbrev pub line_put : ℕ → State → DeckKeyword → List (List ℕ) → Result State DeckFault
line_put n s Deck words = or_refuse n (deck_line words) (λ one. Ok (record s { place = places.Sizes }))
line_put n s Cache words = or_refuse n (count_line 1 4096 words) (λ k. Ok (record s { place = places.Slots; deck = record s.deck { frames = k } }))
line_put n s Store words = or_refuse n (count_line 0 1024 words) (λ k. Ok (record s { place = places.FirstDevice; deck = record s.deck { slots = k } }))
line_put n s Device words =
    or_refuse n (device_line s.deck.devices words)
    (λ line. Ok (record s { place = places.Devices; deck = record s.deck { devices = s.deck.devices ++ line ∷ [] } }))
line_put n s Fault words =
    or_refuse n (fault_line s.deck.devices words) (λ line.
    if nat_le 1024 (length s.deck.faults) then Err (Limit limits.Faults)
    else Ok (record s { place = places.Faults; deck = record s.deck { faults = s.deck.faults ++ line ∷ [] } }))
line_put n s Program words =
    or_refuse n (path_and_device s.deck.devices words) (λ at.
    if nat_le 512 (length s.deck.programs) then Err (Limit limits.Programs)
    else Ok (record s { place = places.Inside at.0 at.1; words = []; lines = [] }))
line_put n s ChannelWord words =
    or_refuse n (ccw_line words) (λ ccw.
    if nat_le 256 (length s.words) then Err (Refused n reasons.Program)
    else Ok (record s { words = s.words ++ ccw ∷ []; lines = s.lines ++ n ∷ [] }))
line_put n s End words = or_refuse n (no_words words) (λ none. end_program n s (open_program s.place) (first_fault s.words))
line_put n s Events words = or_refuse n (no_words words) (λ none. Ok (record s { place = places.Events }))
line_put n s (Event word) words =
    or_refuse n (event_line s.deck.devices word words) (λ line.
    if nat_le 65536 (length s.deck.events) then Err (Limit limits.Events)
    else Ok (record s { deck = record s.deck { events = s.deck.events ++ line ∷ [] } }))

abbrev pub put_words : ℕ → State → Option DeckKeyword → List (List ℕ) → Result State DeckFault
put_words n s None words = Err (Refused n reasons.Word)
put_words n s (Some keyword) words = if may_stand keyword s.place then line_put n s keyword words else Err (Refused n reasons.Order)

-- a line without words is skipped
abbrev pub take_words : ℕ → List ℕ → State → List (List ℕ) → Result State DeckFault
take_words n line s [] = Ok s
take_words n line s (word ∷ words) = if has_bad_byte line then Err (Refused n reasons.Byte) else put_words n s (keyword_of word) words

-- a line of a text, and its number: a comment is skipped
abbrev pub take_line : ℕ → List ℕ → State → Result State DeckFault
take_line n line s = if is_comment line then Ok s else take_words n line s (words_of line)
