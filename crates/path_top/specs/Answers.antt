-- What the top call of paths answers, and what it then has written.
use Rattle.std.specs.Prelude.{◌≡◌, ℕ, Bool, true, false, List, [], ◌∷◌, All, codes, map, Option, Result, Ok, Err}
use Rattle.std.specs.Str.{bytes_eq}
use Rattle.std.specs.Io.KnownBytes.{Appends}
use Rattle.ckd_outside.specs.Texts.{AppendsFront}
use Rattle.deck_text.specs.DeckLines.{DeckLines}
use Rattle.deck_text.specs.declared.line.DeckFault.{DeckFault}
use Rattle.deck_text.specs.declared.line.DeckFault.TheVariants as faults
use Rattle.deck_text.specs.Parse.{parsed}
use Rattle.deck_text.specs.Texts.{limit_text, refused_text}
use Rattle.deck_run.specs.Opening.{numbers_in}
use Rattle.deck_top.specs.declared.top.Status.{Status}
use Rattle.deck_top.specs.declared.top.Status.TheVariants.{Reported, DeckRefused, ReadFault, WriteFault, Limit, NoMemory}
use Rattle.deck_top.specs.Answers.{Reads, TellsUsageBy}
use Rattle.deck_top.specs.Bays.{BayView, HandsOut}
use Rattle.device_defs.specs.Pledge.{are_kept}
use Rattle.report_text.specs.declared.line.ReportLine.{ReportLine}
use Rattle.report_text.specs.Ends.{lines_text}
use Rattle.subsystem_defs.specs.Decks.{Firsts, empty_firsts}
use Rattle.path_top.specs.Histories.{AreToldOfOn, IsHistoryOn}
use Rattle.path_top.specs.Pairs.{unused_in}
use Rattle.path_top.specs.Told.{DeviceTold, history_lines}

-- the one word alone
unfoldable pub is_paths : List (List ℕ) → Bool
is_paths (word ∷ []) = bytes_eq word (codes "paths")
is_paths _ = false

unfoldable pub usage_text : List ℕ
usage_text = codes "usage: paths\n"

-- what the answer to other words says
abbrev pub TellsUsage : Status → Option (List ℕ) → Option (List ℕ) → Option (List ℕ) → Option (List ℕ) → Type 0
TellsUsage status before after held holds = TellsUsageBy usage_text status before after held holds

-- a text that is a history of a deck, on volumes that held these tracks first
pub record IsHistoryTextOn (firsts : Firsts) (deck : DeckLines) (text : List ℕ) : Type 0 where
  pub lines : List ReportLine
  pub is : IsHistoryOn firsts deck lines
  pub text_is : text ≡ lines_text lines

-- on empty ones
abbrev pub IsHistoryText : DeckLines → List ℕ → Type 0
IsHistoryText deck text = IsHistoryTextOn empty_firsts deck text

-- A text that is one over a bay: on what its volumes hold first, where that is told. Whatever they hold, it tells of each device of the deck a journal in
-- which no program was cut, no path was reset and the volume was never made empty
pub record IsHistoryOver {V : Type 0} (bay : BayView V) (deck : DeckLines) (text : List ℕ) : Type 0 where
  pub devices : List DeviceTold
  pub text_is : text ≡ lines_text (history_lines devices (unused_in deck.events))
  pub numbers : map (λ (x : DeviceTold). x.device) devices ≡ numbers_in deck.devices
  pub kept : All (λ (x : DeviceTold). are_kept x.journal ≡ true) devices
  pub are : (firsts : Firsts) → HandsOut bay firsts → AreToldOfOn firsts deck devices

-- What an answer says, by which texts are a history of a deck

module _ (IsOf : DeckLines → List ℕ → Type 0) where
  -- what is written of a deck, or of why it is none
  abbrev pub IsTextBy : Result DeckLines DeckFault → List ℕ → Type 0
  IsTextBy (Ok deck) text = IsOf deck text
  IsTextBy (Err (faults.Refused line why)) text = text ≡ refused_text line why
  IsTextBy (Err (faults.Limit which)) text = text ≡ limit_text which
  IsTextBy (Err faults.NoMemory) text = ⊥

-- what an answer says of the deck that was read
abbrev pub SuitsDeck : Status → Result DeckLines DeckFault → Type 0
SuitsDeck Reported deck = (d : DeckLines) × (deck ≡ Ok d)
SuitsDeck (DeckRefused line why) deck = deck ≡ Err (faults.Refused line why)
SuitsDeck (Limit which) deck = deck ≡ Err (faults.Limit which)
SuitsDeck _ deck = ⊥

module _ (IsOf : DeckLines → List ℕ → Type 0) where
  -- what an answer says of the deck that was read, and of what the sink holds
  abbrev pub TellsDeckBy : Status → Result DeckLines DeckFault → Option (List ℕ) → Option (List ℕ) → Type 0
  TellsDeckBy NoMemory deck held holds = holds ≡ held
  TellsDeckBy WriteFault deck held holds = (text : List ℕ) × IsTextBy IsOf deck text × AppendsFront held holds text
  TellsDeckBy status deck held holds = (text : List ℕ) × SuitsDeck status deck × IsTextBy IsOf deck text × Appends held holds text

  -- of the source that the deck is read from, too
  abbrev pub TellsReadBy : Status → Option (List ℕ) → Option (List ℕ) → Option (List ℕ) → Option (List ℕ) → Type 0
  TellsReadBy ReadFault before after held holds = holds ≡ held
  TellsReadBy NoMemory before after held holds = holds ≡ held
  TellsReadBy status before after held holds = (text : List ℕ) × Reads before after text × TellsDeckBy status (parsed text) held holds

  -- and of the words
  abbrev pub TellsBy : Status → Bool → Option (List ℕ) → Option (List ℕ) → Option (List ℕ) → Option (List ℕ) → Type 0
  TellsBy status true before after held holds = TellsReadBy status before after held holds
  TellsBy status false before after held holds = TellsUsage status before after held holds

-- over a bay
module _ {V : Type 0} (bay : BayView V) where
  abbrev pub TellsDeckOn : Status → Result DeckLines DeckFault → Option (List ℕ) → Option (List ℕ) → Type 0
  TellsDeckOn status deck held holds = TellsDeckBy (IsHistoryOver bay) status deck held holds

  abbrev pub TellsReadOn : Status → Option (List ℕ) → Option (List ℕ) → Option (List ℕ) → Option (List ℕ) → Type 0
  TellsReadOn status before after held holds = TellsReadBy (IsHistoryOver bay) status before after held holds

  abbrev pub TellsOn : Status → Bool → Option (List ℕ) → Option (List ℕ) → Option (List ℕ) → Option (List ℕ) → Type 0
  TellsOn status paths before after held holds = TellsBy (IsHistoryOver bay) status paths before after held holds

-- over empty volumes

abbrev pub IsTextOf : Result DeckLines DeckFault → List ℕ → Type 0
IsTextOf deck text = IsTextBy IsHistoryText deck text

abbrev pub Tells : Status → Bool → Option (List ℕ) → Option (List ℕ) → Option (List ℕ) → Option (List ℕ) → Type 0
Tells status paths before after held holds = TellsBy IsHistoryText status paths before after held holds
