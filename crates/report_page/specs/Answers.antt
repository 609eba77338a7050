-- What the top call answers, and what it then has written.
use Rattle.std.specs.Prelude.{◌≡◌, ◌⊎◌, ◌<◌, ◌≤◌, ℕ, Bool, true, false, List, [], ◌∷◌, codes, length, Option, Result, Ok, Err}
use Rattle.std.specs.Str.{bytes_eq}
use Rattle.std.specs.Io.KnownBytes.{Appends, Consumes, IsAtEnd}
use Rattle.ckd_outside.specs.Texts.{AppendsFront}
use Rattle.deck_text.specs.declared.line.DeckFault.{DeckFault}
use Rattle.deck_text.specs.declared.line.DeckFault.TheVariants as faults
use Rattle.deck_text.specs.Texts as texts
use Rattle.report_page.specs.declared.top.DrawStatus.{DrawStatus}
use Rattle.report_page.specs.declared.top.DrawStatus.TheVariants.{Done, DeckRefused, ReadFault, WriteFault, Limit, NoMemory, Usage}
use Rattle.report_page.specs.Drawn.{drawn_of}

-- the exit status of the program
abbrev pub code_of : DrawStatus → ℕ
code_of Done = 0
code_of (DeckRefused line why) = 1
code_of ReadFault = 2
code_of WriteFault = 3
code_of (Limit which) = 4
code_of NoMemory = 5
code_of Usage = 6

unfoldable pub is_draw_word : List ℕ → Bool
is_draw_word word = bytes_eq word (codes "draw")

-- one word alone is a task
unfoldable pub is_draw : List (List ℕ) → Bool
is_draw [] = false
is_draw (word ∷ []) = is_draw_word word
is_draw (word ∷ other ∷ words) = false

unfoldable pub usage_text : List ℕ
usage_text = codes "usage: draw\n"

-- the source gave this text: all of it, or its first 268,435,457 bytes
pub record ReadsFile (before after : Option (List ℕ)) (text : List ℕ) : Type 0 where
  pub read : Consumes before after text
  pub bound : length text ≤ 268435457
  pub whole : length text < 268435457 → IsAtEnd after

-- a text was written, or at a fault a front of it
abbrev pub IsWritten : DrawStatus → DrawStatus → Option (List ℕ) → Option (List ℕ) → List ℕ → Type 0
IsWritten status wanted held holds text = ((status ≡ wanted) × Appends held holds text) ⊎ ((status ≡ WriteFault) × AppendsFront held holds text)

abbrev pub FrontOf : Result (List ℕ) DeckFault → Option (List ℕ) → Option (List ℕ) → Type 0
FrontOf (Ok page) held holds = AppendsFront held holds page
FrontOf (Err (faults.Refused line why)) held holds = AppendsFront held holds (texts.refused_text line why)
FrontOf (Err (faults.Limit which)) held holds = AppendsFront held holds (texts.limit_text which)
FrontOf (Err faults.NoMemory) held holds = ⊥

-- the page is what the sink grew by
pub record WritesPage (wanted : Result (List ℕ) DeckFault) (held holds : Option (List ℕ)) : Type 0 where
  pub page : List ℕ
  pub drawn : wanted ≡ Ok page
  pub written : Appends held holds page

-- what an answer says of what is drawn of a text, and of the sink
abbrev pub TellsDrawn : DrawStatus → Result (List ℕ) DeckFault → Option (List ℕ) → Option (List ℕ) → Type 0
TellsDrawn Done wanted held holds = WritesPage wanted held holds
TellsDrawn (DeckRefused line why) wanted held holds = (wanted ≡ Err (faults.Refused line why)) × Appends held holds (texts.refused_text line why)
TellsDrawn (Limit which) wanted held holds = (wanted ≡ Err (faults.Limit which)) × Appends held holds (texts.limit_text which)
TellsDrawn WriteFault wanted held holds = FrontOf wanted held holds
TellsDrawn NoMemory wanted held holds = holds ≡ held
TellsDrawn _ wanted held holds = ⊥

pub record TellsRead (status : DrawStatus) (before after held holds : Option (List ℕ)) : Type 0 where
  pub text : List ℕ
  pub reads : ReadsFile before after text
  pub told : TellsDrawn status (drawn_of text) held holds

-- what an answer to `draw` says of the source and of the sink
abbrev pub TellsDraw : DrawStatus → Option (List ℕ) → Option (List ℕ) → Option (List ℕ) → Option (List ℕ) → Type 0
TellsDraw ReadFault before after held holds = holds ≡ held
TellsDraw NoMemory before after held holds = holds ≡ held
TellsDraw status before after held holds = TellsRead status before after held holds

-- what an answer says of the words, of the source and of the sink
abbrev pub Tells : DrawStatus → Bool → Option (List ℕ) → Option (List ℕ) → Option (List ℕ) → Option (List ℕ) → Type 0
Tells status true before after held holds = TellsDraw status before after held holds
Tells status false before after held holds = (after ≡ before) × IsWritten status Usage held holds usage_text
