-- What is written of a deck that is refused, or that passes a limit.
use Rattle.std.specs.Prelude.{ℕ, List, ◌++◌, codes, decimal}
use Rattle.deck_text.specs.declared.line.DeckWhy.{DeckWhy}
use Rattle.deck_text.specs.declared.line.DeckWhy.TheVariants as reasons
use Rattle.deck_text.specs.declared.line.Which.{Which}
use Rattle.deck_text.specs.declared.line.Which.TheVariants as limits

abbrev pub why_text : DeckWhy → List ℕ
why_text reasons.Byte = codes "byte"
why_text reasons.Word = codes "word"
why_text reasons.Order = codes "order"
why_text reasons.Words = codes "words"
why_text reasons.Number = codes "number"
why_text reasons.Hex = codes "hex"
why_text reasons.Program = codes "program"
why_text reasons.Unfinished = codes "unfinished"

unfoldable pub refused_text : ℕ → DeckWhy → List ℕ
refused_text line why = codes "deck line " ++ (decimal line ++ (codes ": " ++ (why_text why ++ codes "\n")))

abbrev pub which_text : Which → List ℕ
which_text limits.Size = codes "size"
which_text limits.Programs = codes "programs"
which_text limits.Events = codes "events"
which_text limits.Faults = codes "faults"

unfoldable pub limit_text : Which → List ℕ
limit_text which = codes "limit: " ++ (which_text which ++ codes "\n")
