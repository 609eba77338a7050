-- The lines: each is a keyword and the words behind it, with one space before each of these.
use Rattle.std.specs.Prelude.{ℕ, List, [], ◌∷◌, ◌++◌, codes, decimal}
use Rattle.hex.specs.Hex.{encode_upper}
use Rattle.report_text.specs.declared.answers.SumOf.{SumOf}
use Rattle.report_text.specs.declared.answers.SumOf.TheVariants as sums
use Rattle.report_text.specs.declared.keyword.Keyword.{Keyword}
use Rattle.report_text.specs.declared.keyword.Keyword.TheVariants as words
use Rattle.report_text.specs.declared.line.EndLine.{EndLine}
use Rattle.report_text.specs.declared.line.ReportLine.{ReportLine}
use Rattle.report_text.specs.declared.line.ReportLine.TheVariants as lines
use Rattle.report_text.specs.declared.order.Order.{Order}
use Rattle.report_text.specs.declared.order.Order.TheVariants as orders
use Rattle.report_text.specs.Keywords.{keyword_text}
use Rattle.report_text.specs.Words.{all_spaced, note_key, start_words, back_words, loose_words, over_words, answer_words, order_words, totals_words, mark_key}

abbrev pub sum_key : SumOf → Keyword
sum_key sums.Programs = words.Programs
sum_key sums.Commands = words.Commands
sum_key sums.Checks = words.Checks
sum_key sums.Reads = words.Reads
sum_key sums.Writes = words.Writes
sum_key sums.Lost = words.Lost

abbrev pub order_key : Order → Keyword
order_key orders.FailCache = words.Fail
order_key orders.FailStore = words.Fail
order_key (orders.FailVolume device side) = words.Fail
order_key orders.RepairCache = words.Repair
order_key orders.RepairStore = words.Repair
order_key (orders.Replace device side) = words.Replace
order_key (orders.Pair first second) = words.Pair
order_key (orders.Unpair device) = words.Unpair
order_key (orders.Suspend device) = words.Suspend
order_key (orders.Resume device) = words.Resume
order_key orders.Power = words.Power

abbrev pub key_of : ReportLine → Keyword
key_of (lines.Start path device answer) = words.Start
key_of (lines.End end) = words.End
key_of (lines.Data bytes) = words.Data
key_of (lines.Sense sense) = words.Sense
key_of (lines.Half path device track) = words.Half
key_of (lines.Back device answer) = words.Back
key_of (lines.StepIdle device) = words.Step
key_of (lines.RunIdle device) = words.Run
key_of (lines.Loose device answer) = words.Loose
key_of (lines.Io reads writes) = words.Io
key_of (lines.Over path device ordinal how) = words.Over
key_of (lines.Reset path device) = words.Reset
key_of (lines.Order order answer) = order_key order
key_of (lines.Device device totals) = words.Device
key_of (lines.Lost device track) = words.Lost
key_of (lines.Frame device track modified) = words.Frame
key_of (lines.Fresh device) = words.Fresh
key_of (lines.Left path device programs) = words.Left
key_of (lines.Unused events) = words.Unused
key_of lines.Finish = words.Finish
key_of (lines.Sum of n) = sum_key of

abbrev pub end_words : EndLine → List (List ℕ)
end_words e =
    decimal e.path ∷ decimal e.device ∷ decimal e.ordinal ∷ decimal e.index ∷ encode_upper (e.status.0 ∷ []) ∷ decimal e.residual
    ∷ keyword_text (note_key e.note) ∷ []

abbrev pub words_in_line : ReportLine → List (List ℕ)
words_in_line (lines.Start path device answer) = decimal path ∷ decimal device ∷ start_words answer
words_in_line (lines.End end) = end_words end
words_in_line (lines.Data bytes) = encode_upper bytes ∷ []
words_in_line (lines.Sense sense) = encode_upper sense.bytes ∷ []
words_in_line (lines.Half path device track) = decimal path ∷ decimal device ∷ decimal track ∷ []
words_in_line (lines.Back device answer) = decimal device ∷ back_words answer
words_in_line (lines.StepIdle device) = decimal device ∷ keyword_text words.Idle ∷ []
words_in_line (lines.RunIdle device) = decimal device ∷ keyword_text words.Idle ∷ []
words_in_line (lines.Loose device answer) = decimal device ∷ loose_words answer
words_in_line (lines.Io reads writes) = decimal reads ∷ decimal writes ∷ []
words_in_line (lines.Over path device ordinal how) = decimal path ∷ decimal device ∷ decimal ordinal ∷ over_words how
words_in_line (lines.Reset path device) = decimal path ∷ decimal device ∷ []
words_in_line (lines.Order order answer) = order_words order ++ answer_words answer
words_in_line (lines.Device device totals) = decimal device ∷ totals_words totals
words_in_line (lines.Lost device track) = decimal device ∷ decimal track ∷ []
words_in_line (lines.Frame device track modified) = decimal device ∷ decimal track ∷ keyword_text (mark_key modified) ∷ []
words_in_line (lines.Fresh device) = decimal device ∷ []
words_in_line (lines.Left path device programs) = decimal path ∷ decimal device ∷ decimal programs ∷ []
words_in_line (lines.Unused events) = decimal events ∷ []
words_in_line lines.Finish = []
words_in_line (lines.Sum of n) = decimal n ∷ []

-- a line without its line feed
unfoldable pub text_of : ReportLine → List ℕ
text_of line = keyword_text (key_of line) ++ all_spaced (words_in_line line)

-- a line with it
abbrev pub line_text : ReportLine → List ℕ
line_text line = text_of line ++ codes "\n"
