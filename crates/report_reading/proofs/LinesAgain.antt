-- The text of a line is read as that line.
use Rattle.std.proofs.Common.{◌≡◌, ◌∷◌, [], refl, sym, true, false, Bool, Some, Result, Ok, Err, ap, ◌∙◌, arith, rules}
use Rattle.std.specs.Prelude.{List, ℕ, ◌==◌, ◌&&◌, not, if◌then◌else◌}
use Rattle.std.specs.Str.{bytes_eq}
use Rattle.report_text.specs.declared.answers.SumOf.{SumOf}
use Rattle.report_text.specs.declared.answers.OrderAnswer.{OrderAnswer}
use Rattle.report_text.specs.declared.answers.OrderAnswer.TheVariants as order_answers
use Rattle.report_reading.specs.declared.fault.LineFault.{LineFault}
use Rattle.report_reading.specs.declared.fault.LineFault.TheVariants.{Number}
use Rattle.report_text.specs.declared.line.ReportLine.{ReportLine}
use Rattle.report_text.specs.declared.line.ReportLine.TheVariants as lines
use Rattle.report_text.specs.declared.order.Order.{Order}
use Rattle.report_text.specs.declared.order.Order.TheVariants as orders
use Rattle.report_text.specs.declared.keyword.Keyword.{Keyword}
use Rattle.report_text.specs.Keywords.{keyword_text}
use Rattle.report_text.specs.Lines.{key_of, text_of, words_in_line}
use Rattle.report_reading.specs.Places.{◌>>=◌, cut_words, is_key, mark_of}
use Rattle.report_reading.specs.Ranges.{IsAnswer, IsLine, IsOrder, IsLong, form_fault, has_form}
use Rattle.report_reading.specs.Reading.{if_text, line_by, line_of}
use Rattle.report_text.specs.Words.{mark_key}
use Rattle.report_reading.proofs.AnswersAgain.{answer_read, answer_solid, back_read, back_solid, loose_read, loose_solid, note_read, note_solid}
use Rattle.report_reading.proofs.AnswersAgain.{over_read, over_solid}
use Rattle.report_reading.proofs.AnswersAgain.{side_read, side_solid, start_read, start_solid, totals_read, totals_solid}
use Rattle.report_reading.proofs.Cut.{are_solid, hex_solid, is_solid, words_cut}
use Rattle.report_reading.proofs.NumberAgain.{byte_read, bytes_read, count_read, count_solid, device_read, device_solid, long_read, long_solid}
use Rattle.report_reading.proofs.NumberAgain.{path_read, path_solid, short_read}
use Rattle.report_reading.proofs.NumberAgain.{short_solid, sized_read, track_read, track_solid}

-- what the words of a line say
abbrev said_if : Bool → LineFault → ReportLine → Result ReportLine LineFault
said_if formed fault line = if formed then Ok line else Err fault

abbrev said : ReportLine → Result ReportLine LineFault
said line = said_if (has_form line) (form_fault line) line

unless_none : (none : Bool) (fault : LineFault) (line : ReportLine) → (if none then Err fault else Ok line) ≡ said_if (not none) fault line
unless_none true fault line = refl
unless_none false fault line = refl

abbrev Again : ReportLine → Type 0
Again line = line_by (keyword_text (key_of line) ∷ words_in_line line) ≡ said line

-- neither its keyword nor another word has a space or a line feed
pub record Solid (line : ReportLine) : Type 0 where
  pub first : is_solid (keyword_text (key_of line)) ≡ true
  pub others : are_solid (words_in_line line) ≡ true

mark_read : (modified : Bool) → mark_of (keyword_text (mark_key modified)) ≡ Some modified
unfolding is_key
mark_read modified = grind arith

order_again : (order : Order) (a : OrderAnswer) → IsOrder order → IsAnswer a → Again (lines.Order order a)
unfolding is_key
order_again orders.FailCache a h g = ap (λ r. r >>= (λ x. Ok (lines.Order orders.FailCache x))) (answer_read a g)
order_again orders.FailStore a h g = ap (λ r. r >>= (λ x. Ok (lines.Order orders.FailStore x))) (answer_read a g)
order_again (orders.FailVolume device side) a h g =
    rw (device_read device h, side_read side) (ap (λ r. r >>= (λ x. Ok (lines.Order (orders.FailVolume device side) x))) (answer_read a g))
order_again orders.RepairCache a h g = ap (λ r. r >>= (λ x. Ok (lines.Order orders.RepairCache x))) (answer_read a g)
order_again orders.RepairStore a h g = ap (λ r. r >>= (λ x. Ok (lines.Order orders.RepairStore x))) (answer_read a g)
order_again (orders.Replace device side) a h g =
    rw (device_read device h, side_read side) (ap (λ r. r >>= (λ x. Ok (lines.Order (orders.Replace device side) x))) (answer_read a g))
order_again (orders.Pair first second) a h g =
    rw (device_read first h.0, device_read second h.1) (ap (λ r. r >>= (λ x. Ok (lines.Order (orders.Pair first second) x))) (answer_read a g))
order_again (orders.Unpair device) a h g = rw (device_read device h) (ap (λ r. r >>= (λ x. Ok (lines.Order (orders.Unpair device) x))) (answer_read a g))
order_again (orders.Suspend device) a h g = rw (device_read device h) (ap (λ r. r >>= (λ x. Ok (lines.Order (orders.Suspend device) x))) (answer_read a g))
order_again (orders.Resume device) a h g = rw (device_read device h) (ap (λ r. r >>= (λ x. Ok (lines.Order (orders.Resume device) x))) (answer_read a g))
order_again orders.Power order_answers.Done h g = refl
order_again orders.Power (order_answers.Pending tracks) h g = refl
order_again orders.Power (order_answers.Refused fault) h g = refl

order_solid : (order : Order) (a : OrderAnswer) → IsOrder order → IsAnswer a → are_solid (words_in_line (lines.Order order a)) ≡ true
order_solid order a h g = grind (arith, device_solid, side_solid, answer_solid)

sum_again : (of : SumOf) (n : ℕ) → IsLong n → Again (lines.Sum of n)
unfolding is_key
sum_again of n h = grind (arith, long_read)

again : (line : ReportLine) → IsLine line → Again line
unfolding is_key
again (lines.Start path device answer) h =
    rw (path_read path h.0, device_read device h.1) (ap (λ r. r >>= (λ x. Ok (lines.Start path device x))) (start_read answer h.2))
again (lines.End e) h =
    rw (
      path_read e.path h.path,
      device_read e.device h.device,
      short_read e.ordinal h.ordinal,
      short_read e.index h.index,
      byte_read e.status.0 h.status,
      short_read e.residual h.residual,
      note_read e.note,
    ) refl
again (lines.Back device answer) h = rw (device_read device h.0) (ap (λ r. r >>= (λ x. Ok (lines.Back device x))) (back_read answer h.1))
again (lines.Loose device answer) h = rw (device_read device h.0) (ap (λ r. r >>= (λ x. Ok (lines.Loose device x))) (loose_read answer h.1))
again (lines.Io reads writes) h =
    rw (long_read reads h.0, long_read writes h.1) (unless_none ((reads == 0) && (writes == 0)) Number (lines.Io reads writes))
again (lines.Over path device ordinal how) h =
    rw (
      path_read path h.0,
      device_read device h.1,
      short_read ordinal h.2,
    ) (ap (λ r. r >>= (λ x. Ok (lines.Over path device ordinal x))) (over_read how h.3))
again (lines.Order order a) h = order_again order a h.0 h.1
again (lines.Device device totals) h = rw (device_read device h.0) (ap (λ r. r >>= (λ x. Ok (lines.Device device x))) (totals_read totals h.1))
again (lines.Sum of n) h = sum_again of n h
again line h = grind (arith, path_read, device_read, track_read, short_read, count_read, bytes_read, sized_read, mark_read)

key_solid : (key : Keyword) → is_solid (keyword_text key) ≡ true
key_solid key = grind arith

words_solid : (line : ReportLine) → IsLine line → are_solid (words_in_line line) ≡ true
words_solid (lines.End e) h =
    rw (
      path_solid e.path h.path,
      device_solid e.device h.device,
      short_solid e.ordinal h.ordinal,
      short_solid e.index h.index,
      hex_solid (e.status.0 ∷ []),
      short_solid e.residual h.residual,
      note_solid e.note,
    ) refl
words_solid line h =
    grind (arith, path_solid, device_solid, track_solid, short_solid, count_solid, long_solid, hex_solid, start_solid, back_solid, loose_solid, over_solid, totals_solid, order_solid)

pub solid : (line : ReportLine) → IsLine line → Solid line
solid line h = record { first = key_solid (key_of line); others = words_solid line h }

same : (bytes : List ℕ) → bytes_eq bytes bytes ≡ true
same bytes = search rules

its_text : (line : ReportLine) (formed : Bool) (fault : LineFault) → said_if formed fault line >>= if_text (text_of line) ≡ said_if formed fault line
its_text line true fault = rw (same (text_of line)) refl
its_text line false fault = refl

cut_again : (line : ReportLine) → IsLine line → cut_words (text_of line) ≡ keyword_text (key_of line) ∷ words_in_line line
unfolding text_of cut_words
cut_again line h =
    let s = solid line h in words_cut (keyword_text (key_of line)) (words_in_line line) s.first s.others

pub line_again : (line : ReportLine) → IsLine line → line_of (text_of line) ≡ said line
unfolding line_of
line_again line h =
    ap (λ (ws : List (List ℕ)). line_by ws >>= if_text (text_of line)) (cut_again line h)
    ∙ ap (λ r. r >>= if_text (text_of line)) (again line h)
    ∙ its_text line (has_form line) (form_fault line)

one_line : (line other : ReportLine) (formed : Bool) (fault : LineFault) → Ok line ≡ said_if formed fault other → line ≡ other
one_line line other true fault e = cc
one_line line other false fault e = absurd (cc)

pub lines_apart : (line other : ReportLine) → IsLine line → IsLine other → has_form line ≡ true → text_of line ≡ text_of other → line ≡ other
lines_apart line other h g formed same =
    one_line line other (has_form other) (form_fault other)
    (sym (ap (λ (b : Bool). said_if b (form_fault line) line) formed) ∙ sym (line_again line h) ∙ ap line_of same ∙ line_again other g)
