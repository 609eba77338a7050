-- The text of a line of a report has no line feed in it.
use Rattle.std.proofs.Common.{◌≡◌, ◌==◌, ◌++◌, ℕ, Bool, true, List, [], ◌∷◌, refl, arith}
use Rattle.std.specs.Prelude.{◌&&◌, not}
use Rattle.std.proofs.lemmas.Bool.{and_from, and_parts}
use Rattle.report_reading.proofs.Cut.{are_solid, is_solid}
use Rattle.report_reading.proofs.Feeds.{is_whole}
use Rattle.report_reading.proofs.LinesAgain.{solid}
use Rattle.report_reading.specs.Ranges.{IsLine}
use Rattle.report_text.specs.declared.line.ReportLine.{ReportLine}
use Rattle.report_text.specs.Lines.{text_of}
use Rattle.report_text.specs.Words.{all_spaced}

both_whole : (xs ys : List ℕ) → is_solid xs ≡ true → is_whole ys ≡ true → is_whole (xs ++ ys) ≡ true
both_whole [] ys h g = g
both_whole (x ∷ xs) ys h g = grind (arith, both_whole xs ys, and_parts, and_from)

words_whole : (ws : List (List ℕ)) → are_solid ws ≡ true → is_whole (all_spaced ws) ≡ true
words_whole [] h = refl
words_whole (w ∷ ws) h = grind (arith, words_whole ws, both_whole, and_parts, and_from)

pub text_whole : (line : ReportLine) → IsLine line → is_whole (text_of line) ≡ true
unfolding text_of
text_whole line h = grind (arith, solid, both_whole, words_whole)

abbrev pub AreWhole : List (List ℕ) → Type 0
AreWhole [] = Unit {0}
AreWhole (x ∷ xs) = (is_whole x ≡ true) × AreWhole xs
