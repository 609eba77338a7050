-- The text of a deck, a line REPORT and the report of its run is cut into these lines.
use Rattle.std.proofs.Common.{◌≡◌, ◌≤◌, ◌+◌, ◌==◌, ◌++◌, ℕ, suc, Bool, true, List, [], ◌∷◌, drop, length, map, take, Some, None, refl, ap, ◌∙◌, append_assoc, arith, if◌then◌else◌}
use Rattle.std.specs.Prelude.{All, codes, Ok, Err}
use Rattle.std.specs.List.{flat_map}
use Rattle.std.proofs.lemmas.Bool.{and_parts, not-true}
use Rattle.std.proofs.lemmas.List.{append-nil}
use Rattle.std.proofs.lemmas.List.Elements.{All-head, All-tail}
use Rattle.deck_text.specs.DeckLines.{DeckLines}
use Rattle.deck_text.specs.Lines.{onto_first}
use Rattle.deck_text.specs.Parse.{parsed}
use Rattle.report_text.specs.declared.line.ReportLine.{ReportLine}
use Rattle.report_text.specs.Ends.{lines_text}
use Rattle.report_text.specs.Lines.{line_text, text_of}
use Rattle.deck_audit.specs.Verdict.{cut_lines, ended_line, report_from}
use Rattle.run_report.specs.Report.{report_lines, report_of}
use Rattle.subsystem_defs.specs.Decks.{run_of}
use Rattle.report_reading.specs.Ranges.{IsLine, form_fault, has_form}
use Rattle.report_reading.specs.Reading.{line_of}
use Rattle.deck_audit.specs.declared.status.AuditStatus.TheVariants.{Yes}
use Rattle.deck_audit.specs.Verdict.{read_back}
use Rattle.audit_laws.specs.Texts.{IsEnded, IsOwnReport, own_text}
use Rattle.report_reading.proofs.Feeds.{is_whole}
use Rattle.audit_laws.proofs.own.Feeds.{AreWhole, text_whole}
use Rattle.audit_laws.proofs.own.DeckTexts.{read_has_none}
use Rattle.audit_laws.proofs.own.RangedRuns.{report_is_in_range}
use Rattle.audit_laws.proofs.own.Texts.{own_report_is_yes}

-- Cutting

cut_one : (x rest : List ℕ) → is_whole x ≡ true → cut_lines (x ++ 10 ∷ rest) ≡ x ∷ cut_lines rest
cut_one [] rest h = refl
cut_one (b ∷ x) rest h = grind (arith, cut_one x rest, and_parts, not-true)

-- lines that are ended, and what stands behind them
cut_ended : (xs : List (List ℕ)) (rest : List ℕ) → AreWhole xs → cut_lines (flat_map ended_line xs ++ rest) ≡ xs ++ cut_lines rest
cut_ended [] rest h = refl
cut_ended (x ∷ xs) rest h = grind (arith, cut_ended xs rest h.1, append_assoc, cut_one)

cut_if : (b : ℕ) (c : Bool) → (b == 10) ≡ c → (xs : List (List ℕ)) → AreWhole xs → AreWhole (if c then [] ∷ xs else onto_first b xs)
cut_if b c is xs w = grind (arith, is_whole)

cut_whole : (text : List ℕ) → AreWhole (cut_lines text)
cut_whole [] = tt
cut_whole (b ∷ text) = cut_if b (b == 10) refl (cut_lines text) (cut_whole text)

-- Finding REPORT

found : (n : ℕ) (xs rest : List (List ℕ)) → report_from n xs ≡ None → report_from n (xs ++ codes "REPORT" ∷ rest) ≡ Some (n + length xs)
found n [] rest none = ap (λ (k : ℕ). Some k) (omega arith)
found n (x ∷ xs) rest none = grind (arith, found (n + 1) xs rest)

front : {X : Type 0} (xs ys : List X) → take (length xs) (xs ++ ys) ≡ xs
front [] ys = refl
front (x ∷ xs) ys = ap (λ (l : List _). x ∷ l) (front xs ys)

behind : {X : Type 0} (xs : List X) (y : X) (ys : List X) → drop (length xs + 1) (xs ++ y ∷ ys) ≡ ys
behind [] y ys = refl
behind {X} (x ∷ xs) y ys =
    let one : length (x ∷ xs) + 1 ≡ suc (length xs + 1) = omega arith in
    ap (λ (k : ℕ). drop k (x ∷ xs ++ y ∷ ys)) one ∙ behind xs y ys

-- The report

written_whole : (lines : List ReportLine) → All IsLine lines → AreWhole (map text_of lines)
written_whole [] w = tt
written_whole (line ∷ lines) w = (text_whole line (All-head IsLine line lines w), written_whole lines (All-tail IsLine line lines w))

lines_ended : (lines : List ReportLine) → lines_text lines ≡ flat_map ended_line (map text_of lines)
lines_ended [] = refl
lines_ended (line ∷ lines) = ap (λ (l : List ℕ). line_text line ++ l) (lines_ended lines)

module _ (text : List ℕ) (deck : DeckLines) (read : parsed text ≡ Ok deck) (h : IsEnded text) where
  abbrev lines : List (List ℕ)
  lines = cut_lines text

  abbrev told : List (List ℕ)
  told = map text_of (report_lines (run_of deck))

  report_cut : cut_lines (report_of deck) ≡ told
  report_cut =
      grind (arith, lines_ended (report_lines (run_of deck)), append-nil (flat_map ended_line told), cut_ended told [] (written_whole (report_lines (run_of deck)) (report_is_in_range text deck read)), written_whole (report_lines (run_of deck)) (report_is_in_range text deck read), report_is_in_range text deck read, append-nil told)

  all_cut : cut_lines (own_text text deck) ≡ lines ++ codes "REPORT" ∷ told
  all_cut = grind (arith, cut_ended, cut_whole, report_cut)

  own_is : length (own_text text deck) ≤ 268435456 → IsOwnReport (own_text text deck) deck
  own_is size =
      grind (arith, found, all_cut, found 0 lines told (read_has_none text deck lines (cut_whole text) h read), read_has_none text deck lines (cut_whole text) h read, cut_whole text, front lines (codes "REPORT" ∷ told), behind lines (codes "REPORT") told)

-- where what is written is read back
pub own_text_is_yes : ((line : ReportLine) → IsLine line → line_of (text_of line) ≡ (if has_form line then Ok line else Err (form_fault line))) →
    (text : List ℕ) (deck : DeckLines) → parsed text ≡ Ok deck → IsEnded text → length (own_text text deck) ≤ 268435456 →
    read_back (own_text text deck) ≡ Yes
own_text_is_yes again text deck read h size = own_report_is_yes again (own_text text deck) deck (own_is text deck read h size)
