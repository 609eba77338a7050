-- No line of a deck's text is REPORT.
use Rattle.std.proofs.Common.{arith, ◌≡◌, ◌+◌, ◌==◌, ◌++◌, ℕ, Bool, true, false, not, List, [], ◌∷◌, length, Some, None, refl, sym, ap, subst, ◌∙◌, append_assoc, if◌then◌else◌}
use Rattle.std.specs.Prelude.{Result, Ok, Err, codes, nat_lt}
use Rattle.std.specs.Str.{bytes_eq}
use Rattle.std.specs.List.{flat_map}
use Rattle.std.proofs.lemmas.Bool.{and_parts, not-true}
use Rattle.std.proofs.lemmas.Slice.Eq.{bytes_eq-Decides}
use Rattle.deck_text.specs.declared.line.DeckFault.{DeckFault}
use Rattle.deck_text.specs.declared.line.DeckFault.TheVariants.{Refused, Limit}
use Rattle.deck_text.specs.declared.line.DeckWhy.TheVariants.{Word}
use Rattle.deck_text.specs.declared.line.Which.TheVariants.{Size}
use Rattle.deck_text.specs.DeckLines.{DeckLines}
use Rattle.deck_text.specs.Keywords as K
use Rattle.deck_text.specs.Lines.{is_passed_over, text_lines, onto_first}
use Rattle.deck_text.specs.Parse.{or_stop, parsed, read_lines, reading_begun}
use Rattle.deck_text.specs.Reading.{State, take_line}
use Rattle.deck_audit.specs.Verdict.{ended_line, report_from}
use Rattle.report_reading.proofs.Feeds.{is_whole}
use Rattle.audit_laws.proofs.own.Feeds.{AreWhole}

-- a line of a reading ends at the same line feed
abbrev BeginsLine : List ℕ → List ℕ → Type 0
BeginsLine bytes rest = (y : List ℕ) × (text_lines bytes ≡ y ∷ text_lines rest)

begins_by : (b : ℕ) (passed : Bool) (bytes rest : List ℕ) → BeginsLine bytes rest →
    (y : List ℕ) × ((if passed then text_lines bytes else onto_first b (text_lines bytes)) ≡ y ∷ text_lines rest)
begins_by b true bytes rest g = g
begins_by b false bytes rest g = (b ∷ g.0, ap (onto_first b) g.1)

begins : (x rest : List ℕ) → is_whole x ≡ true → BeginsLine (x ++ 10 ∷ rest) rest
begins [] rest h = ([], refl)
begins (b ∷ x) rest h =
    grind (arith, and_parts (not (b == 10)) (is_whole x) h, not (b == 10), is_whole x, begins_by b (is_passed_over b (x ++ 10 ∷ rest)) (x ++ 10 ∷ rest) rest (begins x rest (and_parts (not (b == 10)) (is_whole x) h).1), begins x rest (and_parts (not (b == 10)) (is_whole x) h).1, not-true (b == 10) (and_parts (not (b == 10)) (is_whole x) h).0)

-- REPORT is no first word of a deck's line
refused : (n : ℕ) (s : State) → take_line n (codes "REPORT") s ≡ Err (Refused n Word)
unfolding K.head_of K.event_word_of
refused n s = refl

report_ends : (m : ℕ) (s : State) (rest : List ℕ) → read_lines m s (text_lines (codes "REPORT" ++ 10 ∷ rest)) ≡ Err (Refused m Word)
report_ends m s rest = ap (λ (r : Result State DeckFault). or_stop r (λ t. read_lines (m + 1) t (text_lines rest))) (refused m s)

-- what is read goes on behind a line
module _ (deck : DeckLines) where
  abbrev Reads : ℕ → List ℕ → Type 0
  Reads m bytes = (s : State) × (read_lines m s (text_lines bytes) ≡ Ok deck)

  goes_on : (m : ℕ) (rest : List ℕ) (r : Result State DeckFault) → or_stop r (λ t. read_lines (m + 1) t (text_lines rest)) ≡ Ok deck → Reads (m + 1) rest
  goes_on m rest r h = grind arith

  read_behind : (m : ℕ) (x rest : List ℕ) → is_whole x ≡ true → Reads m (x ++ 10 ∷ rest) → Reads (m + 1) rest
  read_behind m x rest whole g = let at = begins x rest whole in goes_on m rest (take_line m at.0 g.0) (sym (ap (read_lines m g.0) at.1) ∙ g.1)

  none_by : (n m : ℕ) (x rest : List ℕ) (xs : List (List ℕ)) (b : Bool) → bytes_eq x (codes "REPORT") ≡ b → Reads m (x ++ 10 ∷ rest) →
      report_from (n + 1) xs ≡ None → (if b then Some n else report_from (n + 1) xs) ≡ None
  none_by n m x rest xs false is g none = none
  none_by n m x rest xs true is g none = grind (arith, bytes_eq-Decides, report_ends)

  pub none_reports : (n m : ℕ) (xs : List (List ℕ)) → AreWhole xs → Reads m (flat_map ended_line xs) → report_from n xs ≡ None
  none_reports n m [] w g = refl
  none_reports n m (x ∷ xs) w g =
      let rest = flat_map ended_line xs in
      let h = subst (Reads m) (append_assoc x (codes "\n") rest) g in
      none_by n m x rest xs (bytes_eq x (codes "REPORT")) refl h (none_reports (n + 1) (m + 1) xs w.1 (read_behind m x rest w.0 h))

sized : (text : List ℕ) (deck : DeckLines) (b : Bool) → (if b then Err (Limit Size) else read_lines 1 reading_begun (text_lines text)) ≡ Ok deck → read_lines 1 reading_begun (text_lines text) ≡ Ok deck
sized text deck b h = grind arith

pub read_has_none : (text : List ℕ) (deck : DeckLines) (xs : List (List ℕ)) → AreWhole xs → flat_map ended_line xs ≡ text → parsed text ≡ Ok deck → report_from 0 xs ≡ None
read_has_none text deck xs w is read =
    none_reports deck 0 1 xs w (reading_begun, ap (λ (t : List ℕ). read_lines 1 reading_begun (text_lines t)) is ∙ sized text deck (nat_lt 16777216 (length text)) read)
