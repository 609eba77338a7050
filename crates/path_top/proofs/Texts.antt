-- Lines that are put one behind another.
use Rattle.std.proofs.Common.{◌≡◌, [], ◌∷◌, ◌++◌, ℕ, List, Option, Result, ap, subst, sym, ◌∙◌}
use Rattle.std.proofs.lemmas.List.{append-nil}
use Rattle.std.proofs.lemmas.List.Concat.{flat_map-append}
use Rattle.ckd_outside.specs.Texts.{Moves, Stops, Puts}
use Rattle.ckd_outside.proofs.Lines.{Put, moves_in, put_more, put_stopped, puts_then, stops_longer}
use Rattle.report_text.specs.declared.line.ReportLine.{ReportLine}
use Rattle.report_text.specs.Ends.{lines_text}
use Rattle.report_text.specs.Lines.{line_text}

both : (ls ms : List ReportLine) → lines_text (ls ++ ms) ≡ lines_text ls ++ lines_text ms
both ls ms = flat_map-append line_text ls ms

pub puts_one : {T E : Type 0} (o n : Option (List ℕ)) (w y : List ℕ) (r : Result T E) (line : ReportLine) → Puts o w n y r (line_text line) →
    Puts o w n y r (lines_text (line ∷ []))
puts_one o n w y r line p = subst (λ (l : List ℕ). Puts o w n y r l) (sym (append-nil (line_text line))) p

-- some lines, and then others

pub lines_longer : (o n : Option (List ℕ)) (w y : List ℕ) (ls ms : List ReportLine) → Stops o w n y (lines_text ls) → Stops o w n y (lines_text (ls ++ ms))
lines_longer o n w y ls ms s =
    subst (λ (l : List ℕ). Stops o w n y l) (sym (both ls ms)) (stops_longer o n w y (lines_text ls) (lines_text ms) s)

pub lines_then : {T E : Type 0} (o m n : Option (List ℕ)) (w x y : List ℕ) (r : Result T E) (ls ms : List ReportLine) → Moves o w m x (lines_text ls) →
    Puts m x n y r (lines_text ms) → Puts o w n y r (lines_text (ls ++ ms))
lines_then o m n w x y r ls ms first second =
    subst (λ (l : List ℕ). Puts o w n y r l) (sym (both ls ms)) (puts_then o m n w x y (lines_text ls) (lines_text ms) r first second)

-- a loop over lines

abbrev pub PutLines : Option (List ℕ) → List ℕ → Option (List ℕ) → List ℕ → List ReportLine → List ReportLine → Type 0
PutLines o w m x all rest = Put o w m x (lines_text all) (lines_text rest)

pub begun : (o : Option (List ℕ)) (w : List ℕ) (all rest : List ReportLine) → all ≡ rest → PutLines o w o w all rest
begun o w all rest is = record { done = []; whole = ap lines_text is; moved = moves_in o w w [] (sym (append-nil w)) }

module _ (o m n : Option (List ℕ)) (w x y : List ℕ) (all rest piece tail : List ReportLine) (p : PutLines o w m x all rest) (is : rest ≡ piece ++ tail) where
  pub lines_more : Moves m x n y (lines_text piece) → PutLines o w n y all tail
  lines_more moved =
      put_more o m n w x y (lines_text all) (lines_text rest) (lines_text piece) (lines_text tail) p (ap lines_text is ∙ both piece tail) moved

  pub lines_stopped : Stops m x n y (lines_text piece) → Stops o w n y (lines_text all)
  lines_stopped s =
      put_stopped o m n w x y (lines_text all) (lines_text rest) (lines_text piece) (lines_text tail) p (ap lines_text is ∙ both piece tail) s

-- a last call puts all that is left
pub lines_last : {T E : Type 0} (o m n : Option (List ℕ)) (w x y : List ℕ) (r : Result T E) (all rest last : List ReportLine) → PutLines o w m x all rest →
    rest ≡ last → Puts m x n y r (lines_text last) → Puts o w n y r (lines_text all)
lines_last o m n w x y r all rest last p is q =
    let whole : lines_text all ≡ p.done ++ lines_text last = p.whole ∙ ap (λ (l : List ReportLine). p.done ++ lines_text l) is in
    subst (λ (l : List ℕ). Puts o w n y r l) (sym whole) (puts_then o m n w x y p.done (lines_text last) r p.moved q)

-- nothing is left
pub lines_done : (o m : Option (List ℕ)) (w x : List ℕ) (all rest : List ReportLine) → PutLines o w m x all rest → rest ≡ [] → Moves o w m x (lines_text all)
lines_done o m w x all rest p is =
    let whole : lines_text all ≡ p.done = p.whole ∙ ap (λ (l : List ReportLine). p.done ++ lines_text l) is ∙ append-nil p.done in
    subst (λ (l : List ℕ). Moves o w m x l) (sym whole) p.moved
