-- What is kept of lines, with one line more, and one line on.
use Rattle.std.proofs.Common.{◌≡◌, ◌≤◌, ◌<◌, ◌+◌, ◌-◌, ◌∷◌, [], ◌++◌, ℕ, suc, nat_lt, ltb-true, ltb-false, Bool}
use Rattle.std.proofs.Common.{true, false, List, length, take, drop, get_or, refl, sym, ap, ◌∙◌, arith}
use Rattle.std.proofs.Common.{length-append, length-drop}
use Rattle.std.proofs.Common.{length-take-le, take-append-drop}
use Rattle.std.proofs.lemmas.List.{append-nil, at_drop_more, drop-append-le, take-append-le, take_all, take_at}
use Rattle.report_text.specs.declared.line.ReportLine.{ReportLine}
use Rattle.report_text.specs.declared.line.ReportLine.TheVariants as lines
use Rattle.report_text.specs.declared.record.Kept.{Kept}
use Rattle.report_text.specs.declared.record.Kept.TheVariants as kept
use Rattle.report_text.specs.Record.{IsSpent, all_bytes, all_others, byte_count, kept_line, kept_lines, other_count, whole_line}

-- more bytes and lines behind those that a line takes
line_same : (k : Kept) (bs cs : List ℕ) (os ps : List ReportLine) → byte_count k ≤ length bs → other_count k ≤ length os
    → kept_line k (bs ++ cs) (os ++ ps) ≡ kept_line k bs os
line_same (kept.End end) bs cs os ps h g = refl
line_same (kept.Io reads writes) bs cs os ps h g = refl
line_same (kept.Over path device ordinal how) bs cs os ps h g = refl
line_same (kept.Data n) bs cs os ps h g = ap lines.Data (take-append-le n bs cs h)
line_same kept.Sense bs cs os ps h g = ap (λ (l : List ℕ). lines.Sense (record { bytes = l })) (take-append-le 32 bs cs h)
line_same kept.Other bs cs [] ps h g = absurd (omega (arith, g))
line_same kept.Other bs cs (o ∷ os) ps h g = refl

pub bytes_enough : (k : Kept) (ks : List Kept) (bs : List ℕ) (os : List ReportLine) → IsSpent (k ∷ ks) bs os → byte_count k ≤ length bs
bytes_enough k ks bs os h = omega (arith, h.bytes_are)

pub others_enough : (k : Kept) (ks : List Kept) (bs : List ℕ) (os : List ReportLine) → IsSpent (k ∷ ks) bs os → other_count k ≤ length os
others_enough k ks bs os h = omega (arith, h.others_are)

pub spent_rest : (k : Kept) (ks : List Kept) (bs : List ℕ) (os : List ReportLine) → IsSpent (k ∷ ks) bs os
    → IsSpent ks (drop (byte_count k) bs) (drop (other_count k) os)
spent_rest k ks bs os h =
    record {
      bytes_are = omega (arith, h.bytes_are, length-drop (byte_count k) bs);
      others_are = omega (arith, h.others_are, length-drop (other_count k) os);
    }

kept_more : (ks : List Kept) (k : Kept) (bs cs : List ℕ) (os ps : List ReportLine) → IsSpent ks bs os
    → kept_lines (ks ++ k ∷ []) (bs ++ cs) (os ++ ps) ≡ kept_lines ks bs os ++ kept_line k cs ps ∷ []
kept_more [] k [] cs [] ps h = refl
kept_more [] k [] cs (o ∷ os) ps h = absurd (omega (arith, h.others_are))
kept_more [] k (b ∷ bs) cs os ps h = absurd (omega (arith, h.bytes_are))
kept_more (j ∷ ks) k bs cs os ps h =
    let hb = bytes_enough j ks bs os h in
    let ho = others_enough j ks bs os h in
    let rest = kept_more ks k (drop (byte_count j) bs) cs (drop (other_count j) os) ps (spent_rest j ks bs os h) in
    rw (line_same j bs cs os ps hb ho, drop-append-le (byte_count j) bs cs hb, drop-append-le (other_count j) os ps ho)
    (ap (λ (l : List ReportLine). kept_line j bs os ∷ l) rest)

bytes_sum : (ks : List Kept) (k : Kept) → all_bytes (ks ++ k ∷ []) ≡ all_bytes ks + byte_count k
bytes_sum [] k = omega arith
bytes_sum (j ∷ ks) k = omega (arith, bytes_sum ks k)

others_sum : (ks : List Kept) (k : Kept) → all_others (ks ++ k ∷ []) ≡ all_others ks + other_count k
others_sum [] k = omega arith
others_sum (j ∷ ks) k = omega (arith, others_sum ks k)

spent_more : (ks : List Kept) (k : Kept) (bs cs : List ℕ) (os ps : List ReportLine) → IsSpent ks bs os → byte_count k ≡ length cs → other_count k ≡ length ps
    → IsSpent (ks ++ k ∷ []) (bs ++ cs) (os ++ ps)
spent_more ks k bs cs os ps h eb eo =
    record {
      bytes_are = omega (arith, bytes_sum ks k, h.bytes_are, eb, length-append bs cs);
      others_are = omega (arith, others_sum ks k, h.others_are, eo, length-append os ps);
    }

whole : (k : Kept) (cs : List ℕ) → byte_count k ≡ length cs → kept_line k cs [] ≡ whole_line k cs
whole (kept.End end) cs h = refl
whole (kept.Io reads writes) cs h = refl
whole (kept.Over path device ordinal how) cs h = refl
whole (kept.Data n) cs h = ap lines.Data (take_all n cs (omega (arith, h)))
whole kept.Sense cs h = ap (λ (l : List ℕ). lines.Sense (record { bytes = l })) (take_all 32 cs (omega (arith, h)))
whole kept.Other cs h = refl

-- a line without bytes, with bytes, and one that is kept whole
module _ (ks : List Kept) (bs : List ℕ) (os : List ReportLine) (h : IsSpent ks bs os) where
  pub short_spent : (k : Kept) → byte_count k ≡ 0 → other_count k ≡ 0 → IsSpent (ks ++ k ∷ []) bs os
  short_spent k eb eo = rw (append-nil bs, append-nil os) at (spent_more ks k bs [] os [] h eb eo)

  pub short_lines : (k : Kept) → kept_lines (ks ++ k ∷ []) bs os ≡ kept_lines ks bs os ++ kept_line k [] [] ∷ []
  short_lines k = rw (append-nil bs, append-nil os) at (kept_more ks k bs [] os [] h)

  pub bytes_spent : (k : Kept) (cs : List ℕ) → byte_count k ≡ length cs → other_count k ≡ 0 → IsSpent (ks ++ k ∷ []) (bs ++ cs) os
  bytes_spent k cs eb eo = rw (append-nil os) at (spent_more ks k bs cs os [] h eb eo)

  pub bytes_lines : (k : Kept) (cs : List ℕ) → byte_count k ≡ length cs → kept_lines (ks ++ k ∷ []) (bs ++ cs) os ≡ kept_lines ks bs os ++ whole_line k cs ∷ []
  bytes_lines k cs eb =
      let e = rw (append-nil os) at (kept_more ks k bs cs os [] h) in
      e ∙ ap (λ (x : ReportLine). kept_lines ks bs os ++ x ∷ []) (whole k cs eb)

  pub other_spent : (o : ReportLine) → IsSpent (ks ++ kept.Other ∷ []) bs (os ++ o ∷ [])
  other_spent o = rw (append-nil bs) at (spent_more ks kept.Other bs [] os (o ∷ []) h refl refl)

  pub other_lines : (o : ReportLine) → kept_lines (ks ++ kept.Other ∷ []) bs (os ++ o ∷ []) ≡ kept_lines ks bs os ++ o ∷ []
  other_lines o = rw (append-nil bs) at (kept_more ks kept.Other bs [] os (o ∷ []) h)

-- from place i of the list on
module _ (ks : List Kept) (bs : List ℕ) (os : List ReportLine) (i : ℕ) (k : Kept) (inside : i < length ks) (is : k ≡ get_or ks i k) where
  pub lines_on : kept_lines (drop i ks) bs os ≡ kept_line k bs os ∷ kept_lines (drop (i + 1) ks) (drop (byte_count k) bs) (drop (other_count k) os)
  lines_on = at_drop_more (λ (l : List Kept). kept_lines l bs os) ks i k inside ∙ ap (λ (y : Kept). kept_lines (y ∷ drop (i + 1) ks) bs os) (sym is)

  pub spent_on : IsSpent (drop i ks) bs os → IsSpent (k ∷ drop (i + 1) ks) bs os
  spent_on h =
      record {
        bytes_are = sym (at_drop_more all_bytes ks i k inside ∙ ap (λ (y : Kept). all_bytes (y ∷ drop (i + 1) ks)) (sym is)) ∙ h.bytes_are;
        others_are = sym (at_drop_more all_others ks i k inside ∙ ap (λ (y : Kept). all_others (y ∷ drop (i + 1) ks)) (sym is)) ∙ h.others_are;
      }
