-- An audit's yes and its no, line by line.
use Rattle.std.proofs.Common.{◌≡◌, ◌↔◌, ◌<◌, ◌≤◌, ◌+◌, ◌∷◌, [], ℕ, zero, suc, List, Option, Result, Ok, Err, length, take, drop}
use Rattle.std.proofs.Common.{refl, sym, ap, ◌∙◌, arith}
use Rattle.std.proofs.lemmas.Bool.{cases_lt}
use Rattle.std.proofs.lemmas.Bool.Decides.{nat_tests}
use Rattle.deck_text.specs.DeckLines.{DeckLines}
use Rattle.deck_text.specs.Parse.{parsed}
use Rattle.deck_text.specs.declared.line.DeckFault.{DeckFault}
use Rattle.deck_text.specs.declared.line.Which.TheVariants.{Size}
use Rattle.deck_audit.specs.declared.state.Due.{Due}
use Rattle.deck_audit.specs.declared.state.Due.TheVariants as dues
use Rattle.deck_audit.specs.declared.status.AuditStatus.{AuditStatus}
use Rattle.deck_audit.specs.declared.status.AuditStatus.TheVariants.{Yes, No, Limit}
use Rattle.deck_audit.specs.declared.status.AuditWhy.{AuditWhy}
use Rattle.deck_audit.specs.declared.status.AuditWhy.TheVariants.{Form}
use Rattle.deck_audit.specs.State.{AuditState, first_state}
use Rattle.deck_audit.specs.Verdict.{at_end, cut_lines, deck_judged, deck_part, judged_lines, judged_text, or_no, read_back, read_back_at, report_from}
use Rattle.audit_laws.specs.FirstFault.{HasFirstFault, HasNoFault, IsBad, IsDeckAndReport, IsFault, IsGood, LeadsTo, report_lines}

-- What a no carries

abbrev line_told : AuditStatus → ℕ
line_told (No line why) = line
line_told _ = 0

abbrev why_told : AuditStatus → AuditWhy
why_told (No line why) = why
why_told _ = Form

no_lines_same : (n m : ℕ) (v w : AuditWhy) → No n v ≡ No m w → n ≡ m
no_lines_same n m v w is = ap line_told is

no_whys_same : (n m : ℕ) (v w : AuditWhy) → No n v ≡ No m w → v ≡ w
no_whys_same n m v w is = ap why_told is

-- Where the lines end

end_no : (n : ℕ) (due : Due) (m : ℕ) (why : AuditWhy) → at_end n due ≡ No m why → due ≡ dues.Nothing → ⊥
end_no n due m why is none = let e : Yes ≡ No m why = sym (ap (at_end n) none) ∙ is in cc

-- Yes

yes_by : (n : ℕ) (s : AuditState) (text : List ℕ) (texts : List (List ℕ)) (r : Result AuditState AuditWhy) → judged_text s text ≡ r
    → or_no n r (λ t. judged_lines (n + 1) t texts) ≡ Yes → ((u : AuditState) → judged_lines (n + 1) u texts ≡ Yes → HasNoFault u texts)
    → HasNoFault s (text ∷ texts)
yes_by n s text texts r is told more = grind arith

yes_leads : (n : ℕ) (s : AuditState) (texts : List (List ℕ)) → judged_lines n s texts ≡ Yes → HasNoFault s texts
yes_leads n s [] told = grind arith
yes_leads n s (text ∷ texts) told = yes_by n s text texts (judged_text s text) refl told (λ u h. yes_leads (n + 1) u texts h)

leads_yes : (n : ℕ) (s : AuditState) (texts : List (List ℕ)) (end : AuditState) → LeadsTo s texts end → end.due ≡ dues.Nothing → judged_lines n s texts ≡ Yes
leads_yes n s [] end leads over = ap (at_end n) (ap (λ (t : AuditState). t.due) (sym leads) ∙ over)
leads_yes n s (text ∷ texts) end leads over = grind (arith, leads_yes (n + 1) leads.0 texts end leads.2 over)

-- No

no_by : (n : ℕ) (s : AuditState) (text : List ℕ) (texts : List (List ℕ)) (m : ℕ) (why : AuditWhy) (r : Result AuditState AuditWhy) → judged_text s text ≡ r
    → or_no n r (λ t. judged_lines (n + 1) t texts) ≡ No m why
    → ((u : AuditState) → judged_lines (n + 1) u texts ≡ No m why → HasFirstFault (n + 1) u texts m why)
    → HasFirstFault n s (text ∷ texts) m why
no_by n s text texts m why (Ok u) is told more =
    let e = more u told in
    record {
      good = suc e.good;
      within = omega (arith, e.within);
      number = omega (arith, e.number);
      state = e.state;
      leads = (u, is, e.leads);
      fault = e.fault;
    }
no_by n s text texts m why (Err v) is told more = grind (arith, no_lines_same, no_whys_same)

no_leads : (n : ℕ) (s : AuditState) (texts : List (List ℕ)) (m : ℕ) (why : AuditWhy) → judged_lines n s texts ≡ No m why → HasFirstFault n s texts m why
no_leads n s [] m why told = grind (arith, end_no, no_lines_same, no_whys_same)
no_leads n s (text ∷ texts) m why told = no_by n s text texts m why (judged_text s text) refl told (λ u h. no_leads (n + 1) u texts m why h)

leads_no : (n : ℕ) (s : AuditState) (texts : List (List ℕ)) (m : ℕ) (why : AuditWhy) (good : ℕ) (state : AuditState) → good ≤ length texts → m ≡ n + good
    → LeadsTo s (take good texts) state → IsFault state (drop good texts) why → judged_lines n s texts ≡ No m why
leads_no n s [] m why zero state within number leads fault = grind arith
leads_no n s [] m why (suc good) state within number leads fault = absurd (omega (arith, within))
leads_no n s (text ∷ texts) m why zero state within number leads fault = grind arith
leads_no n s (text ∷ texts) m why (suc good) state within number leads fault =
    ap (λ (r : Result AuditState AuditWhy). or_no n r (λ t. judged_lines (n + 1) t texts)) leads.1
    ∙ leads_no (n + 1) leads.0 texts m why good state (omega (arith, within)) (omega (arith, number)) leads.2 fault

-- A text

pub read_short : (text : List ℕ) → length text ≤ 268435456 → read_back text ≡ read_back_at text (report_from 0 (cut_lines text))
unfolding read_back
read_short text short = grind (arith, nat_tests)

pub read_long : (text : List ℕ) → 268435456 < length text → read_back text ≡ Limit Size
unfolding read_back
read_long text long = grind (arith, nat_tests)

-- the report of a text that is told told or no
record IsReported (text : List ℕ) (status : AuditStatus) : Type 0 where
  pub deck : DeckLines
  pub lines : ℕ
  pub is : IsDeckAndReport text deck lines
  pub comes : judged_lines (lines + 2) (first_state deck) (report_lines text lines) ≡ status

abbrev IsVerdict : AuditStatus → Type 0
IsVerdict Yes = Unit {0}
IsVerdict (No line why) = Unit {0}
IsVerdict _ = ⊥

reported_by : (text : List ℕ) (status : AuditStatus) (at : Option ℕ) (r : Result DeckLines DeckFault) → IsVerdict status → length text ≤ 268435456
    → report_from 0 (cut_lines text) ≡ at → parsed (deck_part text at) ≡ r → deck_judged r text at ≡ status → IsReported text status
reported_by text status at r verdict short found parses comes = grind arith

reported : (text : List ℕ) (status : AuditStatus) → IsVerdict status → read_back text ≡ status → IsReported text status
unfolding read_back
reported text status verdict told = grind (arith, cases_lt, read_long, reported_by)

tells : (text : List ℕ) (deck : DeckLines) (lines : ℕ) → IsDeckAndReport text deck lines
    → read_back text ≡ judged_lines (lines + 2) (first_state deck) (report_lines text lines)
unfolding read_back
tells text deck lines is = grind arith

pub yes_good : (text : List ℕ) → (read_back text ≡ Yes) ↔ IsGood text
yes_good text = (
  λ told.
      let r = reported text Yes tt told in record {
        deck = r.deck;
        lines = r.lines;
        is = r.is;
        report = yes_leads (r.lines + 2) (first_state r.deck) _ r.comes;
      },
  λ good.
      tells text good.deck good.lines good.is
      ∙ leads_yes (good.lines + 2) (first_state good.deck) (report_lines text good.lines) good.report.end good.report.leads good.report.over,
)

pub no_bad : (text : List ℕ) (line : ℕ) (why : AuditWhy) → (read_back text ≡ No line why) ↔ IsBad text line why
no_bad text line why = (
  λ told.
      let r = reported text (No line why) tt told in
      record { deck = r.deck; lines = r.lines; is = r.is; report = no_leads (r.lines + 2) (first_state r.deck) _ line why r.comes },
  λ bad.
      tells text bad.deck bad.lines bad.is
      ∙ leads_no (bad.lines + 2) (first_state bad.deck) (report_lines text bad.lines) line why bad.report.good bad.report.state bad.report.within
      bad.report.number bad.report.leads bad.report.fault,
)
