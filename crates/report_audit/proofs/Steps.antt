-- What an audit comes to behind one line more.
use Rattle.std.proofs.Common.{[], ◌≡◌, ◌≢◌, ◌<◌, ◌+◌, ◌∷◌, ◌++◌, ℕ, ◌-◌, zero, suc, List, Bool, true, false, Option, Some, None, Result, Ok, Err, length, get_or}
use Rattle.std.proofs.Common.{take, drop}
use Rattle.std.proofs.Common.{refl, sym, ap, subst, ◌∙◌, arith, add-one, append_assoc}
use Rattle.std.specs.Prelude.{codes, option_map, slice_index}
use Rattle.std.specs.List.{flat_map}
use Rattle.std.specs.Str.{bytes_eq}
use Rattle.std.proofs.lemmas.List.{append-nil, get_or-take, length-take}
use Rattle.deck_text.specs.DeckLines.{DeckLines}
use Rattle.deck_text.specs.Parse.{parsed}
use Rattle.deck_text.specs.declared.line.DeckFault.{DeckFault}
use Rattle.deck_audit.specs.declared.status.AuditStatus.{AuditStatus}
use Rattle.deck_audit.specs.declared.status.AuditWhy.{AuditWhy}
use Rattle.deck_audit.specs.State.{AuditState, first_state}
use Rattle.deck_audit.specs.Verdict.{cut_lines, ended_line}
use Rattle.report_audit.proofs.LineLemmas.{whole_rest}
use Rattle.report_audit.specs.declared.auditor.Auditor.{Auditor}
use Rattle.report_audit.specs.Auditor.{IsAuditOf, is_nothing}
use Rattle.report_audit.specs.Lines.{IsOneLine}
use Rattle.report_audit.specs.Progress.{Progress, Comes, Comes_by, GoesOn, JudgedIn, behind, behind_at, fault_answer}
use Rattle.report_audit.specs.Progress.{is_reporting, report_end, some_auditor, status_of}
use Rattle.report_audit.proofs.Cuts.{cut_ended, cut_last, found_behind, next}

-- Before REPORT

deck_longer : (deck line part : List ℕ) → deck ++ ((line ++ 10 ∷ []) ++ part) ≡ ((deck ++ line) ++ 10 ∷ []) ++ part
deck_longer deck line part = simp (append_assoc) refl

text_longer : (deck line rest : List ℕ) → deck ++ (line ++ 10 ∷ rest) ≡ ((deck ++ line) ++ 10 ∷ []) ++ rest
text_longer deck line rest = simp (append_assoc) refl

part_longer : (n : ℕ) (line : List ℕ) (lines : List (List ℕ))
    → flat_map ended_line (take (n + 1) (line ∷ lines)) ≡ (line ++ 10 ∷ []) ++ flat_map ended_line (take n lines)
part_longer n line lines = rw (add-one n) refl

drop_longer : (n : ℕ) (line : List ℕ) (lines : List (List ℕ)) → drop (n + 1 + 1) (line ∷ lines) ≡ drop (n + 1) lines
drop_longer n line lines = rw (add-one (n + 1)) refl

behind_by : (k : ℕ) (deck line rest : List ℕ) → cut_lines (line ++ 10 ∷ rest) ≡ line ∷ cut_lines rest → (at : Option ℕ)
    → behind_at k deck (line ++ 10 ∷ rest) (option_map next at) ≡ behind_at (k + 1) ((deck ++ line) ++ 10 ∷ []) rest at
behind_by k deck line rest cut at = grind (arith, text_longer, part_longer, deck_longer, drop_longer)

-- Progress

-- before REPORT, what it comes to
pub comes_behind : (p : Progress) (text : List ℕ) (answer : AuditStatus) → p.status ≡ None → p.auditor ≡ None → Comes p text answer
    → answer ≡ behind p.lines p.deck text
comes_behind p text answer front deck comes = grind arith

-- a line of the deck is put behind the others
pub deck_goes : (p : Progress) (line rest : List ℕ) → p.status ≡ None → p.auditor ≡ None → IsOneLine line → bytes_eq line (codes "REPORT") ≡ false
    → GoesOn p (line ++ 10 ∷ rest) (record p { deck = (p.deck ++ line) ++ codes "\n"; lines = p.lines + 1 }) rest
deck_goes p line rest front deck one other answer comes = grind (arith, comes_behind, cut_ended, found_behind, behind_by)

pub deck_ends : (p : Progress) (line : List ℕ) → p.status ≡ None → p.auditor ≡ None → IsOneLine line → 0 < length line → bytes_eq line (codes "REPORT") ≡ false
    → GoesOn p line (record p { deck = (p.deck ++ line) ++ []; lines = p.lines + 1 }) []
deck_ends p line front deck one some other answer comes = grind (arith, comes_behind, cut_last, found_behind, append-nil)

-- REPORT: what follows is judged, or the deck's fault is told
abbrev pub Opens : Progress → Progress → Result DeckLines DeckFault → Type 0
Opens p q (Ok deck) =
    (auditor : Auditor) × (q.status ≡ None) × (q.auditor ≡ Some auditor) × (q.lines ≡ p.lines + 1) × IsAuditOf auditor (first_state deck)
Opens p q (Err fault) = q.status ≡ Some (fault_answer fault)

known_comes : (q : Progress) (text : List ℕ) (answer known : AuditStatus) → q.status ≡ Some known → answer ≡ known → Comes q text answer
known_comes q text answer known is same = subst (λ (s : Option AuditStatus). Comes_by s q.auditor q text answer) (sym is) same

pub report_opens : (p q : Progress) (rest : List ℕ) → p.status ≡ None → p.auditor ≡ None → Opens p q (parsed p.deck)
    → GoesOn p (codes "REPORT" ++ 10 ∷ rest) q rest
report_opens p q rest front deck opens answer comes = grind (arith, known_comes, comes_behind, append-nil)

pub report_alone_opens : (p q : Progress) → p.status ≡ None → p.auditor ≡ None → Opens p q (parsed p.deck) → GoesOn p (codes "REPORT") q []
report_alone_opens p q front deck opens answer comes = grind (arith, known_comes, comes_behind, append-nil)

-- the auditor of the deck that was read
pub opens_deck : (p q : Progress) (text : List ℕ) (deck : DeckLines) (auditor : Auditor) → parsed text ≡ Ok deck → text ≡ p.deck → q.status ≡ None
    → q.auditor ≡ Some auditor → q.lines ≡ p.lines + 1 → IsAuditOf auditor (first_state deck) → Opens p q (parsed p.deck)
opens_deck p q text deck auditor parses same front is count held =
    subst (λ (r : Result DeckLines DeckFault). Opens p q r) (sym parses ∙ ap (λ (l : List ℕ). parsed l) same) (auditor, front, is, count, held)

-- Behind REPORT

line_goes : (p q : Progress) (was now : Option Auditor) (why : Option AuditWhy) (line text rest : List ℕ) → some_auditor was ≡ true
    → p.status ≡ None → p.auditor ≡ was → q.auditor ≡ now → q.lines ≡ p.lines + 1 → q.status ≡ status_of q.lines why → cut_lines text ≡ line ∷ cut_lines rest
    → JudgedIn was now why line → GoesOn p text q rest
line_goes p q was now why line text rest some front was_is is count status cut judging answer comes = grind (arith, known_comes)

pub report_goes : (p q : Progress) (why : Option AuditWhy) (line rest : List ℕ) → is_reporting p ≡ true → p.status ≡ None → q.lines ≡ p.lines + 1
    → q.status ≡ status_of q.lines why → IsOneLine line → JudgedIn p.auditor q.auditor why line → GoesOn p (line ++ 10 ∷ rest) q rest
report_goes p q why line rest some front count status one judging = grind (arith, line_goes, cut_ended)

pub report_ends : (p q : Progress) (why : Option AuditWhy) (line : List ℕ) → is_reporting p ≡ true → p.status ≡ None → q.lines ≡ p.lines + 1
    → q.status ≡ status_of q.lines why → IsOneLine line → 0 < length line → JudgedIn p.auditor q.auditor why line → GoesOn p line q []
report_ends p q why line some front count status one long judging = grind (arith, line_goes, cut_last)

-- a line of a text in which a line feed ends it
one_front : (text : List ℕ) (end : ℕ) → ((k : ℕ) → k < end → slice_index text k ≢ 10) → IsOneLine (take end text)
one_front text end none k lt =
    let small : k < end = omega (arith, lt, length-take end text) in
    subst (λ (b : ℕ). b ≢ 10) (sym (get_or-take end text k 0 small)) (none k small)

pub front_goes : (p q : Progress) (text rest : List ℕ) (end : ℕ) → ((k : ℕ) → k < end → slice_index text k ≢ 10) → is_reporting p ≡ true
    → p.status ≡ None → q.lines ≡ p.lines + 1 → q.status ≡ None → JudgedIn p.auditor q.auditor None (take end text)
    → GoesOn p (take end text ++ 10 ∷ rest) q rest
front_goes p q text rest end none some front count status judging =
    report_goes p q None (take end text) rest some front count status (one_front text end none) judging

-- Where it ends

pub report_over : (p : Progress) (auditor : Auditor) (finished : Bool) (answer : AuditStatus) → p.status ≡ None → p.auditor ≡ Some auditor
    → ((s : AuditState) → IsAuditOf auditor s → finished ≡ is_nothing s.due) → Comes p [] answer → answer ≡ report_end (p.lines + 1) finished
report_over p auditor finished answer front is finishes comes = grind arith

-- Pieces of a line

-- a text as what stands before a line feed, the line feed and what stands behind it
pub cut_at : (text : List ℕ) (i : ℕ) → i < length text → get_or text i 0 ≡ 10 → text ≡ take i text ++ 10 ∷ drop (suc i) text
cut_at [] i lt is = absurd (omega arith)
cut_at (b ∷ bytes) zero lt is = ap (λ (x : ℕ). x ∷ bytes) is
cut_at (b ∷ bytes) (suc i) lt is = ap (λ (l : List ℕ). b ∷ l) (cut_at bytes i (omega arith) is)

pub piece_goes : (p q : Progress) (line next piece rest : List ℕ) (i : ℕ) → i < length piece → get_or piece i 0 ≡ 10
    → ((more : List ℕ) → GoesOn p (line ++ (take i piece ++ 10 ∷ more)) q (next ++ more))
    → GoesOn p (line ++ (piece ++ rest)) q (next ++ (take (length piece - (i + 1)) (drop (i + 1) piece) ++ rest))
piece_goes p q line next piece rest i lt is goes answer comes = grind (arith, cut_at piece i lt is, append_assoc (take i piece) (10 ∷ drop (suc i) piece) rest, whole_rest piece i)
