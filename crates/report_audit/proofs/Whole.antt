-- What is known of a text as it is read piece by piece.
use Rattle.std.proofs.Common.{[], ◌≡◌, ◌⊎◌, inl, inr, ◌<◌, ◌≤◌, ◌+◌, ◌++◌, ℕ, List, Bool, true, false, Option, Some, None, length}
use Rattle.std.proofs.Common.{refl, sym, ap, subst, ◌∙◌, arith, append_assoc, length-append}
use Rattle.std.proofs.KnownBytes.{Consumes-trans}
use Rattle.std.specs.Io.KnownBytes.{Consumes, IsAtEnd, Appends}
use Rattle.std.proofs.lemmas.Bool.{cases_lt, true≢false}
use Rattle.std.proofs.lemmas.List.{append-nil}
use Rattle.ckd_outside.specs.Texts.{AppendsFront}
use Rattle.deck_text.specs.declared.line.Which.TheVariants.{Size}
use Rattle.deck_audit.specs.declared.status.AuditStatus.{AuditStatus}
use Rattle.deck_audit.specs.declared.status.AuditStatus.TheVariants.{Yes, No, ReadFault, WriteFault, Limit, NoMemory, Usage}
use Rattle.deck_audit.specs.declared.status.AuditWhy.{AuditWhy}
use Rattle.deck_audit.specs.Verdict.{cut_lines, read_back, read_back_at, report_from}
use Rattle.audit_laws.specs.FirstFault.{IsBad}
use Rattle.audit_laws.proofs.FirstFaults.{no_bad, read_long, read_short}
use Rattle.report_audit.specs.Answers.{HasFailed, IsReadBack, Reads, Tells, TellsAudit, status_text}
use Rattle.report_audit.specs.Progress.{Comes, GoesOn, Halfway, is_answer}

-- what a text comes to that isn't too long
abbrev pub whole : List ℕ → AuditStatus
whole text = read_back_at text (report_from 0 (cut_lines text))

-- the text so far, and what it comes to with what follows
pub record IsRead (before after : Option (List ℕ)) (audit : Halfway) (size : ℕ) : Type 0 where
  pub text : List ℕ
  pub taken : Consumes before after text
  pub len : length text ≡ size
  pub comes : (rest : List ℕ) → Comes audit.audit (audit.line ++ rest) (whole (text ++ rest))

pub read_on : (before middle after : Option (List ℕ)) (audit next : Halfway) (size count : ℕ) (piece : List ℕ) → IsRead before middle audit size
    → Consumes middle after piece → length piece ≡ count
    → ((rest : List ℕ) → GoesOn audit.audit (audit.line ++ (piece ++ rest)) next.audit (next.line ++ rest))
    → IsRead before after next (size + count)
read_on before middle after audit next size count piece was taken len goes =
    record {
      text = was.text ++ piece;
      taken = Consumes-trans before middle after was.text piece was.taken taken;
      len = omega (arith, was.len, len, length-append was.text piece);
      comes = λ rest.
          subst (λ (t : List ℕ). Comes next.audit (next.line ++ rest) (whole t)) (sym (append_assoc was.text piece rest))
          (goes rest (whole (was.text ++ (piece ++ rest))) (was.comes (piece ++ rest)));
    }

pub read_done : (before middle after : Option (List ℕ)) (audit : Halfway) (size : ℕ) (answer : AuditStatus) → IsRead before middle audit size
    → Consumes middle after [] → IsAtEnd after → size < 268435457
    → ((status : AuditStatus) → Comes audit.audit audit.line status → status ≡ answer) → IsReadBack before after answer
read_done before middle after audit size answer was taken end short finishes =
    let comes : Comes audit.audit audit.line (whole was.text) =
    subst (λ (t : List ℕ). Comes audit.audit audit.line (whole t)) (append-nil was.text)
    (subst (λ (t : List ℕ). Comes audit.audit t (whole (was.text ++ []))) (append-nil audit.line) (was.comes [])) in
    record {
      text = was.text;
      reads = record {
        read = subst (λ (t : List ℕ). Consumes before after t) (append-nil was.text) (Consumes-trans before middle after was.text [] was.taken taken);
        bound = omega (arith, was.len, short);
        whole = λ lt. end;
      };
      comes = sym (finishes (whole was.text) comes) ∙ sym (read_short was.text (omega (arith, was.len, short)));
    }

pub read_too_long : (before after : Option (List ℕ)) (audit : Halfway) (size : ℕ) → IsRead before after audit size → 268435457 ≤ size → size ≤ 268435457
    → IsReadBack before after (Limit Size)
read_too_long before after audit size was least most =
    record {
      text = was.text;
      reads = record {
        read = was.taken;
        bound = omega (arith, was.len, most);
        whole = λ lt. absurd (omega (arith, lt, was.len, least));
      };
      comes = sym (read_long was.text (omega (arith, was.len, least)));
    }

-- What the top call tells

pub answer_told : (status : AuditStatus) (before after held holds : Option (List ℕ)) → is_answer status ≡ true → IsReadBack before after status
    → Appends held holds (status_text status) → TellsAudit status before after held holds
answer_told ReadFault before after held holds answer came wrote = absurd (true≢false (sym answer))
answer_told WriteFault before after held holds answer came wrote = absurd (true≢false (sym answer))
answer_told NoMemory before after held holds answer came wrote = absurd (true≢false (sym answer))
answer_told Usage before after held holds answer came wrote = absurd (true≢false (sym answer))
answer_told status before after held holds answer came wrote = record { came = came; wrote = wrote }

pub told : (status result : AuditStatus) (before after held holds : Option (List ℕ)) → is_answer status ≡ true → IsReadBack before after status
    → ((result ≡ status) × Appends held holds (status_text status)) ⊎ ((result ≡ WriteFault) × AppendsFront held holds (status_text status))
    → TellsAudit result before after held holds
told status result before after held holds answer came (inl (is, wrote)) =
    subst (λ (s : AuditStatus). TellsAudit s before after held holds) (sym is) (answer_told status before after held holds answer came wrote)
told status result before after held holds answer came (inr (is, wrote)) =
    subst (λ (s : AuditStatus). TellsAudit s before after held holds) (sym is) (record { wanted = status; came = came; wrote = wrote })

-- Every text is answered

same_read : (text read : List ℕ) (after : Option (List ℕ)) → Reads (Some text) after read → read_back read ≡ read_back text
same_read text read None r = absurd r.read
same_read text read (Some rest) r = elim (cases_lt (length read) 268435457) [
  | inl short ↦ ap read_back (sym (r.read ∙ ap (λ (l : List ℕ). read ++ l) (r.whole short) ∙ append-nil read))
  | inr long ↦ read_long read (omega (arith, long)) ∙ sym (read_long text (omega (arith, long, ap length r.read, length-append read rest)))
]

came_of : (status : AuditStatus) (before after : Option (List ℕ)) (text : List ℕ) → before ≡ Some text → IsReadBack before after status
    → status ≡ read_back text
came_of status before after text is came =
    came.comes ∙ same_read text came.text after (subst (λ (b : Option (List ℕ)). Reads b after came.text) is came.reads)

by_audit : (status : AuditStatus) (before after held holds : Option (List ℕ)) (text : List ℕ) → before ≡ Some text
    → TellsAudit status before after held holds → (status ≡ read_back text) ⊎ HasFailed status
by_audit NoMemory before after held holds text is tells = inr (inl refl)
by_audit ReadFault before after held holds text is tells = inr (inr (inl refl))
by_audit WriteFault before after held holds text is tells = inr (inr (inr refl))
by_audit Usage before after held holds text is tells = absurd tells
by_audit status before after held holds text is tells = inl (came_of status before after text is tells.came)

answered : (named : Bool) (status : AuditStatus) (before after held holds : Option (List ℕ)) (text : List ℕ) → named ≡ true → before ≡ Some text
    → Tells named status before after held holds → (status ≡ read_back text) ⊎ HasFailed status
answered true status before after held holds text names is tells = by_audit status before after held holds text is tells
answered false status before after held holds text names is tells = absurd (true≢false (sym names))

calm : (status answer : AuditStatus) → (status ≡ answer) ⊎ HasFailed status → (status ≡ ReadFault → ⊥) → (status ≡ WriteFault → ⊥)
    → (status ≡ answer) ⊎ (status ≡ NoMemory)
calm status answer (inl is) nr nw = inl is
calm status answer (inr (inl memory)) nr nw = inr memory
calm status answer (inr (inr (inl read))) nr nw = absurd (nr read)
calm status answer (inr (inr (inr write))) nr nw = absurd (nw write)

pub complete : (named : Bool) (status : AuditStatus) (before after held holds : Option (List ℕ)) (text : List ℕ) → named ≡ true → before ≡ Some text
    → Tells named status before after held holds → (status ≡ ReadFault → ⊥) → (status ≡ WriteFault → ⊥)
    → (status ≡ read_back text) ⊎ (status ≡ NoMemory)
complete named status before after held holds text names is tells nr nw =
    calm status (read_back text) (answered named status before after held holds text names is tells) nr nw

pub own_told : (named : Bool) (status : AuditStatus) (before after held holds : Option (List ℕ)) (text : List ℕ) → named ≡ true → before ≡ Some text
    → Tells named status before after held holds → read_back text ≡ Yes → (status ≡ Yes) ⊎ HasFailed status
own_told named status before after held holds text names is tells reads =
    subst (λ (answer : AuditStatus). (status ≡ answer) ⊎ HasFailed status) reads
    (answered named status before after held holds text names is tells)

-- What yes and no say

pub yes_read : (named : Bool) (before after held holds : Option (List ℕ)) (text : List ℕ) (status : AuditStatus) → Tells named status before after held holds
    → before ≡ Some text → status ≡ Yes → read_back text ≡ Yes
yes_read true before after held holds text status tells is yes_is =
    let answer : TellsAudit Yes before after held holds = rw yes_is at tells in sym (came_of Yes before after text is answer.came)
yes_read false before after held holds text status tells is yes_is = elim tells.1 [
  | inl usage ↦ absurd (let e : Usage ≡ Yes = sym usage.0 ∙ yes_is in cc)
  | inr fault ↦ absurd (let e : WriteFault ≡ Yes = sym fault.0 ∙ yes_is in cc)
]

pub no_told : (named : Bool) (before after held holds : Option (List ℕ)) (text : List ℕ) (line : ℕ) (why : AuditWhy) (status : AuditStatus)
    → Tells named status before after held holds → before ≡ Some text → status ≡ No line why → IsBad text line why
no_told true before after held holds text line why status tells is no_is =
    let answer : TellsAudit (No line why) before after held holds = rw no_is at tells in
    (no_bad text line why).0 (sym (came_of (No line why) before after text is answer.came))
no_told false before after held holds text line why status tells is no_is = elim tells.1 [
  | inl usage ↦ absurd (let e : Usage ≡ No line why = sym usage.0 ∙ no_is in cc)
  | inr fault ↦ absurd (let e : WriteFault ≡ No line why = sym fault.0 ∙ no_is in cc)
]
