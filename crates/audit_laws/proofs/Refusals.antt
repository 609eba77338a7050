-- What each fault of a first line says.
use Rattle.std.proofs.Common.{arith, ◌≡◌, ◌∷◌, [], List, ℕ, Option, Some, Result, Ok, Err, Bool, false, cond, take, drop, refl, inl}
use Rattle.deck_text.specs.DeckLines.{DeckLines}
use Rattle.deck_text.specs.Parse.{parsed}
use Rattle.report_text.specs.declared.line.ReportLine.{ReportLine}
use Rattle.report_reading.specs.declared.fault.LineFault.{LineFault}
use Rattle.report_reading.specs.Reading.{line_of}
use Rattle.deck_audit.specs.History.{made}
use Rattle.deck_audit.specs.Stands.{stands}
use Rattle.deck_audit.specs.State.{AuditState, first_state}
use Rattle.deck_audit.specs.declared.status.AuditStatus.TheVariants.{No}
use Rattle.deck_audit.specs.declared.status.AuditWhy.{AuditWhy}
use Rattle.deck_audit.specs.declared.status.AuditWhy.TheVariants.{Form, Place, History}
use Rattle.deck_audit.specs.Verdict.{deck_part, judged_by, or_history, read_back}
use Rattle.audit_laws.specs.FirstFault.{IsFault, LeadsTo, report_lines}
use Rattle.audit_laws.specs.Refused.{IsForbidden, IsNot}
use Rattle.audit_laws.proofs.Decks.{first_sound}
use Rattle.audit_laws.proofs.FirstFaults.{no_bad}
use Rattle.audit_laws.proofs.Lines.{IsSoundState, leads_sound}
use Rattle.audit_laws.proofs.Telling.{bad_text, good_texts, result_device}

-- no line

no_form_by : (b : Bool) (x : Option AuditState) → cond b (or_history x) (Err Place) ≡ Err Form → ⊥
no_form_by b x is = grind arith

-- no line that may stand there

place_by : (b : Bool) (x : Option AuditState) → cond b (or_history x) (Err Place) ≡ Err Place → b ≡ false
place_by b x is = grind arith

place_so : (s : AuditState) (r : Result ReportLine LineFault) → judged_by s r ≡ Err Place → (line : ReportLine) × (r ≡ Ok line) × (stands s line ≡ false)
place_so s (Err fault) is = absurd (cc)
place_so s (Ok line) is = (line, refl, place_by (stands s line) (made s line) is)

module _ (text : List ℕ) (deck : DeckLines) (parses : parsed text ≡ Ok deck) (before : List (List ℕ)) (s : AuditState)
    (leads : LeadsTo (first_state deck) before s) where
  sound : IsSoundState deck.programs deck.devices s
  sound = leads_sound deck.programs deck.devices (first_state deck) s before (first_sound text deck parses) leads

  pub forbidden : (texts : List (List ℕ)) (why : AuditWhy) → IsFault s texts why → IsForbidden deck before s texts why
  forbidden [] Form fault = absurd (let e : Form ≡ Place = fault.0 in cc)
  forbidden [] Place fault = fault.1
  forbidden [] History fault = absurd (let e : History ≡ Place = fault.0 in cc)
  forbidden (t ∷ texts) Form fault = grind (arith, no_form_by)
  forbidden (t ∷ texts) Place fault = place_so s (line_of t) fault
  forbidden (t ∷ texts) History fault = (
    result_device s (line_of t),
    λ w u tells shows can.
        bad_text deck.programs deck.devices s w u (line_of t) sound
        (good_texts deck.programs deck.devices before (first_state deck) (first_state deck) s w (first_sound text deck parses) (inl refl) leads tells)
        fault can shows,
  )

pub refused : (text : List ℕ) (line : ℕ) (why : AuditWhy) → read_back text ≡ No line why → IsNot text line why
refused text line why told =
    let bad = (no_bad text line why).0 told in record {
      bad = bad;
      forbidden = forbidden (deck_part text (Some bad.lines)) bad.deck bad.is.parses (take bad.report.good (report_lines text bad.lines)) bad.report.state
          bad.report.leads (drop bad.report.good (report_lines text bad.lines)) why bad.report.fault;
    }
