-- What an auditor keeps where no device changes.
use Rattle.std.proofs.Common.{arith, ◌≡◌, ℕ, List, [], ◌∷◌, length, Some, None, Bool, true, cond, subst}
use Rattle.std.proofs.Common.{rules}
use Rattle.std.specs.Prelude.{◌==◌, Ok, map}
use Rattle.std.specs.Str.{bytes_eq}
use Rattle.ckd_types.specs.declared.channel.CommandEnd.{CommandEnd}
use Rattle.deck_text.specs.declared.line.PlannedProgram.{PlannedProgram}
use Rattle.report_text.specs.declared.line.ReportLine.{ReportLine}
use Rattle.report_text.specs.declared.line.ReportLine.TheVariants as lines
use Rattle.report_audit.specs.Auditor.{AllKept, AreKept, ArePowered, IsAt, IsAuditOf, IsDueData, IsFor, IsJudged, Makes, OneKept, behind_data, due_if, either, gone_on, is_quiet}
use Rattle.report_audit.specs.declared.auditor.Auditor.{Auditor}
use Rattle.deck_audit.specs.declared.kept.Kept.{Kept}
use Rattle.deck_audit.specs.declared.kept.Then.TheVariants.{Passed, Wait}
use Rattle.deck_audit.specs.declared.state.Did.TheVariants.{Ended}
use Rattle.deck_audit.specs.declared.state.Due.{Due}
use Rattle.deck_audit.specs.declared.state.Due.TheVariants.{Behind, DataOf}
use Rattle.deck_audit.specs.Device.{AuditedDevice, device_in, outline_of}
use Rattle.deck_audit.specs.History.{due_made}
use Rattle.deck_audit.specs.Judging.{data_due}
use Rattle.deck_audit.specs.Keeping.{IsDue}
use Rattle.deck_audit.specs.Place.{IsDueOf, outline_in}
use Rattle.deck_audit.specs.State.{AuditState, passed, worker_number}
use Rattle.deck_audit.specs.Verdict.{judged_text}
use Rattle.report_reading.specs.Reading.{line_of}
use Rattle.report_audit.proofs.AuditorLines.{behind_event}

module _ (z : Auditor) (s : AuditState) (f : IsFor z s) (quiet : is_quiet s.due ≡ true) where
  pub all_here : AllKept z.deck.programs z.devices.items s.devices
  all_here = subst (λ (b : Bool). AreKept z.deck.programs s.due (worker_number s) z.devices.items s.devices b) quiet f.devices_are

  pub waits_so : (due : Due) → is_quiet due ≡ true → IsDueOf (length s.devices) due → ArePowered due s.devices
      → IsAuditOf (gone_on z (Wait due)) (record s { due = due })
  waits_so due is told powered = grind (arith, all_here)

  pub passes_so : IsAuditOf (gone_on z Passed) (passed s)
  passes_so = grind (arith, behind_event, all_here)

-- The same is due by another name

module _ (programs : List PlannedProgram) (due next : Due) (go : (k : Kept) (a : AuditedDevice) → IsDue due k a → IsDue next k a) where
  head_so : (k : Kept) (a : AuditedDevice) (b : Bool) → IsAt programs (due_if b due) k a → IsAt programs (due_if b next) k a
  head_so k a b is = grind arith

  tail_so : (b : Bool) (P Q R : Type 0) → (Q → R) → either b P Q → either b P R
  tail_so b P Q R on is = grind arith

  pub one_so : (d : ℕ) (ks : List Kept) (ds : List AuditedDevice) → OneKept programs due d ks ds → OneKept programs next d ks ds
  one_so d [] [] one = tt
  one_so d (k ∷ ks) (a ∷ ds) one = (
    head_so k a (a.number == d) one.0,
    tail_so (a.number == d) (AllKept programs ks ds) (OneKept programs due d ks ds)
        (OneKept programs next d ks ds) (λ later. one_so d ks ds later) one.1,
  )
  one_so d ks ds one = absurd one

-- The outline of the device of a number

outline_by : (a : AuditedDevice) (devices : List AuditedDevice) (d : ℕ) (b : AuditedDevice) (x : Bool)
    → cond x (Some a) (device_in devices d) ≡ Some b
    → (device_in devices d ≡ Some b → outline_in (map outline_of devices) d ≡ Some (outline_of b))
    → cond x (Some (outline_of a)) (outline_in (map outline_of devices) d) ≡ Some (outline_of b)
outline_by a devices d b x is go = grind arith

pub outline_is : (devices : List AuditedDevice) (d : ℕ) (a : AuditedDevice) → device_in devices d ≡ Some a
    → outline_in (map outline_of devices) d ≡ Some (outline_of a)
outline_is [] d a is = absurd (cc)
outline_is (b ∷ devices) d a is = outline_by b devices d a (b.number == d) is (λ later. outline_is devices d a later)

-- DATA

bytes_same : (bytes : List ℕ) → bytes_eq bytes bytes ≡ true
bytes_same bytes = search rules

module _ (z : Auditor) (s : AuditState) (e : CommandEnd) (f : IsFor z s) (due_is : s.due ≡ DataOf e) where
  sent_kept : IsAuditOf (record z { due = Behind true (Ended e) }) (record s { due = Behind true (Ended e) })
  sent_kept = grind (arith, one_so)

  pub data_makes : (line : ReportLine) (due : Due) → Some due ≡ data_due line e → Makes true (record z { due = due }) (due_made s line (DataOf e))
  data_makes line due is = grind (arith, sent_kept)

  pub data_none : (line : ReportLine) → None ≡ data_due line e → due_made s line (DataOf e) ≡ None
  data_none line is = grind arith

  sent_judged : (text : List ℕ) → line_of text ≡ Ok (lines.Data e.sent) → IsJudged None (record z { due = Behind true (Ended e) }) (judged_text s text)
  sent_judged text is = grind (arith, bytes_same, sent_kept)

module _ (z : Auditor) (s : AuditState) (i : IsAuditOf z s) (text : List ℕ) where
  pub data_taken : IsDueData z.due text → IsJudged None (record z { due = behind_data z.due }) (judged_text s text)
  data_taken so = grind (arith, sent_judged)
