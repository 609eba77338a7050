-- Lines without a fault tell of plain devices.
use Rattle.std.proofs.Common.{arith, ◌≡◌, ℕ, [], ◌∷◌, List, Option, Some, None, Result, Ok, Err, Bool, true, false, cond}
use Rattle.std.proofs.Common.{refl, sym, ap, subst, ◌∙◌, inl, inr}
use Rattle.std.specs.Prelude.{IsSome}
use Rattle.ckd_types.specs.declared.channel.CommandEnd.{CommandEnd}
use Rattle.ckd_types.specs.Sense.{equipment_sense, data_check_sense}
use Rattle.deck_text.specs.declared.line.DeviceLine.{DeviceLine}
use Rattle.deck_text.specs.declared.line.PlannedProgram.{PlannedProgram}
use Rattle.plain_defs.specs.History.{OpenEntry}
use Rattle.report_text.specs.declared.line.ReportLine.{ReportLine}
use Rattle.report_text.specs.declared.line.ReportLine.TheVariants as lines
use Rattle.report_reading.specs.declared.fault.LineFault.{LineFault}
use Rattle.report_reading.specs.Reading.{line_of}
use Rattle.deck_audit.specs.declared.state.Did.{Did}
use Rattle.deck_audit.specs.declared.state.Did.TheVariants.{Ended, CheckEnded}
use Rattle.deck_audit.specs.declared.state.Due.{Due}
use Rattle.deck_audit.specs.declared.state.Due.TheVariants.{SenseOf, Behind}
use Rattle.deck_audit.specs.Place.{holds}
use Rattle.deck_audit.specs.Same.{says}
use Rattle.deck_audit.specs.Device.{AuditedDevice, check_end, device_in, words_of_open}
use Rattle.deck_audit.specs.History.{check_made, has_sense, is_legal, made, made_in, sense_made}
use Rattle.deck_audit.specs.Stands.{stands}
use Rattle.deck_audit.specs.State.{AuditState, settled, then_of, worker}
use Rattle.deck_audit.specs.declared.status.AuditWhy.TheVariants.{Place}
use Rattle.deck_audit.specs.Verdict.{judged_by, or_history}
use Rattle.audit_laws.specs.FirstFault.{LeadsTo}
use Rattle.audit_laws.specs.Shown.{CanAllBePlain, Shows, ShowsIn, TellsOfPlain, TextShows}
use Rattle.audit_laws.proofs.GoodLines.{Near, awaits_sense, behind_good, due_good, near_same}
use Rattle.audit_laws.proofs.Lines.{AreSo, AtWork, IsSoundState, judged_sound, same_some, settled_sound, then_some}
use Rattle.audit_laws.proofs.SoundPasts.{can_all}
use Rattle.audit_laws.proofs.Works.{DidSo, Ends}

-- SENSE

module _ (s t w : AuditState) (near : Near t w) (can : CanAllBePlain w) (line : ReportLine) (p : CommandEnd) (due : s.due ≡ SenseOf p)
    (a : AuditedDevice) (works : worker s ≡ Some a) (ends : Ends p a) where
  -- the lines told of this end
  abbrev told_of : CommandEnd → AuditState
  told_of e = record s { due = SenseOf e }

  abbrev Told : Type 0
  Told = (v : AuditState) × Near s v × CanAllBePlain v × Shows v line w

  told_plain : (o : OpenEntry) → a.history.running ≡ Some o → has_sense line p.sense ≡ true → w ≡ record s { due = Behind true (Ended p) } → Told
  told_plain o running has is =
      let all = subst CanAllBePlain is can in (
        told_of p,
        inr (record { own = p; told = p; due = due; is = refl; word = refl }),
        (λ d b found at. inl (all d b found at)),
        (a, works, (o, running, has, inl is)),
      )

  told_check : (o : OpenEntry) → a.history.running ≡ Some o → (e : CommandEnd) → e.index ≡ p.index → has_sense line e.sense ≡ true
      → has_sense line p.sense ≡ false → w ≡ record s { due = Behind true (CheckEnded e) } → Told
  told_check o running e index has other is =
      let all = subst CanAllBePlain is can in (
        told_of e,
        inr (record { own = p; told = e; due = due; is = refl; word = index }),
        (λ d b found at. inr (all d b found at)),
        (
          a,
          works,
          (
            o,
            running,
            has,
            inr (ap (λ (x : Option CommandEnd). holds x (λ z. has_sense line z.sense)) (ends.plain o running) ∙ other, is),
          ),
        ),
      )

  same : (x : AuditState) → x ≡ t → awaits_sense x.due ≡ false → w ≡ x
  same x is none = near_same t w near (ap (λ (y : AuditState). awaits_sense y.due) (sym is) ∙ none) ∙ sym is

  check_tests : (o : OpenEntry) → a.history.running ≡ Some o → has_sense line p.sense ≡ false → (b c : Bool)
      → says (lines.Sense equipment_sense) line ≡ b → says (lines.Sense data_check_sense) line ≡ c
      → cond b (Some (record s { due = Behind true (CheckEnded (check_end (words_of_open a o) p.index equipment_sense)) }))
      (cond c (Some (record s { due = Behind true (CheckEnded (check_end (words_of_open a o) p.index data_check_sense)) })) None) ≡ Some t → Told
  check_tests o running other true c first second is = grind (arith, told_check o running (check_end (words_of_open a o) p.index equipment_sense) refl first other (same _ (same_some _ t is) refl), same _ (same_some _ t is) refl, same_some _ t is)
  check_tests o running other false true first second is =
      told_check o running (check_end (words_of_open a o) p.index data_check_sense) refl second other (same _ (same_some _ t is) refl)
  check_tests o running other false false first second is = absurd (cc)

  running_one : (r : Option OpenEntry) → IsSome r → (o : OpenEntry) × (r ≡ Some o)
  running_one r some = grind arith

  sense_tests : (b : Bool) → has_sense line p.sense ≡ b
      → cond b (Some (record s { due = Behind true (Ended p) })) (then_of a.history.running (check_made s line a p)) ≡ Some t → Told
  sense_tests true has is =
      let o = running_one a.history.running ends.runs in
      told_plain o.0 o.1 has (same _ (same_some (record s { due = Behind true (Ended p) }) t is) refl)
  sense_tests false other is =
      let o = then_some a.history.running (check_made s line a p) t is in
      check_tests o.0 o.1 other (says (lines.Sense equipment_sense) line) (says (lines.Sense data_check_sense) line) refl refl o.2

  pub sense_told : sense_made s line p a ≡ Some t → Told
  sense_told is = sense_tests (has_sense line p.sense) refl is

module _ (programs : List PlannedProgram) (of : List DeviceLine) where
  module _ (s t w : AuditState) (sound : IsSoundState programs of s) (near : Near t w) (can : CanAllBePlain w) (line : ReportLine) where
    abbrev Before : Type 0
    Before = (v : AuditState) × Near s v × CanAllBePlain v × Shows v line w

    here : (due : Due) → s.due ≡ due → ShowsIn s line due w → Before
    here due is shows = (s, inl refl, can_all programs of s sound, subst (λ (x : Due). ShowsIn s line x w) (sym is) shows)

    behind_can : (more : Bool) (did : Did) → AtWork programs of (DidSo more did) s.events s.devices → holds (worker s) (is_legal did) ≡ true
        → CanAllBePlain (settled s did)
    behind_can more did so legal = can_all programs of (settled s did) (settled_sound programs of s sound.paths so.0 so.1 more did so.2 legal)

    sense_line : (p : CommandEnd) → s.due ≡ SenseOf p → AtWork programs of (DidSo true (Ended p)) s.events s.devices
        → then_of (worker s) (sense_made s line p) ≡ Some t → Before
    sense_line p due so is =
        let x = then_some (worker s) (sense_made s line p) t is in
        sense_told s t w near can line p due x.0 x.1
        (so.2.here x.0 (sym (ap (λ (n : Option ℕ). then_of n (device_in s.devices)) so.1) ∙ x.1)) x.2

    before_in : (due : Due) → s.due ≡ due → AreSo programs of due s.events s.devices → made_in s line due ≡ Some t → Before
    before_in (SenseOf p) at so is = sense_line p at so is
    before_in (Behind more did) at so is = search (arith, here, behind_good, behind_can)
    before_in due at so is = here due at (due_good s t w near line due (ap awaits_sense at) refl is)

    before : made s line ≡ Some t → Before
    before is = before_in s.due refl sound.devices is

  -- A line's text

  text_before : (s t w : AuditState) → IsSoundState programs of s → Near t w → CanAllBePlain w → (r : Result ReportLine LineFault) → judged_by s r ≡ Ok t
      → (v : AuditState) × Near s v × CanAllBePlain v × TextShows v r w
  text_before s t w sound near can (Err fault) is = absurd (cc)
  text_before s t w sound near can (Ok line) is = by_place (stands s line) is where
    by_made : (x : Option AuditState) → made s line ≡ x → or_history x ≡ Ok t → (v : AuditState) × Near s v × CanAllBePlain v × Shows v line w
    by_made None from is = absurd (cc)
    by_made (Some u) from is =
        before s t w sound near can line (from ∙ (let same : u ≡ t = cc in ap (λ (y : AuditState). Some y) same))

    by_place : (b : Bool) → cond b (or_history (made s line)) (Err Place) ≡ Ok t → (v : AuditState) × Near s v × CanAllBePlain v × Shows v line w
    by_place true is = by_made (made s line) refl is
    by_place false is = absurd (cc)

  -- Lines one after another

  pub told_before : (texts : List (List ℕ)) (s t : AuditState) → IsSoundState programs of s → LeadsTo s texts t
      → (v : AuditState) × Near s v × CanAllBePlain v × ((u : AuditState) × TellsOfPlain v texts u × Near t u)
  told_before [] s t sound leads =
      (s, inl refl, can_all programs of s sound, (s, refl, subst (λ (x : AuditState). Near x s) (sym leads) (inl refl)))
  told_before (text ∷ texts) s t sound leads =
      let later = told_before texts leads.0 t (judged_sound programs of s leads.0 (line_of text) sound leads.1) leads.2 in
      let now = text_before s leads.0 later.0 sound later.1 later.2 (line_of text) leads.1 in
      (now.0, now.1, now.2, (later.3.0, (later.0, now.3, later.2, later.3.1), later.3.2))
