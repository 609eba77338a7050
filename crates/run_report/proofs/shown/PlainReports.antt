-- The report of a run shows of each device of its deck the programs of a plain device.
use Rattle.std.proofs.Common.{◌≡◌, ℕ, List, [], ◌∷◌, map, Ok, refl, subst}
use Rattle.std.proofs.lemmas.List.Elements.{All-nil, All-cons, All-head, All-tail}
use Rattle.std.specs.Prelude.{All}
use Rattle.ckd_types.specs.declared.geometry.Geometry.{Geometry}
use Rattle.deck_text.specs.declared.line.DeviceLine.{DeviceLine}
use Rattle.deck_text.specs.DeckLines.{DeckLines}
use Rattle.deck_text.specs.Parse.{parsed}
use Rattle.plain_defs.specs.History.{IsPlain}
use Rattle.plain_defs.specs.Journal.{Plans}
use Rattle.plain_defs.specs.PlainState.{PlainState}
use Rattle.device_laws.specs.NewDevice.{first_state}
use Rattle.report_text.specs.declared.line.ReportLine.{ReportLine}
use Rattle.report_text.specs.Ends.{lines_text}
use Rattle.run_report.specs.Report.{report_lines, report_of}
use Rattle.run_report.specs.Shown.{shown_of, history_lines, ShowsHistory}
use Rattle.subsystem_defs.specs.Decks.{Firsts, AreWhole, empty_firsts, opened_device_on, run_on}
use Rattle.subsystem_defs.specs.Subsystem.{Mounted}
use Rattle.subsystem_laws.specs.Causes.{EachPair}
use Rattle.subsystem_laws.proofs.PlainRuns.{PlainlyFrom, ArePlainOn, empty_whole, plain_behind_on}
use Rattle.subsystem_laws.proofs.ReadDecks.{read_served}
use Rattle.run_report.specs.Plainly.{ShowsPlainDeviceOn, IsPlainReport, IsPlainReportOn}
use Rattle.run_report.proofs.shown.SameDevices.{IsOne, run_keeps_devices}
use Rattle.run_report.proofs.shown.ShownRuns.{read_runs_plainly}

module _ (firsts : Firsts) (deck : DeckLines) (ls : List ReportLine) where
  one_plain : (l : DeviceLine) (p : Mounted) → IsOne (opened_device_on firsts deck l).device p.device → PlainlyFrom firsts p.device →
      ShowsHistory ls p.device → ShowsPlainDeviceOn firsts deck ls l
  one_plain l p is plain shown = record {
    history = p.device.history;
    plain =
        subst (λ (plans : Plans). IsPlain plans (first_state l.geometry l.cylinders (firsts l.number l.cylinders)) p.device.history) is.plans
        (subst (λ (g : Geometry). IsPlain p.device.plans (first_state g l.cylinders (firsts l.number l.cylinders)) p.device.history) is.geometry
        (subst (λ (n : ℕ). IsPlain p.device.plans (first_state p.device.store.geometry n (firsts l.number n)) p.device.history) is.cylinders
        (subst (λ (number : ℕ). IsPlain p.device.plans
        (first_state p.device.store.geometry p.device.store.cylinders (firsts number p.device.store.cylinders)) p.device.history) is.number
        (subst (λ (x : PlainState). IsPlain p.device.plans x p.device.history) plain.base plain.follows.stands.plain))));
    shown = subst (λ (n : ℕ). shown_of n ls ≡ history_lines n p.device.history) is.number shown;
  }

  all_plain : (lines : List DeviceLine) (ps : List Mounted) →
      EachPair IsOne (map (λ (m : Mounted). m.device) (map (opened_device_on firsts deck) lines)) (map (λ (m : Mounted). m.device) ps) →
      ArePlainOn firsts ps → All (ShowsHistory ls) (map (λ (m : Mounted). m.device) ps) → All (ShowsPlainDeviceOn firsts deck ls) lines
  all_plain [] [] one plain shown = All-nil (ShowsPlainDeviceOn firsts deck ls)
  all_plain [] (p ∷ ps) one plain shown = absurd one
  all_plain (l ∷ lines) [] one plain shown = absurd one
  all_plain (l ∷ lines) (p ∷ ps) one plain shown =
      All-cons (ShowsPlainDeviceOn firsts deck ls) l lines
      (one_plain l p one.0 plain.0 (All-head (ShowsHistory ls) p.device (map (λ (m : Mounted). m.device) ps) shown))
      (all_plain lines ps one.1 plain.1 (All-tail (ShowsHistory ls) p.device (map (λ (m : Mounted). m.device) ps) shown))

pub report_is_plain_on : (firsts : Firsts) → AreWhole firsts → (text : List ℕ) (deck : DeckLines) → parsed text ≡ Ok deck →
    IsPlainReportOn firsts deck (lines_text (report_lines (run_on firsts deck)))
report_is_plain_on firsts whole text deck read =
    let served = read_served text deck read in
    record {
      lines = report_lines (run_on firsts deck);
      spelled = refl;
      devices =
          all_plain firsts deck (report_lines (run_on firsts deck)) deck.devices (run_on firsts deck).behind.mounted
          (run_keeps_devices firsts deck served) (plain_behind_on firsts whole deck served) (read_runs_plainly firsts whole text deck read).shown;
    }

pub report_is_plain : (text : List ℕ) (deck : DeckLines) → parsed text ≡ Ok deck → IsPlainReport deck (report_of deck)
report_is_plain = report_is_plain_on empty_firsts empty_whole
