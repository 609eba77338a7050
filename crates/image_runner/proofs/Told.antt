-- What was written is what an answer tells.
use Rattle.std.proofs.Common.{◌≡◌, ◌++◌, ◌∷◌, [], ℕ, List, Option, Some, None, Ok, inl, inr, refl}
use Rattle.std.specs.Io.KnownBytes.{Appends}
use Rattle.ckd_outside.specs.Texts.{AppendsFront}
use Rattle.deck_text.specs.DeckLines.{DeckLines}
use Rattle.report_text.specs.declared.line.ReportLine.{ReportLine}
use Rattle.report_text.specs.declared.line.ReportLine.TheVariants as lines
use Rattle.report_text.specs.Report.{report_text}
use Rattle.run_report.specs.Report.{report_lines}
use Rattle.subsystem_defs.specs.Decks.{Firsts, run_on}
use Rattle.image_runner.specs.declared.mounting.Refusal.{Refusal}
use Rattle.image_runner.specs.declared.status.RunStatus.{RunStatus}
use Rattle.image_runner.specs.declared.status.RunStatus.TheVariants.{
  Reported,
  DeckRefused,
  ReadFault,
  WriteFault,
  Limit,
  NoMemory,
  Usage,
  Refused,
  FlushFault,
}
use Rattle.image_runner.specs.Answers.{IsRefused, IsReport, TellsDeck, WritesReport}
use Rattle.image_runner.specs.Racks.{Holding, firsts_by}
use Rattle.image_runner.specs.Texts.{refusal_text}
use Rattle.image_runner.proofs.Written.{whole_text}

pub refused_told : (holding : Option Holding) (words : List (List ℕ)) (deck : DeckLines) (r : Refusal) (held holds : Option (List ℕ)) → IsRefused deck r
    → Appends held holds (refusal_text r) → TellsDeck (Refused r) holding words (Ok deck) held holds
refused_told holding words deck r held holds why written = record { lines = deck; read = refl; why = why; written = written }

pub refused_front : (holding : Option Holding) (words : List (List ℕ)) (deck : DeckLines) (r : Refusal) (held holds : Option (List ℕ)) → IsRefused deck r
    → AppendsFront held holds (refusal_text r) → TellsDeck WriteFault holding words (Ok deck) held holds
refused_front holding words deck r held holds why front = inr (record { refusal = r; why = why; front = front })

pub is_report : {Hold : Firsts → Type 0} (holding : Option Holding) (words : List (List ℕ)) (deck : DeckLines) (told : List ReportLine)
    → ((h : Holding) → holding ≡ Some h → Hold (firsts_by h words))
    → ((f : Firsts) → Hold f → told ++ lines.Finish ∷ [] ≡ report_lines (run_on f deck)) → IsReport holding words deck (report_text told [] [])
is_report None words deck told hold ran = tt
is_report (Some h) words deck told hold ran =
    whole_text told (report_lines (run_on (firsts_by h words) deck)) (ran (firsts_by h words) (hold h refl))

pub report_told : (status : RunStatus) (holding : Option Holding) (words : List (List ℕ)) (deck : DeckLines) (report : List ℕ) (held holds : Option (List ℕ))
    → IsReport holding words deck report → WritesReport status held holds report → TellsDeck status holding words (Ok deck) held holds
report_told Reported holding words deck report held holds is written = record { lines = deck; read = refl; report = report; is = is; written = written }
report_told FlushFault holding words deck report held holds is written = record { lines = deck; read = refl; report = report; is = is; written = written }
report_told WriteFault holding words deck report held holds is written = inl (record { report = report; is = is; front = written })
report_told NoMemory holding words deck report held holds is written = absurd written
report_told ReadFault holding words deck report held holds is written = absurd written
report_told Usage holding words deck report held holds is written = absurd written
report_told (Refused r) holding words deck report held holds is written = absurd written
report_told (DeckRefused line why) holding words deck report held holds is written = absurd written
report_told (Limit which) holding words deck report held holds is written = absurd written
