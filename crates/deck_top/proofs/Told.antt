-- What is told of a deck where its own text, or why it isn't taken, was written.
use Rattle.std.proofs.Common.{◌≡◌, inl, inr, ℕ, List, Option, Result, Ok, Err, refl, sym, ap, subst}
use Rattle.std.specs.Io.KnownBytes.{Appends}
use Rattle.ckd_outside.specs.Texts.{AppendsFront}
use Rattle.device_outside.specs.Volume.{VolumeView}
use Rattle.deck_text.specs.Canonical.{canonical}
use Rattle.deck_text.specs.DeckLines.{DeckLines}
use Rattle.deck_text.specs.declared.line.DeckFault.{DeckFault}
use Rattle.deck_text.specs.declared.line.DeckFault.TheVariants as faults
use Rattle.deck_text.specs.declared.line.DeckWhy.{DeckWhy}
use Rattle.deck_text.specs.declared.line.Which.{Which}
use Rattle.deck_text.specs.Texts.{limit_text, refused_text}
use Rattle.deck_top.specs.declared.task.Task.{Task}
use Rattle.deck_top.specs.declared.task.Task.TheVariants.{Run, Check, Generate}
use Rattle.deck_top.specs.declared.top.Status.{Status}
use Rattle.deck_top.specs.declared.top.Status.TheVariants.{Reported, DeckRefused, WriteFault, Limit}
use Rattle.run_report.specs.Report.{report_on}
use Rattle.deck_top.specs.Answers.{IsWritten, RunsAsPromisedOn, TellsDeckOn}
use Rattle.deck_top.specs.Bays.{BayView, HandsOut}
use Rattle.deck_top.specs.Handed.{TakesBackOn}
use Rattle.report_text.specs.declared.summary.Summary.{Summary}
use Rattle.report_text.specs.Summary.{summary_text}
use Rattle.run_report.specs.Summed.{summary_of}
use Rattle.subsystem_defs.specs.Decks.{AreWhole, Firsts, run_on}

module _ {V : Type 0} (view : V → VolumeView (List ℕ)) (old new : BayView V) (status : Status) (held holds : Option (List ℕ)) where
  abbrev Says : Status → Task → Result DeckLines DeckFault → Type 0
  Says s task deck = TellsDeckOn view old new s task deck held holds

  said : (s : Status) (task : Task) (deck : Result DeckLines DeckFault) → status ≡ s → Says s task deck → Says status task deck
  said s task deck is told = subst (λ (x : Status). Says x task deck) (sym is) told

  pub refused_told : (task : Task) (deck : Result DeckLines DeckFault) (line : ℕ) (why : DeckWhy) → deck ≡ Err (faults.Refused line why)
      → IsWritten status (DeckRefused line why) (refused_text line why) held holds
      → Says status task deck
  refused_told task deck line why is told = subst (λ (r : Result DeckLines DeckFault). Says status task r) (sym is) (elim told [
    | inl w ↦ said (DeckRefused line why) task (Err (faults.Refused line why)) w.0 (refl, w.1)
    | inr w ↦ said WriteFault task (Err (faults.Refused line why)) w.0 w.1
  ])

  pub limit_told : (task : Task) (deck : Result DeckLines DeckFault) (which : Which) → deck ≡ Err (faults.Limit which)
      → IsWritten status (Limit which) (limit_text which) held holds
      → Says status task deck
  limit_told task deck which is told = subst (λ (r : Result DeckLines DeckFault). Says status task r) (sym is) (elim told [
    | inl w ↦ said (Limit which) task (Err (faults.Limit which)) w.0 (refl, w.1)
    | inr w ↦ said WriteFault task (Err (faults.Limit which)) w.0 w.1
  ])

  pub checked_told : (d : DeckLines) → IsWritten status Reported (canonical d) held holds → Says status Check (Ok d)
  checked_told d told = elim told [
    | inl w ↦ said Reported Check (Ok d) w.0 (d, refl, w.1)
    | inr w ↦ said WriteFault Check (Ok d) w.0 w.1
  ]

-- Of a deck that ran

module _ {V : Type 0} (view : V → VolumeView (List ℕ)) (old new : BayView V) (d : DeckLines) (held holds : Option (List ℕ)) where
  pub ran_told : (text : List ℕ) → ((firsts : Firsts) → HandsOut old firsts → text ≡ report_on firsts d) → Appends held holds text
      → ((firsts : Firsts) → AreWhole firsts → RunsAsPromisedOn firsts d)
      → TakesBackOn view d old new
      → TellsDeckOn view old new Reported Run (Ok d) held holds
  ran_told text is written promised volumes = (d, refl, (text, is, written, record { promised = promised; volumes = volumes }))

  pub ran_front : (text : List ℕ) → ((firsts : Firsts) → HandsOut old firsts → text ≡ report_on firsts d) → AppendsFront held holds text
      → TellsDeckOn view old new WriteFault Run (Ok d) held holds
  ran_front text is front = (text, is, front)

  pub summed_told : (seed count : ℕ) (s : Summary) → ((firsts : Firsts) → HandsOut old firsts → s ≡ summary_of (run_on firsts d))
      → Appends held holds (summary_text s)
      → ((firsts : Firsts) → AreWhole firsts → RunsAsPromisedOn firsts d)
      → TakesBackOn view d old new
      → TellsDeckOn view old new Reported (Generate seed count) (Ok d) held holds
  summed_told seed count s is written promised volumes =
      (d, refl, (summary_text s, λ firsts hands. ap summary_text (is firsts hands), written, record { promised = promised; volumes = volumes }))

  pub summed_front : (seed count : ℕ) (s : Summary) → ((firsts : Firsts) → HandsOut old firsts → s ≡ summary_of (run_on firsts d))
      → AppendsFront held holds (summary_text s)
      → TellsDeckOn view old new WriteFault (Generate seed count) (Ok d) held holds
  summed_front seed count s is front = (summary_text s, λ firsts hands. ap summary_text (is firsts hands), front)
