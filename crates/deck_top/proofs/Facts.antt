-- What an answer tells, one fact after another.
use Rattle.std.proofs.Common.{inl, inr, ◌≡◌, ℕ, List, [], Option, Some, None, Result, Ok, Err, refl, sym, subst}
use Rattle.std.specs.Io.KnownBytes.{Appends}
use Rattle.deck_gen.specs.Generated.{deck_of_seed}
use Rattle.deck_text.specs.DeckLines.{DeckLines}
use Rattle.deck_text.specs.declared.line.DeckFault.{DeckFault}
use Rattle.deck_text.specs.declared.line.DeckFault.TheVariants as faults
use Rattle.deck_text.specs.declared.line.DeckWhy.{DeckWhy}
use Rattle.deck_text.specs.declared.line.Which.{Which}
use Rattle.deck_text.specs.Canonical.{canonical}
use Rattle.deck_text.specs.Parse.{parsed}
use Rattle.deck_text.specs.Texts.{limit_text, refused_text}
use Rattle.device_outside.specs.Bay.{Bay}
use Rattle.run_report.specs.Plainly.{IsPlainReportOn}
use Rattle.report_text.specs.Summary.{summary_text}
use Rattle.run_report.specs.Report.{report_of, report_on}
use Rattle.run_report.specs.Summed.{summary_of}
use Rattle.subsystem_defs.specs.Decks.{Firsts, empty_firsts, run_of}
use Rattle.deck_top.specs.declared.task.Task.{Task}
use Rattle.deck_top.specs.declared.task.Task.TheVariants.{Run, Check, Generate}
use Rattle.deck_top.specs.declared.top.Status.{Status}
use Rattle.deck_top.specs.declared.top.Status.TheVariants.{Reported, DeckRefused, ReadFault, WriteFault, Limit, NoMemory, Usage}
use Rattle.deck_top.specs.Answers.{FrontBy, IsDoneBy, IsOutput, Ran, Reads, RunsAsPromised, Tells, TellsBy, TellsUsage}
use Rattle.deck_top.specs.Facts.{OfDeck, IsRefused, IsRead, ReportsPlainly, ReportsPlainlyOn, SumsUp, WritesFront}
use Rattle.deck_top.specs.Handed.{TakesBack}

-- a fault that no deck has
none_has : {X : Type 0} (d : DeckLines) (f : DeckFault) → Ok d ≡ Err f → X
none_has d f e = absurd (cc)

module _ (Output : Task → DeckLines → List ℕ → Type 0) (HasRun : DeckLines → Type 0) (before after held holds : Option (List ℕ)) where
  abbrev pub Says : Status → Option Task → Type 0
  Says status task = TellsBy Output HasRun status task before after held holds

  -- of this status, and of this task
  said : {status s : Status} {task t : Option Task} → status ≡ s → task ≡ t → Says status task → Says s t
  said {status} {s} {task} {t} is of told =
      subst (λ (o : Option Task). Says s o) of (subst (λ (x : Status). Says x task) is told)

  -- A run

  of_run : (p : DeckLines → Type 0) → ((text : List ℕ) (d : DeckLines) → parsed text ≡ Ok d → IsDoneBy Output HasRun Run d held holds → p d)
      → Says Reported (Some Run)
      → OfDeck before after p
  of_run p so told = record {
    text = told.0;
    read = told.1;
    deck = told.2.0;
    parses = told.2.1;
    is_so = so told.0 told.2.0 told.2.1 told.2.2;
  }

  module _ {status : Status} {task : Option Task} (reported : status ≡ Reported) (run : task ≡ Some Run) (told : Says status task) where
    -- its text is the one that it has to be
    pub run_reported : (report : DeckLines → List ℕ) → ((d : DeckLines) (text : List ℕ) → Output Run d text → text ≡ report d)
        → OfDeck before after (λ d. Appends held holds (report d))
    run_reported report is =
        of_run (λ d. Appends held holds (report d)) (λ text d read r. subst (Appends held holds) (is d r.0 r.1) r.2) (said reported run told)

    pub run_plain : (firsts : Firsts) → ((text : List ℕ) (d : DeckLines) → parsed text ≡ Ok d → IsPlainReportOn firsts d (report_on firsts d))
        → ((d : DeckLines) (text : List ℕ) → Output Run d text → text ≡ report_on firsts d)
        → OfDeck before after (ReportsPlainlyOn firsts held holds)
    run_plain firsts plain is =
        of_run (ReportsPlainlyOn firsts held holds)
        (λ text d read r. record {
          report = r.0;
          written = r.2;
          plain = subst (IsPlainReportOn firsts d) (sym (is d r.0 r.1)) (plain text d read);
        }) (said reported run told)

    -- and so is what is so of a deck that ran
    pub run_so : (p : DeckLines → Type 0) → ((d : DeckLines) → HasRun d → p d) → OfDeck before after p
    run_so p so = of_run p (λ text d read r. so d r.3) (said reported run told)

  -- The other tasks

  checked_of : Says Reported (Some Check) → OfDeck before after (λ d. Appends held holds (canonical d))
  checked_of told = record { text = told.0; read = told.1; deck = told.2.0; parses = told.2.1; is_so = told.2.2 }

  pub deck_checked : {status : Status} {task : Option Task} → status ≡ Reported → task ≡ Some Check → Says status task →
      OfDeck before after (λ d. Appends held holds (canonical d))
  deck_checked reported check told = checked_of (said reported check told)

  -- Refusals

  -- what is said of words that name no task is of two statuses alone
  no_task : {X : Type 0} (s : Status) → (s ≡ Usage → ⊥) → (s ≡ WriteFault → ⊥) → TellsUsage s before after held holds → X
  no_task s usage write told = elim told.1 [
    | inl u ↦ absurd (usage u.0)
    | inr w ↦ absurd (write w.0)
  ]

  refused_for : (line : ℕ) (why : DeckWhy) (task : Option Task) → Says (DeckRefused line why) task →
      IsRefused (faults.Refused line why) (refused_text line why) before after held holds
  refused_for line why None told = no_task (DeckRefused line why) (λ e. absurd (cc)) (λ e. absurd (cc)) told
  refused_for line why (Some Run) told = record { text = told.0; read = told.1; refused = told.2.0; written = told.2.1 }
  refused_for line why (Some Check) told = record { text = told.0; read = told.1; refused = told.2.0; written = told.2.1 }
  refused_for line why (Some (Generate seed count)) told = none_has (deck_of_seed seed count) (faults.Refused line why) told.1.0

  pub deck_refused : (status : Status) (task : Option Task) (line : ℕ) (why : DeckWhy) → status ≡ DeckRefused line why → Says status task →
      IsRefused (faults.Refused line why) (refused_text line why) before after held holds
  deck_refused status task line why is told = refused_for line why task (said is refl told)

  limit_for : (which : Which) (task : Option Task) → Says (Limit which) task → IsRefused (faults.Limit which) (limit_text which) before after held holds
  limit_for which None told = no_task (Limit which) (λ e. absurd (cc)) (λ e. absurd (cc)) told
  limit_for which (Some Run) told = record { text = told.0; read = told.1; refused = told.2.0; written = told.2.1 }
  limit_for which (Some Check) told = record { text = told.0; read = told.1; refused = told.2.0; written = told.2.1 }
  limit_for which (Some (Generate seed count)) told = none_has (deck_of_seed seed count) (faults.Limit which) told.1.0

  pub deck_past_limit : (status : Status) (task : Option Task) (which : Which) → status ≡ Limit which → Says status task →
      IsRefused (faults.Limit which) (limit_text which) before after held holds
  deck_past_limit status task which is told = limit_for which task (said is refl told)

  -- Faults

  unread_for : (task : Option Task) → Says ReadFault task → holds ≡ held
  unread_for None told = no_task ReadFault (λ e. absurd (cc)) (λ e. absurd (cc)) told
  unread_for (Some Run) told = told
  unread_for (Some Check) told = told
  unread_for (Some (Generate seed count)) told = absurd told.1

  pub nothing_read : (status : Status) (task : Option Task) → status ≡ ReadFault → Says status task → holds ≡ held
  nothing_read status task is told = unread_for task (said is refl told)

  wanting_for : (task : Option Task) → Says NoMemory task → holds ≡ held
  wanting_for None told = no_task NoMemory (λ e. absurd (cc)) (λ e. absurd (cc)) told
  wanting_for (Some Run) told = told
  wanting_for (Some Check) told = told
  wanting_for (Some (Generate seed count)) told = told.1

  pub nothing_written : (status : Status) (task : Option Task) → status ≡ NoMemory → Says status task → holds ≡ held
  nothing_written status task is told = wanting_for task (said is refl told)

  pub front_told : {status : Status} {task : Option Task} (t : Task) → IsRead t → status ≡ WriteFault → task ≡ Some t → Says status task →
      (text : List ℕ) × Reads before after text × FrontBy Output (parsed text) t held holds
  front_told Run may is of told = said is of told
  front_told Check may is of told = said is of told
  front_told (Generate seed count) may is of told = absurd may

  pub usage_told : {status : Status} {task : Option Task} → task ≡ None → Says status task → TellsUsage status before after held holds
  usage_told of told = said refl of told

-- Over a bay of empty volumes in memory

same_deck : (d e : DeckLines) (r : Result DeckLines DeckFault) → r ≡ Ok d → r ≡ Ok e → d ≡ e
same_deck d e r p q = cc

module _ (old new : Bay) (before after held holds : Option (List ℕ)) where
  summed_by : (seed count : ℕ) (d : DeckLines) → deck_of_seed seed count ≡ d
      → IsDoneBy (IsOutput old.spoiled) (Ran old new) (Generate seed count) d held holds
      → after ≡ before
      → SumsUp seed count old new before after held holds
  summed_by seed count d is done unread = record {
    unread = unread;
    promised = subst RunsAsPromised (sym is) done.3.promised;
    volumes = subst (λ (x : DeckLines). TakesBack x old new) (sym is) done.3.volumes;
    written = λ none. subst (λ (x : DeckLines). Appends held holds (summary_text (summary_of (run_of x)))) (sym is)
        (subst (Appends held holds) (done.1 none) done.2);
  }

  summed_of : (seed count : ℕ) → Tells Reported (Some (Generate seed count)) old new before after held holds →
      SumsUp seed count old new before after held holds
  summed_of seed count all =
      summed_by seed count all.1.0 (same_deck (deck_of_seed seed count) all.1.0 (Ok (deck_of_seed seed count)) refl all.1.1) all.1.2 all.0

  module _ {status : Status} {task : Option Task} (told : Tells status task old new before after held holds) where
    pub empty_reported : status ≡ Reported → task ≡ Some Run → old.spoiled ≡ [] → OfDeck before after (λ d. Appends held holds (report_of d))
    empty_reported is run none =
        run_reported (IsOutput old.spoiled) (Ran old new) before after held holds is run told report_of (λ d text out. out none)

    pub empty_promised : status ≡ Reported → task ≡ Some Run → OfDeck before after RunsAsPromised
    empty_promised is run = run_so (IsOutput old.spoiled) (Ran old new) before after held holds is run told RunsAsPromised (λ d r. r.promised)

    pub empty_volumes : status ≡ Reported → task ≡ Some Run → OfDeck before after (λ d. TakesBack d old new)
    empty_volumes is run =
        run_so (IsOutput old.spoiled) (Ran old new) before after held holds is run told (λ d. TakesBack d old new) (λ d r. r.volumes)

    pub empty_summed : (seed count : ℕ) → status ≡ Reported → task ≡ Some (Generate seed count) → SumsUp seed count old new before after held holds
    empty_summed seed count is generate =
        summed_of seed count
        (subst (λ (o : Option Task). Tells Reported o old new before after held holds) generate
        (subst (λ (x : Status). Tells x task old new before after held holds) is told))

    pub empty_front : (t : Task) → IsRead t → status ≡ WriteFault → task ≡ Some t → WritesFront t old before after held holds
    empty_front t may is of =
        let r = front_told (IsOutput old.spoiled) (Ran old new) before after held holds t may is of told in
        record { text = r.0; read = r.1; front = r.2 }

pub empty_plain : {before after held holds : Option (List ℕ)} → OfDeck before after (ReportsPlainlyOn empty_firsts held holds)
    → OfDeck before after (ReportsPlainly held holds)
empty_plain r = record {
  text = r.text;
  read = r.read;
  deck = r.deck;
  parses = r.parses;
  is_so = record { report = r.is_so.report; written = r.is_so.written; plain = r.is_so.plain };
}
