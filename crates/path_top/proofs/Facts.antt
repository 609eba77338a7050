-- What an answer tells, one fact after another.
use Rattle.std.proofs.Common.{inl, inr, ◌≡◌, ◌⊎◌, ℕ, Bool, true, false, List, Option, Some, Result, Ok, Err, refl, subst}
use Rattle.std.specs.Io.KnownBytes.{Appends}
use Rattle.deck_text.specs.DeckLines.{DeckLines}
use Rattle.deck_text.specs.declared.line.DeckFault.{DeckFault}
use Rattle.deck_text.specs.declared.line.DeckFault.TheVariants as faults
use Rattle.deck_text.specs.declared.line.DeckWhy.{DeckWhy}
use Rattle.deck_text.specs.declared.line.Which.{Which}
use Rattle.deck_text.specs.Parse.{parsed}
use Rattle.deck_text.specs.Texts.{limit_text, refused_text}
use Rattle.deck_top.specs.declared.top.Status.{Status}
use Rattle.deck_top.specs.declared.top.Status.TheVariants.{Reported, DeckRefused, ReadFault, WriteFault, Limit, NoMemory, Usage}
use Rattle.deck_top.specs.Facts.{OfDeck, IsRefused}
use Rattle.deck_top.proofs.Complete.{refused}
use Rattle.subsystem_defs.specs.Decks.{Firsts}
use Rattle.path_top.specs.Answers.{IsHistoryText, IsHistoryTextOn, IsTextBy, TellsBy, TellsUsage}
use Rattle.path_top.specs.Facts.{WritesFront, WritesHistoryOn}

module _ (IsOf : DeckLines → List ℕ → Type 0) (before after held holds : Option (List ℕ)) where
  abbrev pub Says : Status → Bool → Type 0
  Says status paths = TellsBy IsOf status paths before after held holds

  -- of this status, and of these words
  said : {status s : Status} {paths p : Bool} → status ≡ s → paths ≡ p → Says status paths → Says s p
  said {status} {s} {paths} {p} is of told =
      subst (λ (x : Bool). Says s x) of (subst (λ (x : Status). Says x paths) is told)

  module _ (firsts : Firsts) (history : (d : DeckLines) (text : List ℕ) → IsOf d text → IsHistoryTextOn firsts d text) where
    history_of : (text : List ℕ) (r : Result DeckLines DeckFault) (d : DeckLines) → r ≡ Ok d → IsTextBy IsOf r text → Appends held holds text →
        WritesHistoryOn firsts held holds d
    history_of text r d is suits written = record {
      text = text;
      history = history d text (subst (λ (x : Result DeckLines DeckFault). IsTextBy IsOf x text) is suits);
      written = written;
    }

    reported_of : Says Reported true → OfDeck before after (WritesHistoryOn firsts held holds)
    reported_of told = record {
      text = told.0;
      read = told.1;
      deck = told.2.1.0;
      parses = told.2.1.1;
      is_so = history_of told.2.0 (parsed told.0) told.2.1.0 told.2.1.1 told.2.2 told.2.3;
    }

    pub paths_reported : {status : Status} {paths : Bool} → status ≡ Reported → paths ≡ true → Says status paths →
        OfDeck before after (WritesHistoryOn firsts held holds)
    paths_reported is of told = reported_of (said is of told)

  -- what is said of other words is of two statuses alone
  no_task : {X : Type 0} (s : Status) → (s ≡ Usage → ⊥) → (s ≡ WriteFault → ⊥) → TellsUsage s before after held holds → X
  no_task s usage write told = elim told.1 [
    | inl u ↦ absurd (usage u.0)
    | inr w ↦ absurd (write w.0)
  ]

  written_so : (text : List ℕ) (r : Result DeckLines DeckFault) (f : DeckFault) → r ≡ Err f → IsTextBy IsOf r text → IsTextBy IsOf (Err f) text
  written_so text r f is suits = subst (λ (x : Result DeckLines DeckFault). IsTextBy IsOf x text) is suits

  refused_for : (line : ℕ) (why : DeckWhy) (paths : Bool) → Says (DeckRefused line why) paths →
      IsRefused (faults.Refused line why) (refused_text line why) before after held holds
  refused_for line why false told = no_task (DeckRefused line why) (λ e. absurd (cc)) (λ e. absurd (cc)) told
  refused_for line why true told = record {
    text = told.0;
    read = told.1;
    refused = told.2.1;
    written = subst (Appends held holds) (written_so told.2.0 (parsed told.0) (faults.Refused line why) told.2.1 told.2.2) told.2.3;
  }

  pub deck_refused : (status : Status) (paths : Bool) (line : ℕ) (why : DeckWhy) → status ≡ DeckRefused line why → Says status paths →
      IsRefused (faults.Refused line why) (refused_text line why) before after held holds
  deck_refused status paths line why is told = refused_for line why paths (said is refl told)

  limit_for : (which : Which) (paths : Bool) → Says (Limit which) paths → IsRefused (faults.Limit which) (limit_text which) before after held holds
  limit_for which false told = no_task (Limit which) (λ e. absurd (cc)) (λ e. absurd (cc)) told
  limit_for which true told = record {
    text = told.0;
    read = told.1;
    refused = told.2.1;
    written = subst (Appends held holds) (written_so told.2.0 (parsed told.0) (faults.Limit which) told.2.1 told.2.2) told.2.3;
  }

  pub deck_past_limit : (status : Status) (paths : Bool) (which : Which) → status ≡ Limit which → Says status paths →
      IsRefused (faults.Limit which) (limit_text which) before after held holds
  deck_past_limit status paths which is told = limit_for which paths (said is refl told)

  unread_for : (paths : Bool) → Says ReadFault paths → holds ≡ held
  unread_for false told = no_task ReadFault (λ e. absurd (cc)) (λ e. absurd (cc)) told
  unread_for true told = told

  pub nothing_read : (status : Status) (paths : Bool) → status ≡ ReadFault → Says status paths → holds ≡ held
  nothing_read status paths is told = unread_for paths (said is refl told)

  wanting_for : (paths : Bool) → Says NoMemory paths → holds ≡ held
  wanting_for false told = no_task NoMemory (λ e. absurd (cc)) (λ e. absurd (cc)) told
  wanting_for true told = told

  pub nothing_written : (status : Status) (paths : Bool) → status ≡ NoMemory → Says status paths → holds ≡ held
  nothing_written status paths is told = wanting_for paths (said is refl told)

  pub usage_told : {status : Status} {paths : Bool} → paths ≡ false → Says status paths → TellsUsage status before after held holds
  usage_told of told = said refl of told

  -- Where nothing fails

  by_status : (status : Status) (text : List ℕ) (d : DeckLines) → before ≡ Some text → parsed text ≡ Ok d → Says status true → (status ≡ ReadFault → ⊥) →
      (status ≡ WriteFault → ⊥) → (status ≡ Reported) ⊎ (status ≡ NoMemory)
  by_status Reported text d is p told nr nw = inl refl
  by_status NoMemory text d is p told nr nw = inr refl
  by_status ReadFault text d is p told nr nw = absurd (nr refl)
  by_status WriteFault text d is p told nr nw = absurd (nw refl)
  by_status Usage text d is p told nr nw = absurd told.2.1
  by_status (DeckRefused line why) text d is p told nr nw = absurd (refused text told.0 before after d (faults.Refused line why) is told.1 p told.2.1)
  by_status (Limit which) text d is p told nr nw = absurd (refused text told.0 before after d (faults.Limit which) is told.1 p told.2.1)

  pub deck_is_run : {status : Status} {paths : Bool} (text : List ℕ) (d : DeckLines) → before ≡ Some text → paths ≡ true → parsed text ≡ Ok d →
      Says status paths → (status ≡ ReadFault → ⊥) → (status ≡ WriteFault → ⊥) → (status ≡ Reported) ⊎ (status ≡ NoMemory)
  deck_is_run {status} text d is of p told nr nw = by_status status text d is p (said refl of told) nr nw

-- on empty volumes
module _ (before after held holds : Option (List ℕ)) where
  front_of : Says IsHistoryText before after held holds WriteFault true → WritesFront before after held holds
  front_of told = record { text = told.0; read = told.1; whole = told.2.0; suits = told.2.1; front = told.2.2 }

  pub front_written : {status : Status} {paths : Bool} → status ≡ WriteFault → paths ≡ true → Says IsHistoryText before after held holds status paths →
      WritesFront before after held holds
  front_written is of told = front_of (said IsHistoryText before after held holds is of told)
