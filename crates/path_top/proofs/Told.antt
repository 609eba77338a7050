-- What is told of a deck that ran, and of one that isn't taken; and what is told over one bay is told over another.
use Rattle.std.proofs.Common.{◌≡◌, inl, inr, ℕ, Bool, true, false, List, [], Option, Result, Ok, Err, refl, sym, ap, subst}
use Rattle.std.specs.Io.KnownBytes.{Appends}
use Rattle.std.specs.Prelude.{All, map}
use Rattle.ckd_outside.specs.Texts.{AppendsFront}
use Rattle.deck_text.specs.DeckLines.{DeckLines}
use Rattle.deck_text.specs.declared.line.DeckFault.{DeckFault}
use Rattle.deck_text.specs.declared.line.DeckFault.TheVariants as faults
use Rattle.deck_text.specs.declared.line.DeckWhy.{DeckWhy}
use Rattle.deck_text.specs.declared.line.Which.{Which}
use Rattle.deck_text.specs.Parse.{parsed}
use Rattle.deck_text.specs.Texts.{limit_text, refused_text}
use Rattle.deck_run.specs.Opening.{numbers_in}
use Rattle.deck_top.specs.declared.top.Status.{Status}
use Rattle.deck_top.specs.declared.top.Status.TheVariants.{Reported, DeckRefused, ReadFault, WriteFault, Limit, NoMemory, Usage}
use Rattle.deck_top.specs.Answers.{IsWritten}
use Rattle.deck_top.specs.Bays.{BayView, HandsOut, memory_view}
use Rattle.device_outside.specs.Bay.{Bay}
use Rattle.device_defs.specs.Pledge.{are_kept}
use Rattle.report_text.specs.Ends.{lines_text}
use Rattle.subsystem_defs.specs.Decks.{Firsts, empty_firsts}
use Rattle.path_top.specs.Answers.{IsHistoryOver, IsHistoryText, IsHistoryTextOn, IsTextBy, Tells, TellsBy, TellsDeckBy, TellsDeckOn, TellsOn, TellsReadBy}
use Rattle.path_top.specs.Histories.{AreToldOfOn}
use Rattle.path_top.specs.Pairs.{unused_in}
use Rattle.path_top.specs.Told.{DeviceTold, history_lines}

module _ {V : Type 0} (bay : BayView V) (status : Status) (held holds : Option (List ℕ)) where
  said : (s : Status) (deck : Result DeckLines DeckFault) → status ≡ s → TellsDeckOn bay s deck held holds → TellsDeckOn bay status deck held holds
  said s deck is told = subst (λ (x : Status). TellsDeckOn bay x deck held holds) (sym is) told

  pub refused_told : (deck : Result DeckLines DeckFault) (line : ℕ) (why : DeckWhy) → deck ≡ Err (faults.Refused line why) →
      IsWritten status (DeckRefused line why) (refused_text line why) held holds → TellsDeckOn bay status deck held holds
  refused_told deck line why is told = subst (λ (r : Result DeckLines DeckFault). TellsDeckOn bay status r held holds) (sym is) (elim told [
    | inl w ↦ said (DeckRefused line why) (Err (faults.Refused line why)) w.0 (refused_text line why, refl, refl, w.1)
    | inr w ↦ said WriteFault (Err (faults.Refused line why)) w.0 (refused_text line why, refl, w.1)
  ])

  pub limit_told : (deck : Result DeckLines DeckFault) (which : Which) → deck ≡ Err (faults.Limit which) →
      IsWritten status (Limit which) (limit_text which) held holds → TellsDeckOn bay status deck held holds
  limit_told deck which is told = subst (λ (r : Result DeckLines DeckFault). TellsDeckOn bay status r held holds) (sym is) (elim told [
    | inl w ↦ said (Limit which) (Err (faults.Limit which)) w.0 (limit_text which, refl, refl, w.1)
    | inr w ↦ said WriteFault (Err (faults.Limit which)) w.0 (limit_text which, refl, w.1)
  ])

-- Of a deck that ran

module _ {V : Type 0} (bay : BayView V) (d : DeckLines) (devices : List DeviceTold) (unused : ℕ) (unused_is : unused ≡ unused_in d.events)
    (numbers : map (λ (x : DeviceTold). x.device) devices ≡ numbers_in d.devices) (kept : All (λ (x : DeviceTold). are_kept x.journal ≡ true) devices)
    (are : (firsts : Firsts) → HandsOut bay firsts → AreToldOfOn firsts d devices) (held holds : Option (List ℕ)) where
  over : IsHistoryOver bay d (lines_text (history_lines devices unused))
  over = subst (λ (n : ℕ). IsHistoryOver bay d (lines_text (history_lines devices n))) (sym unused_is)
      (record { devices = devices; text_is = refl; numbers = numbers; kept = kept; are = are })

  pub ran_told : Appends held holds (lines_text (history_lines devices unused)) → TellsDeckOn bay Reported (Ok d) held holds
  ran_told written = (lines_text (history_lines devices unused), (d, refl), over, written)

  pub ran_front : AppendsFront held holds (lines_text (history_lines devices unused)) → TellsDeckOn bay WriteFault (Ok d) held holds
  ran_front front = (lines_text (history_lines devices unused), over, front)

-- where it is told what the bay's volumes hold first
pub history_on : {V : Type 0} (bay : BayView V) (firsts : Firsts) → HandsOut bay firsts → (d : DeckLines) (text : List ℕ) → IsHistoryOver bay d text →
    IsHistoryTextOn firsts d text
history_on bay firsts hands d text over = record {
  lines = history_lines over.devices (unused_in d.events);
  is = record { devices = over.devices; are = over.are firsts hands; lines_are = refl };
  text_is = over.text_is;
}

-- Where one text is such a history, it is such another

module _ (P Q : DeckLines → List ℕ → Type 0) (so : (d : DeckLines) (text : List ℕ) → P d text → Q d text) (held holds : Option (List ℕ)) where
  by_text : (deck : Result DeckLines DeckFault) (text : List ℕ) → IsTextBy P deck text → IsTextBy Q deck text
  by_text (Ok d) text is = so d text is
  by_text (Err (faults.Refused line why)) text is = is
  by_text (Err (faults.Limit which)) text is = is
  by_text (Err faults.NoMemory) text is = is

  by_deck : (status : Status) (deck : Result DeckLines DeckFault) → TellsDeckBy P status deck held holds → TellsDeckBy Q status deck held holds
  by_deck NoMemory deck told = told
  by_deck WriteFault deck told = (told.0, by_text deck told.0 told.1, told.2)
  by_deck Reported deck told = (told.0, told.1, by_text deck told.0 told.2, told.3)
  by_deck (DeckRefused line why) deck told = (told.0, told.1, by_text deck told.0 told.2, told.3)
  by_deck (Limit which) deck told = (told.0, told.1, by_text deck told.0 told.2, told.3)
  by_deck ReadFault deck told = absurd told.1
  by_deck Usage deck told = absurd told.1

  module _ (before after : Option (List ℕ)) where
    by_read : (status : Status) → TellsReadBy P status before after held holds → TellsReadBy Q status before after held holds
    by_read ReadFault told = told
    by_read NoMemory told = told
    by_read WriteFault told = (told.0, told.1, by_deck WriteFault (parsed told.0) told.2)
    by_read Reported told = (told.0, told.1, by_deck Reported (parsed told.0) told.2)
    by_read (DeckRefused line why) told = (told.0, told.1, by_deck (DeckRefused line why) (parsed told.0) told.2)
    by_read (Limit which) told = (told.0, told.1, by_deck (Limit which) (parsed told.0) told.2)
    by_read Usage told = (told.0, told.1, by_deck Usage (parsed told.0) told.2)

    pub tells_too : (status : Status) (paths : Bool) → TellsBy P status paths before after held holds → TellsBy Q status paths before after held holds
    tells_too status true told = by_read status told
    tells_too status false told = told

-- Over a new bay, whose volumes are empty
pub empty_tells : (b : Bay) → b ≡ record { spoiled = []; made = 0; taken = [] } → (status : Status) (paths : Bool)
    (before after held holds : Option (List ℕ)) → TellsOn (memory_view b) status paths before after held holds → Tells status paths before after held holds
empty_tells b is status paths before after held holds told =
    tells_too (IsHistoryOver (memory_view b)) IsHistoryText
    (history_on (memory_view b) empty_firsts (record { told = refl; whole = ap (λ (x : Bay). x.spoiled) is })) held holds before after status paths told
