-- What holds of the devices behind each event line of a deck that was read.
use Rattle.std.proofs.Common.{arith, ◌≡◌, ℕ, true, List, [], ◌∷◌, map, sym, subst, ◌∙◌}
use Rattle.std.specs.Prelude.{All, IsSome, Ok}
use Rattle.std.proofs.lemmas.List.Elements.{All-head, All-tail}
use Rattle.deck_plan.specs.declared.event.EventLine.{EventLine}
use Rattle.deck_text.specs.declared.line.DeviceLine.{DeviceLine}
use Rattle.deck_text.specs.DeckLines.{DeckLines}
use Rattle.deck_text.specs.Forms.{is_declared}
use Rattle.deck_text.specs.Parse.{parsed}
use Rattle.deck_text.proofs.DeckAgain.{Each}
use Rattle.device_defs.specs.Marks.{MarksDevice}
use Rattle.subsystem_defs.specs.Decks as D
use Rattle.subsystem_defs.specs.Decks.{empty_firsts, opened, run_of}
use Rattle.subsystem_defs.specs.Deeds.{device_in}
use Rattle.subsystem_defs.specs.Lines.{Asked, asked_by, last_behind, line_logged}
use Rattle.subsystem_defs.specs.Subsystem.{Subsystem, devices_of}
use Rattle.subsystem_laws.specs.Served.{IsServed, IsServedDeck}
use Rattle.subsystem_laws.proofs.GoodMarks.{Good, good_kept, opened_good}
use Rattle.subsystem_laws.proofs.PlainRuns.{ArePlain, line_plain, opened_plain, plain_behind}
use Rattle.subsystem_laws.proofs.ReadDecks.{read_served}
use Rattle.subsystem_laws.proofs.RunLines.{AnyEvent, MayAsk, all_asked}
use Rattle.subsystem_laws.proofs.Walks.{AreSo, line_keeps, lines_end_so}
use Rattle.audit_laws.specs.Standing.{HasDevice}
use Rattle.audit_laws.proofs.own.CacheLines.{numbers_same}
use Rattle.audit_laws.proofs.own.DeckEvents.{OfNamed, declared_has, read_names}
use Rattle.audit_laws.proofs.own.DeckNumbers.{RisesFrom, read_rises}
use Rattle.audit_laws.proofs.own.DeviceSizes.{Sized, first_sized, sized_behind, sized_kept}
use Rattle.audit_laws.proofs.own.Ties.{Tied, line_tied, numbers_in, opened_tied, tied_behind, ties}

pub record IsBehind (numbers : List ℕ) (s : Subsystem) : Type 0 where
  pub plain : ArePlain s.mounted
  pub good : AreSo Good s.mounted
  pub sized : AreSo Sized s.mounted
  pub tied : Tied numbers (ties s.mounted)
  pub rises : RisesFrom 0 numbers

pub numbers_are : (numbers : List ℕ) (s : Subsystem) → IsBehind numbers s → map (λ (d : MarksDevice). d.store.device) (devices_of s) ≡ numbers
numbers_are numbers s k = numbers_same s.mounted ∙ k.tied.numbers_are

pub rising : (numbers : List ℕ) (s : Subsystem) → IsBehind numbers s → RisesFrom 0 (map (λ (d : MarksDevice). d.store.device) (devices_of s))
rising numbers s k = subst (RisesFrom 0) (sym (numbers_are numbers s k)) k.rises

-- Behind the whole run

pub good_behind : (deck : DeckLines) → IsServedDeck deck → AreSo Good (run_of deck).behind.mounted
unfolding D.run_asked_on
good_behind deck h = search (arith, lines_end_so, good_kept, all_asked, opened_good empty_firsts)

pub run_is_behind : (text : List ℕ) (deck : DeckLines) → parsed text ≡ Ok deck → IsBehind (numbers_in deck) (run_of deck).behind
run_is_behind text deck read = search (arith, read_served, plain_behind, good_behind, sized_behind, tied_behind, read_rises)

-- Before it, and behind each of its lines

pub opened_is_behind : (text : List ℕ) (deck : DeckLines) → parsed text ≡ Ok deck → IsBehind (numbers_in deck) (opened deck)
opened_is_behind text deck read =
    let served = read_served text deck read in
    record {
      plain = opened_plain deck deck.devices served.devices;
      good = opened_good empty_firsts deck deck.devices served.devices;
      sized = first_sized text deck read;
      tied = opened_tied deck;
      rises = read_rises text deck read;
    }

pub line_stays : (numbers : List ℕ) (s : Subsystem) (x : Asked) → IsServed x → IsBehind numbers s → IsBehind numbers (last_behind s (line_logged s x))
line_stays numbers s x served k =
    let may = All-head (MayAsk AnyEvent) x [] (all_asked (x ∷ [])) in
    let good = line_keeps Good AnyEvent good_kept (record { step = λ d. tt; back = λ d. tt }) x s may k.good in
    let sized = line_keeps Sized AnyEvent sized_kept (record { step = λ d. tt; back = λ d. tt }) x s may k.sized in
    record { plain = line_plain empty_firsts x s served k.plain; good = good; sized = sized; tied = line_tied numbers s x k.tied; rises = k.rises }

-- So what holds of each event line at such a subsystem holds along the whole deck

abbrev pub AllSo : (Subsystem → EventLine → Type 0) → Subsystem → List EventLine → Type 0
AllSo P s [] = Unit {0}
AllSo P s (e ∷ later) = P s e × AllSo P (last_behind s (line_logged s (asked_by e))) later

has_named : (lines : List DeviceLine) (s : Subsystem) → IsBehind (map (λ (l : DeviceLine). l.number) lines) s → (e : EventLine) →
    OfNamed (λ d. is_declared lines d ≡ true) e → OfNamed (HasDevice s) e
has_named lines s k e named = by_event e named where
  has : (d : ℕ) → is_declared lines d ≡ true → IsSome (device_in (devices_of s) d)
  has d is = declared_has lines (devices_of s) d (numbers_are (map (λ (l : DeviceLine). l.number) lines) s k) is

  by_event : (e : EventLine) → OfNamed (λ d. is_declared lines d ≡ true) e → OfNamed (HasDevice s) e
  by_event e is = grind (arith, has)

module _ (lines : List DeviceLine) (P : Subsystem → EventLine → Type 0)
    (so : (s : Subsystem) (e : EventLine) → IsBehind (map (λ (l : DeviceLine). l.number) lines) s → IsServed (asked_by e) → OfNamed (HasDevice s) e → P s e) where
  all_so : (events : List EventLine) (s : Subsystem) → All (λ (e : EventLine). IsServed (asked_by e)) events →
      Each (OfNamed (λ d. is_declared lines d ≡ true)) events → IsBehind (map (λ (l : DeviceLine). l.number) lines) s → AllSo P s events
  all_so [] s served named k = tt
  all_so (e ∷ later) s served named k =
      let served_now = All-head (λ (x : EventLine). IsServed (asked_by x)) e later served in (
        so s e k served_now (has_named lines s k e named.0),
        all_so later (last_behind s (line_logged s (asked_by e))) (All-tail (λ (x : EventLine). IsServed (asked_by x)) e later served) named.1
            (line_stays (map (λ (l : DeviceLine). l.number) lines) s (asked_by e) served_now k),
      )

pub deck_all_so : (text : List ℕ) (deck : DeckLines) → parsed text ≡ Ok deck → (P : Subsystem → EventLine → Type 0) →
    ((s : Subsystem) (e : EventLine) → IsBehind (numbers_in deck) s → IsServed (asked_by e) → OfNamed (HasDevice s) e → P s e) →
    AllSo P (opened deck) deck.events
deck_all_so text deck read P so =
    all_so deck.devices P so deck.events (opened deck) (read_served text deck read).events (read_names text deck read)
    (opened_is_behind text deck read)
