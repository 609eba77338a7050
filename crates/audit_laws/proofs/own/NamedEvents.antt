-- The paths and devices that the events of a deck that was read name are in their ranges.
use Rattle.std.proofs.Common.{arith, ◌≡◌, ◌<◌, zero, suc, ℕ, true, List, [], ◌∷◌, map, Ok}
use Rattle.std.specs.Prelude.{All, Result}
use Rattle.std.proofs.lemmas.Bool.{cond_both}
use Rattle.std.proofs.lemmas.List.Elements.{All-append, All-cons, All-head, All-nil, All-tail}
use Rattle.deck_plan.specs.declared.event.EventLine.{EventLine}
use Rattle.deck_text.specs.declared.line.DeckWhy.{DeckWhy}
use Rattle.deck_text.specs.declared.line.DeviceLine.{DeviceLine}
use Rattle.deck_text.specs.DeckLines.{DeckLines}
use Rattle.deck_text.specs.Forms.{then_read, is_declared, path_and_device}
use Rattle.deck_text.specs.Parse.{parsed}
use Rattle.deck_text.proofs.DeckAgain.{Each, EventOk}
use Rattle.deck_text.proofs.EventsAgain.{behind_of}
use Rattle.deck_text.proofs.FormsAgain.{if_ok, needed_is, number_range, went}
use Rattle.deck_text.proofs.Reached.{parsed_good}
use Rattle.report_reading.specs.Ranges.{IsDevice, IsPath}
use Rattle.subsystem_defs.specs.declared.event.Event.{Event}
use Rattle.subsystem_defs.specs.declared.event.Event.TheVariants as events
use Rattle.subsystem_defs.specs.Decks as D
use Rattle.subsystem_defs.specs.Decks.{opened, run_of}
use Rattle.subsystem_defs.specs.Lines as L
use Rattle.subsystem_defs.specs.Lines.{Asked, Logged, Once, Replace, Run, Settle, Unpair, asked_by, backs, is_busy, is_settled, last_behind, line_logged, logged, most_backs, most_steps, run_lines, step_logged, steps}
use Rattle.subsystem_defs.specs.Subsystem.{Subsystem}
use Rattle.subsystem_laws.specs.Waits.{AreNumbered}
use Rattle.subsystem_laws.proofs.ReadDecks.{read_numbered}
use Rattle.audit_laws.proofs.own.DeckEvents.{OfNamed, read_names}

abbrev pub NamesEvent : Event → Type 0
NamesEvent (events.Start path d) = IsPath path × IsDevice d
NamesEvent (events.Step d) = IsDevice d
NamesEvent (events.Back d) = IsDevice d
NamesEvent (events.Reset path d) = IsPath path × IsDevice d
NamesEvent (events.FailVolume d side) = IsDevice d
NamesEvent (events.Pair a b) = IsDevice a × IsDevice b
NamesEvent (events.Suspend a) = IsDevice a
NamesEvent (events.Resume a) = IsDevice a
NamesEvent _ = Unit {0}

abbrev pub Names : Asked → Type 0
Names (Once e) = NamesEvent e
Names (Replace d side) = IsDevice d
Names (Unpair a) = IsDevice a
Names (Run d) = IsDevice d
Names (Settle d) = IsDevice d

-- What is so of each line's order is so of what asked for each event

module _ (P : Asked → Type 0) where
  abbrev pub Of : Logged → Type 0
  Of t = P t.asked

  steps_of : (n d : ℕ) (s : Subsystem) → P (Run d) → All Of (steps n d s)
  unfolding L.steps
  steps_of zero d s p = All-nil Of
  steps_of (suc n) d s p = grind (arith, steps_of n d, cond_both)

  backs_of : (n d : ℕ) (s : Subsystem) → P (Settle d) → All Of (backs n d s)
  unfolding L.backs
  backs_of zero d s p = All-nil Of
  backs_of (suc n) d s p = grind (arith, backs_of n d, cond_both)

  line_of : (x : Asked) (s : Subsystem) → P x → All Of (line_logged s x)
  unfolding L.line_logged
  line_of x s p = grind (arith, cond_both, steps_of, backs_of)

  pub lines_of : (xs : List Asked) (s : Subsystem) → All P xs → All Of (run_lines xs s)
  unfolding L.run_lines
  lines_of [] s all = All-nil Of
  lines_of (x ∷ xs) s all =
      let ts = line_logged s x in
      All-append Of ts (run_lines xs (last_behind s ts)) (line_of x s (All-head P x xs all)) (lines_of xs (last_behind s ts) (All-tail P x xs all))

-- Of a deck that was read

declared_small : (seen : List ℕ) (ds : List DeviceLine) → AreNumbered seen ds → (n : ℕ) → is_declared ds n ≡ true → n < 16
declared_small seen [] are n is = absurd (cc)
declared_small seen (d ∷ ds) are n is = grind (arith, declared_small (d.number ∷ seen) ds are.2 n)

module _ (f : ℕ → ℕ → EventLine) (same : (p q x y : ℕ) → ◌≡◌ {A = Result EventLine DeckWhy} (Ok (f p x)) (Ok (f q y)) → p ≡ q) where
  path_is : (devices : List DeviceLine) (words : List (List ℕ)) (path d : ℕ) →
      then_read (path_and_device devices words) (λ at. Ok (f at.0 at.1)) ≡ Ok (f path d) → IsPath path
  path_is devices words path d h = grind (arith, went, number_range, needed_is, if_ok)

module _ (devices : List DeviceLine) (small : (n : ℕ) → is_declared devices n ≡ true → n < 16) where
  event_names : (e : EventLine) → EventOk devices e → OfNamed (λ d. is_declared devices d ≡ true) e → Names (asked_by e)
  event_names e ok n = grind (arith, path_is, behind_of)

  all_names : (es : List EventLine) → Each (EventOk devices) es → Each (OfNamed (λ d. is_declared devices d ≡ true)) es → All Names (map asked_by es)
  all_names [] ok n = All-nil Names
  all_names (e ∷ es) ok n = All-cons Names (asked_by e) (map asked_by es) (event_names e ok.0 n.0) (all_names es ok.1 n.1)

pub run_names : (text : List ℕ) (deck : DeckLines) → parsed text ≡ Ok deck → All (λ (t : Logged). Names t.asked) (run_of deck).events
unfolding D.run_asked_on
run_names text deck read =
    lines_of Names (map asked_by deck.events) (opened deck)
    (all_names deck.devices (declared_small [] deck.devices (read_numbered text deck read)) deck.events (parsed_good text deck read).events
    (read_names text deck read))
