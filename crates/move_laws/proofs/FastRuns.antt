-- In the run of a deck a step whose command chose its write to be fast or provisional adds no check to any journal.
use Rattle.std.proofs.Common.{◌≡◌, ℕ, Bool, true, false, List, map, Option, Some, None, is_some, refl, sym, subst}
use Rattle.std.specs.Prelude.{All, if◌then◌else◌}
use Rattle.deck_text.specs.DeckLines.{DeckLines}
use Rattle.track_image.specs.Image.{Image}
use Rattle.device_outside.specs.Interaction.{Done}
use Rattle.device_outside.specs.Told as T
use Rattle.device_outside.specs.Told.{RunOutcome, hold}
use Rattle.device_defs.specs.declared.answers.Choice.{Choice}
use Rattle.device_defs.specs.declared.answers.Stepped.{Stepped}
use Rattle.device_defs.specs.Command.{command}
use Rattle.device_defs.specs.Contents.{by_plain}
use Rattle.device_defs.specs.Marks.{MarksDevice}
use Rattle.subsystem_defs.specs.declared.end.EventEnd.{EventEnd}
use Rattle.subsystem_defs.specs.declared.end.EventEnd.TheVariants as ends
use Rattle.subsystem_defs.specs.declared.event.Event.{Event}
use Rattle.subsystem_defs.specs.declared.event.Event.TheVariants as events
use Rattle.subsystem_defs.specs.Decks as D
use Rattle.subsystem_defs.specs.Decks.{Firsts, opened_on, run_on}
use Rattle.subsystem_defs.specs.Deeds as E
use Rattle.subsystem_defs.specs.Deeds.{Ends, Asks, deed, device_in, on_device, seconds, step, may_end_by, end_of}
use Rattle.subsystem_defs.specs.Happening as H
use Rattle.subsystem_defs.specs.Happening.{EventHappened, Talk, told_to, mounted_behind, held_with, asks, happens_by, happens}
use Rattle.subsystem_defs.specs.Lines.{asked_by}
use Rattle.subsystem_defs.specs.Subsystem.{Mounted, Subsystem, devices_of, mounted_in}
use Rattle.subsystem_laws.specs.Causes.{checks_of, EachPair}
use Rattle.subsystem_laws.proofs.FoundDevices.{number_found}
use Rattle.subsystem_laws.proofs.Pairing.{Pairs, pairs_same, pairs_put}
use Rattle.subsystem_laws.proofs.RunLines.{AnyEvent, Goes, run_shows}
use Rattle.subsystem_laws.proofs.RunLinks.{event_from}
use Rattle.move_laws.specs.Chosen.{choice_at, chosen_by, chosen_in, writes_in_cache, AddsNoCheck, EndsFastWrites}
use Rattle.move_laws.specs.Exactly.{command_walk}
use Rattle.move_laws.proofs.Holds.{hold_then}
use Rattle.move_laws.proofs.Commands.{command_makes}
use Rattle.move_laws.proofs.Steps.{found}

-- One step

abbrev Adds : EventHappened → Type 0
Adds h = EachPair AddsNoCheck (devices_of h.before) (devices_of h.behind)

all_same : (ms : List Mounted) → Pairs AddsNoCheck ms ms
all_same ms = pairs_same AddsNoCheck (λ d. refl) ms

module _ (s : Subsystem) (n : ℕ) (m : Mounted) (at : mounted_in s.mounted n ≡ Some m) where
  own : m.device.store.device ≡ n
  own = number_found s.mounted n m.device (found s.mounted n m at)

  ended_same : (o : RunOutcome MarksDevice (Option Stepped)) → checks_of o.state ≡ checks_of m.device →
      checks_of (hold {I = Image} true (Done o.state (end_of ends.Stepped o.answer)) o.told).state ≡ checks_of m.device
  unfolding T.hold
  ended_same o e = e

  abbrev Commands : Talk (Option EventEnd)
  Commands = may_end_by ends.Stepped (command by_plain m.device)

  abbrev Chosen : Option Choice
  Chosen = choice_at (command_walk m.device (told_to s.pool m) m.device.history.running m.device.chain).write

  command_adds : writes_in_cache Chosen ≡ true → Adds (asks s n (Some m) Commands)
  command_adds fast =
      let w = told_to s.pool m in
      let talk = command by_plain m.device in
      let none : AddsNoCheck m.device (held_with s.pool m Commands).state =
      subst (λ (o : RunOutcome MarksDevice (Option EventEnd)). checks_of o.state ≡ checks_of m.device)
      (sym (hold_then true talk (λ d a. Done d (end_of ends.Stepped a)) w))
      (ended_same (hold true talk w) ((command_makes false (checks_of m.device) m.device w refl).same fast)) in
      pairs_put AddsNoCheck (λ d. refl) n (mounted_behind (held_with s.pool m Commands)) s.mounted
      (λ k there.
      let same : m ≡ k = cc in subst (λ (x : Mounted). AddsNoCheck x.device (held_with s.pool m Commands).state) same none)

  runs_add : writes_in_cache Chosen ≡ true → (b : Bool) → Adds (happens_by s (if b then Asks m.device Commands else Ends ends.Idle))
  runs_add fast true =
      subst (λ (j : ℕ). Adds (asks s j (mounted_in s.mounted j) Commands)) (sym own)
      (subst (λ (o : Option Mounted). Adds (asks s n o Commands)) (sym at) (command_adds fast))
  runs_add fast false = all_same s.mounted

  steps_add : (b : Bool) → writes_in_cache (if b then None else Chosen) ≡ true →
      Adds (happens_by s (if b then seconds by_plain m.device
      else if is_some m.device.history.running then Asks m.device Commands else Ends ends.Idle))
  steps_add true fast = absurd (cc)
  steps_add false fast = runs_add fast (is_some m.device.history.running)

module _ (s : Subsystem) (n : ℕ) where
  step_at : (o : Option Mounted) → mounted_in s.mounted n ≡ o → (p : Option MarksDevice) → device_in (devices_of s) n ≡ p →
      writes_in_cache (chosen_by s.pool o) ≡ true → Adds (happens_by s (on_device p (step by_plain)))
  step_at (Some m) at (Some d) there fast =
      let same : d ≡ m.device = let e = found s.mounted n m at in cc in
      subst (λ (y : MarksDevice). Adds (happens_by s (step by_plain y))) (sym same) (steps_add s n m at (is_some m.device.store.half) fast)
  step_at (Some m) at None there fast = all_same s.mounted
  step_at None at p there fast = absurd (cc)

  step_adds : writes_in_cache (chosen_in s n) ≡ true → Adds (happens s (events.Step n))
  unfolding H.happens E.deed
  step_adds fast = step_at (mounted_in s.mounted n) refl (device_in (devices_of s) n) refl fast

-- All lines

event_adds : (s : Subsystem) (e : Event) (n : ℕ) → Some e ≡ Some (events.Step n) → writes_in_cache (chosen_in (happens s e).before n) ≡ true →
    Adds (happens s e)
event_adds s e n is fast =
    let same : e ≡ events.Step n = cc in
    let here = subst (λ (z : Subsystem). writes_in_cache (chosen_in z n) ≡ true) (event_from s e) fast in
    subst (λ (x : Event). Adds (happens s x)) (sym same) (step_adds s n here)

adds_go : Goes (λ s. Unit {0}) (λ s. EndsFastWrites) AnyEvent
adds_go = record {
  once = λ s e may q. (tt, record { unchecked = event_adds s e });
  stepped = λ s d q. (tt, record { unchecked = event_adds s (events.Step d) });
  idle = λ s d q. (tt, record { unchecked = λ n is fast. all_same s.mounted });
  backed = λ s d q. (tt, record { unchecked = λ n is. absurd (cc) });
  replaces = λ s d side q. (tt, record { unchecked = λ n is. absurd (cc) });
  unpairs = λ s a q. (tt, record { unchecked = λ n is. absurd (cc) });
}

pub run_ends_fast_writes : (firsts : Firsts) (deck : DeckLines) → All EndsFastWrites (run_on firsts deck).events
unfolding D.run_asked_on
run_ends_fast_writes firsts deck = run_shows (λ s. Unit {0}) EndsFastWrites adds_go (map asked_by deck.events) (opened_on firsts deck) tt
