-- Before each event of the run of a deck that was read there are at most 16 devices.
use Rattle.std.proofs.Common.{◌≡◌, ◌≤◌, ℕ, List, [], ◌∷◌, length, map, Ok, sym, subst, arith}
use Rattle.std.specs.Prelude.{All}
use Rattle.std.proofs.lemmas.List.{length-map}
use Rattle.std.proofs.lemmas.List.Elements.{All-cons, All-nil}
use Rattle.deck_text.specs.DeckLines.{DeckLines}
use Rattle.deck_text.specs.Parse.{parsed}
use Rattle.subsystem_defs.specs.Decks as D
use Rattle.subsystem_defs.specs.Decks.{opened, run_of}
use Rattle.subsystem_defs.specs.Lines.{Logged, asked_by, run_lines}
use Rattle.subsystem_defs.specs.Subsystem.{Subsystem, devices_of}
use Rattle.subsystem_laws.proofs.ReadDecks.{read_few_devices}
use Rattle.subsystem_laws.proofs.RunLines.{Logs}
use Rattle.subsystem_laws.proofs.RunLinks.{Linked, lines_linked}
use Rattle.audit_laws.proofs.own.Ties.{numbers_in, ties, So, Shown, run_tied}

module _ (ns : List ℕ) (most : length ns ≤ 16) where
  abbrev Few : Subsystem → Type 0
  Few s = length (devices_of s) ≤ 16

  few : (s : Subsystem) → So ns s → Few s
  few s t = grind (arith, ties, length-map)

  abbrev IsFew : Logged → Type 0
  IsFew t = Few t.happened.before

  each_few : (s : Subsystem) (ts : List Logged) → Linked s ts → Logs (So ns) (Shown ns) s ts → All IsFew ts
  each_few s [] l g = All-nil IsFew
  each_few s (t ∷ ts) l g = All-cons IsFew t ts (subst Few (sym l.0) (few s g.0)) (each_few t.happened.behind ts l.1 g.1)

read_numbers : (text : List ℕ) (deck : DeckLines) → parsed text ≡ Ok deck → length (numbers_in deck) ≤ 16
read_numbers text deck read = grind (arith, length-map, read_few_devices)

pub run_has_few : (text : List ℕ) (deck : DeckLines) → parsed text ≡ Ok deck → All (λ (t : Logged). length (devices_of t.happened.before) ≤ 16) (run_of deck).events
unfolding D.run_asked_on
run_has_few text deck read =
    let asked = map asked_by deck.events in
    each_few (numbers_in deck) (read_numbers text deck read) (opened deck) (run_lines asked (opened deck)) (lines_linked asked (opened deck)) (run_tied deck)
