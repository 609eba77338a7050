-- The devices of a deck that was read have rising numbers.
use Rattle.std.proofs.Common.{◌≡◌, ◌≤◌, ◌+◌, ℕ, true, List, [], ◌∷◌, ◌++◌, map, Ok, arith}
use Rattle.std.proofs.lemmas.Bool.{ltb-true, and_parts}
use Rattle.std.proofs.lemmas.List.Folds.{list_all-append}
use Rattle.deck_text.specs.declared.line.DeviceLine.{DeviceLine}
use Rattle.deck_text.specs.DeckLines.{DeckLines}
use Rattle.deck_text.specs.Forms.{rises}
use Rattle.deck_text.specs.Parse.{parsed}
use Rattle.deck_text.proofs.DeckAgain.{AllDevices, device_words}
use Rattle.deck_text.proofs.FormsAgain.{if_ok, went}
use Rattle.deck_text.proofs.Reached.{parsed_good}
use Rattle.audit_laws.proofs.own.Ties.{numbers_in}

-- each is above those before it, and the first is at least so much
abbrev pub RisesFrom : ℕ → List ℕ → Type 0
RisesFrom low [] = Unit {0}
RisesFrom low (n ∷ ns) = (low ≤ n) × RisesFrom (n + 1) ns

above_last : (before : List DeviceLine) (d : DeviceLine) (n : ℕ) → rises (before ++ d ∷ []) n ≡ true → d.number + 1 ≤ n
above_last before d n up = grind (arith, and_parts, list_all-append, ltb-true)

all_rise : (low : ℕ) (before ds : List DeviceLine) → ((n : ℕ) → rises before n ≡ true → low ≤ n) → AllDevices before ds →
    RisesFrom low (map (λ (d : DeviceLine). d.number) ds)
all_rise low before [] above h = tt
all_rise low before (d ∷ ds) above h =
    grind (arith, all_rise (d.number + 1) (before ++ d ∷ []) ds (above_last before d) h.1, device_words, above_last, went, if_ok)

pub read_rises : (text : List ℕ) (deck : DeckLines) → parsed text ≡ Ok deck → RisesFrom 0 (numbers_in deck)
read_rises text deck read = all_rise 0 [] deck.devices (λ n up. omega arith) (parsed_good text deck read).devices
