-- A volume that was opened holds what the words name.
use Rattle.std.proofs.Common.{◌≡◌, ◌≤◌, ℕ, List, Option, Some, true, arith, subst}
use Rattle.device_outside.specs.Volume.{VolumeView}
use Rattle.deck_text.specs.declared.line.DeviceLine.{DeviceLine}
use Rattle.deck_text.specs.DeckLines.{DeckLines}
use Rattle.std.proofs.lemmas.Bool.Decides.{nat_tests}
use Rattle.subsystem_defs.specs.Decks.{plan_for}
use Rattle.deck_run.specs.Opening.{HoldsFirst, is_open_device}
use Rattle.image_runner.specs.Racks.{Begins, BeginsWhereTold, Holding, firsts_by}
use Rattle.image_runner.specs.Words.{path_for}

pub at_most : (d : DeviceLine) → is_open_device d ≡ true → d.cylinders ≤ 64
at_most d is = grind (arith, nat_tests)

first_holds : (h : Holding) (names : List (List ℕ)) (deck : DeckLines) (d : DeviceLine) (v : VolumeView (List ℕ))
    → Begins h d (path_for names d.number) (plan_for deck.faults d.number) v → HoldsFirst (firsts_by h names) deck d v
first_holds h names deck d v begins = record { fits = begins.fits; tells = begins.tells }

pub holds_first : (holding : Option Holding) (h : Holding) (names : List (List ℕ)) (deck : DeckLines) (d : DeviceLine) (v : VolumeView (List ℕ))
    → holding ≡ Some h → BeginsWhereTold holding d (path_for names d.number) (plan_for deck.faults d.number) v → HoldsFirst (firsts_by h names) deck d v
holds_first holding h names deck d v is begins =
    first_holds h names deck d v (subst (λ (o : Option Holding). BeginsWhereTold o d (path_for names d.number) (plan_for deck.faults d.number) v) is begins)
