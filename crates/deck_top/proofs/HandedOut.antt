-- What a bay hands out, one device of a deck after another.
use Rattle.std.proofs.Common.{◌≡◌, ◌≤◌, ◌∙◌, ℕ, List, true, false, arith, subst}
use Rattle.std.proofs.lemmas.Bool.Decides.{nat_tests}
use Rattle.deck_text.specs.declared.line.DeviceLine.{DeviceLine}
use Rattle.deck_text.specs.DeckLines.{DeckLines}
use Rattle.device_outside.specs.Volume.{VolumeView}
use Rattle.subsystem_defs.specs.Decks.{Firsts, failing_of, plan_for}
use Rattle.deck_run.specs.Opening.{HoldsFirst, is_open_device}
use Rattle.deck_top.specs.Bays.{BayView, BeginsOn, HandsOut}

pub at_most : (d : DeviceLine) → is_open_device d ≡ true → d.cylinders ≤ 64
at_most d is = grind (arith, nat_tests)

begins_first : (firsts : Firsts) (deck : DeckLines) (d : DeviceLine) (v : VolumeView (List ℕ)) → BeginsOn firsts d (plan_for deck.faults d.number) v
    → HoldsFirst firsts deck d v
begins_first firsts deck d v begins = record { fits = begins.fits; tells = begins.tells }

-- A volume that fails the calls of the device's FAULT lines
pub holds_first : (firsts : Firsts) (deck : DeckLines) (d : DeviceLine) (v : VolumeView (List ℕ)) (reads writes : List ℕ)
    → reads ≡ failing_of false d.number deck.faults → writes ≡ failing_of true d.number deck.faults
    → BeginsOn firsts d (record { reads = reads; writes = writes }) v → HoldsFirst firsts deck d v
holds_first firsts deck d v reads writes right wrong begins =
    begins_first firsts deck d v
    (subst (λ (l : List ℕ). BeginsOn firsts d (record { reads = failing_of false d.number deck.faults; writes = l }) v) wrong
    (subst (λ (l : List ℕ). BeginsOn firsts d (record { reads = l; writes = writes }) v) right begins))

-- what it hands out stays
pub still_hands : {V : Type 0} (a b : BayView V) (firsts : Firsts) → b.firsts ≡ a.firsts → b.spoiled ≡ a.spoiled → HandsOut a firsts → HandsOut b firsts
still_hands a b firsts one two hands = record { told = one ∙ hands.told; whole = two ∙ hands.whole }
