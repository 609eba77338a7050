-- What is promised of a calm run holds of a device that was never lent and of which nothing was lost and no call failed.
use Rattle.std.proofs.Common.{◌≡◌, ◌==◌, ℕ, Bool, true, false, List, [], ◌∷◌, map, refl, ap, arith}
use Rattle.std.specs.Prelude.{All, ◌&&◌, ◌||◌, not}
use Rattle.deck_text.specs.declared.line.DeviceLine.{DeviceLine}
use Rattle.deck_text.specs.DeckLines.{DeckLines}
use Rattle.plain_defs.specs.declared.journal.Item.{Item}
use Rattle.plain_defs.specs.declared.journal.Item.TheVariants as items
use Rattle.plain_defs.specs.Journal.{last_sense}
use Rattle.device_defs.specs.Command.{has_loss}
use Rattle.device_defs.specs.Excused.{count_lost, is_checked, is_data_check, is_equipment_check}
use Rattle.device_defs.specs.Marks.{MarksDevice}
use Rattle.device_defs.specs.Pledge.{ends_with_data_check}
use Rattle.device_laws.specs.Unharmed.{ends_with_equipment_check}
use Rattle.device_laws.proofs.KeptHistories.{AreNot, none_came}
use Rattle.subsystem_defs.specs.declared.event.Event.{Event}
use Rattle.subsystem_defs.specs.Decks as D
use Rattle.subsystem_defs.specs.Decks.{Firsts, opened_device_on, opened_on, run_on}
use Rattle.subsystem_defs.specs.Lines.{asked_by}
use Rattle.subsystem_defs.specs.Promised.{is_served, are_served}
use Rattle.subsystem_laws.specs.Causes.{HasNoDataCheck, MissesNothing, MissNothing}
use Rattle.subsystem_laws.specs.Served.{IsServedDeck}
use Rattle.subsystem_laws.proofs.DataChecks.{checks_kept}
use Rattle.subsystem_laws.proofs.NothingChecked.{Quiet, quiet_kept, opened_quiet}
use Rattle.subsystem_laws.proofs.TracksKept.{keeps_tracks}
use Rattle.subsystem_laws.proofs.Walks.{IsKept, AreSo, run_keeps, behind_weaker}

-- Two things at once

pub both_kept : {May : Event → Type 0} (P Q : MarksDevice → Type 0) → IsKept P May → IsKept Q May → IsKept (λ d. P d × Q d) May
both_kept P Q k l = record {
  started = λ d path n may fault x. (k.started d path n may fault x.0, l.started d path n may fault x.1);
  commanded = λ d o running whole x. λ t. (k.commanded d o running whole x.0 t, l.commanded d o running whole x.1 t);
  seconded = λ d h is x. λ t. (k.seconded d h is x.0 t, l.seconded d h is x.1 t);
  worked = λ d whole x. λ t. (k.worked d whole x.0 t, l.worked d whole x.1 t);
  cut = λ d path x. λ t. (k.cut d path x.0 t, l.cut d path x.1 t);
  lost_cache = λ d x. λ t. (k.lost_cache d x.0 t, l.lost_cache d x.1 t);
  lost_store = λ d x. λ t. (k.lost_store d x.0 t, l.lost_store d x.1 t);
  lost_side = λ d side home x. λ t. (k.lost_side d side home x.0 t, l.lost_side d side home x.1 t);
  lost_power = λ d x. λ t. (k.lost_power d x.0 t, l.lost_power d x.1 t);
  held = λ d fault x. (k.held d fault x.0, l.held d fault x.1);
  resumed = λ d pair x. (k.resumed d pair x.0, l.resumed d pair x.1);
  replaced = λ d side fault x. (k.replaced d side fault x.0, l.replaced d side fault x.1);
  lent = λ x y fault p q. λ t. (k.lent x y fault p.0 q.0 t, l.lent x y fault p.1 q.1 t);
  joins = λ d single x. (k.joins d single x.0, l.joins d single x.1);
  splits = λ d fault x. (k.splits d fault x.0, l.splits d fault x.1);
  restored = λ d a is x. (k.restored d a is x.0, l.restored d a is x.1);
}

-- Journals

served_if : (c d q l : Bool) → (c && d) ≡ false → (c && q) ≡ false → (not c || not (d || (q && not l))) ≡ true
served_if false d q l e f = refl
served_if true true q l e f = absurd (cc)
served_if true false true l e f = absurd (cc)
served_if true false false l e f = refl

and_true : (x y : Bool) → x ≡ true → y ≡ true → (x && y) ≡ true
and_true true true e f = refl
and_true true false e f = absurd (cc)
and_true false y e f = absurd (cc)

served : (xs : List Item) → AreNot ends_with_data_check xs → AreNot ends_with_equipment_check xs → are_served xs ≡ true
served [] h k = refl
served (items.Program e ∷ xs) h k =
    and_true (is_served e) (are_served xs)
    (served_if (is_checked e.how) (is_data_check (last_sense e.ends)) (is_equipment_check (last_sense e.ends)) (has_loss e.acts) h.0 k.0)
    (served xs h.1 k.1)
served (items.Act act ∷ xs) h k = served xs h.1 k.1
served (items.Reset path ∷ xs) h k = served xs h.1 k.1
served (items.Fresh ∷ xs) h k = served xs h.1 k.1
served (items.Power ∷ xs) h k = served xs h.1 k.1

none_missed : (d : MarksDevice) → Quiet d × HasNoDataCheck d → MissesNothing d
none_missed d x = λ nothing cache.
    and_true (are_served d.history.items) (count_lost d.store.lost == 0)
    (served d.history.items (none_came ends_with_data_check 0 0 d.history.items x.1 (omega arith))
    (none_came ends_with_equipment_check 0 0 d.history.items (x.0.none nothing cache).0 (omega arith)))
    (ap (λ (n : ℕ). n == 0) (keeps_tracks d x.0.fair nothing))

opened_both : (firsts : Firsts) (deck : DeckLines) (ds : List DeviceLine) → AreSo Quiet (map (opened_device_on firsts deck) ds) →
    AreSo (λ d. Quiet d × HasNoDataCheck d) (map (opened_device_on firsts deck) ds)
opened_both firsts deck [] h = tt
opened_both firsts deck (d ∷ ds) h = ((h.0, refl), opened_both firsts deck ds h.1)

pub run_misses_nothing : (firsts : Firsts) (deck : DeckLines) → IsServedDeck deck → All MissNothing (run_on firsts deck).events
unfolding D.run_asked_on
run_misses_nothing firsts deck h =
    behind_weaker (λ d. Quiet d × HasNoDataCheck d) MissesNothing none_missed (run_on firsts deck).events
    (run_keeps (λ d. Quiet d × HasNoDataCheck d) (both_kept Quiet HasNoDataCheck quiet_kept checks_kept) (map asked_by deck.events) (opened_on firsts deck)
    (opened_both firsts deck deck.devices (opened_quiet firsts deck deck.devices h.devices)))
