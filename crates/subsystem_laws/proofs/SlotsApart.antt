-- Each patch has a slot of its own among those in use, over all devices that are mounted.
use Rattle.std.proofs.Common.{◌≡◌, ℕ, zero, suc, true, List, [], ◌++◌, Some, refl, sym, ap, subst}
use Rattle.std.specs.Prelude.{slice_get}
use Rattle.ckd_types.specs.declared.record.Track.{Track}
use Rattle.device_outside.specs.Lists.{is_in}
use Rattle.device_laws.specs.Agrees.{Held, HasSlots, AreSlots}
use Rattle.device_laws.specs.Lent.{Stands, in_order, is_away}
use Rattle.device_laws.specs.Whole.{WholeDevice}
use Rattle.subsystem_defs.specs.Subsystem.{Mounted}
use Rattle.subsystem_laws.specs.SlotsApart.{slot_on, AreApart}
use Rattle.subsystem_laws.specs.WholeStood.{Stood, IsMounted, is_mounted, AreMountedBy, no_more, one_more}
use Rattle.subsystem_laws.proofs.WholeSlots as W
use Rattle.subsystem_laws.proofs.WholeSlots.{slots_of, in_left, in_right, out_left, theirs_used, theirs_apart, not_both}

-- Of one device

told_slots : (v w : List Track) (d : WholeDevice) (h : Held) → Stands v w d h → HasSlots d.store h.slots
told_slots v w d h (in_order i) = i.agrees.ground.slots
told_slots v w d h (is_away l) = l.store.ground.slots

own_slots : {mine : List ℕ} {x : Stood} {m : Mounted} → IsMounted mine x m → AreSlots x.device.store mine
own_slots (is_mounted d v w h on_a on_b a b stands slots told_a told_b) = subst (HasSlots d.store) slots (told_slots v w d h stands)

some_is : {X : Type 0} (x y : X) → Some x ≡ Some y → x ≡ y
some_is x y e = cc

own_is : {x : Stood} {m : Mounted} (mine : List ℕ) → IsMounted mine x m → (y : Stood) (t slot : ℕ) → Some x ≡ Some y → slot_on y t ≡ Some slot →
    is_in slot mine ≡ true
own_is {x = x} mine is y t slot same e = (own_slots is).own true t slot (subst (λ (z : Stood). slot_on z t ≡ Some slot) (sym (some_is x y same)) e)

-- Of all

all_theirs : {used taken : List ℕ} {xs : List Stood} {ms : List Mounted} (s : AreMountedBy used taken xs ms) (i t slot : ℕ) (x : Stood) →
    slice_get xs i ≡ Some x → slot_on x t ≡ Some slot → is_in slot (slots_of s) ≡ true
unfolding W.slots_of
all_theirs (no_more f) i t slot x at e = absurd (cc)
all_theirs (one_more mine is apart rest) zero t slot x at e = in_left slot mine (slots_of rest) (own_is mine is x t slot at e)
all_theirs (one_more mine is apart rest) (suc i) t slot x at e = in_right slot mine (slots_of rest) (all_theirs rest i t slot x at e)

-- one that the first has is no other's
first_alone : {used : List ℕ} {xs : List Stood} {ms : List Mounted} (taken mine : List ℕ) (rest : AreMountedBy used (mine ++ taken) xs ms) (slot : ℕ) →
    is_in slot mine ≡ true → is_in slot (slots_of rest) ≡ true → ⊥
first_alone taken mine rest slot own theirs = not_both slot mine own (out_left slot mine taken (theirs_apart rest slot theirs))

all_apart : {used taken : List ℕ} {xs : List Stood} {ms : List Mounted} (s : AreMountedBy used taken xs ms) (i j t q slot : ℕ) (x y : Stood) →
    slice_get xs i ≡ Some x → slice_get xs j ≡ Some y → slot_on x t ≡ Some slot → slot_on y q ≡ Some slot → (i ≡ j) × (t ≡ q)
all_apart (no_more k) i j t q slot x y at there e f = absurd (cc)
all_apart (one_more {x = z} mine is apart rest) zero zero t q slot x y at there e f =
    let same = (own_slots is).apart true true t q slot (subst (λ (k : Stood). slot_on k t ≡ Some slot) (sym (some_is z x at)) e)
    (subst (λ (k : Stood). slot_on k q ≡ Some slot) (sym (some_is z y there)) f) in
    (refl, same.1)
all_apart {taken = taken} (one_more mine is apart rest) zero (suc j) t q slot x y at there e f =
    absurd (first_alone taken mine rest slot (own_is mine is x t slot at e) (all_theirs rest j q slot y there f))
all_apart {taken = taken} (one_more mine is apart rest) (suc i) zero t q slot x y at there e f =
    absurd (first_alone taken mine rest slot (own_is mine is y q slot there f) (all_theirs rest i t slot x at e))
all_apart (one_more mine is apart rest) (suc i) (suc j) t q slot x y at there e f =
    let same = all_apart rest i j t q slot x y at there e f in (ap suc same.0, same.1)

pub slots_apart : {used : List ℕ} {xs : List Stood} {ms : List Mounted} → AreMountedBy used [] xs ms → AreApart used xs
slots_apart s = record {
  used = λ i t slot x at e. theirs_used s slot (all_theirs s i t slot x at e);
  apart = λ i j t q slot x y at there e f. all_apart s i j t q slot x y at there e f;
}
