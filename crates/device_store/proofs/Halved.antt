-- The track of an open half write isn't loose, whatever becomes firm.
use Rattle.std.proofs.Common.{◌≡◌, ◌∙◌, ◌<◌, ℕ, zero, suc, Bool, true, false, List, [], ◌∷◌, refl, ap, sym, arith}
use Rattle.std.specs.Prelude.{Option, Some, None, is_some, not, nat_lt, option_map, slice_set, if◌then◌else◌}
use Rattle.std.proofs.lemmas.Bool.Decides.{nat_tests}
use Rattle.device_defs.specs.declared.answers.Took.{Took}
use Rattle.device_defs.specs.declared.answers.Took.TheVariants.{Opened, Unwritten, Whole}
use Rattle.event_notes.specs.Loose.{is_loose_in}
use Rattle.device_store.specs.declared.half.HalfWrite.{HalfWrite}
use Rattle.device_store.specs.Halves.{half_below, half_is_firm}
use Rattle.device_store.specs.State.{StaysFirm, half_of, is_opened}

is_firm : (b : Bool) → not b ≡ true → b ≡ false
is_firm false e = refl
is_firm true e = absurd cc

pub still_firm : (old new : List Bool) (half : Option HalfWrite) → StaysFirm old new → half_is_firm old half ≡ true → half_is_firm new half ≡ true
still_firm old new None stays e = refl
still_firm old new (Some h) stays e = ap not (stays h.track (is_firm (is_loose_in old h.track) e))

pub half_firm : (loose : List Bool) (half : Option HalfWrite) (h : HalfWrite) → half ≡ Some h → half_is_firm loose half ≡ true
    → is_loose_in loose h.track ≡ false
half_firm loose None h is e = absurd cc
half_firm loose (Some x) h is e = let same : x ≡ h = cc in ap (λ (y : HalfWrite). is_loose_in loose y.track) (sym same) ∙ is_firm (is_loose_in loose x.track) e

pub hardened_stays : (l : List Bool) (t : ℕ) → StaysFirm l (slice_set l t false)
hardened_stays [] t q e = refl
hardened_stays (x ∷ xs) zero zero e = refl
hardened_stays (x ∷ xs) zero (suc q) e = e
hardened_stays (x ∷ xs) (suc t) zero e = e
hardened_stays (x ∷ xs) (suc t) (suc q) e = hardened_stays xs t q e

is_below : (t n : ℕ) → nat_lt t n ≡ true → t < n
is_below t n is = grind (arith, nat_tests)

pub half_within : (n : ℕ) (half : Option HalfWrite) (h : HalfWrite) → half ≡ Some h → half_below n half ≡ true → h.track < n
half_within n None h is e = absurd cc
half_within n (Some x) h is e = let same : x ≡ h = cc in is_below h.track n (ap (λ (y : HalfWrite). nat_lt y.track n) (sym same) ∙ e)

pub same_half : (half : Option HalfWrite) (x h : HalfWrite) → half ≡ Some x → half ≡ Some h → x ≡ h
same_half half x h is e = cc

pub no_half : (half : Option HalfWrite) → is_some half ≡ false → half ≡ None
no_half None e = refl
no_half (Some h) e = absurd cc

-- what a write that ended leaves open
pub none_opened : (r : Took) (h : HalfWrite) → ((r ≡ Opened) → ⊥) → None ≡ (if is_opened r then Some h else None)
none_opened Opened h ends = absurd (ends refl)
none_opened Whole h ends = refl
none_opened Unwritten h ends = refl

pub opened_is : (r : Took) (half : Option HalfWrite) (h : HalfWrite) → half ≡ (if is_opened r then Some h else None) → is_some half ≡ is_opened r
opened_is Opened half h e = ap is_some e
opened_is Whole half h e = ap is_some e
opened_is Unwritten half h e = ap is_some e

pub half_seen : (half : Option HalfWrite) → is_some half ≡ is_some (option_map half_of half)
half_seen None = refl
half_seen (Some h) = refl
