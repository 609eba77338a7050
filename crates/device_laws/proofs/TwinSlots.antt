-- Slots that a device gives back, and one that it is given.
use Rattle.std.proofs.Common.{◌≡◌, ◌≢◌, ◌==◌, ℕ, Bool, true, false, cond, List, [], ◌∷◌, Option, Some, None, refl, sym, ap, subst, ◌∙◌, arith, ◌⊎◌, inl, inr}
use Rattle.std.proofs.lemmas.Bool.{cases_eq}
use Rattle.device_outside.specs.Lists as L
use Rattle.device_outside.specs.Lists.{is_in, less_all}
use Rattle.device_outside.specs.Pool.{FreeSlot, WantSlot}
use Rattle.device_outside.specs.declared.port.SlotGrant.TheVariants.{Given}
use Rattle.device_outside.specs.Slots.{MayAsk, MayAnswer, held_after}
use Rattle.device_defs.specs.Sound.{DeviceStore}
use Rattle.device_laws.specs.Agrees.{slot_at, AreSlots, HasSlots}

others_in : (j k : ℕ) (xs : List ℕ) → (j == k) ≡ false → is_in j xs ≡ true → is_in j (less_all k xs) ≡ true
unfolding L.is_in L.less_all
others_in j k [] n e = e
others_in j k (x ∷ xs) n e = go (k == x) (j == x) refl refl e (others_in j k xs n)
  where
    go : (b c : Bool) → (k == x) ≡ b → (j == x) ≡ c → cond c true (is_in j xs) ≡ true →
        (is_in j xs ≡ true → is_in j (less_all k xs) ≡ true) → is_in j (cond b (less_all k xs) (x ∷ less_all k xs)) ≡ true
    go true true p r e f = let s : (j == k) ≡ true = grind arith in absurd cc
    go true false p r e f = f e
    go false true p r e f = ap (λ (v : Bool). cond v true (is_in j (less_all k xs))) r
    go false false p r e f = ap (λ (v : Bool). cond v true (is_in j (less_all k xs))) r ∙ f e

-- z has of the slots of s all but the one of this place
module _ (s z : DeviceStore) (place : Bool) (t slot : ℕ) (there : slot_at s place t ≡ Some slot)
    (still : (kept : Bool) (q k : ℕ) → slot_at z kept q ≡ Some k → slot_at s kept q ≡ Some k)
    (gone : slot_at z place t ≡ None) where
  pub may_free : (o : Option (List ℕ)) → HasSlots s o → MayAsk o (FreeSlot slot)
  may_free None x = tt
  may_free (Some mine) x = x.own place t slot there

  none_there : (kept : Bool) (q k : ℕ) → slot_at z kept q ≡ Some k → kept ≡ place → q ≡ t → ⊥
  none_there kept q k e same at =
      absurd (let f : slot_at z place t ≡ Some k =
      subst (λ (p : ℕ). slot_at z place p ≡ Some k) at (subst (λ (b : Bool). slot_at z b q ≡ Some k) same e) in let g = gone in cc)

  other_slot : (mine : List ℕ) → AreSlots s mine → (kept : Bool) (q k : ℕ) → slot_at z kept q ≡ Some k → (b : Bool) → (k == slot) ≡ b → b ≡ false
  other_slot mine x kept q k e false f = refl
  other_slot mine x kept q k e true f =
      let is : k ≡ slot = grind arith in
      let one = x.apart kept place q t slot (subst (λ (n : ℕ). slot_at s kept q ≡ Some n) is (still kept q k e)) there in
      absurd (none_there kept q k e one.0 one.1)

  pub freed_slots : (o : Option (List ℕ)) → HasSlots s o → HasSlots z (held_after o (FreeSlot slot) (tt {0}))
  freed_slots None x = tt
  freed_slots (Some mine) x = record {
    own = λ kept q k e. others_in k slot mine (other_slot mine x kept q k e (k == slot) refl) (x.own kept q k (still kept q k e));
    apart = λ kept other q r k e f. x.apart kept other q r k (still kept q k e) (still other r k f);
  }

-- A new slot

in_more : (j k : ℕ) (xs : List ℕ) → is_in j xs ≡ true → is_in j (k ∷ xs) ≡ true
unfolding L.is_in
in_more j k xs e = go (j == k)
  where
    go : (b : Bool) → cond b true (is_in j xs) ≡ true
    go true = refl
    go false = e

in_first : (k : ℕ) (xs : List ℕ) → is_in k (k ∷ xs) ≡ true
unfolding L.is_in
in_first k xs = let e : (k == k) ≡ true = grind arith in ap (λ (b : Bool). cond b true (is_in k xs)) e

-- the device has it, and none of its tracks
abbrev pub IsNew : DeviceStore → ℕ → Option (List ℕ) → Type 0
IsNew s slot None = Unit {0}
IsNew s slot (Some mine) = (is_in slot mine ≡ true) × ((kept : Bool) (q : ℕ) → slot_at s kept q ≢ Some slot)

pub given_slots : (s : DeviceStore) (slot : ℕ) (o : Option (List ℕ)) → MayAnswer o WantSlot (Given slot) → HasSlots s o →
    HasSlots s (held_after o WantSlot (Given slot)) × IsNew s slot (held_after o WantSlot (Given slot))
given_slots s slot None free x = (tt, tt)
given_slots s slot (Some mine) free x = (
  record { own = λ kept q k e. in_more k slot mine (x.own kept q k e); apart = x.apart },
  (in_first slot mine, λ kept q e. absurd (let f = x.own kept q slot e in let g : is_in slot mine ≡ false = free in cc)),
)

pub may_free_new : (s : DeviceStore) (slot : ℕ) (o : Option (List ℕ)) → IsNew s slot o → MayAsk o (FreeSlot slot)
may_free_new s slot None x = tt
may_free_new s slot (Some mine) x = x.0

pub unused_slots : (s : DeviceStore) (slot : ℕ) (o : Option (List ℕ)) → IsNew s slot o → HasSlots s o → HasSlots s (held_after o (FreeSlot slot) (tt {0}))
unused_slots s slot None new x = tt
unused_slots s slot (Some mine) new x = record {
  own = λ kept q k e. others_in k slot mine (other_than kept q k e (k == slot) refl) (x.own kept q k e);
  apart = x.apart;
}
  where
    other_than : (kept : Bool) (q k : ℕ) → slot_at s kept q ≡ Some k → (b : Bool) → (k == slot) ≡ b → b ≡ false
    other_than kept q k e false f = refl
    other_than kept q k e true f = let is : k ≡ slot = grind arith in absurd (new.1 kept q (subst (λ (n : ℕ). slot_at s kept q ≡ Some n) is e))

-- a track's patch has it then
module _ (s z : DeviceStore) (t slot : ℕ) (here : slot_at z true t ≡ Some slot) (freed : slot_at z false t ≡ slot_at s false t)
    (others : (kept : Bool) (q : ℕ) → q ≢ t → slot_at z kept q ≡ slot_at s kept q) where
  same_or_new : (kept : Bool) (q k : ℕ) → slot_at z kept q ≡ Some k → ((q ≡ t) ⊎ (q ≢ t)) →
      ((kept ≡ true) × (q ≡ t) × (k ≡ slot)) ⊎ (slot_at s kept q ≡ Some k)
  same_or_new true q k e (inl at) =
      inl (refl, at, (let f : slot_at z true t ≡ Some k = subst (λ (p : ℕ). slot_at z true p ≡ Some k) at e in let g = here in cc))
  same_or_new false q k e (inl at) =
      inr (subst (λ (p : ℕ). slot_at s false p ≡ Some k) (sym at) (sym freed ∙ subst (λ (p : ℕ). slot_at z false p ≡ Some k) at e))
  same_or_new kept q k e (inr ne) = inr (sym (others kept q ne) ∙ e)

  pub new_slots : (o : Option (List ℕ)) → IsNew s slot o → HasSlots s o → HasSlots z o
  new_slots None new x = tt
  new_slots (Some mine) new x = record {
    own = λ kept q k e. own_by kept q k (same_or_new kept q k e (cases_eq q t));
    apart = λ kept other q r k e f. apart_by kept other q r k (same_or_new kept q k e (cases_eq q t)) (same_or_new other r k f (cases_eq r t));
  }
    where
      own_by : (kept : Bool) (q k : ℕ) → (((kept ≡ true) × (q ≡ t) × (k ≡ slot)) ⊎ (slot_at s kept q ≡ Some k)) → is_in k mine ≡ true
      own_by kept q k (inl e) = subst (λ (n : ℕ). is_in n mine ≡ true) (sym e.2) new.0
      own_by kept q k (inr e) = x.own kept q k e

      apart_by : (kept other : Bool) (q r k : ℕ) → (((kept ≡ true) × (q ≡ t) × (k ≡ slot)) ⊎ (slot_at s kept q ≡ Some k)) →
          (((other ≡ true) × (r ≡ t) × (k ≡ slot)) ⊎ (slot_at s other r ≡ Some k)) → (kept ≡ other) × (q ≡ r)
      apart_by kept other q r k (inl e) (inl f) = (e.0 ∙ sym f.0, e.1 ∙ sym f.1)
      apart_by kept other q r k (inl e) (inr f) = absurd (new.1 other r (subst (λ (n : ℕ). slot_at s other r ≡ Some n) e.2 f))
      apart_by kept other q r k (inr e) (inl f) = absurd (new.1 kept q (subst (λ (n : ℕ). slot_at s kept q ≡ Some n) f.2 e))
      apart_by kept other q r k (inr e) (inr f) = x.apart kept other q r k e f
