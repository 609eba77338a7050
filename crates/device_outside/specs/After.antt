-- What holds after an interaction, whatever is answered and whichever calls fail, where the volumes tell what they hold.
use Rattle.std.specs.Prelude.{◌≡◌, ℕ, true, false, List, Option, Some, None, slice_index_or, slice_set}
use Rattle.ckd_types.specs.declared.paths.Side.{Side}
use Rattle.ckd_types.specs.declared.paths.Side.TheVariants.{A, B}
use Rattle.device_outside.specs.Pool.{Call, AnswerTo}
use Rattle.device_outside.specs.Slots.{MayAsk, MayAnswer, held_after, SlotsTold}
use Rattle.device_outside.specs.Volume.{VolumeView}
use Rattle.device_outside.specs.Keeper.{ReplyTo}
use Rattle.device_outside.specs.Interaction.{Interaction, Done, Try, Ask, Read, Write, Tell}
use Rattle.device_outside.specs.Outside.{Outside}

-- what the sides hold, and where the port tells its pool the slots that this device has
pub record Holdings (R : Type 0) : Type 0 where
  pub a : List R
  pub b : List R
  pub slots : Option (List ℕ)

abbrev pub holds_of : {R : Type 0} → Holdings R → Side → List R
holds_of h A = h.a
holds_of h B = h.b

abbrev pub with_held : {R : Type 0} → Holdings R → Side → ℕ → R → Holdings R
with_held h A t r = record h { a = slice_set h.a t r }
with_held h B t r = record h { b = slice_set h.b t r }

abbrev pub with_slots : {R : Type 0} → Holdings R → (c : Call) → AnswerTo c → Holdings R
with_slots h c a = record h { slots = held_after h.slots c a }

unfoldable pub After : {R I S A : Type 0} → R → Interaction R I S A → Holdings R → (S → A → Holdings R → Type 0) → Type 0
After z (Done s a) h q = q s a h
After z (Try k) h q = After z (k true) h q × After z (k false) h q
After z (Ask call k) h q = MayAsk h.slots call × ((a : AnswerTo call) → MayAnswer h.slots call a → After z (k a) (with_slots h call a) q)
After z (Read side t k) h q = After z (k None) h q × After z (k (Some (slice_index_or (holds_of h side) t z))) h q
After {R} z (Write side t r k) h q = After z (k true) (with_held h side t r) q × ((x : R) → After z (k false) (with_held h side t x) q)
After z (Tell m k) h q = (r : ReplyTo m) → After z (k r) h q

-- a record round it, so that its arguments can be inferred
pub record Surely {R I S A : Type 0} (z : R) (i : Interaction R I S A) (h : Holdings R) (q : S → A → Holdings R → Type 0) : Type 0 where
  pub holds : After z i h q

-- a side tells that it holds this; a side that isn't there holds anything
abbrev pub Tells : {R : Type 0} → Option (VolumeView R) → List R → Type 0
Tells None l = Unit {0}
Tells (Some v) l = v.contents ≡ Some l

-- the outside tells these holdings, where others' are the slots of the other devices
pub record Has {R K : Type 0} (others : List ℕ) (w : Outside R K) (h : Holdings R) : Type 0 where
  pub a : Tells w.a h.a
  pub b : Tells w.b h.b
  pub slots : SlotsTold w.port.pool h.slots others

-- q holds of some holdings that the outside tells
pub record Holds {R K S A : Type 0} (others : List ℕ) (q : S → A → Holdings R → Type 0) (s : S) (a : A) (w : Outside R K) : Type 0 where
  pub holdings : Holdings R
  pub has : Has others w holdings
  pub is : q s a holdings
