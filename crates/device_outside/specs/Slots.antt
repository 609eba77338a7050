-- The slots of one device, where the pool tells which are in use: each that it has is in use, and none is another device's too.
use Rattle.std.specs.Prelude.{◌≡◌, ℕ, Bool, true, false, List, ◌∷◌, Option, Some, None}
use Rattle.device_outside.specs.declared.port.SlotGrant.{SlotGrant}
use Rattle.device_outside.specs.declared.port.SlotGrant.TheVariants.{Given}
use Rattle.device_outside.specs.Lists.{is_in, less_all}
use Rattle.device_outside.specs.Pool.{Pool, Call, WantSlot, FreeSlot, AnswerTo, IsFree}

-- a device gives back only a slot that it has
abbrev pub Owns : List ℕ → Call → Type 0
Owns mine (FreeSlot k) = is_in k mine ≡ true
Owns mine c = Unit {0}

-- whether it is the call that gives back a slot
abbrev pub gives_back : Call → Bool
gives_back (FreeSlot k) = true
gives_back c = false

abbrev pub more_slots : List ℕ → SlotGrant → List ℕ
more_slots mine (Given k) = k ∷ mine
more_slots mine s = mine

-- the slots that it has behind a call with this answer
abbrev pub slots_after : List ℕ → (c : Call) → AnswerTo c → List ℕ
slots_after mine WantSlot a = more_slots mine a
slots_after mine (FreeSlot k) a = less_all k mine
slots_after mine c a = mine

-- where the port doesn't tell its pool, nothing is said of slots
abbrev pub MayAsk : Option (List ℕ) → Call → Type 0
MayAsk None c = Unit {0}
MayAsk (Some mine) c = Owns mine c

abbrev pub MayAnswer : Option (List ℕ) → (c : Call) → AnswerTo c → Type 0
MayAnswer None c a = Unit {0}
MayAnswer (Some mine) c a = IsFree mine c a

abbrev pub held_after : Option (List ℕ) → (c : Call) → AnswerTo c → Option (List ℕ)
held_after None c a = None
held_after (Some mine) c a = Some (slots_after mine c a)

-- of the slots in use some are this device's and some are others', and none is both
pub record AreShared (used mine others : List ℕ) : Type 0 where
  pub own : (k : ℕ) → is_in k mine ≡ true → is_in k used ≡ true
  pub foreign : (k : ℕ) → is_in k others ≡ true → is_in k used ≡ true
  pub apart : (k : ℕ) → is_in k mine ≡ true → is_in k others ≡ false

abbrev pub SlotsTold : Option Pool → Option (List ℕ) → List ℕ → Type 0
SlotsTold pool None others = Unit {0}
SlotsTold None (Some mine) others = ⊥
SlotsTold (Some p) (Some mine) others = AreShared p.used mine others
