-- Two interactions walked together: a device's own, and the step that keeps no contents. Both are instances of one text.
use Rattle.std.specs.Prelude.{◌≡◌, ℕ, Bool, true, false, List, Option, Some, None, slice_index_or}
use Rattle.ckd_types.specs.declared.paths.Side.{Side}
use Rattle.device_outside.specs.Pool.{Pool, Call, FreeSlot, AnswerTo, unnumbered, counted_slots}
use Rattle.device_outside.specs.Slots.{gives_back, MayAsk, MayAnswer, SlotsTold}
use Rattle.device_outside.specs.Volume.{VolumeView}
use Rattle.device_outside.specs.Keeper.{Message, ReplyTo}
use Rattle.device_outside.specs.Interaction.{Interaction, Done, Try, Ask, Read, Write, Tell}
use Rattle.device_outside.specs.Outside.{Outside}
use Rattle.device_outside.specs.Told.{Calls, Told, hold}
use Rattle.device_outside.specs.After.{Holdings, holds_of, with_held, with_slots}

-- Both ask the same, and go on alike. What a side delivers is a track, and so is what it is given: for the one R, for the other the mark g. A slot that
-- is given is number 0 to the other, and where the one gives back its slot the other gives back one.
pub data Both {R O I S A T B : Type 0} (z : R) (g : O) (q : S → A → T → B → Holdings R →
    Type 0) : Interaction R I S A → Interaction O I T B → Holdings R → Type 0 where
  both_done : {s : S} {a : A} {m : T} {b : B} {h : Holdings R} → q s a m b h → Both z g q (Done s a) (Done m b) h
  both_try : {k : Bool → Interaction R I S A} {l : Bool → Interaction O I T B} {h : Holdings R} →
      Both z g q (k true) (l true) h → Both z g q (k false) (l false) h → Both z g q (Try k) (Try l) h
  both_ask : {call : Call} {k : AnswerTo call → Interaction R I S A} {l : AnswerTo call →
      Interaction O I T B} {h : Holdings R} → gives_back call ≡ false →
      ((a : AnswerTo call) → MayAnswer h.slots call a → Both z g q (k a) (l (unnumbered call a))
      (with_slots h call a)) → Both z g q (Ask call k) (Ask call l) h
  both_free : {slot : ℕ} {k : Unit {0} → Interaction R I S A} {l : Unit {0} →
      Interaction O I T B} {h : Holdings R} → MayAsk h.slots (FreeSlot slot) →
      Both z g q (k tt) (l tt) (with_slots h (FreeSlot slot) tt) →
      Both z g q (Ask (FreeSlot slot) k) (Ask (FreeSlot 0) l) h
  both_read : {side : Side} {t : ℕ} {k : Option R → Interaction R I S A} {l : Option O →
      Interaction O I T B} {h : Holdings R} → Both z g q (k None) (l None) h →
      Both z g q (k (Some (slice_index_or (holds_of h side) t z))) (l (Some g)) h →
      Both z g q (Read side t k) (Read side t l) h
  both_write : {side : Side} {t : ℕ} {r : R} {k : Bool → Interaction R I S A} {l : Bool →
      Interaction O I T B} {h : Holdings R} → Both z g q (k true) (l true) (with_held h side t r) →
      ((x : R) → Both z g q (k false) (l false) (with_held h side t x)) →
      Both z g q (Write side t r k) (Write side t g l) h
  both_tell : {m : Message I} {k : ReplyTo m → Interaction R I S A} {l : ReplyTo m →
      Interaction O I T B} {h : Holdings R} → ((r : ReplyTo m) → Both z g q (k r) (l r) h) →
      Both z g q (Tell m k) (Tell m l) h

-- the outside tells what this side holds, its calls and its plan
pub record SideIs {R : Type 0} (v : VolumeView R) (l : List R) (u : Calls) : Type 0 where
  pub contents : v.contents ≡ Some l
  pub reads : v.reads ≡ u.reads
  pub writes : v.writes ≡ u.writes
  pub plan : v.plan ≡ Some u.plan

abbrev pub SideTold : {R : Type 0} → Option (VolumeView R) → List R → Calls → Type 0
SideTold None l u = Unit {0}
SideTold (Some v) l u = SideIs v l u

abbrev pub PoolTold : Option Pool → Pool → Type 0
PoolTold None t = ⊥
PoolTold (Some p) t = t ≡ counted_slots p

-- the outside tells all: its pool with the slots of this device and of others, and of each side what it holds and which calls fail
pub record TellsAll {R K : Type 0} (others : List ℕ) (w : Outside R K) (h : Holdings R) (t : Told) : Type 0 where
  pub pool : PoolTold w.port.pool t.pool
  pub mine : List ℕ
  pub slots : h.slots ≡ Some mine
  pub shared : SlotsTold w.port.pool (Some mine) others
  pub a : SideTold w.a h.a t.a
  pub b : SideTold w.b h.b t.b

-- the run of the other one from here ends so that q holds
pub record Linked {R O I K S A T B : Type 0} (others : List ℕ) (g : O) (q : S → A → T → B → Holdings R →
    Type 0) (j : Interaction O I T B) (t : Told) (s : S) (a : A) (w : Outside R K) : Type 0 where
  pub state : T
  pub answer : B
  pub holdings : Holdings R
  pub told : Told
  pub ran : hold g j t ≡ record { state = state; answer = answer; told = told }
  pub is : q s a state answer holdings
  pub tells : TellsAll others w holdings told
