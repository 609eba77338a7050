-- What holds behind an interaction, over the answers that a policy considers and with what it keeps along the way.
use Rattle.std.proofs.Common.{◌≡◌, ℕ, Bool, true, false, Option, Some, None, is_some, refl}
use Rattle.std.specs.Prelude.{if◌then◌else◌}
use Rattle.ckd_types.specs.declared.paths.Side.{Side}
use Rattle.device_outside.specs.Interaction.{Interaction, Done, Try, Ask, Read, Write, Tell, and_then}
use Rattle.device_outside.specs.Keeper.{Message, BeforeEdit, Firm, ReplyTo}
use Rattle.device_outside.specs.Pool.{Call, TellWaiting, WantFrame, AnswerTo}
use Rattle.device_defs.specs.Memory.{tried}
use Rattle.device_laws.proofs.Always as A
use Rattle.device_laws.proofs.Always.{Behind, Always, always_done, always_try, always_ask, always_read, always_write, always_tell}
use Rattle.device_laws.proofs.Based.{Hushed}
use Rattle.device_laws.proofs.Lucky.{Lucky, lucky_done, lucky_try, lucky_ask, lucky_read, lucky_write, lucky_tell}
use Rattle.device_laws.proofs.PoolWalks.{Sated, AsksPool, asks_done, asks_try, asks_ask}

-- whether an answer on memory is considered, and what is kept behind a read or a write: none where its answer isn't considered; and of which
-- track of which device a frame may be wanted
pub record Policy (K : Type 0) : Type 1 where
  pub had : Bool → Bool
  pub read : K → Bool → Option K
  pub wrote : K → Bool → Option K
  pub wants : ℕ → ℕ → Type 0

-- it considers a failed call of a volume
pub data MayFail {K : Type 0} (w : Policy K) : Type 0 where
  read_fails : (m n : K) → w.read m false ≡ Some n → MayFail w
  write_fails : (m n : K) → w.wrote m false ≡ Some n → MayFail w

-- whether a keeper had memory for what it was told
abbrev pub agreed : {I : Type 0} → (m : Message I) → ReplyTo m → Bool
agreed (BeforeEdit d t i) r = r
agreed (Firm d t i) r = true

-- the calls of the pool that may be made in an event, where it isn't told how many tracks wait, and with its end
abbrev pub Inner : {K : Type 0} → Policy K → Call → Type 0
Inner w (TellWaiting device n) = ⊥
Inner w (WantFrame device t) = w.wants device t
Inner w call = Unit {0}

abbrev pub Outer : {K : Type 0} → Policy K → Call → Type 0
Outer w (WantFrame device t) = w.wants device t
Outer w call = Unit {0}

sated_inner : {K : Type 0} (w : Policy K) (call : Call) → Sated call → Inner w call
sated_inner w (TellWaiting device n) m = m
sated_inner w (WantFrame device t) m = absurd m
sated_inner w call m = tt

pub inner_hushed : {K : Type 0} (w : Policy K) (call : Call) → Inner w call → Hushed call
inner_hushed w (TellWaiting device n) m = m
inner_hushed w call m = tt

inner_outer : {K : Type 0} (w : Policy K) (call : Call) → Inner w call → Outer w call
inner_outer w (WantFrame device t) m = m
inner_outer w call m = tt

-- with these calls of the pool
pub data Within {K R I S A : Type 0} (w : Policy K) (may : Call → Type 0) (q : K → S → A → Type 0) : K → Interaction R I S A → Type 0 where
  within_done : {n : K} {s : S} {a : A} → q n s a → Within w may q n (Done s a)
  within_try : {n : K} {k : Bool → Interaction R I S A} → ((ok : Bool) → w.had ok ≡ true → Within w may q n (k ok)) → Within w may q n (Try k)
  within_ask : {n : K} {call : Call} {k : AnswerTo call → Interaction R I S A} → may call → ((a : AnswerTo call) → Within w may q n (k a)) →
      Within w may q n (Ask call k)
  within_read : {n : K} {side : Side} {t : ℕ} {k : Option R → Interaction R I S A} →
      ((got : Option R) (m : K) → w.read n (is_some got) ≡ Some m → Within w may q m (k got)) → Within w may q n (Read side t k)
  within_write : {n : K} {side : Side} {t : ℕ} {r : R} {k : Bool → Interaction R I S A} →
      ((ok : Bool) (m : K) → w.wrote n ok ≡ Some m → Within w may q m (k ok)) → Within w may q n (Write side t r k)
  within_tell : {n : K} {m : Message I} {k : ReplyTo m → Interaction R I S A} →
      ((r : ReplyTo m) → w.had (agreed m r) ≡ true → Within w may q n (k r)) → Within w may q n (Tell m k)

pub within_then : {K R I S T A B : Type 0} {w : Policy K} {may : Call → Type 0} {q : K → S → A → Type 0} {g : K → T → B → Type 0} {n : K}
    {i : Interaction R I S A} (f : S → A → Interaction R I T B) → Within w may q n i →
    ((m : K) (s : S) (a : A) → q m s a → Within w may g m (f s a)) → Within w may g n (and_then i f)
within_then f (within_done x) more = more _ _ _ x
within_then f (within_try x) more = within_try (λ ok is. within_then f (x ok is) more)
within_then f (within_ask m x) more = within_ask m (λ a. within_then f (x a) more)
within_then f (within_read x) more = within_read (λ got n is. within_then f (x got n is) more)
within_then f (within_write x) more = within_write (λ ok n is. within_then f (x ok n is) more)
within_then f (within_tell x) more = within_tell (λ r is. within_then f (x r is) more)

pub within_weaker : {K R I S A : Type 0} {w : Policy K} {may : Call → Type 0} {q g : K → S → A → Type 0} {n : K} {i : Interaction R I S A} →
    Within w may q n i → ((m : K) (s : S) (a : A) → q m s a → g m s a) → Within w may g n i
within_weaker (within_done x) more = within_done (more _ _ _ x)
within_weaker (within_try x) more = within_try (λ ok is. within_weaker (x ok is) more)
within_weaker (within_ask m x) more = within_ask m (λ a. within_weaker (x a) more)
within_weaker (within_read x) more = within_read (λ got n is. within_weaker (x got n is) more)
within_weaker (within_write x) more = within_write (λ ok n is. within_weaker (x ok n is) more)
within_weaker (within_tell x) more = within_tell (λ r is. within_weaker (x r is) more)

-- what an event does it does as a whole
pub within_outer : {K R I S A : Type 0} {w : Policy K} {q : K → S → A → Type 0} {n : K} {i : Interaction R I S A} →
    Within w (Inner w) q n i → Within w (Outer w) q n i
within_outer (within_done x) = within_done x
within_outer (within_try x) = within_try (λ ok is. within_outer (x ok is))
within_outer {w = w} (within_ask {call = call} m x) = within_ask (inner_outer w call m) (λ a. within_outer (x a))
within_outer (within_read x) = within_read (λ got n is. within_outer (x got n is))
within_outer (within_write x) = within_write (λ ok n is. within_outer (x ok n is))
within_outer (within_tell x) = within_tell (λ r is. within_outer (x r is))

pub within_if : {K R I S A : Type 0} {w : Policy K} {may : Call → Type 0} {q : K → S → A → Type 0} {n : K} (b : Bool) {i j : Interaction R I S A} →
    (b ≡ true → Within w may q n i) → (b ≡ false → Within w may q n j) → Within w may q n (if b then i else j)
within_if true x y = x refl
within_if false x y = y refl

pub within_tried : {K R I S A : Type 0} {w : Policy K} {may : Call → Type 0} {q : K → S → Option A → Type 0} {n : K} (s : S)
    (i : Interaction R I S (Option A)) → q n s None → Within w may q n i → Within w may q n (tried s i)
within_tried s i e x = within_try (λ ok _. within_if ok (λ _. x) (λ _. within_done e))

within_behind : {K R I S A : Type 0} {w : Policy K} {may : Call → Type 0} {q : K → S → A → Type 0} {p : S → A → Type 0} {n : K}
    (i : Interaction R I S A) → Behind i p → Within w may q n i → Within w may (λ m s a. q m s a × p s a) n i
unfolding A.Behind
within_behind (Done s a) h (within_done x) = within_done (x, h)
within_behind {q = q} {p = p} (Try k) h (within_try x) = within_try (λ ok is. within_behind {q = q} {p = p} (k ok) (h ok) (x ok is))
within_behind {q = q} {p = p} (Ask call k) h (within_ask m x) = within_ask m (λ a. within_behind {q = q} {p = p} (k a) (h a) (x a))
within_behind {q = q} {p = p} (Read side t k) h (within_read x) = within_read (λ got n is. within_behind {q = q} {p = p} (k got) (h got) (x got n is))
within_behind {q = q} {p = p} (Write side t r k) h (within_write x) = within_write (λ ok n is. within_behind {q = q} {p = p} (k ok) (h ok) (x ok n is))
within_behind {q = q} {p = p} (Tell m k) h (within_tell x) = within_tell (λ r is. within_behind {q = q} {p = p} (k r) (h r) (x r is))

-- with what always holds
pub within_and_always : {K R I S A : Type 0} {w : Policy K} {may : Call → Type 0} {q : K → S → A → Type 0} {p : S → A → Type 0} {n : K}
    {i : Interaction R I S A} → Within w may q n i → Always i p → Within w may (λ m s a. q m s a × p s a) n i
within_and_always {q = q} {p = p} {i = i} x h = within_behind {q = q} {p = p} i h.holds x

-- what calls no volume keeps what the policy kept
pub asks_within : {K R I S A : Type 0} {w : Policy K} {q : K → S → A → Type 0} {n : K} {i : Interaction R I S A} →
    AsksPool Sated (λ s a. q n s a) i → Within w (Inner w) q n i
asks_within (asks_done x) = within_done x
asks_within {w = w} {q = q} {n = n} (asks_try x) = within_try (λ ok is. asks_within {w = w} {q = q} {n = n} (x ok))
asks_within {w = w} {q = q} {n = n} (asks_ask {call = call} m x) =
    within_ask (sated_inner w call m) (λ a. asks_within {w = w} {q = q} {n = n} (x a))

-- The policies

-- whatever is answered
abbrev pub always : Policy (Unit {0})
always = record { had = λ ok. true; read = λ n ok. Some n; wrote = λ n ok. Some n; wants = λ device t. Unit {0} }

abbrev pub where_so : {K : Type 0} → K → Bool → Option K
where_so n true = Some n
where_so n false = None

-- no call of a volume fails
abbrev pub lucky : Policy (Unit {0})
lucky = record { had = λ ok. true; read = where_so; wrote = where_so; wants = λ device t. Unit {0} }

pub none_fails : {X : Type 0} → MayFail lucky → X
none_fails (read_fails m n is) = absurd (cc)
none_fails (write_fails m n is) = absurd (cc)

pub within_always : {R I S A : Type 0} {may : Call → Type 0} {q : Unit {0} → S → A → Type 0} {n : Unit {0}} {i : Interaction R I S A} →
    Within always may q n i → Always i (λ s a. q tt s a)
within_always (within_done x) = always_done x
within_always (within_try x) = always_try (λ ok. within_always (x ok refl))
within_always (within_ask m x) = always_ask (λ a. within_always (x a))
within_always (within_read x) = always_read (λ got. within_always (x got tt refl))
within_always (within_write x) = always_write (λ ok. within_always (x ok tt refl))
within_always (within_tell x) = always_tell (λ r. within_always (x r refl))

pub within_lucky : {R I S A : Type 0} {may : Call → Type 0} {q : Unit {0} → S → A → Type 0} {n : Unit {0}} {i : Interaction R I S A} →
    Within lucky may q n i → Lucky (λ s a. q tt s a) i
within_lucky (within_done x) = lucky_done x
within_lucky (within_try x) = lucky_try (λ ok. within_lucky (x ok refl))
within_lucky (within_ask m x) = lucky_ask (λ a. within_lucky (x a))
within_lucky (within_read x) = lucky_read (λ r. within_lucky (x (Some r) tt refl))
within_lucky (within_write x) = lucky_write (within_lucky (x true tt refl))
within_lucky (within_tell x) = lucky_tell (λ r. within_lucky (x r refl))
