-- What holds behind an interaction in which no call of a volume fails and memory is had.
use Rattle.std.proofs.Common.{◌≡◌, ℕ, Bool, true, false, Option, Some, refl}
use Rattle.std.specs.Prelude.{if◌then◌else◌}
use Rattle.ckd_types.specs.declared.paths.Side.{Side}
use Rattle.device_outside.specs.Interaction.{Interaction, Done, Try, Ask, Read, Write, Tell, and_then}
use Rattle.device_outside.specs.Keeper.{Message, ReplyTo, reply}
use Rattle.device_outside.specs.Pool.{Call, AnswerTo}
use Rattle.device_defs.specs.Memory.{tried}
use Rattle.device_laws.proofs.Had as M
use Rattle.device_laws.proofs.Had.{BehindHad, Had}
use Rattle.device_laws.proofs.Lucky.{Lucky, lucky_done, lucky_try, lucky_ask, lucky_read, lucky_write, lucky_tell}

pub data Served {R I S A : Type 0} (q : S → A → Type 0) : Interaction R I S A → Type 0 where
  served_done : {s : S} {a : A} → q s a → Served q (Done s a)
  served_try : {k : Bool → Interaction R I S A} → Served q (k true) → Served q (Try k)
  served_ask : {call : Call} {k : AnswerTo call → Interaction R I S A} → ((a : AnswerTo call) → Served q (k a)) → Served q (Ask call k)
  served_read : {side : Side} {t : ℕ} {k : Option R → Interaction R I S A} → ((r : R) → Served q (k (Some r))) → Served q (Read side t k)
  served_write : {side : Side} {t : ℕ} {r : R} {k : Bool → Interaction R I S A} → Served q (k true) → Served q (Write side t r k)
  served_tell : {m : Message I} {k : ReplyTo m → Interaction R I S A} → Served q (k (reply m)) → Served q (Tell m k)

pub served_then : {R I S T A B : Type 0} {p : S → A → Type 0} {q : T → B → Type 0} {i : Interaction R I S A} (f : S → A → Interaction R I T B) → Served p i →
    ((s : S) (a : A) → p s a → Served q (f s a)) → Served q (and_then i f)
served_then f (served_done x) w = w _ _ x
served_then f (served_try x) w = served_try (served_then f x w)
served_then f (served_ask x) w = served_ask (λ a. served_then f (x a) w)
served_then f (served_read x) w = served_read (λ r. served_then f (x r) w)
served_then f (served_write x) w = served_write (served_then f x w)
served_then f (served_tell x) w = served_tell (served_then f x w)

had_lucky : {R I S A : Type 0} {p q : S → A → Type 0} (i : Interaction R I S A) → BehindHad i p → Lucky q i → Served (λ s a. p s a × q s a) i
unfolding M.BehindHad
had_lucky (Done s a) h (lucky_done x) = served_done (h, x)
had_lucky (Try k) h (lucky_try x) = served_try (had_lucky (k true) h (x true))
had_lucky (Ask call k) h (lucky_ask x) = served_ask (λ a. had_lucky (k a) (h a) (x a))
had_lucky (Read side t k) h (lucky_read x) = served_read (λ r. had_lucky (k (Some r)) (h (Some r)) (x r))
had_lucky (Write side t r k) h (lucky_write x) = served_write (had_lucky (k true) (h true) x)
had_lucky (Tell m k) h (lucky_tell x) = served_tell (had_lucky (k (reply m)) h (x (reply m)))

-- what holds where memory is had, and what holds where no call fails
pub served_by : {R I S A : Type 0} {p q : S → A → Type 0} {i : Interaction R I S A} → Had i p → Lucky q i → Served (λ s a. p s a × q s a) i
served_by {i = i} h x = had_lucky i h.holds x

pub of_lucky : {R I S A : Type 0} {q : S → A → Type 0} {i : Interaction R I S A} → Lucky q i → Served q i
of_lucky (lucky_done x) = served_done x
of_lucky (lucky_try x) = served_try (of_lucky (x true))
of_lucky (lucky_ask x) = served_ask (λ a. of_lucky (x a))
of_lucky (lucky_read x) = served_read (λ r. of_lucky (x r))
of_lucky (lucky_write x) = served_write (of_lucky x)
of_lucky (lucky_tell x) = served_tell (of_lucky (x _))

pub served_also : {R I S A : Type 0} {p q : S → A → Type 0} {i : Interaction R I S A} → Lucky p i → Served q i → Served (λ s a. p s a × q s a) i
served_also (lucky_done x) (served_done y) = served_done (x, y)
served_also (lucky_try x) (served_try y) = served_try (served_also (x true) y)
served_also (lucky_ask x) (served_ask y) = served_ask (λ a. served_also (x a) (y a))
served_also (lucky_read x) (served_read y) = served_read (λ r. served_also (x r) (y r))
served_also (lucky_write x) (served_write y) = served_write (served_also x y)
served_also (lucky_tell x) (served_tell y) = served_tell (served_also (x _) y)

pub served_if : {R I S A : Type 0} {q : S → A → Type 0} (b : Bool) {i j : Interaction R I S A} → (b ≡ true → Served q i) → (b ≡ false → Served q j) →
    Served q (if b then i else j)
served_if true x y = x refl
served_if false x y = y refl

pub served_tried : {R I S A : Type 0} {q : S → Option A → Type 0} (s : S) (i : Interaction R I S (Option A)) → Served q i → Served q (tried s i)
served_tried s i x = served_try x
