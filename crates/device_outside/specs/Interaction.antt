-- What an event asks of its port, of the volumes of its two sides and of its keeper, and how it goes on with what it is answered.
use Rattle.std.specs.Prelude.{ℕ, Bool, Option}
use Rattle.ckd_types.specs.declared.paths.Side.{Side}
use Rattle.device_outside.specs.Pool.{Call, AnswerTo}
use Rattle.device_outside.specs.Keeper.{Message, ReplyTo}

-- R is what a read hands over and a write takes, I what a keeper is told, S the state that is left, A the answer
pub data Interaction (R I S A : Type 0) : Type 0 where
  Done : S → A → Interaction R I S A
  Try : (Bool → Interaction R I S A) → Interaction R I S A  -- whether memory is had
  Ask : (call : Call) → (AnswerTo call → Interaction R I S A) → Interaction R I S A
  Read : Side → ℕ → (Option R → Interaction R I S A) → Interaction R I S A  -- None: it failed
  Write : Side → ℕ → R → (Bool → Interaction R I S A) → Interaction R I S A  -- false: it failed
  Tell : (message : Message I) → (ReplyTo message → Interaction R I S A) → Interaction R I S A

-- one, and then another by its outcome
abbrev pub and_then : {R I S T A B : Type 0} → Interaction R I S A → (S → A → Interaction R I T B) → Interaction R I T B
and_then (Done s a) f = f s a
and_then (Try k) f = Try (λ ok. and_then (k ok) f)
and_then (Ask call k) f = Ask call (λ a. and_then (k a) f)
and_then (Read side t k) f = Read side t (λ got. and_then (k got) f)
and_then (Write side t r k) f = Write side t r (λ ok. and_then (k ok) f)
and_then (Tell m k) f = Tell m (λ a. and_then (k a) f)
