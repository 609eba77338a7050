-- What holds behind an interaction whatever is answered, also by volumes that don't tell what they hold.
use Rattle.std.proofs.Common.{ℕ, Bool, Option}
use Rattle.ckd_types.specs.declared.paths.Side.{Side}
use Rattle.device_outside.specs.Interaction.{Interaction, Done, Try, Ask, Read, Write, Tell, and_then}
use Rattle.device_outside.specs.Keeper.{Message, ReplyTo}
use Rattle.device_outside.specs.Pool.{Call, AnswerTo}

unfoldable pub Behind : {R I S A : Type 0} → Interaction R I S A → (S → A → Type 0) → Type 0
Behind (Done s a) q = q s a
Behind (Try k) q = (ok : Bool) → Behind (k ok) q
Behind (Ask call k) q = (a : AnswerTo call) → Behind (k a) q
Behind {R} (Read side t k) q = (got : Option R) → Behind (k got) q
Behind (Write side t r k) q = (ok : Bool) → Behind (k ok) q
Behind (Tell m k) q = (r : ReplyTo m) → Behind (k r) q

-- a record round it, so that its arguments can be inferred
pub record Always {R I S A : Type 0} (i : Interaction R I S A) (q : S → A → Type 0) : Type 0 where
  pub holds : Behind i q

module _ {R I S A : Type 0} {q : S → A → Type 0} where
  pub always_done : {s : S} {a : A} → q s a → Always {R = R} {I = I} (Done s a) q
  unfolding Behind
  always_done e = record { holds = e }

  pub always_try : {k : Bool → Interaction R I S A} → ((ok : Bool) → Always (k ok) q) → Always (Try k) q
  unfolding Behind
  always_try f = record { holds = λ ok. (f ok).holds }

  pub always_ask : {call : Call} {k : AnswerTo call → Interaction R I S A} → ((a : AnswerTo call) → Always (k a) q) → Always (Ask call k) q
  unfolding Behind
  always_ask f = record { holds = λ a. (f a).holds }

  pub always_read : {side : Side} {t : ℕ} {k : Option R → Interaction R I S A} → ((got : Option R) → Always (k got) q) → Always (Read side t k) q
  unfolding Behind
  always_read f = record { holds = λ got. (f got).holds }

  pub always_write : {side : Side} {t : ℕ} {r : R} {k : Bool → Interaction R I S A} → ((ok : Bool) → Always (k ok) q) → Always (Write side t r k) q
  unfolding Behind
  always_write f = record { holds = λ ok. (f ok).holds }

  pub always_tell : {m : Message I} {k : ReplyTo m → Interaction R I S A} → ((r : ReplyTo m) → Always (k r) q) → Always (Tell m k) q
  unfolding Behind
  always_tell f = record { holds = λ r. (f r).holds }

behind_then : {R I S T A B : Type 0} (i : Interaction R I S A) (f : S → A → Interaction R I T B) (p : S → A → Type 0) (q : T → B → Type 0) →
    Behind i p → ((s : S) (a : A) → p s a → Behind (f s a) q) → Behind (and_then i f) q
unfolding Behind
behind_then (Done s a) f p q h g = g s a h
behind_then (Try k) f p q h g = λ ok. behind_then (k ok) f p q (h ok) g
behind_then (Ask call k) f p q h g = λ a. behind_then (k a) f p q (h a) g
behind_then (Read side t k) f p q h g = λ got. behind_then (k got) f p q (h got) g
behind_then (Write side t r k) f p q h g = λ ok. behind_then (k ok) f p q (h ok) g
behind_then (Tell m k) f p q h g = λ r. behind_then (k r) f p q (h r) g

behind_weaker : {R I S A : Type 0} (i : Interaction R I S A) (p q : S → A → Type 0) → Behind i p → ((s : S) (a : A) → p s a → q s a) → Behind i q
unfolding Behind
behind_weaker (Done s a) p q h g = g s a h
behind_weaker (Try k) p q h g = λ ok. behind_weaker (k ok) p q (h ok) g
behind_weaker (Ask call k) p q h g = λ a. behind_weaker (k a) p q (h a) g
behind_weaker (Read side t k) p q h g = λ got. behind_weaker (k got) p q (h got) g
behind_weaker (Write side t r k) p q h g = λ ok. behind_weaker (k ok) p q (h ok) g
behind_weaker (Tell m k) p q h g = λ r. behind_weaker (k r) p q (h r) g

pub always_weaker : {R I S A : Type 0} {i : Interaction R I S A} {p q : S → A → Type 0} → Always i p → ((s : S) (a : A) → p s a → q s a) → Always i q
always_weaker {i = i} {p = p} {q = q} h g = record { holds = behind_weaker i p q h.holds g }

-- one, and then another
pub always_then : {R I S T A B : Type 0} {i : Interaction R I S A} {f : S → A → Interaction R I T B} {p : S → A → Type 0} {q : T → B → Type 0} →
    Always i p → ((s : S) (a : A) → p s a → Always (f s a) q) → Always (and_then i f) q
always_then {i = i} {f = f} {p = p} {q = q} h g = record { holds = behind_then i f p q h.holds (λ s a e. (g s a e).holds) }

both_behind : {R I S A : Type 0} (p q : S → A → Type 0) (i : Interaction R I S A) → Behind i p → Behind i q → Behind i (λ s a. p s a × q s a)
unfolding Behind
both_behind p q (Done s a) x y = (x, y)
both_behind p q (Try k) x y = λ ok. both_behind p q (k ok) (x ok) (y ok)
both_behind p q (Ask call k) x y = λ a. both_behind p q (k a) (x a) (y a)
both_behind p q (Read side t k) x y = λ got. both_behind p q (k got) (x got) (y got)
both_behind p q (Write side t r k) x y = λ ok. both_behind p q (k ok) (x ok) (y ok)
both_behind p q (Tell m k) x y = λ r. both_behind p q (k r) (x r) (y r)

pub always_and : {R I S A : Type 0} {p q : S → A → Type 0} {i : Interaction R I S A} → Always i p → Always i q → Always i (λ s a. p s a × q s a)
always_and {p = p} {q = q} {i = i} x y = record { holds = both_behind p q i x.holds y.holds }
