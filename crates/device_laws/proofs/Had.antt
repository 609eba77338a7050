-- What holds behind an interaction whatever is answered, where memory is had.
use Rattle.std.proofs.Common.{◌≡◌, ℕ, Bool, true, false, Option, Some, None, refl}
use Rattle.std.specs.Prelude.{if◌then◌else◌}
use Rattle.ckd_types.specs.declared.paths.Side.{Side}
use Rattle.device_outside.specs.Interaction.{Interaction, Done, Try, Ask, Read, Write, Tell, and_then}
use Rattle.device_outside.specs.Keeper.{Message, ReplyTo, reply}
use Rattle.device_outside.specs.Pool.{Call, AnswerTo, answer, after}
use Rattle.device_outside.specs.Told as T
use Rattle.device_outside.specs.Told.{Told, hold, calls_of, read_fails, write_fails, told_read, told_write}

unfoldable pub BehindHad : {R I S A : Type 0} → Interaction R I S A → (S → A → Type 0) → Type 0
BehindHad (Done s a) q = q s a
BehindHad (Try k) q = BehindHad (k true) q
BehindHad (Ask call k) q = (a : AnswerTo call) → BehindHad (k a) q
BehindHad {R} (Read side t k) q = (got : Option R) → BehindHad (k got) q
BehindHad (Write side t r k) q = (ok : Bool) → BehindHad (k ok) q
BehindHad (Tell m k) q = BehindHad (k (reply m)) q

-- a record round it, so that its arguments can be inferred
pub record Had {R I S A : Type 0} (i : Interaction R I S A) (q : S → A → Type 0) : Type 0 where
  pub holds : BehindHad i q

module _ {R I S A : Type 0} {q : S → A → Type 0} where
  pub had_done : {s : S} {a : A} → q s a → Had {R = R} {I = I} (Done s a) q
  unfolding BehindHad
  had_done e = record { holds = e }

  pub had_try : {k : Bool → Interaction R I S A} → Had (k true) q → Had (Try k) q
  unfolding BehindHad
  had_try f = record { holds = f.holds }

  pub had_ask : {call : Call} {k : AnswerTo call → Interaction R I S A} → ((a : AnswerTo call) → Had (k a) q) → Had (Ask call k) q
  unfolding BehindHad
  had_ask f = record { holds = λ a. (f a).holds }

  pub had_read : {side : Side} {t : ℕ} {k : Option R → Interaction R I S A} → ((got : Option R) → Had (k got) q) → Had (Read side t k) q
  unfolding BehindHad
  had_read f = record { holds = λ got. (f got).holds }

  pub had_write : {side : Side} {t : ℕ} {r : R} {k : Bool → Interaction R I S A} → ((ok : Bool) → Had (k ok) q) → Had (Write side t r k) q
  unfolding BehindHad
  had_write f = record { holds = λ ok. (f ok).holds }

  pub had_tell : {m : Message I} {k : ReplyTo m → Interaction R I S A} → Had (k (reply m)) q → Had (Tell m k) q
  unfolding BehindHad
  had_tell f = record { holds = f.holds }

  pub had_if : (b : Bool) {i j : Interaction R I S A} → (b ≡ true → Had i q) → (b ≡ false → Had j q) → Had (if b then i else j) q
  had_if true f g = f refl
  had_if false f g = g refl

behind_then : {R I S T A B : Type 0} (i : Interaction R I S A) (f : S → A → Interaction R I T B) (p : S → A → Type 0) (q : T → B → Type 0) →
    BehindHad i p → ((s : S) (a : A) → p s a → BehindHad (f s a) q) → BehindHad (and_then i f) q
unfolding BehindHad
behind_then (Done s a) f p q h g = g s a h
behind_then (Try k) f p q h g = behind_then (k true) f p q h g
behind_then (Ask call k) f p q h g = λ a. behind_then (k a) f p q (h a) g
behind_then (Read side t k) f p q h g = λ got. behind_then (k got) f p q (h got) g
behind_then (Write side t r k) f p q h g = λ ok. behind_then (k ok) f p q (h ok) g
behind_then (Tell m k) f p q h g = behind_then (k (reply m)) f p q h g

behind_weaker : {R I S A : Type 0} (i : Interaction R I S A) (p q : S → A → Type 0) → BehindHad i p → ((s : S) (a : A) → p s a → q s a) → BehindHad i q
unfolding BehindHad
behind_weaker (Done s a) p q h g = g s a h
behind_weaker (Try k) p q h g = behind_weaker (k true) p q h g
behind_weaker (Ask call k) p q h g = λ a. behind_weaker (k a) p q (h a) g
behind_weaker (Read side t k) p q h g = λ got. behind_weaker (k got) p q (h got) g
behind_weaker (Write side t r k) p q h g = λ ok. behind_weaker (k ok) p q (h ok) g
behind_weaker (Tell m k) p q h g = behind_weaker (k (reply m)) p q h g

pub had_weaker : {R I S A : Type 0} {i : Interaction R I S A} {p q : S → A → Type 0} → Had i p → ((s : S) (a : A) → p s a → q s a) → Had i q
had_weaker {i = i} {p = p} {q = q} h g = record { holds = behind_weaker i p q h.holds g }

-- one, and then another
pub had_then : {R I S T A B : Type 0} {i : Interaction R I S A} {f : S → A → Interaction R I T B} {p : S → A → Type 0} {q : T → B → Type 0} →
    Had i p → ((s : S) (a : A) → p s a → Had (f s a) q) → Had (and_then i f) q
had_then {i = i} {f = f} {p = p} {q = q} h g = record { holds = behind_then i f p q h.holds (λ s a e. (g s a e).holds) }

held_by : {R I S A : Type 0} (r : R) (i : Interaction R I S A) (q : S → A → Type 0) (w : Told) → BehindHad i q → q (hold r i w).state (hold r i w).answer
unfolding BehindHad T.hold
held_by r (Done s a) q w h = h
held_by r (Try k) q w h = held_by r (k true) q w h
held_by r (Ask call k) q w h =
    held_by r (k (answer w.pool call)) q (record w { pool = after w.pool call (answer w.pool call) }) (h (answer w.pool call))
held_by r (Read side t k) q w h =
    let got = if read_fails (calls_of w side) then None else Some r in held_by r (k got) q (told_read w side) (h got)
held_by r (Write side t x k) q w h =
    let ok = if write_fails (calls_of w side) then false else true in held_by r (k ok) q (told_write w side) (h ok)
held_by r (Tell m k) q w h = held_by r (k (reply m)) q w h

-- so behind the run of it where the outside is told
pub held : {R I S A : Type 0} (r : R) {i : Interaction R I S A} {q : S → A → Type 0} → Had i q → (w : Told) → q (hold r i w).state (hold r i w).answer
held r {i = i} {q = q} h w = held_by r i q w h.holds
