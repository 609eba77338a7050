-- The reads and writes that are made where the outside is told: one part of an interaction, and then another.
use Rattle.std.proofs.Common.{◌≡◌, ◌+◌, ℕ, true, false, Some, None, refl, sym, subst, arith}
use Rattle.std.specs.Prelude.{if◌then◌else◌}
use Rattle.ckd_types.specs.declared.paths.Side.{Side}
use Rattle.ckd_types.specs.declared.paths.Side.TheVariants as sides
use Rattle.device_outside.specs.Interaction.{Interaction, Done, Try, Ask, Read, Write, Tell, and_then}
use Rattle.device_outside.specs.Keeper.{reply}
use Rattle.device_outside.specs.Pool.{answer, after}
use Rattle.device_outside.specs.Told as T
use Rattle.device_outside.specs.Told.{Told, RunOutcome, hold, calls_of, read_fails, write_fails, told_read, told_write}
use Rattle.device_laws.proofs.Always as W
use Rattle.device_laws.proofs.Always.{Behind}
use Rattle.device_laws.proofs.QuietParts.{Quiet, quiet_done, quiet_try, quiet_ask, quiet_tell}
use Rattle.device_laws.proofs.counted.Counting.{Counts, counts_done, counts_try, counts_ask, counts_read, counts_write, counts_tell}

-- so many more reads and writes
pub record Made (r m : ℕ) (w z : Told) : Type 0 where
  pub reads : z.reads ≡ w.reads + r
  pub writes : z.writes ≡ w.writes + m

pub made_none : (w : Told) → Made 0 0 w w
made_none w = record { reads = omega arith; writes = omega arith }

-- behind a part that makes none
pub made_on : {r m : ℕ} {w y z : Told} → Made 0 0 w y → Made r m y z → Made r m w z
made_on x y =
    let a = x.reads in
    let b = x.writes in
    let c = y.reads in
    let d = y.writes in
    record { reads = omega (arith, a, c); writes = omega (arith, b, d) }

-- behind a part without writes
pub made_then : {a b m : ℕ} {w y z : Told} → Made a 0 w y → Made b m y z → Made (a + b) m w z
made_then x y =
    let a = x.reads in
    let b = x.writes in
    let c = y.reads in
    let d = y.writes in
    record { reads = omega (arith, a, c); writes = omega (arith, b, d) }

module _ {R I S A : Type 0} (v : R) where
  -- One part, and then another

  pub hold_then : {T B : Type 0} (i : Interaction R I S A) (f : S → A → Interaction R I T B) (w : Told) →
      hold v (and_then i f) w ≡ hold v (f (hold v i w).state (hold v i w).answer) (hold v i w).told
  unfolding T.hold
  hold_then (Done s a) f w = refl
  hold_then (Try k) f w = hold_then (k true) f w
  hold_then (Ask call k) f w = hold_then (k (answer w.pool call)) f (record w { pool = after w.pool call (answer w.pool call) })
  hold_then (Read side t k) f w = hold_then (k (if read_fails (calls_of w side) then None else Some v)) f (told_read w side)
  hold_then (Write side t x k) f w = hold_then (k (if write_fails (calls_of w side) then false else true)) f (told_write w side)
  hold_then (Tell m k) f w = hold_then (k (reply m)) f w

  pub hold_on : {T U B C : Type 0} (i : Interaction R I S A) (f : S → A → Interaction R I T B) (g : T → B → Interaction R I U C) (w : Told) →
      hold v (and_then (and_then i f) g) w ≡ hold v (and_then (f (hold v i w).state (hold v i w).answer) g) (hold v i w).told
  unfolding T.hold
  hold_on (Done s a) f g w = refl
  hold_on (Try k) f g w = hold_on (k true) f g w
  hold_on (Ask call k) f g w = hold_on (k (answer w.pool call)) f g (record w { pool = after w.pool call (answer w.pool call) })
  hold_on (Read side t k) f g w = hold_on (k (if read_fails (calls_of w side) then None else Some v)) f g (told_read w side)
  hold_on (Write side t x k) f g w = hold_on (k (if write_fails (calls_of w side) then false else true)) f g (told_write w side)
  hold_on (Tell m k) f g w = hold_on (k (reply m)) f g w

  -- What holds whatever is answered

  pub held_behind : (i : Interaction R I S A) (q : S → A → Type 0) (w : Told) → Behind i q → q (hold v i w).state (hold v i w).answer
  unfolding W.Behind T.hold
  held_behind (Done s a) q w h = h
  held_behind (Try k) q w h = held_behind (k true) q w (h true)
  held_behind (Ask call k) q w h =
      held_behind (k (answer w.pool call)) q (record w { pool = after w.pool call (answer w.pool call) }) (h (answer w.pool call))
  held_behind (Read side t k) q w h =
      let got = if read_fails (calls_of w side) then None else Some v in held_behind (k got) q (told_read w side) (h got)
  held_behind (Write side t x k) q w h =
      let ok = if write_fails (calls_of w side) then false else true in held_behind (k ok) q (told_write w side) (h ok)
  held_behind (Tell m k) q w h = held_behind (k (reply m)) q w (h (reply m))

  -- one that calls no volume
  pub quiet_made : {i : Interaction R I S A} → Quiet i → (w : Told) → Made 0 0 w (hold v i w).told
  unfolding T.hold
  quiet_made quiet_done w = made_none w
  quiet_made (quiet_try x) w = quiet_made (x true) w
  quiet_made (quiet_ask {call = call} x) w =
      let a = answer w.pool call in
      let y = quiet_made (x a) (record w { pool = after w.pool call a }) in
      record { reads = y.reads; writes = y.writes }
  quiet_made (quiet_tell {m = m} x) w = quiet_made (x (reply m)) w

-- What holds of the numbers, whatever is answered

pub record Has {S A : Type 0} (w : Told) (q : ℕ → ℕ → S → A → Type 0) (o : RunOutcome S A) : Type 0 where
  pub reads : ℕ
  pub writes : ℕ
  pub made : Made reads writes w o.told
  pub is : q reads writes o.state o.answer

read_made : {r m : ℕ} {w y : Told} (side : Side) → Made r m w y → Made (r + 1) m w (told_read y side)
read_made sides.A x = let a = x.reads in let b = x.writes in record { reads = omega (arith, a); writes = b }
read_made sides.B x = let a = x.reads in let b = x.writes in record { reads = omega (arith, a); writes = b }

write_made : {r m : ℕ} {w y : Told} (side : Side) → Made r m w y → Made r (m + 1) w (told_write y side)
write_made sides.A x = let a = x.reads in let b = x.writes in record { reads = a; writes = omega (arith, b) }
write_made sides.B x = let a = x.reads in let b = x.writes in record { reads = a; writes = omega (arith, b) }

module _ {R I S A : Type 0} {q : ℕ → ℕ → S → A → Type 0} (v : R) where
  has_behind : {r m : ℕ} {i : Interaction R I S A} → Counts q r m i → (w y : Told) → Made r m w y → Has w q (hold v i y)
  unfolding T.hold
  has_behind (counts_done x) w y h = record { reads = _; writes = _; made = h; is = x }
  has_behind (counts_try x) w y h = has_behind (x true) w y h
  has_behind (counts_ask {call = call} x) w y h =
      let a = answer y.pool call in has_behind (x a) w (record y { pool = after y.pool call a }) (record { reads = h.reads; writes = h.writes })
  has_behind (counts_read {side = side} x) w y h =
      has_behind (x (if read_fails (calls_of y side) then None else Some v)) w (told_read y side) (read_made side h)
  has_behind (counts_write {side = side} x) w y h =
      has_behind (x (if write_fails (calls_of y side) then false else true)) w (told_write y side) (write_made side h)
  has_behind (counts_tell {m = m} x) w y h = has_behind (x (reply m)) w y h

  pub has : {i : Interaction R I S A} → Counts q 0 0 i → (w : Told) → Has w q (hold v i w)
  has x w = has_behind x w w (made_none w)

-- a quiet part behind another

pub made_still : {r m : ℕ} {w y z : Told} → Made r m w y → Made 0 0 y z → Made r m w z
made_still x y =
    let a = x.reads in
    let b = x.writes in
    let c = y.reads in
    let d = y.writes in
    record { reads = omega (arith, a, c); writes = omega (arith, b, d) }

pub made_past : {R I S A T B : Type 0} {r m : ℕ} (v : R) (i : Interaction R I S A) (f : S → A → Interaction R I T B) (w : Told) →
    Made r m w (hold v i w).told → ((s : S) (a : A) → Quiet (f s a)) → Made r m w (hold v (and_then i f) w).told
made_past {T = T} {B = B} {r = r} {m = m} v i f w x q =
    subst (λ (o : RunOutcome T B). Made r m w o.told) (sym (hold_then v i f w))
    (made_still x (quiet_made v (q (hold v i w).state (hold v i w).answer) (hold v i w).told))
