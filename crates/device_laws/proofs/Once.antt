-- What holds behind an interaction in which one call of a volume fails at most, and so behind a run that counts one failed call more.
use Rattle.std.proofs.Common.{◌≡◌, ◌<◌, ◌+◌, ℕ, Bool, true, false, Option, Some, None, is_some, min, refl, sym, ap, ◌∙◌, arith}
use Rattle.std.specs.Prelude.{if◌then◌else◌}
use Rattle.ckd_types.specs.declared.paths.Side.{Side}
use Rattle.track_image.specs.Image.{Image}
use Rattle.device_outside.specs.Interaction.{Interaction, Done, Try, Ask, Read, Write, Tell, and_then}
use Rattle.device_outside.specs.Keeper.{Message, ReplyTo}
use Rattle.device_outside.specs.Pool.{Call, AnswerTo}
use Rattle.device_outside.specs.Volume as V
use Rattle.device_outside.specs.Volume.{counted}
use Rattle.device_defs.specs.Memory.{tried}
use Rattle.device_laws.proofs.Always as A
use Rattle.device_laws.proofs.Always.{Behind, Always, always_weaker}
use Rattle.device_laws.proofs.Based.{Base, Based, read_base, write_base, based_done, based_try, based_ask, based_read, based_write, based_tell}
use Rattle.device_laws.proofs.Lucky.{
  Lucky,
  lucky_done,
  lucky_try,
  lucky_ask,
  lucky_read,
  lucky_write,
  lucky_tell,
  lucky_then,
  with_always,
  top,
  failed_in,
  where_none_failed,
  from,
}
use Rattle.device_laws.proofs.PoolWalks.{AsksPool, asks_done, asks_ask, asks_try}
use Rattle.device_laws.proofs.QuietParts.{Quiet, quiet_done, quiet_try, quiet_ask, quiet_tell}

-- p holds where none failed, and q where one did
pub data Once {R I S A : Type 0} (p q : S → A → Type 0) : Interaction R I S A → Type 0 where
  once_done : {s : S} {a : A} → p s a → Once p q (Done s a)
  once_try : {k : Bool → Interaction R I S A} → ((ok : Bool) → Once p q (k ok)) → Once p q (Try k)
  once_ask : {call : Call} {k : AnswerTo call → Interaction R I S A} → ((a : AnswerTo call) → Once p q (k a)) → Once p q (Ask call k)
  once_read : {side : Side} {t : ℕ} {k : Option R → Interaction R I S A} → ((r : R) → Once p q (k (Some r))) → Lucky q (k None) →
      Once p q (Read side t k)
  once_write : {side : Side} {t : ℕ} {r : R} {k : Bool → Interaction R I S A} → Once p q (k true) → Lucky q (k false) → Once p q (Write side t r k)
  once_tell : {m : Message I} {k : ReplyTo m → Interaction R I S A} → ((r : ReplyTo m) → Once p q (k r)) → Once p q (Tell m k)

pub once_then : {R I S T A B : Type 0} {p q : S → A → Type 0} {v w : T → B → Type 0} {i : Interaction R I S A} (f : S → A → Interaction R I T B) → Once p q i →
    ((s : S) (a : A) → p s a → Once v w (f s a)) → ((s : S) (a : A) → q s a → Lucky w (f s a)) → Once v w (and_then i f)
once_then f (once_done x) g h = g _ _ x
once_then f (once_try x) g h = once_try (λ ok. once_then f (x ok) g h)
once_then f (once_ask x) g h = once_ask (λ a. once_then f (x a) g h)
once_then f (once_read x y) g h = once_read (λ r. once_then f (x r) g h) (lucky_then f y h)
once_then f (once_write x y) g h = once_write (once_then f x g h) (lucky_then f y h)
once_then f (once_tell x) g h = once_tell (λ r. once_then f (x r) g h)

once_behind : {R I S A : Type 0} {p q h : S → A → Type 0} (i : Interaction R I S A) → Behind i h → Once p q i →
    Once (λ s a. h s a × p s a) (λ s a. h s a × q s a) i
unfolding A.Behind
once_behind (Done s a) h (once_done x) = once_done (h, x)
once_behind (Try k) h (once_try x) = once_try (λ ok. once_behind (k ok) (h ok) (x ok))
once_behind (Ask call k) h (once_ask x) = once_ask (λ a. once_behind (k a) (h a) (x a))
once_behind {h = p} (Read side t k) h (once_read x y) =
    once_read (λ r. once_behind (k (Some r)) (h (Some r)) (x r)) (with_always (record { holds = h None }) y)
once_behind {h = p} (Write side t r k) h (once_write x y) = once_write (once_behind (k true) (h true) x) (with_always (record { holds = h false }) y)
once_behind (Tell m k) h (once_tell x) = once_tell (λ r. once_behind (k r) (h r) (x r))

-- with what always holds
pub once_always : {R I S A : Type 0} {p q h : S → A → Type 0} {i : Interaction R I S A} → Always i h → Once p q i →
    Once (λ s a. h s a × p s a) (λ s a. h s a × q s a) i
once_always {i = i} h x = once_behind i h.holds x

-- with what holds where none failed
pub once_lucky : {R I S A : Type 0} {p q h : S → A → Type 0} {i : Interaction R I S A} → Lucky h i → Once p q i → Once (λ s a. h s a × p s a) q i
once_lucky (lucky_done h) (once_done x) = once_done (h, x)
once_lucky (lucky_try h) (once_try x) = once_try (λ ok. once_lucky (h ok) (x ok))
once_lucky (lucky_ask h) (once_ask x) = once_ask (λ a. once_lucky (h a) (x a))
once_lucky (lucky_read h) (once_read x y) = once_read (λ r. once_lucky (h r) (x r)) y
once_lucky (lucky_write h) (once_write x y) = once_write (once_lucky h x) y
once_lucky (lucky_tell h) (once_tell x) = once_tell (λ r. once_lucky (h r) (x r))

pub where_none : {R I S A : Type 0} {p q : S → A → Type 0} {i : Interaction R I S A} → Once p q i → Lucky p i
where_none (once_done x) = lucky_done x
where_none (once_try x) = lucky_try (λ ok. where_none (x ok))
where_none (once_ask x) = lucky_ask (λ a. where_none (x a))
where_none (once_read x y) = lucky_read (λ r. where_none (x r))
where_none (once_write x y) = lucky_write (where_none x)
where_none (once_tell x) = lucky_tell (λ r. where_none (x r))

-- where nothing is called
pub once_quiet : {R I S A : Type 0} {q : S → A → Type 0} {i : Interaction R I S A} → Quiet i → Once (λ s a. Unit {0}) q i
once_quiet quiet_done = once_done tt
once_quiet (quiet_try x) = once_try (λ ok. once_quiet (x ok))
once_quiet (quiet_ask x) = once_ask (λ a. once_quiet (x a))
once_quiet (quiet_tell x) = once_tell (λ r. once_quiet (x r))

-- where the pool alone is asked
pub once_asks : {R I S A : Type 0} {may : Call → Type 0} {p q : S → A → Type 0} {i : Interaction R I S A} → AsksPool may p i → Once p q i
once_asks (asks_done x) = once_done x
once_asks (asks_try x) = once_try (λ ok. once_asks (x ok))
once_asks (asks_ask m x) = once_ask (λ a. once_asks (x a))

pub once_if : {R I S A : Type 0} {p q : S → A → Type 0} (b : Bool) {i j : Interaction R I S A} → (b ≡ true → Once p q i) → (b ≡ false → Once p q j) →
    Once p q (if b then i else j)
once_if true x y = x refl
once_if false x y = y refl

pub once_tried : {R I S A : Type 0} {p q : S → Option A → Type 0} (s : S) (i : Interaction R I S (Option A)) → p s None → Once p q i → Once p q (tried s i)
once_tried s i e x = once_try (λ ok. once_if ok (λ _. x) (λ _. once_done e))

-- Behind a run that counts one failed call more

counted_is : (n : ℕ) → n < top → counted n ≡ n + 1
unfolding V.counted
counted_is n lt = least_of (n + 1) top (omega (arith, lt)) where
  least_of : (x y : ℕ) → x < y + 1 → min x y ≡ x
  least_of x y lt = omega (arith, lt)

one_more : (n m : ℕ) → m ≡ n → m ≡ n + 1 → ⊥
one_more n m e f = omega (arith, e, f)

module _ {R S X : Type 0} {base : S → Base} {may : Call → Type 0} where
  -- the one that failed
  failed : (q : S → X → Type 0) (n : ℕ) {b : Base} (i : Interaction R Image S X) → Based base may b i → failed_in b ≡ counted n → n + 1 < top → Lucky q i →
      Behind i (λ s a. failed_in (base s) ≡ n + 1 → q s a)
  failed q n {b = b} i x is lt y =
      let one : counted n ≡ n + 1 = counted_is n (omega (arith, lt)) in
      from i (where_none_failed q x (omega (arith, lt, is, one)) y).holds (λ s a h same. h (same ∙ sym one ∙ sym is))

  read_case : (p q : S → X → Type 0) (b : Base) (k : Option R → Interaction R Image S X) → ((got : Option R) → Based base may (read_base b (is_some got))
      (k got)) →
      failed_in b + 1 < top → ((r : R) → Behind (k (Some r)) (λ s a. failed_in (base s) ≡ failed_in b + 1 → q s a)) → Lucky q (k None) → (got : Option R) →
      Behind (k got) (λ s a. failed_in (base s) ≡ failed_in b + 1 → q s a)
  read_case p q b k x lt f y (Some r) = f r
  read_case p q b k x lt f y None = failed q (failed_in b) (k None) (x None) refl lt y

  write_case : (p q : S → X → Type 0) (b : Base) (k : Bool → Interaction R Image S X) → ((ok : Bool) → Based base may (write_base b ok) (k ok)) →
      failed_in b + 1 < top → Behind (k true) (λ s a. failed_in (base s) ≡ failed_in b + 1 → q s a) → Lucky q (k false) → (ok : Bool) →
      Behind (k ok) (λ s a. failed_in (base s) ≡ failed_in b + 1 → q s a)
  write_case p q b k x lt f y true = f
  write_case p q b k x lt f y false = failed q (failed_in b) (k false) (x false) refl lt y

  one_failed : (p q : S → X → Type 0) {b : Base} {i : Interaction R Image S X} → Based base may b i → failed_in b + 1 < top → Once p q i →
      Behind i (λ s a. failed_in (base s) ≡ failed_in b + 1 → q s a)
  unfolding A.Behind
  one_failed p q {b = b} (based_done {s = s} e) lt (once_done x) = λ same. absurd (one_more (failed_in b) (failed_in (base s)) (ap failed_in e) same)
  one_failed p q (based_try x) lt (once_try y) = λ ok. one_failed p q (x ok) lt (y ok)
  one_failed p q (based_ask m x) lt (once_ask y) = λ a. one_failed p q (x a) lt (y a)
  one_failed p q {b = b} (based_read {k = k} x) lt (once_read y z) = read_case p q b k x lt (λ r. one_failed p q (x (Some r)) lt (y r)) z
  one_failed p q {b = b} (based_write {k = k} x) lt (once_write y z) = write_case p q b k x lt (one_failed p q (x true) lt y) z
  one_failed p q (based_tell x) lt (once_tell y) = λ r. one_failed p q (x r) lt (y r)

  -- where one more call failed
  pub where_one_failed : (p q : S → X → Type 0) {b : Base} {i : Interaction R Image S X} → Based base may b i → failed_in b + 1 < top → Once p q i →
      Always i (λ s a. failed_in (base s) ≡ failed_in b + 1 → q s a)
  where_one_failed p q x lt y = record { holds = one_failed p q x lt y }
