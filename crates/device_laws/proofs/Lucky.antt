-- What holds behind an interaction in which no call of a volume fails, and so behind a run that counts no failed call.
use Rattle.std.proofs.Common.{◌≡◌, ◌≤◌, ◌<◌, ◌+◌, ◌^◌, ◌-◌, ℕ, Bool, true, false, not, Option, Some, None, is_some, min, refl, ap, arith}
use Rattle.std.specs.Prelude.{if◌then◌else◌}
use Rattle.ckd_types.specs.declared.paths.Side.{Side}
use Rattle.track_image.specs.Image.{Image}
use Rattle.device_outside.specs.Interaction.{Interaction, Done, Try, Ask, Read, Write, Tell, and_then}
use Rattle.device_outside.specs.Keeper.{Message, ReplyTo}
use Rattle.device_outside.specs.Pool.{Call, AnswerTo}
use Rattle.device_outside.specs.Volume as V
use Rattle.device_outside.specs.Volume.{counted}
use Rattle.device_laws.proofs.Always as A
use Rattle.device_laws.proofs.Always.{Behind, Always, always_weaker}
use Rattle.device_laws.proofs.Based.{Base, Based, read_base, write_base, based_done, based_try, based_ask, based_read, based_write, based_tell}
use Rattle.device_defs.specs.Memory.{tried}

pub data Lucky {R I S A : Type 0} (q : S → A → Type 0) : Interaction R I S A → Type 0 where
  lucky_done : {s : S} {a : A} → q s a → Lucky q (Done s a)
  lucky_try : {k : Bool → Interaction R I S A} → ((ok : Bool) → Lucky q (k ok)) → Lucky q (Try k)
  lucky_ask : {call : Call} {k : AnswerTo call → Interaction R I S A} → ((a : AnswerTo call) → Lucky q (k a)) → Lucky q (Ask call k)
  lucky_read : {side : Side} {t : ℕ} {k : Option R → Interaction R I S A} → ((r : R) → Lucky q (k (Some r))) → Lucky q (Read side t k)
  lucky_write : {side : Side} {t : ℕ} {r : R} {k : Bool → Interaction R I S A} → Lucky q (k true) → Lucky q (Write side t r k)
  lucky_tell : {m : Message I} {k : ReplyTo m → Interaction R I S A} → ((r : ReplyTo m) → Lucky q (k r)) → Lucky q (Tell m k)

pub lucky_then : {R I S T A B : Type 0} {p : S → A → Type 0} {q : T → B → Type 0} {i : Interaction R I S A} (f : S → A → Interaction R I T B) → Lucky p i →
    ((s : S) (a : A) → p s a → Lucky q (f s a)) → Lucky q (and_then i f)
lucky_then f (lucky_done x) w = w _ _ x
lucky_then f (lucky_try x) w = lucky_try (λ ok. lucky_then f (x ok) w)
lucky_then f (lucky_ask x) w = lucky_ask (λ a. lucky_then f (x a) w)
lucky_then f (lucky_read x) w = lucky_read (λ r. lucky_then f (x r) w)
lucky_then f (lucky_write x) w = lucky_write (lucky_then f x w)
lucky_then f (lucky_tell x) w = lucky_tell (λ r. lucky_then f (x r) w)

lucky_always : {R I S A : Type 0} {p q : S → A → Type 0} (i : Interaction R I S A) → Behind i p → Lucky q i → Lucky (λ s a. p s a × q s a) i
unfolding A.Behind
lucky_always (Done s a) h (lucky_done x) = lucky_done (h, x)
lucky_always (Try k) h (lucky_try x) = lucky_try (λ ok. lucky_always (k ok) (h ok) (x ok))
lucky_always (Ask call k) h (lucky_ask x) = lucky_ask (λ a. lucky_always (k a) (h a) (x a))
lucky_always (Read side t k) h (lucky_read x) = lucky_read (λ r. lucky_always (k (Some r)) (h (Some r)) (x r))
lucky_always (Write side t r k) h (lucky_write x) = lucky_write (lucky_always (k true) (h true) x)
lucky_always (Tell m k) h (lucky_tell x) = lucky_tell (λ r. lucky_always (k r) (h r) (x r))

-- with what always holds
pub with_always : {R I S A : Type 0} {p q : S → A → Type 0} {i : Interaction R I S A} → Always i p → Lucky q i → Lucky (λ s a. p s a × q s a) i
with_always {i = i} h x = lucky_always i h.holds x

pub lucky_weaker : {R I S A : Type 0} {p q : S → A → Type 0} {i : Interaction R I S A} → Lucky p i → ((s : S) (a : A) → p s a → q s a) → Lucky q i
lucky_weaker (lucky_done x) w = lucky_done (w _ _ x)
lucky_weaker (lucky_try x) w = lucky_try (λ ok. lucky_weaker (x ok) w)
lucky_weaker (lucky_ask x) w = lucky_ask (λ a. lucky_weaker (x a) w)
lucky_weaker (lucky_read x) w = lucky_read (λ r. lucky_weaker (x r) w)
lucky_weaker (lucky_write x) w = lucky_write (lucky_weaker x w)
lucky_weaker (lucky_tell x) w = lucky_tell (λ r. lucky_weaker (x r) w)

pub lucky_if : {R I S A : Type 0} {q : S → A → Type 0} (b : Bool) {i j : Interaction R I S A} → (b ≡ true → Lucky q i) → (b ≡ false → Lucky q j) →
    Lucky q (if b then i else j)
lucky_if true x y = x refl
lucky_if false x y = y refl

pub lucky_tried : {R I S A : Type 0} {q : S → Option A → Type 0} (s : S) (i : Interaction R I S (Option A)) → q s None → Lucky q i → Lucky q (tried s i)
lucky_tried s i e x = lucky_try (λ ok. lucky_if ok (λ _. x) (λ _. lucky_done e))

-- Behind an interaction that counts no failed call

abbrev pub top : ℕ
top = 2 ^ 64 - 1

counted_more : (n : ℕ) → n ≤ top → n ≤ counted n
unfolding V.counted
counted_more n le = least_of (n + 1) top n le (omega arith) where
  least_of : (x y n : ℕ) → n ≤ y → n ≤ x → n ≤ min x y
  least_of x y n le less = omega arith

pub counted_top : (n : ℕ) → counted n ≤ top
unfolding V.counted
counted_top n = least_of (n + 1) top where
  least_of : (x y : ℕ) → min x y ≤ y
  least_of x y = omega arith

pub counted_rises : (n : ℕ) → n < top → n < counted n
unfolding V.counted
counted_rises n lt = least_of (n + 1) top n lt (omega arith) where
  least_of : (x y n : ℕ) → n < y → n < x → n < min x y
  least_of x y n le less = omega arith

abbrev counts_if : Bool → ℕ → ℕ
counts_if ok n = if not ok then counted n else n

if_more : (ok : Bool) (n : ℕ) → n ≤ top → (n ≤ counts_if ok n) × (counts_if ok n ≤ top)
if_more true n le = (omega arith, le)
if_more false n le = (counted_more n le, counted_top n)

abbrev pub failed_in : Base → ℕ
failed_in b = b.counts.failed

pub from : {R S A : Type 0} (i : Interaction R Image S A) {p q : S → A → Type 0} → Behind i p → ((s : S) (a : A) → p s a → q s a) → Behind i q
from i {p = p} h f = (always_weaker {i = i} {p = p} (record { holds = h }) f).holds

module _ {R S X : Type 0} {base : S → Base} {may : Call → Type 0} where
  -- the count of failed calls doesn't fall
  rises : {b : Base} {i : Interaction R Image S X} → Based base may b i → failed_in b ≤ top → Behind i (λ s a. failed_in b ≤ failed_in (base s))
  unfolding A.Behind
  rises {b = b} (based_done {s = s} e) le = let same : failed_in (base s) ≡ failed_in b = ap failed_in e in omega (arith, same)
  rises (based_try x) le = λ ok. rises (x ok) le
  rises (based_ask m x) le = λ a. rises (x a) le
  rises {b = b} (based_read {k = k} x) le = λ got.
      let more = if_more (is_some got) (failed_in b) le in
      from (k got) (rises (x got) more.1) (λ s a e. let low = more.0 in omega (arith, low, e))
  rises {b = b} (based_write {k = k} x) le = λ ok.
      let more = if_more ok (failed_in b) le in
      from (k ok) (rises (x ok) more.1) (λ s a e. let low = more.0 in omega (arith, low, e))
  rises (based_tell x) le = λ r. rises (x r) le

  -- not behind one more
  fails : (q : S → X → Type 0) (n : ℕ) {b : Base} (i : Interaction R Image S X) → Based base may b i → n < failed_in b → failed_in b ≤ top →
      Behind i (λ s a. failed_in (base s) ≡ n → q s a)
  fails q n {b = b} i x lt le = from i (rises x le) (λ s a e. λ same. absurd (omega (arith, lt, e, same)))

  read_case : (q : S → X → Type 0) (b : Base) (k : Option R → Interaction R Image S X) → ((got : Option R) → Based base may (read_base b (is_some got))
      (k got)) →
      failed_in b < top → ((r : R) → Behind (k (Some r)) (λ s a. failed_in (base s) ≡ failed_in b → q s a)) → (got : Option R) →
      Behind (k got) (λ s a. failed_in (base s) ≡ failed_in b → q s a)
  read_case q b k x lt f (Some r) = f r
  read_case q b k x lt f None = fails q (failed_in b) (k None) (x None) (counted_rises (failed_in b) lt) (counted_top (failed_in b))

  write_case : (q : S → X → Type 0) (b : Base) (k : Bool → Interaction R Image S X) → ((ok : Bool) → Based base may (write_base b ok) (k ok)) →
      failed_in b < top → Behind (k true) (λ s a. failed_in (base s) ≡ failed_in b → q s a) → (ok : Bool) →
      Behind (k ok) (λ s a. failed_in (base s) ≡ failed_in b → q s a)
  write_case q b k x lt f true = f
  write_case q b k x lt f false = fails q (failed_in b) (k false) (x false) (counted_rises (failed_in b) lt) (counted_top (failed_in b))

  none_failed : (q : S → X → Type 0) {b : Base} {i : Interaction R Image S X} → Based base may b i → failed_in b < top → Lucky q i →
      Behind i (λ s a. failed_in (base s) ≡ failed_in b → q s a)
  unfolding A.Behind
  none_failed q (based_done e) lt (lucky_done x) = λ same. x
  none_failed q (based_try x) lt (lucky_try y) = λ ok. none_failed q (x ok) lt (y ok)
  none_failed q (based_ask m x) lt (lucky_ask y) = λ a. none_failed q (x a) lt (y a)
  none_failed q {b = b} (based_read {k = k} x) lt (lucky_read y) = read_case q b k x lt (λ r. none_failed q (x (Some r)) lt (y r))
  none_failed q {b = b} (based_write {k = k} x) lt (lucky_write y) = write_case q b k x lt (none_failed q (x true) lt y)
  none_failed q (based_tell x) lt (lucky_tell y) = λ r. none_failed q (x r) lt (y r)

  -- where no more calls failed
  pub where_none_failed : (q : S → X → Type 0) {b : Base} {i : Interaction R Image S X} → Based base may b i → failed_in b < top → Lucky q i →
      Always i (λ s a. failed_in (base s) ≡ failed_in b → q s a)
  where_none_failed q x lt y = record { holds = none_failed q x lt y }

  pub never_falls : {b : Base} {i : Interaction R Image S X} → Based base may b i → failed_in b ≤ top → Always i (λ s a. failed_in b ≤ failed_in (base s))
  never_falls x le = record { holds = rises x le }
