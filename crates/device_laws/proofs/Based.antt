-- What a device is, and what it counts, goes along with the calls that its interactions make: reads and writes are counted, and those that
-- fail; nothing else of it is changed, and only the end of an event tells how many tracks wait.
use Rattle.std.proofs.Common.{◌≡◌, ℕ, Bool, true, false, Option, Some, None, is_some, refl, ap, subst}
use Rattle.std.specs.Prelude.{if◌then◌else◌, not, count_by}
use Rattle.ckd_types.specs.declared.geometry.Geometry.{Geometry}
use Rattle.ckd_types.specs.declared.paths.Side.{Side}
use Rattle.track_image.specs.Image.{Image}
use Rattle.device_outside.specs.Interaction.{Interaction, Done, Try, Ask, Read, Write, Tell, and_then}
use Rattle.device_outside.specs.Keeper.{Message, ReplyTo}
use Rattle.device_outside.specs.Pool.{Call, TellWaiting, AnswerTo}
use Rattle.device_outside.specs.Volume.{counted, counted_if}
use Rattle.device_defs.specs.declared.counts.Counts.{Counts}
use Rattle.device_defs.specs.Memory.{tried, had_by, and_had}
use Rattle.device_defs.specs.Store.{Store}
use Rattle.device_defs.specs.Command.{is_loss}

-- what it is, and what it counts
pub record Base : Type 0 where
  pub device : ℕ
  pub geometry : Geometry
  pub cylinders : ℕ
  pub lent : Option ℕ
  pub counts : Counts
  pub gone : ℕ  -- how often data of cache fast write were lost in this event

abbrev pub base_of : {F P H : Type 0} → Store F P H → Base
base_of s = record { device = s.device; geometry = s.geometry; cylinders = s.cylinders; lent = s.lent; counts = s.counts; gone = count_by is_loss s.acts }

-- but for what happened in this event
abbrev pub forget : Base → Base
forget b = record b { gone = 0 }

abbrev pub kept : {F P H : Type 0} → Store F P H → Base
kept s = forget (base_of s)

abbrev pub read_base : Base → Bool → Base
read_base b ok = record b { counts = record b.counts { reads = counted b.counts.reads; failed = counted_if (not ok) b.counts.failed } }

abbrev pub write_base : Base → Bool → Base
write_base b ok = record b { counts = record b.counts { writes = counted b.counts.writes; failed = counted_if (not ok) b.counts.failed } }

-- any call but that which tells how many tracks wait
abbrev pub Hushed : Call → Type 0
Hushed (TellWaiting d n) = ⊥
Hushed c = Unit {0}

abbrev pub Any : Call → Type 0
Any c = Unit {0}

-- From this base an interaction makes only such calls, and leaves the base with what they count
pub data Based {R S A : Type 0} (base : S → Base) (may : Call → Type 0) : Base → Interaction R Image S A → Type 0 where
  based_done : {b : Base} {s : S} {a : A} → base s ≡ b → Based base may b (Done s a)
  based_try : {b : Base} {k : Bool → Interaction R Image S A} → ((ok : Bool) → Based base may b (k ok)) → Based base may b (Try k)
  based_ask : {b : Base} {call : Call} {k : AnswerTo call → Interaction R Image S A} → may call → ((a : AnswerTo call) → Based base may b (k a)) →
      Based base may b (Ask call k)
  based_read : {b : Base} {side : Side} {t : ℕ} {k : Option R → Interaction R Image S A} →
      ((got : Option R) → Based base may (read_base b (is_some got)) (k got)) → Based base may b (Read side t k)
  based_write : {b : Base} {side : Side} {t : ℕ} {r : R} {k : Bool → Interaction R Image S A} →
      ((ok : Bool) → Based base may (write_base b ok) (k ok)) → Based base may b (Write side t r k)
  based_tell : {b : Base} {m : Message Image} {k : ReplyTo m → Interaction R Image S A} → ((r : ReplyTo m) → Based base may b (k r)) →
      Based base may b (Tell m k)

pub based_then : {R S T A B : Type 0} {base : S → Base} {other : T → Base} {may : Call → Type 0} {b : Base} {i : Interaction R Image S A}
    (f : S → A → Interaction R Image T B) → Based base may b i → ((s : S) (a : A) → Based other may (base s) (f s a)) →
    Based other may b (and_then i f)
based_then {other = other} {may = may} f (based_done {s = s} {a = a} e) w = subst (λ (x : Base). Based other may x (f s a)) e (w s a)
based_then f (based_try x) w = based_try (λ ok. based_then f (x ok) w)
based_then f (based_ask m x) w = based_ask m (λ a. based_then f (x a) w)
based_then f (based_read x) w = based_read (λ got. based_then f (x got) w)
based_then f (based_write x) w = based_write (λ ok. based_then f (x ok) w)
based_then f (based_tell x) w = based_tell (λ r. based_then f (x r) w)

-- with any calls
pub based_any : {R S A : Type 0} {base : S → Base} {may : Call → Type 0} {b : Base} {i : Interaction R Image S A} → Based base may b i → Based base Any b i
based_any (based_done e) = based_done e
based_any (based_try x) = based_try (λ ok. based_any (x ok))
based_any (based_ask m x) = based_ask tt (λ a. based_any (x a))
based_any (based_read x) = based_read (λ got. based_any (x got))
based_any (based_write x) = based_write (λ ok. based_any (x ok))
based_any (based_tell x) = based_tell (λ r. based_any (x r))

pub based_forget : {R S A : Type 0} {base : S → Base} {may : Call → Type 0} {b : Base} {i : Interaction R Image S A} → Based base may b i →
    Based (λ s. forget (base s)) may (forget b) i
based_forget (based_done e) = based_done (ap forget e)
based_forget (based_try x) = based_try (λ ok. based_forget (x ok))
based_forget (based_ask m x) = based_ask m (λ a. based_forget (x a))
based_forget (based_read x) = based_read (λ got. based_forget (x got))
based_forget (based_write x) = based_write (λ ok. based_forget (x ok))
based_forget (based_tell x) = based_tell (λ r. based_forget (x r))

pub based_if : {R S A : Type 0} {base : S → Base} {may : Call → Type 0} {b : Base} (x : Bool) {i j : Interaction R Image S A} → Based base may b i →
    Based base may b j → Based base may b (if x then i else j)
based_if true f g = f
based_if false f g = g

pub based_tried : {R S A : Type 0} {base : S → Base} {may : Call → Type 0} {b : Base} (s : S) (i : Interaction R Image S (Option A)) → base s ≡ b →
    Based base may b i → Based base may b (tried s i)
based_tried s i e f = based_try (λ ok. based_if ok f (based_done e))

-- one, and then another unless memory was lacking
pub based_had : {R S A B : Type 0} {base : S → Base} {may : Call → Type 0} {b : Base} {i : Interaction R Image S (Option A)}
    (f : S → A → Interaction R Image S (Option B)) → Based base may b i → ((s : S) (a : A) → Based base may (base s) (f s a)) →
    Based base may b (and_had i f)
based_had {S = S} {A = X} {base = base} {may = may} f x w = based_then (had_by f) x by_answer
  where
    by_answer : (s : S) (o : Option X) → Based base may (base s) (had_by f s o)
    by_answer s (Some a) = w s a
    by_answer s None = based_done refl
