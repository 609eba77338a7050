-- What holds behind an interaction of the reads and writes that it made, what it left and what it answered; and so behind its run.
use Rattle.std.proofs.Common.{◌≡◌, ◌+◌, ℕ, suc, Bool, true, false, Option, Some, None, refl, sym, ap, subst, ◌∙◌, arith}
use Rattle.std.specs.Prelude.{if◌then◌else◌}
use Rattle.ckd_types.specs.declared.paths.Side.{Side}
use Rattle.ckd_types.specs.declared.paths.Side.TheVariants as sides
use Rattle.track_image.specs.Image.{Image}
use Rattle.device_outside.specs.Interaction.{Interaction, Done, Try, Ask, Read, Write, Tell, and_then}
use Rattle.device_outside.specs.Keeper.{Message, ReplyTo, Hearing, reply}
use Rattle.device_outside.specs.Outside.{Outside, Ran, done, tried, asked, read, wrote, told}
use Rattle.device_outside.specs.Pool.{Call, AnswerTo, answer, after}
use Rattle.device_outside.specs.Told as T
use Rattle.device_outside.specs.Told.{Told, hold, calls_of, read_fails, write_fails, told_read, told_write}
use Rattle.device_defs.specs.Transfers as M
use Rattle.device_defs.specs.Transfers.{Moves}
use Rattle.device_laws.proofs.Always as W
use Rattle.device_laws.proofs.Always.{Behind}
use Rattle.device_laws.proofs.Based.{Base, Based, based_done, based_try, based_ask, based_read, based_write, based_tell}
use Rattle.device_laws.proofs.QuietParts.{Quiet, quiet_done, quiet_try, quiet_ask, quiet_tell}
use Rattle.device_laws.specs.Moved.{counted_by, Moved}

-- behind an interaction that this many reads and writes stood before
pub data Counts {R I S A : Type 0} (q : ℕ → ℕ → S → A → Type 0) : ℕ → ℕ → Interaction R I S A → Type 0 where
  counts_done : {r w : ℕ} {s : S} {a : A} → q r w s a → Counts q r w (Done s a)
  counts_try : {r w : ℕ} {k : Bool → Interaction R I S A} → ((ok : Bool) → Counts q r w (k ok)) → Counts q r w (Try k)
  counts_ask : {r w : ℕ} {call : Call} {k : AnswerTo call → Interaction R I S A} → ((a : AnswerTo call) → Counts q r w (k a)) → Counts q r w (Ask call k)
  counts_read : {r w : ℕ} {side : Side} {t : ℕ} {k : Option R → Interaction R I S A} → ((got : Option R) → Counts q (r + 1) w (k got)) →
      Counts q r w (Read side t k)
  counts_write : {r w : ℕ} {side : Side} {t : ℕ} {x : R} {k : Bool → Interaction R I S A} → ((ok : Bool) → Counts q r (w + 1) (k ok)) →
      Counts q r w (Write side t x k)
  counts_tell : {r w : ℕ} {m : Message I} {k : ReplyTo m → Interaction R I S A} → ((a : ReplyTo m) → Counts q r w (k a)) → Counts q r w (Tell m k)

-- one, and then another
pub counts_then : {R I S A T B : Type 0} {p : ℕ → ℕ → S → A → Type 0} {q : ℕ → ℕ → T → B → Type 0} {r w : ℕ} {i : Interaction R I S A}
    (f : S → A → Interaction R I T B) → Counts p r w i → ((m n : ℕ) (s : S) (a : A) → p m n s a → Counts q m n (f s a)) → Counts q r w (and_then i f)
counts_then f (counts_done x) g = g _ _ _ _ x
counts_then f (counts_try x) g = counts_try (λ ok. counts_then f (x ok) g)
counts_then f (counts_ask x) g = counts_ask (λ a. counts_then f (x a) g)
counts_then f (counts_read x) g = counts_read (λ got. counts_then f (x got) g)
counts_then f (counts_write x) g = counts_write (λ ok. counts_then f (x ok) g)
counts_then f (counts_tell x) g = counts_tell (λ a. counts_then f (x a) g)

pub counts_weaker : {R I S A : Type 0} {p q : ℕ → ℕ → S → A → Type 0} {r w : ℕ} {i : Interaction R I S A} → Counts p r w i →
    ((m n : ℕ) (s : S) (a : A) → p m n s a → q m n s a) → Counts q r w i
counts_weaker (counts_done x) g = counts_done (g _ _ _ _ x)
counts_weaker (counts_try x) g = counts_try (λ ok. counts_weaker (x ok) g)
counts_weaker (counts_ask x) g = counts_ask (λ a. counts_weaker (x a) g)
counts_weaker (counts_read x) g = counts_read (λ got. counts_weaker (x got) g)
counts_weaker (counts_write x) g = counts_write (λ ok. counts_weaker (x ok) g)
counts_weaker (counts_tell x) g = counts_tell (λ a. counts_weaker (x a) g)

-- what is known of the numbers alone
pub counts_of : {R I S A : Type 0} (m : ℕ → ℕ → Type 0) (r w : ℕ) (i : Interaction R I S A) → Moves m r w i → Counts (λ x y s a. m x y) r w i
unfolding M.Moves
counts_of m r w (Done s a) x = counts_done x
counts_of m r w (Try k) x = counts_try (λ ok. counts_of m r w (k ok) (x ok))
counts_of m r w (Ask call k) x = counts_ask (λ a. counts_of m r w (k a) (x a))
counts_of m r w (Read side t k) x = counts_read (λ got. counts_of m (r + 1) w (k got) (x got))
counts_of m r w (Write side t b k) x = counts_write (λ ok. counts_of m r (w + 1) (k ok) (x ok))
counts_of m r w (Tell p k) x = counts_tell (λ a. counts_of m r w (k a) (x a))

pub moves_of : {R I S A : Type 0} {m : ℕ → ℕ → Type 0} {r w : ℕ} {i : Interaction R I S A} → Counts (λ x y s a. m x y) r w i → Moves m r w i
unfolding M.Moves
moves_of (counts_done x) = x
moves_of (counts_try x) = λ ok. moves_of (x ok)
moves_of (counts_ask x) = λ a. moves_of (x a)
moves_of (counts_read x) = λ got. moves_of (x got)
moves_of (counts_write x) = λ ok. moves_of (x ok)
moves_of (counts_tell x) = λ a. moves_of (x a)

-- one that makes none
pub counts_any : {R I S A : Type 0} {q : ℕ → ℕ → S → A → Type 0} {r w : ℕ} {i : Interaction R I S A} → Quiet i → ((s : S) (a : A) → q r w s a) → Counts q r w i
counts_any quiet_done h = counts_done (h _ _)
counts_any (quiet_try x) h = counts_try (λ ok. counts_any (x ok) h)
counts_any (quiet_ask x) h = counts_ask (λ a. counts_any (x a) h)
counts_any (quiet_tell x) h = counts_tell (λ a. counts_any (x a) h)

-- one that makes none, and then another that is known of what it left, or isn't
pub counts_first : {R I S A T B : Type 0} {p : S → A → Type 0} {q : ℕ → ℕ → T → B → Type 0} {r w : ℕ} {i : Interaction R I S A}
    (f : S → A → Interaction R I T B) → Quiet i → Behind i p → ((s : S) (a : A) → p s a → Counts q r w (f s a)) → Counts q r w (and_then i f)
unfolding W.Behind
counts_first f quiet_done h g = g _ _ h
counts_first f (quiet_try x) h g = counts_try (λ ok. counts_first f (x ok) (h ok) g)
counts_first f (quiet_ask x) h g = counts_ask (λ a. counts_first f (x a) (h a) g)
counts_first f (quiet_tell x) h g = counts_tell (λ a. counts_first f (x a) (h a) g)

pub counts_past : {R I S A T B : Type 0} {q : ℕ → ℕ → T → B → Type 0} {r w : ℕ} {i : Interaction R I S A} (f : S → A → Interaction R I T B) → Quiet i →
    ((s : S) (a : A) → Counts q r w (f s a)) → Counts q r w (and_then i f)
counts_past f quiet_done g = g _ _
counts_past f (quiet_try x) g = counts_try (λ ok. counts_past f (x ok) g)
counts_past f (quiet_ask x) g = counts_ask (λ a. counts_past f (x a) g)
counts_past f (quiet_tell x) g = counts_tell (λ a. counts_past f (x a) g)

pub counts_if : {R I S A : Type 0} {q : ℕ → ℕ → S → A → Type 0} {r w : ℕ} (b : Bool) {i j : Interaction R I S A} → (b ≡ true → Counts q r w i) →
    (b ≡ false → Counts q r w j) → Counts q r w (if b then i else j)
counts_if true x y = x refl
counts_if false x y = y refl

-- More than these
pub record From {S A : Type 0} (p : ℕ → ℕ → S → A → Type 0) (r w : ℕ) (m n : ℕ) (s : S) (a : A) : Type 0 where
  pub reads : ℕ
  pub writes : ℕ
  pub more_reads : m ≡ r + reads
  pub more_writes : n ≡ w + writes
  pub is : p reads writes s a

shifted : {R I S A : Type 0} {p : ℕ → ℕ → S → A → Type 0} (r w : ℕ) {x y : ℕ} {i : Interaction R I S A} → Counts p x y i → (m n : ℕ) → m ≡ r + x →
    n ≡ w + y → Counts (From p r w) m n i
shifted r w (counts_done h) m n e f = counts_done (record { reads = _; writes = _; more_reads = e; more_writes = f; is = h })
shifted r w (counts_try h) m n e f = counts_try (λ ok. shifted r w (h ok) m n e f)
shifted r w (counts_ask h) m n e f = counts_ask (λ a. shifted r w (h a) m n e f)
shifted r w (counts_read h) m n e f = counts_read (λ got. shifted r w (h got) (m + 1) n (omega (arith, e)) f)
shifted r w (counts_write h) m n e f = counts_write (λ ok. shifted r w (h ok) m (n + 1) e (omega (arith, f)))
shifted r w (counts_tell h) m n e f = counts_tell (λ a. shifted r w (h a) m n e f)

pub counts_from : {R I S A : Type 0} {p : ℕ → ℕ → S → A → Type 0} (r w : ℕ) {i : Interaction R I S A} → Counts p 0 0 i → Counts (From p r w) r w i
counts_from r w h = shifted r w h r w (omega arith) (omega arith)

-- Behind a run

-- of some numbers, whatever a device counts
pub ran_counted : {R K S A : Type 0} {had : Bool → Type 0} {hears : Hearing Image K} {q : ℕ → ℕ → S → A → Type 0} {r w : ℕ} {i : Interaction R Image S A}
    {u z : Outside R K} {s : S} {a : A} → Counts q r w i → Ran had hears i u s a z → (m : ℕ) × (n : ℕ) × q m n s a
ran_counted (counts_done x) done = (_, _, x)
ran_counted (counts_try x) (tried ok m h) = ran_counted (x ok) h
ran_counted (counts_ask x) (asked {a = a} says h) = ran_counted (x a) h
ran_counted (counts_read x) (read {got = got} seen of h) = ran_counted (x got) h
ran_counted (counts_write x) (wrote {ok = ok} seen of h) = ran_counted (x ok) h
ran_counted (counts_tell x) (told p hears had h) = ran_counted (x p) h

pub record CountsBy {S A : Type 0} (base : S → Base) (b : Base) (q : ℕ → ℕ → S → A → Type 0) (r w : ℕ) (s : S) (a : A) : Type 0 where
  pub all_reads : ℕ
  pub all_writes : ℕ
  pub is : q all_reads all_writes s a
  pub reads : ℕ
  pub writes : ℕ
  pub more_reads : all_reads ≡ r + reads
  pub more_writes : all_writes ≡ w + writes
  pub read_count : (base s).counts.reads ≡ counted_by reads b.counts.reads
  pub write_count : (base s).counts.writes ≡ counted_by writes b.counts.writes

module _ {R K S A : Type 0} {had : Bool → Type 0} {hears : Hearing Image K} {base : S → Base} {may : Call → Type 0} {q : ℕ → ℕ → S → A → Type 0} where
  ran_counts : {b : Base} {r w : ℕ} {i : Interaction R Image S A} {u z : Outside R K} {s : S} {a : A} → Based base may b i → Counts q r w i →
      Ran had hears i u s a z → CountsBy base b q r w s a
  ran_counts {r = r} {w = w} (based_done e) (counts_done x) done = record {
    all_reads = r;
    all_writes = w;
    is = x;
    reads = 0;
    writes = 0;
    more_reads = omega arith;
    more_writes = omega arith;
    read_count = ap (λ (y : Base). y.counts.reads) e;
    write_count = ap (λ (y : Base). y.counts.writes) e;
  }
  ran_counts (based_try x) (counts_try y) (tried ok m h) = ran_counts (x ok) (y ok) h
  ran_counts (based_ask m x) (counts_ask y) (asked {a = a} says h) = ran_counts (x a) (y a) h
  ran_counts (based_read x) (counts_read y) (read {got = got} seen of h) =
      let k = ran_counts (x got) (y got) h in
      let e = k.more_reads in
      record {
        all_reads = k.all_reads;
        all_writes = k.all_writes;
        is = k.is;
        reads = suc k.reads;
        writes = k.writes;
        more_reads = omega (arith, e);
        more_writes = k.more_writes;
        read_count = k.read_count;
        write_count = k.write_count;
      }
  ran_counts (based_write x) (counts_write y) (wrote {ok = ok} seen of h) =
      let k = ran_counts (x ok) (y ok) h in
      let e = k.more_writes in
      record {
        all_reads = k.all_reads;
        all_writes = k.all_writes;
        is = k.is;
        reads = k.reads;
        writes = suc k.writes;
        more_reads = k.more_reads;
        more_writes = omega (arith, e);
        read_count = k.read_count;
        write_count = k.write_count;
      }
  ran_counts (based_tell x) (counts_tell y) (told p hears had h) = ran_counts (x p) (y p) h

  -- by what a device counts
  pub ran_moved : {b : Base} {i : Interaction R Image S A} {u z : Outside R K} {s : S} {a : A} → Based base may b i → Counts q 0 0 i → Ran had hears i u s a z →
      Moved (λ reads writes. q reads writes s a) b.counts (base s).counts
  ran_moved {s = s} {a = a} x y h =
      let k = ran_counts x y h in
      let e : k.all_reads ≡ k.reads = let f = k.more_reads in omega (arith, f) in
      let g : k.all_writes ≡ k.writes = let f = k.more_writes in omega (arith, f) in
      record {
        reads = k.reads;
        writes = k.writes;
        is = subst (λ (n : ℕ). q n k.writes s a) e (subst (λ (n : ℕ). q k.all_reads n s a) g k.is);
        read_count = k.read_count;
        write_count = k.write_count;
      }

-- Behind a run whose outside is told

read_writes : (t : Told) (side : Side) → (told_read t side).writes ≡ t.writes
read_writes t sides.A = refl
read_writes t sides.B = refl

write_reads : (t : Told) (side : Side) → (told_write t side).reads ≡ t.reads
write_reads t sides.A = refl
write_reads t sides.B = refl

module _ {R I S A : Type 0} {q : ℕ → ℕ → S → A → Type 0} (v : R) where
  held_counts : {r w : ℕ} {i : Interaction R I S A} → Counts q r w i → (t : Told) → t.reads ≡ r → t.writes ≡ w →
      q (hold v i t).told.reads (hold v i t).told.writes (hold v i t).state (hold v i t).answer
  unfolding T.hold
  held_counts {r = r} (counts_done {s = s} {a = a} x) t e f = subst (λ (n : ℕ). q n t.writes s a) (sym e) (subst (λ (n : ℕ). q r n s a) (sym f) x)
  held_counts (counts_try x) t e f = held_counts (x true) t e f
  held_counts (counts_ask {call = call} x) t e f = held_counts (x (answer t.pool call)) (record t { pool = after t.pool call (answer t.pool call) }) e f
  held_counts (counts_read {side = side} x) t e f =
      held_counts (x (if read_fails (calls_of t side) then None else Some v)) (told_read t side) (ap (λ (n : ℕ). n + 1) e) (read_writes t side ∙ f)
  held_counts (counts_write {side = side} x) t e f =
      held_counts (x (if write_fails (calls_of t side) then false else true)) (told_write t side) (write_reads t side ∙ e) (ap (λ (n : ℕ). n + 1) f)
  held_counts (counts_tell {m = m} x) t e f = held_counts (x (reply m)) t e f

  -- from where no call was made yet
  pub held_moved : {i : Interaction R I S A} → Counts q 0 0 i → (t : Told) → t.reads ≡ 0 → t.writes ≡ 0 →
      q (hold v i t).told.reads (hold v i t).told.writes (hold v i t).state (hold v i t).answer
  held_moved x t e f = held_counts x t e f
