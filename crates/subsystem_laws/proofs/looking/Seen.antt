-- What holds behind an interaction over marks that makes no writes, where memory is had, with the calls of both volumes that go along with it.
use Rattle.std.proofs.Common.{◌≡◌, ℕ, Bool, true, false, Option, Some, None, refl, sym, ap, subst, ◌∙◌}
use Rattle.std.specs.Prelude.{if◌then◌else◌}
use Rattle.ckd_types.specs.declared.paths.Side.TheVariants.{A, B}
use Rattle.track_image.specs.Image.{Image}
use Rattle.device_outside.specs.Interaction.{Interaction, Done, Try, Ask, Read, Tell, and_then}
use Rattle.device_outside.specs.Keeper.{Message, ReplyTo, reply}
use Rattle.device_outside.specs.Pool.{Call, AnswerTo, answer, after}
use Rattle.device_outside.specs.Told as T
use Rattle.device_outside.specs.Told.{Calls, Told, hold, read_fails, told_read}
use Rattle.device_outside.specs.Volume.{counted}

abbrev pub one_read : Calls → Calls
one_read v = record v { reads = counted v.reads }

pub data Seen {S X : Type 0} (q : Calls → Calls → S → X → Type 0) : Calls → Calls → Interaction Bool Image S X → Type 0 where
  seen_done : {a b : Calls} {s : S} {x : X} → q a b s x → Seen q a b (Done s x)
  seen_try : {a b : Calls} {k : Bool → Interaction Bool Image S X} → Seen q a b (k true) → Seen q a b (Try k)
  seen_ask : {a b : Calls} {call : Call} {k : AnswerTo call → Interaction Bool Image S X} → ((x : AnswerTo call) → Seen q a b (k x)) → Seen q a b (Ask call k)
  seen_a : {a b : Calls} {t : ℕ} {k : Option Bool → Interaction Bool Image S X} → (read_fails a ≡ true → Seen q (one_read a) b (k None)) →
      (read_fails a ≡ false → Seen q (one_read a) b (k (Some true))) → Seen q a b (Read A t k)
  seen_b : {a b : Calls} {t : ℕ} {k : Option Bool → Interaction Bool Image S X} → (read_fails b ≡ true → Seen q a (one_read b) (k None)) →
      (read_fails b ≡ false → Seen q a (one_read b) (k (Some true))) → Seen q a b (Read B t k)
  seen_tell : {a b : Calls} {m : Message Image} {k : ReplyTo m → Interaction Bool Image S X} → Seen q a b (k (reply m)) → Seen q a b (Tell m k)

pub seen_then : {S T X Y : Type 0} {p : Calls → Calls → S → X → Type 0} {q : Calls → Calls → T → Y → Type 0} {a b : Calls} {i : Interaction Bool Image S X}
    (f : S → X → Interaction Bool Image T Y) → Seen p a b i → ((a b : Calls) (s : S) (x : X) → p a b s x → Seen q a b (f s x)) → Seen q a b (and_then i f)
seen_then f (seen_done h) w = w _ _ _ _ h
seen_then f (seen_try x) w = seen_try (seen_then f x w)
seen_then f (seen_ask x) w = seen_ask (λ y. seen_then f (x y) w)
seen_then f (seen_a x y) w = seen_a (λ e. seen_then f (x e) w) (λ e. seen_then f (y e) w)
seen_then f (seen_b x y) w = seen_b (λ e. seen_then f (x e) w) (λ e. seen_then f (y e) w)
seen_then f (seen_tell x) w = seen_tell (seen_then f x w)

pub seen_weaker : {S X : Type 0} {p q : Calls → Calls → S → X → Type 0} {a b : Calls} {i : Interaction Bool Image S X} → Seen p a b i →
    ((a b : Calls) (s : S) (x : X) → p a b s x → q a b s x) → Seen q a b i
seen_weaker (seen_done h) w = seen_done (w _ _ _ _ h)
seen_weaker (seen_try x) w = seen_try (seen_weaker x w)
seen_weaker (seen_ask x) w = seen_ask (λ y. seen_weaker (x y) w)
seen_weaker (seen_a x y) w = seen_a (λ e. seen_weaker (x e) w) (λ e. seen_weaker (y e) w)
seen_weaker (seen_b x y) w = seen_b (λ e. seen_weaker (x e) w) (λ e. seen_weaker (y e) w)
seen_weaker (seen_tell x) w = seen_tell (seen_weaker x w)

pub seen_if : {S X : Type 0} {q : Calls → Calls → S → X → Type 0} {a b : Calls} (c : Bool) {i j : Interaction Bool Image S X} →
    (c ≡ true → Seen q a b i) → (c ≡ false → Seen q a b j) → Seen q a b (if c then i else j)
seen_if true x y = x refl
seen_if false x y = y refl

-- Behind the run of it where the outside is told

by_read : {Y : Type 0} (fails : Bool) (q : Y → Type 0) (f : Option Bool → Y) → (fails ≡ true → q (f None)) → (fails ≡ false → q (f (Some true))) →
    q (f (if fails then None else Some true))
by_read true q f x y = x refl
by_read false q f x y = y refl

module _ {S X : Type 0} (q : Calls → Calls → S → X → Type 0) where
  abbrev IsSo : T.RunOutcome S X → Type 0
  IsSo o = q o.told.a o.told.b o.state o.answer

  seen_by : {a b : Calls} {i : Interaction Bool Image S X} → Seen q a b i → (w : Told) → w.a ≡ a → w.b ≡ b → IsSo (hold true i w)
  unfolding T.hold
  seen_by (seen_done {a = a} {s = s} {x = x} h) w e f =
      subst (λ (c : Calls). q c w.b s x) (sym e) (subst (λ (c : Calls). q a c s x) (sym f) h)
  seen_by (seen_try x) w e f = seen_by x w e f
  seen_by (seen_ask {call = call} x) w e f = seen_by (x (answer w.pool call)) (record w { pool = after w.pool call (answer w.pool call) }) e f
  seen_by (seen_a {k = k} x y) w e f =
      by_read (read_fails w.a) IsSo (λ (got : Option Bool). hold true (k got) (told_read w A))
      (λ fails. seen_by (x (sym (ap read_fails e) ∙ fails)) (told_read w A) (ap one_read e) f)
      (λ fails. seen_by (y (sym (ap read_fails e) ∙ fails)) (told_read w A) (ap one_read e) f)
  seen_by (seen_b {k = k} x y) w e f =
      by_read (read_fails w.b) IsSo (λ (got : Option Bool). hold true (k got) (told_read w B))
      (λ fails. seen_by (x (sym (ap read_fails f) ∙ fails)) (told_read w B) e (ap one_read f))
      (λ fails. seen_by (y (sym (ap read_fails f) ∙ fails)) (told_read w B) e (ap one_read f))
  seen_by (seen_tell {m = m} x) w e f = seen_by x w e f

  pub seen_held : {i : Interaction Bool Image S X} (w : Told) → Seen q w.a w.b i → IsSo (hold true i w)
  seen_held w x = seen_by x w refl refl
