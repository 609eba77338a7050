-- What holds behind an interaction over marks that tells a keeper of no edit, where memory is had.
use Rattle.std.proofs.Common.{◌≡◌, ℕ, Bool, true, false, Option, Some, None, refl}
use Rattle.std.specs.Prelude.{if◌then◌else◌}
use Rattle.ckd_types.specs.declared.paths.Side.{Side}
use Rattle.track_image.specs.Image.{Image}
use Rattle.device_outside.specs.Hears as E
use Rattle.device_outside.specs.Hears.{messages}
use Rattle.device_outside.specs.Interaction.{Interaction, Done, Try, Ask, Read, Write, Tell, and_then}
use Rattle.device_outside.specs.Keeper.{Firm}
use Rattle.device_outside.specs.Pool.{Call, AnswerTo, answer, after}
use Rattle.device_outside.specs.Told as T
use Rattle.device_outside.specs.Told.{Told, hold, calls_of, read_fails, write_fails, told_read, told_write}
use Rattle.device_laws.proofs.PoolWalks.{AsksPool, asks_done, asks_try, asks_ask}
use Rattle.keeper_laws.specs.Messages.{first_named}

pub data Silent {S X : Type 0} (q : S → X → Type 0) : Interaction Bool Image S X → Type 0 where
  silent_done : {s : S} {x : X} → q s x → Silent q (Done s x)
  silent_try : {k : Bool → Interaction Bool Image S X} → Silent q (k true) → Silent q (Try k)
  silent_ask : {call : Call} {k : AnswerTo call → Interaction Bool Image S X} → ((x : AnswerTo call) → Silent q (k x)) → Silent q (Ask call k)
  silent_read : {side : Side} {t : ℕ} {k : Option Bool → Interaction Bool Image S X} → Silent q (k None) → Silent q (k (Some true)) →
      Silent q (Read side t k)
  silent_write : {side : Side} {t : ℕ} {r : Bool} {k : Bool → Interaction Bool Image S X} → ((ok : Bool) → Silent q (k ok)) → Silent q (Write side t r k)
  silent_firm : {d t : ℕ} {i : Image} {k : Unit {0} → Interaction Bool Image S X} → Silent q (k tt) → Silent q (Tell (Firm d t i) k)

pub silent_then : {S T X Y : Type 0} {p : S → X → Type 0} {q : T → Y → Type 0} {i : Interaction Bool Image S X} (f : S → X → Interaction Bool Image T Y) →
    Silent p i → ((s : S) (x : X) → p s x → Silent q (f s x)) → Silent q (and_then i f)
silent_then f (silent_done h) w = w _ _ h
silent_then f (silent_try x) w = silent_try (silent_then f x w)
silent_then f (silent_ask x) w = silent_ask (λ y. silent_then f (x y) w)
silent_then f (silent_read x y) w = silent_read (silent_then f x w) (silent_then f y w)
silent_then f (silent_write x) w = silent_write (λ ok. silent_then f (x ok) w)
silent_then f (silent_firm x) w = silent_firm (silent_then f x w)

pub silent_if : {S X : Type 0} {q : S → X → Type 0} (c : Bool) {i j : Interaction Bool Image S X} → (c ≡ true → Silent q i) → (c ≡ false → Silent q j) →
    Silent q (if c then i else j)
silent_if true x y = x refl
silent_if false x y = y refl

-- what calls no volume and tells nothing
pub asks_silent : {S X : Type 0} {may : Call → Type 0} {q : S → X → Type 0} {i : Interaction Bool Image S X} → AsksPool may q i → Silent q i
asks_silent (asks_done x) = silent_done x
asks_silent (asks_try x) = silent_try (asks_silent (x true))
asks_silent (asks_ask m x) = silent_ask (λ a. asks_silent (x a))

-- Behind the run of it where the outside is told

pub by_read : {Y : Type 0} (fails : Bool) (q : Y → Type 0) (f : Option Bool → Y) → q (f None) → q (f (Some true)) →
    q (f (if fails then None else Some true))
by_read true q f x y = x
by_read false q f x y = y

module _ {S X : Type 0} (q : S → X → Type 0) (n t : ℕ) where
  -- no image of a track is named first
  abbrev IsSo : Interaction Bool Image S X → Told → Type 0
  IsSo i w = (first_named n t (messages true i w) ≡ None) × q (hold true i w).state (hold true i w).answer

  pub silent_held : {i : Interaction Bool Image S X} → Silent q i → (w : Told) →
      (first_named n t (messages true i w) ≡ None) × q (hold true i w).state (hold true i w).answer
  unfolding T.hold E.messages
  silent_held (silent_done h) w = (refl, h)
  silent_held (silent_try x) w = silent_held x w
  silent_held (silent_ask {call = call} x) w = silent_held (x (answer w.pool call)) (record w { pool = after w.pool call (answer w.pool call) })
  silent_held (silent_read {side = side} {k = k} x y) w =
      by_read (read_fails (calls_of w side)) (λ (j : Interaction Bool Image S X). IsSo j (told_read w side)) k (silent_held x (told_read w side))
      (silent_held y (told_read w side))
  silent_held (silent_write {side = side} x) w = silent_held (x (if write_fails (calls_of w side) then false else true)) (told_write w side)
  silent_held (silent_firm x) w = silent_held x w
