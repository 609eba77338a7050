-- Which image of a track an interaction over marks names first before an edit, where memory is had, and what holds behind it where it names none.
use Rattle.std.proofs.Common.{◌≡◌, ◌==◌, ◌&&◌, ℕ, Bool, true, false, List, ◌∷◌, Option, Some, None, refl, ap, ◌∙◌, ◌⊎◌, inl, inr}
use Rattle.std.specs.Prelude.{if◌then◌else◌}
use Rattle.ckd_types.specs.declared.paths.Side.{Side}
use Rattle.track_image.specs.Image.{Image}
use Rattle.device_outside.specs.Hears as E
use Rattle.device_outside.specs.Hears.{messages}
use Rattle.device_outside.specs.Interaction.{Interaction, Done, Try, Ask, Read, Write, Tell, and_then}
use Rattle.device_outside.specs.Keeper.{Message, BeforeEdit, Firm}
use Rattle.device_outside.specs.Pool.{Call, AnswerTo, answer, after}
use Rattle.device_outside.specs.Told as T
use Rattle.device_outside.specs.Told.{Told, hold, calls_of, read_fails, write_fails, told_read, told_write}
use Rattle.keeper_laws.specs.Messages.{first_named}
use Rattle.keeper_laws.proofs.Silent.{Silent, silent_done, silent_try, silent_ask, silent_read, silent_write, silent_firm, by_read}

pub data Names {S X : Type 0} (n t : ℕ) (i : Image) (q : S → X → Type 0) : Interaction Bool Image S X → Type 0 where
  names_done : {s : S} {x : X} → q s x → Names n t i q (Done s x)
  names_try : {k : Bool → Interaction Bool Image S X} → Names n t i q (k true) → Names n t i q (Try k)
  names_ask : {call : Call} {k : AnswerTo call → Interaction Bool Image S X} → ((x : AnswerTo call) → Names n t i q (k x)) → Names n t i q (Ask call k)
  names_read : {side : Side} {u : ℕ} {k : Option Bool → Interaction Bool Image S X} → Names n t i q (k None) → Names n t i q (k (Some true)) →
      Names n t i q (Read side u k)
  names_write : {side : Side} {u : ℕ} {r : Bool} {k : Bool → Interaction Bool Image S X} → ((ok : Bool) → Names n t i q (k ok)) →
      Names n t i q (Write side u r k)
  names_firm : {d u : ℕ} {j : Image} {k : Unit {0} → Interaction Bool Image S X} → Names n t i q (k tt) → Names n t i q (Tell (Firm d u j) k)
  names_other : {d u : ℕ} {j : Image} {k : Bool → Interaction Bool Image S X} → ((d == n) && (u == t)) ≡ false → Names n t i q (k true) →
      Names n t i q (Tell (BeforeEdit d u j) k)
  names_it : {d u : ℕ} {j : Image} {k : Bool → Interaction Bool Image S X} → ((d == n) && (u == t)) ≡ true → j ≡ i →
      Names n t i q (Tell (BeforeEdit d u j) k)

pub names_then : {S T X Y : Type 0} {n t : ℕ} {i : Image} {p : S → X → Type 0} {q : T → Y → Type 0} {j : Interaction Bool Image S X}
    (f : S → X → Interaction Bool Image T Y) → Names n t i p j → ((s : S) (x : X) → p s x → Names n t i q (f s x)) → Names n t i q (and_then j f)
names_then f (names_done h) w = w _ _ h
names_then f (names_try x) w = names_try (names_then f x w)
names_then f (names_ask x) w = names_ask (λ y. names_then f (x y) w)
names_then f (names_read x y) w = names_read (names_then f x w) (names_then f y w)
names_then f (names_write x) w = names_write (λ ok. names_then f (x ok) w)
names_then f (names_firm x) w = names_firm (names_then f x w)
names_then f (names_other e x) w = names_other e (names_then f x w)
names_then f (names_it e same) w = names_it e same

pub silent_names : {S X : Type 0} {n t : ℕ} {i : Image} {q : S → X → Type 0} {j : Interaction Bool Image S X} → Silent q j → Names n t i q j
silent_names (silent_done h) = names_done h
silent_names (silent_try x) = names_try (silent_names x)
silent_names (silent_ask x) = names_ask (λ y. silent_names (x y))
silent_names (silent_read x y) = names_read (silent_names x) (silent_names y)
silent_names (silent_write x) = names_write (λ ok. silent_names (x ok))
silent_names (silent_firm x) = names_firm (silent_names x)

pub names_if : {S X : Type 0} {n t : ℕ} {i : Image} {q : S → X → Type 0} (c : Bool) {j k : Interaction Bool Image S X} → (c ≡ true → Names n t i q j) →
    (c ≡ false → Names n t i q k) → Names n t i q (if c then j else k)
names_if true x y = x refl
names_if false x y = y refl

-- Behind the run of it where the outside is told

-- none of these names the track first and so it is, or this image is named
abbrev pub Named : ℕ → ℕ → Image → List (Message Image) → Type 0 → Type 0
Named n t i ms p = ((first_named n t ms ≡ None) × p) ⊎ (first_named n t ms ≡ Some i)

module _ {S X : Type 0} (q : S → X → Type 0) (n t : ℕ) (i : Image) where
  abbrev IsSo : Interaction Bool Image S X → Told → Type 0
  IsSo j w = Named n t i (messages true j w) (q (hold true j w).state (hold true j w).answer)

  passed : (d u : ℕ) (j : Image) (ms : List (Message Image)) (p : Type 0) → ((d == n) && (u == t)) ≡ false → Named n t i ms p →
      Named n t i (BeforeEdit d u j ∷ ms) p
  passed d u j ms p e (inl x) = inl (ap (λ (b : Bool). if b then Some j else first_named n t ms) e ∙ x.0, x.1)
  passed d u j ms p e (inr x) = inr (ap (λ (b : Bool). if b then Some j else first_named n t ms) e ∙ x)

  pub names_held : {j : Interaction Bool Image S X} → Names n t i q j → (w : Told) →
      Named n t i (messages true j w) (q (hold true j w).state (hold true j w).answer)
  unfolding T.hold E.messages
  names_held (names_done h) w = inl (refl, h)
  names_held (names_try x) w = names_held x w
  names_held (names_ask {call = call} x) w = names_held (x (answer w.pool call)) (record w { pool = after w.pool call (answer w.pool call) })
  names_held (names_read {side = side} {k = k} x y) w =
      by_read (read_fails (calls_of w side)) (λ (j : Interaction Bool Image S X). IsSo j (told_read w side)) k (names_held x (told_read w side))
      (names_held y (told_read w side))
  names_held (names_write {side = side} x) w = names_held (x (if write_fails (calls_of w side) then false else true)) (told_write w side)
  names_held (names_firm x) w = names_held x w
  names_held (names_other {d = d} {u = u} {j = j} {k = k} e x) w =
      passed d u j (messages true (k true) w) (q (hold true (k true) w).state (hold true (k true) w).answer) e (names_held x w)
  names_held (names_it {d = d} {u = u} {j = j} {k = k} e same) w =
      inr (ap (λ (b : Bool). if b then Some j else first_named n t (messages true (k true) w)) e ∙ ap Some same)
