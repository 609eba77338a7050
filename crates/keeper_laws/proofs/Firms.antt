-- What an interaction over marks tells a keeper of firm tracks of its device, and what holds behind it, where memory is had.
use Rattle.std.proofs.Common.{◌≡◌, ◌==◌, ℕ, Bool, true, false, List, Option, Some, None, refl, sym, subst, ap, ◌∙◌, set}
use Rattle.std.specs.Prelude.{if◌then◌else◌}
use Rattle.std.proofs.lemmas.Bool.{eq-eqb}
use Rattle.ckd_types.specs.declared.paths.Side.{Side}
use Rattle.ckd_types.specs.declared.record.Track.{Track}
use Rattle.track_image.specs.Image.{Image}
use Rattle.device_outside.specs.Hears as E
use Rattle.device_outside.specs.Hears.{messages}
use Rattle.device_outside.specs.Interaction.{Interaction, Done, Try, Ask, Read, Write, Tell, and_then}
use Rattle.device_outside.specs.Keeper.{BeforeEdit, Firm}
use Rattle.device_outside.specs.Pool.{Call, AnswerTo, answer, after}
use Rattle.device_outside.specs.Told as T
use Rattle.device_outside.specs.Told.{Told, hold, calls_of, read_fails, write_fails, told_read, told_write}
use Rattle.device_laws.proofs.PoolWalks.{AsksPool, asks_done, asks_try, asks_ask}
use Rattle.keeper_laws.specs.Firmness.{told_firm}
use Rattle.keeper_laws.proofs.Silent.{Silent, silent_done, silent_try, silent_ask, silent_read, silent_write, silent_firm, by_read}

-- named says whether images before edits may be named, own are the devices of which it tells, and v what is kept of the firm tracks that were told so far
pub data Says {S X K : Type 0} (named : Type 0) (own : ℕ → Type 0) (tell : K → ℕ → Track → K) (q : K → S → X → Type 0) : K → Interaction Bool Image S X → Type 0 where
  firms_done : {v : K} {s : S} {x : X} → q v s x → Says named own tell q v (Done s x)
  firms_try : {v : K} {j : Bool → Interaction Bool Image S X} → Says named own tell q v (j true) → Says named own tell q v (Try j)
  firms_ask : {v : K} {call : Call} {j : AnswerTo call → Interaction Bool Image S X} → ((x : AnswerTo call) → Says named own tell q v (j x)) →
      Says named own tell q v (Ask call j)
  firms_read : {v : K} {side : Side} {t : ℕ} {j : Option Bool → Interaction Bool Image S X} → Says named own tell q v (j None) → Says named own tell q v (j (Some true)) →
      Says named own tell q v (Read side t j)
  firms_write : {v : K} {side : Side} {t : ℕ} {r : Bool} {j : Bool → Interaction Bool Image S X} → ((ok : Bool) → Says named own tell q v (j ok)) →
      Says named own tell q v (Write side t r j)
  firms_named : {v : K} {d t : ℕ} {i : Image} {j : Bool → Interaction Bool Image S X} → named → Says named own tell q v (j true) →
      Says named own tell q v (Tell (BeforeEdit d t i) j)
  firms_told : {v : K} {d t : ℕ} {i : Image} {j : Unit {0} → Interaction Bool Image S X} → own d → Says named own tell q (tell v t i.track) (j tt) →
      Says named own tell q v (Tell (Firm d t i) j)

pub firms_then : {S T X Y K : Type 0} {named : Type 0} {own : ℕ → Type 0} {tell : K → ℕ → Track → K} {p : K → S → X → Type 0} {q : K → T → Y → Type 0} {v : K}
    {i : Interaction Bool Image S X} (f : S → X → Interaction Bool Image T Y) → Says named own tell p v i →
    ((u : K) (s : S) (x : X) → p u s x → Says named own tell q u (f s x)) → Says named own tell q v (and_then i f)
firms_then f (firms_done h) w = w _ _ _ h
firms_then f (firms_try x) w = firms_try (firms_then f x w)
firms_then f (firms_ask x) w = firms_ask (λ y. firms_then f (x y) w)
firms_then f (firms_read x y) w = firms_read (firms_then f x w) (firms_then f y w)
firms_then f (firms_write x) w = firms_write (λ ok. firms_then f (x ok) w)
firms_then f (firms_named m x) w = firms_named m (firms_then f x w)
firms_then f (firms_told e x) w = firms_told e (firms_then f x w)

pub firms_weaker : {S X K : Type 0} {named : Type 0} {own : ℕ → Type 0} {tell : K → ℕ → Track → K} {p q : K → S → X → Type 0} {v : K} {i : Interaction Bool Image S X} →
    Says named own tell p v i → ((u : K) (s : S) (x : X) → p u s x → q u s x) → Says named own tell q v i
firms_weaker (firms_done h) w = firms_done (w _ _ _ h)
firms_weaker (firms_try x) w = firms_try (firms_weaker x w)
firms_weaker (firms_ask x) w = firms_ask (λ a. firms_weaker (x a) w)
firms_weaker (firms_read x y) w = firms_read (firms_weaker x w) (firms_weaker y w)
firms_weaker (firms_write x) w = firms_write (λ ok. firms_weaker (x ok) w)
firms_weaker (firms_named m x) w = firms_named m (firms_weaker x w)
firms_weaker (firms_told e x) w = firms_told e (firms_weaker x w)

pub firms_if : {S X K : Type 0} {named : Type 0} {own : ℕ → Type 0} {tell : K → ℕ → Track → K} {q : K → S → X → Type 0} {v : K} (c : Bool)
    {i j : Interaction Bool Image S X} → (c ≡ true → Says named own tell q v i) → (c ≡ false → Says named own tell q v j) → Says named own tell q v (if c then i else j)
firms_if true x y = x refl
firms_if false x y = y refl

-- what calls no volume and tells nothing
pub asks_firms : {S X K : Type 0} {named : Type 0} {own : ℕ → Type 0} {tell : K → ℕ → Track → K} {may : Call → Type 0} {q : K → S → X → Type 0} {v : K}
    {i : Interaction Bool Image S X} → AsksPool may (q v) i → Says named own tell q v i
asks_firms (asks_done x) = firms_done x
asks_firms {named = named} {own = own} {tell = tell} {may = may} {q = q} {v = v} (asks_try x) =
    firms_try (asks_firms {named = named} {own = own} {tell = tell} {may = may} {q = q} {v = v} (x true))
asks_firms {named = named} {own = own} {tell = tell} {may = may} {q = q} {v = v} (asks_ask m x) =
    firms_ask (λ a. asks_firms {named = named} {own = own} {tell = tell} {may = may} {q = q} {v = v} (x a))

-- where it names no image, it tells of no edit
pub silent_of : {S X K : Type 0} {own : ℕ → Type 0} {tell : K → ℕ → Track → K} {q : S → X → Type 0} {v : K} {i : Interaction Bool Image S X} →
    Says ⊥ own tell (λ u s x. q s x) v i → Silent q i
silent_of (firms_done h) = silent_done h
silent_of {q = q} (firms_try x) = silent_try (silent_of {q = q} x)
silent_of {q = q} (firms_ask x) = silent_ask (λ a. silent_of {q = q} (x a))
silent_of {q = q} (firms_read x y) = silent_read (silent_of {q = q} x) (silent_of {q = q} y)
silent_of {q = q} (firms_write x) = silent_write (λ ok. silent_of {q = q} (x ok))
silent_of (firms_named m x) = absurd m
silent_of {q = q} (firms_told e x) = silent_firm (silent_of {q = q} x)

pub says_of : {S X K : Type 0} {tell : K → ℕ → Track → K} {q : S → X → Type 0} {i : Interaction Bool Image S X} → Silent q i → (v : K) →
    Says ⊥ (λ (d : ℕ). Unit {0}) tell (λ u s x. q s x) v i
says_of (silent_done h) v = firms_done h
says_of {q = q} (silent_try x) v = firms_try (says_of {q = q} x v)
says_of {q = q} (silent_ask x) v = firms_ask (λ a. says_of {q = q} (x a) v)
says_of {q = q} (silent_read x y) v = firms_read (says_of {q = q} x v) (says_of {q = q} y v)
says_of {q = q} (silent_write x) v = firms_write (λ ok. says_of {q = q} (x ok) v)
says_of {q = q} (silent_firm x) v = firms_told tt (says_of {q = q} x _)

-- of the device of number k; v is the volume with the firm tracks that were told so far
abbrev pub Firms : {S X : Type 0} → ℕ → (List Track → S → X → Type 0) → List Track → Interaction Bool Image S X → Type 0
Firms k q v i = Says (Unit {0}) (λ (d : ℕ). d ≡ k) (λ (u : List Track) t x. set u t x) q v i

-- Behind the run of it where the outside is told

module _ {S X : Type 0} (k : ℕ) (q : List Track → S → X → Type 0) where
  abbrev IsSo : List Track → Told → Interaction Bool Image S X → Type 0
  IsSo v w i = q (told_firm k (messages true i w) v) (hold true i w).state (hold true i w).answer

  pub firms_held : {v : List Track} {i : Interaction Bool Image S X} → Firms k q v i → (w : Told) →
      q (told_firm k (messages true i w) v) (hold true i w).state (hold true i w).answer
  unfolding T.hold E.messages
  firms_held (firms_done h) w = h
  firms_held (firms_try x) w = firms_held x w
  firms_held (firms_ask {call = call} x) w = firms_held (x (answer w.pool call)) (record w { pool = after w.pool call (answer w.pool call) })
  firms_held (firms_read {v = v} {side = side} {j = j} x y) w =
      by_read (read_fails (calls_of w side)) (IsSo v (told_read w side)) j (firms_held x (told_read w side)) (firms_held y (told_read w side))
  firms_held (firms_write {side = side} x) w = firms_held (x (if write_fails (calls_of w side) then false else true)) (told_write w side)
  firms_held (firms_named m x) w = firms_held x w
  firms_held (firms_told {v = v} {d = d} {t = t} {i = i} {j = j} e x) w =
      subst (λ (b : Bool). IsSo (if b then set v t i.track else v) w (j tt)) (sym (eq-eqb d k e)) (firms_held x w)

  module _ (n : ℕ) (other : (k == n) ≡ false) (u : List Track) where
    abbrev Nothing : Told → Interaction Bool Image S X → Type 0
    Nothing w i = told_firm n (messages true i w) u ≡ u

    -- of another device nothing is told
    pub firms_other : {v : List Track} {i : Interaction Bool Image S X} → Firms k q v i → (w : Told) → told_firm n (messages true i w) u ≡ u
    unfolding T.hold E.messages
    firms_other (firms_done h) w = refl
    firms_other (firms_try x) w = firms_other x w
    firms_other (firms_ask {call = call} x) w = firms_other (x (answer w.pool call)) (record w { pool = after w.pool call (answer w.pool call) })
    firms_other (firms_read {side = side} {j = j} x y) w =
        by_read (read_fails (calls_of w side)) (Nothing (told_read w side)) j (firms_other x (told_read w side)) (firms_other y (told_read w side))
    firms_other (firms_write {side = side} x) w = firms_other (x (if write_fails (calls_of w side) then false else true)) (told_write w side)
    firms_other (firms_named m x) w = firms_other x w
    firms_other (firms_told {d = d} {t = t} {i = i} {j = j} e x) w =
        subst (λ (b : Bool). Nothing w (j tt) → told_firm n (messages true (j tt) w) (if b then set u t i.track else u) ≡ u)
        (sym (ap (λ (m : ℕ). m == n) e ∙ other)) (λ y. y) (firms_other x w)
