-- Of what an interaction over marks can come to holds what holds behind every answer; and what it comes to where the outside is told.
use Rattle.std.proofs.Common.{◌≡◌, ◌<◌, ◌≤◌, ℕ, Bool, true, false, Some, None, refl, sym, subst, arith}
use Rattle.std.specs.Prelude.{if◌then◌else◌}
use Rattle.track_image.specs.Image.{Image}
use Rattle.device_outside.specs.Interaction.{Interaction, Done, Try, Ask, Read, Write, Tell, and_then}
use Rattle.device_outside.specs.Keeper.{reply}
use Rattle.device_outside.specs.Pool.{Call, answer, after}
use Rattle.device_outside.specs.Told as T
use Rattle.device_outside.specs.Told.{Told, hold, calls_of, read_fails, write_fails, told_read, told_write}
use Rattle.device_laws.proofs.Always.{Always}
use Rattle.device_laws.proofs.Based.{Base, Based, based_done, based_try, based_ask, based_read, based_write, based_tell}
use Rattle.device_laws.proofs.CleanParts.{
  Clean,
  clean_done,
  clean_try,
  clean_ask,
  clean_read,
  clean_write,
  clean_tell,
}
use Rattle.device_laws.proofs.Had as H
use Rattle.device_laws.proofs.Had.{BehindHad, Had}
use Rattle.device_laws.proofs.Lucky.{failed_in, top, counted_rises, counted_top, never_falls}
use Rattle.device_laws.proofs.PlainEvents.{had_always}
use Rattle.device_laws.proofs.Served.{Served, served_done, served_try, served_ask, served_read, served_write, served_tell}
use Rattle.subsystem_laws.specs.Came as C
use Rattle.subsystem_laws.specs.Came.{Came, CameTo, delivered}

came_by : {I S A : Type 0} (i : Interaction Bool I S A) (q : S → A → Type 0) (y : S) (b : A) → BehindHad i q → Came i y b → q y b
unfolding C.Came H.BehindHad
came_by (Done s a) q y b h c = subst (λ (z : _). q z b) (sym c.0) (subst (λ (x : _). q s x) (sym c.1) h)
came_by (Try k) q y b h c = came_by (k true) q y b h c
came_by (Ask call k) q y b h c = came_by (k c.0) q y b (h c.0) c.1
came_by (Read side t k) q y b h c = came_by (k (delivered c.0)) q y b (h (delivered c.0)) c.1
came_by (Write side t r k) q y b h c = came_by (k c.0) q y b (h c.0) c.1
came_by (Tell m k) q y b h c = came_by (k (reply m)) q y b h c

pub came_had : {I S A : Type 0} {i : Interaction Bool I S A} {q : S → A → Type 0} → Had i q → (t : CameTo i) → q t.state t.answer
came_had {i = i} {q = q} h t = came_by i q t.state t.answer h.holds t.is

pub at : {I S A : Type 0} {i : Interaction Bool I S A} {q : S → A → Type 0} → Always i q → (t : CameTo i) → q t.state t.answer
at h t = came_had (had_always h) t

-- where no bytes are bad
clean_by : {I S A : Type 0} {q : S → A → Type 0} {i : Interaction Bool I S A} → Clean q i → (y : S) (b : A) → Came i y b → q y b
unfolding C.Came
clean_by {q = q} (clean_done {s = s} {a = a} x) y b c = subst (λ (z : _). q z b) (sym c.0) (subst (λ (z : _). q s z) (sym c.1) x)
clean_by (clean_try x) y b c = clean_by (x true) y b c
clean_by (clean_ask x) y b c = clean_by (x c.0) y b c.1
clean_by {q = q} (clean_read {k = k} x z) y b c = by_read c.0 c.1 (clean_by x y b) (clean_by z y b) where
  by_read : (ok : Bool) → Came (k (delivered ok)) y b → (Came (k None) y b → q y b) → (Came (k (Some true)) y b → q y b) → q y b
  by_read true c f g = g c
  by_read false c f g = f c
clean_by (clean_write x) y b c = clean_by (x c.0) y b c.1
clean_by (clean_tell {m = m} x) y b c = clean_by (x (reply m)) y b c

pub came_clean : {I S A : Type 0} {q : S → A → Type 0} {i : Interaction Bool I S A} → Clean q i → (t : CameTo i) → q t.state t.answer
came_clean h t = clean_by h t.state t.answer t.is

-- What it comes to where the outside is told

pub told_by : {I S A : Type 0} (i : Interaction Bool I S A) (w : Told) → Came i (hold true i w).state (hold true i w).answer
unfolding C.Came T.hold
told_by (Done s a) w = (refl, refl)
told_by (Try k) w = told_by (k true) w
told_by (Ask call k) w = (answer w.pool call, told_by (k (answer w.pool call)) (record w { pool = after w.pool call (answer w.pool call) }))
told_by (Read side t k) w =
    let v = told_read w side in by_plan (read_fails (calls_of w side)) (told_by (k None) v) (told_by (k (Some true)) v)
  where
    by_plan : (fails : Bool) → Came (k None) (hold true (k None) (told_read w side)).state (hold true (k None) (told_read w side)).answer →
        Came (k (Some true)) (hold true (k (Some true)) (told_read w side)).state (hold true (k (Some true)) (told_read w side)).answer →
        (ok : Bool) × Came (k (delivered ok)) (hold true (k (if fails then None else Some true)) (told_read w side)).state
        (hold true (k (if fails then None else Some true)) (told_read w side)).answer
    by_plan true none some = (false, none)
    by_plan false none some = (true, some)
told_by (Write side t r k) w =
    let ok = if write_fails (calls_of w side) then false else true in (ok, told_by (k ok) (told_write w side))
told_by (Tell m k) w = told_by (k (reply m)) w

abbrev pub told_came : {I S A : Type 0} (i : Interaction Bool I S A) → Told → CameTo i
told_came i w = record { state = (hold true i w).state; answer = (hold true i w).answer; is = told_by i w }

-- An answer changes nothing of the state behind it

pub answered_by : {I S X Y : Type 0} (i : Interaction Bool I S X) (f : X → Y) (y : S) (b : Y) → Came (and_then i (λ s a. Done s (f a))) y b →
    (a : X) × Came i y a
unfolding C.Came
answered_by (Done s a) f y b c = (a, (c.0, refl))
answered_by (Try k) f y b c = answered_by (k true) f y b c
answered_by (Ask call k) f y b c = let x = answered_by (k c.0) f y b c.1 in (x.0, (c.0, x.1))
answered_by (Read side t k) f y b c = let x = answered_by (k (delivered c.0)) f y b c.1 in (x.0, (c.0, x.1))
answered_by (Write side t r k) f y b c = let x = answered_by (k c.0) f y b c.1 in (x.0, (c.0, x.1))
answered_by (Tell m k) f y b c = answered_by (k (reply m)) f y b c

abbrev pub answered : {I S X Y : Type 0} (i : Interaction Bool I S X) (f : X → Y) → CameTo (and_then i (λ s a. Done s (f a))) → CameTo i
answered i f t = let x = answered_by i f t.state t.answer t.is in record { state = t.state; answer = x.0; is = x.1 }

-- What holds where no call of a volume fails and memory is had

module _ {S X : Type 0} {base : S → Base} {may : Call → Type 0} where
  none_failed : (n : ℕ) {b : Base} {i : Interaction Bool Image S X} → Based base may b i → n < failed_in b → failed_in b ≤ top → (y : S) (a : X) → Came i y a →
      failed_in (base y) ≡ n → ⊥
  none_failed n {i = i} x lt le y a c same =
      let more = at (never_falls x le) (record { state = y; answer = a; is = c }) in omega (arith, lt, more, same)

  served_by : (q : S → X → Type 0) {b : Base} {i : Interaction Bool Image S X} → Based base may b i → failed_in b < top → Served q i → (y : S) (a : X) →
      Came i y a → failed_in (base y) ≡ failed_in b → q y a
  unfolding C.Came
  served_by q (based_done e) lt (served_done {s = s} {a = v} x) y a c same = subst (λ (z : S). q z a) (sym c.0) (subst (λ (z : X). q s z) (sym c.1) x)
  served_by q (based_try x) lt (served_try z) y a c same = served_by q (x true) lt z y a c same
  served_by q (based_ask m x) lt (served_ask z) y a c same = served_by q (x c.0) lt (z c.0) y a c.1 same
  served_by q {b = b} (based_read x) lt (served_read {k = k} z) y a c same = by_read c.0 c.1 (served_by q (x (Some true)) lt (z true) y a) where
    by_read : (ok : Bool) → Came (k (delivered ok)) y a → (Came (k (Some true)) y a → failed_in (base y) ≡ failed_in b → q y a) → q y a
    by_read true c f = f c same
    by_read false c f = absurd (none_failed (failed_in b) (x None) (counted_rises (failed_in b) lt) (counted_top (failed_in b)) y a c same)
  served_by q {b = b} (based_write x) lt (served_write {k = k} z) y a c same = by_write c.0 c.1 (served_by q (x true) lt z y a) where
    by_write : (ok : Bool) → Came (k ok) y a → (Came (k true) y a → failed_in (base y) ≡ failed_in b → q y a) → q y a
    by_write true c f = f c same
    by_write false c f = absurd (none_failed (failed_in b) (x false) (counted_rises (failed_in b) lt) (counted_top (failed_in b)) y a c same)
  served_by q (based_tell x) lt (served_tell {m = m} z) y a c same = served_by q (x (reply m)) lt z y a c same

  pub came_served : (q : S → X → Type 0) {b : Base} {i : Interaction Bool Image S X} → Based base may b i → failed_in b < top → Served q i → (t : CameTo i) →
      failed_in (base t.state) ≡ failed_in b → q t.state t.answer
  came_served q x lt h t same = served_by q x lt h t.state t.answer t.is same
