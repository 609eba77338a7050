-- What an interaction over marks tells of firm tracks, one after another, and what holds behind it, where memory is had.
use Rattle.std.proofs.Common.{◌≡◌, ◌==◌, ℕ, Bool, true, false, List, [], ◌∷◌, ◌++◌, Some, None, append_assoc, refl, sym, subst, ap, ◌∙◌}
use Rattle.std.specs.Prelude.{if◌then◌else◌}
use Rattle.std.proofs.lemmas.List.{append-nil}
use Rattle.ckd_types.specs.declared.record.Track.{Track}
use Rattle.track_image.specs.Image.{Image}
use Rattle.device_outside.specs.Hears as E
use Rattle.device_outside.specs.Hears.{messages}
use Rattle.device_outside.specs.Interaction.{Interaction}
use Rattle.device_outside.specs.Keeper.{Message, BeforeEdit, Firm}
use Rattle.device_outside.specs.Pool.{answer, after}
use Rattle.device_outside.specs.Told as T
use Rattle.device_outside.specs.Told.{Told, hold, calls_of, read_fails, write_fails, told_read, told_write}
use Rattle.device_laws.proofs.Had as H
use Rattle.device_laws.proofs.Had.{BehindHad, Had}
use Rattle.keeper_laws.proofs.Firms.{Says, Firms, firms_done, firms_try, firms_ask, firms_read, firms_write, firms_named, firms_told}
use Rattle.keeper_laws.proofs.Silent.{by_read}
use Rattle.firm_laws.specs.FirmWrites.{FirmWrite, firms_in}

-- w are the firm tracks that were told so far, of whichever device
abbrev pub Tells : {S X : Type 0} → (List FirmWrite → S → X → Type 0) → List FirmWrite → Interaction Bool Image S X → Type 0
Tells q w i = Says (Unit {0}) (λ (d : ℕ). Unit {0}) (λ (u : List FirmWrite) t x. u ++ (t, x) ∷ []) q w i

-- with what holds whatever is answered
both_by : {S X : Type 0} {q : List FirmWrite → S → X → Type 0} (r : S → X → Type 0) {w : List FirmWrite} {i : Interaction Bool Image S X} → Tells q w i →
    BehindHad i r → Tells (λ u s x. q u s x × r s x) w i
unfolding H.BehindHad
both_by r (firms_done h) g = firms_done (h, g)
both_by r (firms_try x) g = firms_try (both_by r x g)
both_by r (firms_ask x) g = firms_ask (λ a. both_by r (x a) (g a))
both_by r (firms_read x y) g = firms_read (both_by r x (g None)) (both_by r y (g (Some true)))
both_by r (firms_write x) g = firms_write (λ ok. both_by r (x ok) (g ok))
both_by r (firms_named m x) g = firms_named m (both_by r x g)
both_by r (firms_told e x) g = firms_told e (both_by r x g)

pub tells_both : {S X : Type 0} {q : List FirmWrite → S → X → Type 0} {r : S → X → Type 0} {w : List FirmWrite} {i : Interaction Bool Image S X} →
    Tells q w i → Had i r → Tells (λ u s x. q u s x × r s x) w i
tells_both {r = r} x h = both_by r x h.holds

-- Behind the run of it where the outside is told

abbrev pub all_firms : List (Message Image) → List FirmWrite
all_firms [] = []
all_firms (BeforeEdit d t i ∷ ms) = all_firms ms
all_firms (Firm d t i ∷ ms) = (t, i.track) ∷ all_firms ms

module _ {S X : Type 0} (q : List FirmWrite → S → X → Type 0) where
  abbrev IsSo : List FirmWrite → Told → Interaction Bool Image S X → Type 0
  IsSo w o i = q (w ++ all_firms (messages true i o)) (hold true i o).state (hold true i o).answer

  pub tells_held : {w : List FirmWrite} {i : Interaction Bool Image S X} → Tells q w i → (o : Told) →
      q (w ++ all_firms (messages true i o)) (hold true i o).state (hold true i o).answer
  unfolding T.hold E.messages
  tells_held (firms_done {v = w} {s = s} {x = x} h) o = subst (λ (l : List FirmWrite). q l s x) (sym (append-nil w)) h
  tells_held (firms_try x) o = tells_held x o
  tells_held (firms_ask {call = call} x) o = tells_held (x (answer o.pool call)) (record o { pool = after o.pool call (answer o.pool call) })
  tells_held (firms_read {v = w} {side = side} {j = j} x y) o =
      by_read (read_fails (calls_of o side)) (IsSo w (told_read o side)) j (tells_held x (told_read o side)) (tells_held y (told_read o side))
  tells_held (firms_write {side = side} x) o = tells_held (x (if write_fails (calls_of o side) then false else true)) (told_write o side)
  tells_held (firms_named m x) o = tells_held x o
  tells_held (firms_told {v = w} {t = t} {i = i} {j = j} e x) o =
      subst (λ (l : List FirmWrite). q l (hold true (j tt) o).state (hold true (j tt) o).answer)
      (append_assoc w ((t, i.track) ∷ []) (all_firms (messages true (j tt) o))) (tells_held x o)

-- Whose they are

abbrev pub AreOf : ℕ → List (Message Image) → Type 0
AreOf k [] = Unit {0}
AreOf k (BeforeEdit d t i ∷ ms) = AreOf k ms
AreOf k (Firm d t i ∷ ms) = (d ≡ k) × AreOf k ms

pub own_held : {S X : Type 0} {k : ℕ} {q : List Track → S → X → Type 0} {v : List Track} {i : Interaction Bool Image S X} → Firms k q v i → (o : Told) →
    AreOf k (messages true i o)
unfolding E.messages
own_held (firms_done h) o = tt
own_held (firms_try x) o = own_held x o
own_held (firms_ask {call = call} x) o = own_held (x (answer o.pool call)) (record o { pool = after o.pool call (answer o.pool call) })
own_held {S = S} {X = X} {k = k} (firms_read {side = side} {j = j} x y) o =
    by_read (read_fails (calls_of o side)) (λ (i : Interaction Bool Image S X). AreOf k (messages true i (told_read o side))) j
    (own_held x (told_read o side)) (own_held y (told_read o side))
own_held (firms_write {side = side} x) o = own_held (x (if write_fails (calls_of o side) then false else true)) (told_write o side)
own_held (firms_named m x) o = own_held x o
own_held (firms_told e x) o = (e, own_held x o)

pub own_firms : (k n : ℕ) (ms : List (Message Image)) → (k == n) ≡ true → AreOf k ms → firms_in n ms ≡ all_firms ms
own_firms k n [] same own = refl
own_firms k n (BeforeEdit d t i ∷ ms) same own = own_firms k n ms same own
own_firms k n (Firm d t i ∷ ms) same own =
    ap (λ (b : Bool). if b then (t, i.track) ∷ firms_in n ms else firms_in n ms) (ap (λ (m : ℕ). m == n) own.0 ∙ same)
    ∙ ap (λ (l : List FirmWrite). (t, i.track) ∷ l) (own_firms k n ms same own.1)

pub other_firms : (k n : ℕ) (ms : List (Message Image)) → (k == n) ≡ false → AreOf k ms → firms_in n ms ≡ []
other_firms k n [] other own = refl
other_firms k n (BeforeEdit d t i ∷ ms) other own = other_firms k n ms other own
other_firms k n (Firm d t i ∷ ms) other own =
    ap (λ (b : Bool). if b then (t, i.track) ∷ firms_in n ms else firms_in n ms) (ap (λ (m : ℕ). m == n) own.0 ∙ other)
    ∙ other_firms k n ms other own.1

more_if : (b : Bool) (x : FirmWrite) (l r whole : List FirmWrite) → whole ≡ l ++ r →
    (if b then x ∷ whole else whole) ≡ (if b then x ∷ l else l) ++ r
more_if true x l r whole e = ap (λ (k : List FirmWrite). x ∷ k) e
more_if false x l r whole e = e

pub firms_more : (n : ℕ) (ms ns : List (Message Image)) → firms_in n (ms ++ ns) ≡ firms_in n ms ++ firms_in n ns
firms_more n [] ns = refl
firms_more n (BeforeEdit d t i ∷ ms) ns = firms_more n ms ns
firms_more n (Firm d t i ∷ ms) ns = more_if (d == n) (t, i.track) (firms_in n ms) (firms_in n ns) (firms_in n (ms ++ ns)) (firms_more n ms ns)
