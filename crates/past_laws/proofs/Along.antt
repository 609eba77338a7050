-- Interactions of which one goes along with the other: each run of the first is one of the second, from the same outside to the same, with the same answer,
-- that leaves a state that stands in a relation to its own.
use Rattle.std.proofs.Common.{Bool}
use Rattle.device_outside.specs.Interaction.{Interaction, Done, Try, Ask, Read, Write, Tell, and_then}
use Rattle.device_outside.specs.Keeper.{Hearing}
use Rattle.device_outside.specs.Outside.{Outside, Ran, done, tried, asked, read, wrote, told}
use Rattle.device_outside.proofs.Runs.{joined}

module _ {R I K : Type 0} (had : Bool → Type 0) (hears : Hearing I K) where
  -- the two parts of a run of one interaction and then another
  pub record Parts {S T A B : Type 0} (i : Interaction R I S A) (f : S → A → Interaction R I T B) (u : Outside R K) (t : T) (b : B) (z : Outside R K) : Type 0
    where
      pub state : S
      pub answer : A
      pub between : Outside R K
      pub first : Ran had hears i u state answer between
      pub rest : Ran had hears (f state answer) between t b z

  pub parts : {S T A B : Type 0} (i : Interaction R I S A) (f : S → A → Interaction R I T B) {u z : Outside R K} {t : T} {b : B} →
      Ran had hears (and_then i f) u t b z → Parts i f u t b z
  parts (Done s a) f {u = u} r = record { state = s; answer = a; between = u; first = done; rest = r }
  parts (Try k) f (tried ok x h) =
      let p = parts (k ok) f h in record { state = p.state; answer = p.answer; between = p.between; first = tried ok x p.first; rest = p.rest }
  parts (Ask call k) f (asked {a = a} is h) =
      let p = parts (k a) f h in record { state = p.state; answer = p.answer; between = p.between; first = asked is p.first; rest = p.rest }
  parts (Read side t k) f (read {got = got} is a h) =
      let p = parts (k got) f h in record { state = p.state; answer = p.answer; between = p.between; first = read is a p.first; rest = p.rest }
  parts (Write side t r k) f (wrote {ok = ok} is a h) =
      let p = parts (k ok) f h in record { state = p.state; answer = p.answer; between = p.between; first = wrote is a p.first; rest = p.rest }
  parts (Tell m k) f (told r a x h) =
      let p = parts (k r) f h in record { state = p.state; answer = p.answer; between = p.between; first = told r a x p.first; rest = p.rest }

  -- where a run of the other one ends
  pub record Goes {S T A : Type 0} (rel : S → T → Type 0) (j : Interaction R I T A) (u : Outside R K) (s : S) (a : A) (z : Outside R K) : Type 0 where
    pub state : T
    pub is : rel s state
    pub ran : Ran had hears j u state a z

  abbrev pub Along : {S T A : Type 0} → (S → T → Type 0) → Interaction R I S A → Interaction R I T A → Type 0
  Along {S = S} {A = A} rel i j = (u z : Outside R K) (s : S) (a : A) → Ran had hears i u s a z → Goes rel j u s a z

  pub ends_along : {S T A : Type 0} (rel : S → T → Type 0) (s : S) (t : T) (a : A) → rel s t → Along rel (Done s a) (Done t a)
  ends_along rel s t a is u z s' a' done = record { state = t; is = is; ran = done }

  -- behind the same
  pub same_first : {S T U A B : Type 0} (rel : T → U → Type 0) (i : Interaction R I S A) (f : S → A → Interaction R I T B) (g : S → A → Interaction R I U B) →
      ((s : S) (a : A) → Along rel (f s a) (g s a)) → Along rel (and_then i f) (and_then i g)
  same_first rel i f g goes u z t b run =
      let p = parts i f run in
      let q = goes p.state p.answer p.between z t b p.rest in
      record { state = q.state; is = q.is; ran = joined g p.first q.ran }

  -- behind one that goes along
  pub along_first : {S T U V A B : Type 0} (rel : S → T → Type 0) (then : U → V → Type 0) (i : Interaction R I S A) (j : Interaction R I T A)
      (f : S → A → Interaction R I U B) (g : T → A → Interaction R I V B) → Along rel i j →
      ((s : S) (t : T) (a : A) → rel s t → Along then (f s a) (g t a)) → Along then (and_then i f) (and_then j g)
  along_first rel then i j f g first goes u z t b run =
      let p = parts i f run in
      let q = first u p.between p.state p.answer p.first in
      let r = goes p.state q.state p.answer q.is p.between z t b p.rest in
      record { state = r.state; is = r.is; ran = joined g q.ran r.ran }

  pub tries_along : {S T A : Type 0} (rel : S → T → Type 0) (k : Bool → Interaction R I S A) (l : Bool → Interaction R I T A) →
      ((ok : Bool) → Along rel (k ok) (l ok)) → Along rel (Try k) (Try l)
  tries_along rel k l goes u z s a (tried ok x h) =
      let q = goes ok u z s a h in record { state = q.state; is = q.is; ran = tried ok x q.ran }
