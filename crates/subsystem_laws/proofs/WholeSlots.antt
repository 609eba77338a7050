-- Whose slots are whose: those of one device change, and all others keep theirs.
use Rattle.std.proofs.Common.{◌≡◌, ◌==◌, ℕ, Bool, true, false, List, [], ◌∷◌, ◌++◌, refl, sym, ap, ◌∙◌, cond, ◌⊎◌, inl, inr}
use Rattle.device_outside.specs.Lists as L
use Rattle.device_outside.specs.Lists.{is_in}
use Rattle.device_outside.specs.Slots.{AreShared}
use Rattle.subsystem_defs.specs.Subsystem.{Mounted}
use Rattle.subsystem_laws.specs.WholeStood.{Stood, IsMounted, AreMountedBy, no_more, one_more}

-- In a list or in another

or_assoc : (a b c : Bool) → cond a true (cond b true c) ≡ cond (cond a true b) true c
or_assoc true b c = refl
or_assoc false b c = refl

in_both : (k : ℕ) (xs ys : List ℕ) → is_in k (xs ++ ys) ≡ cond (is_in k xs) true (is_in k ys)
unfolding L.is_in
in_both k [] ys = refl
in_both k (x ∷ xs) ys = ap (λ (b : Bool). cond (k == x) true b) (in_both k xs ys) ∙ or_assoc (k == x) (is_in k xs) (is_in k ys)

in_none : (k : ℕ) → is_in k [] ≡ true → ⊥
unfolding L.is_in
in_none k e = cc

module _ (k : ℕ) (xs ys : List ℕ) where
  pub in_left : is_in k xs ≡ true → is_in k (xs ++ ys) ≡ true
  in_left e = in_both k xs ys ∙ ap (λ (b : Bool). cond b true (is_in k ys)) e

  pub in_right : is_in k ys ≡ true → is_in k (xs ++ ys) ≡ true
  in_right e = in_both k xs ys ∙ by_left (is_in k xs) (is_in k ys) e
    where
      by_left : (b c : Bool) → c ≡ true → cond b true c ≡ true
      by_left true c e = refl
      by_left false c e = e

  in_either : is_in k (xs ++ ys) ≡ true → (is_in k xs ≡ true) ⊎ (is_in k ys ≡ true)
  in_either e = by_left (is_in k xs) refl (sym (in_both k xs ys) ∙ e)
    where
      by_left : (b : Bool) → is_in k xs ≡ b → cond b true (is_in k ys) ≡ true → (is_in k xs ≡ true) ⊎ (is_in k ys ≡ true)
      by_left true e f = inl e
      by_left false e f = inr f

  pub out_left : is_in k (xs ++ ys) ≡ false → is_in k xs ≡ false
  out_left e = by_left (is_in k xs) (is_in k ys) (sym (in_both k xs ys) ∙ e)
    where
      by_left : (b c : Bool) → cond b true c ≡ false → b ≡ false
      by_left true c e = absurd (cc)
      by_left false c e = refl

  pub out_right : is_in k (xs ++ ys) ≡ false → is_in k ys ≡ false
  out_right e = by_left (is_in k xs) (is_in k ys) (sym (in_both k xs ys) ∙ e)
    where
      by_left : (b c : Bool) → cond b true c ≡ false → c ≡ false
      by_left true c e = absurd (cc)
      by_left false c e = e

  out_both : is_in k xs ≡ false → is_in k ys ≡ false → is_in k (xs ++ ys) ≡ false
  out_both e f = in_both k xs ys ∙ ap (λ (b : Bool). cond b true (is_in k ys)) e ∙ f

-- where it isn't in the one once it is in the other
out_by : (k : ℕ) (xs : List ℕ) → (is_in k xs ≡ true → ⊥) → is_in k xs ≡ false
out_by k xs f = by_case (is_in k xs) refl
  where
    by_case : (b : Bool) → is_in k xs ≡ b → b ≡ false
    by_case true e = absurd (f e)
    by_case false e = refl

pub not_both : (k : ℕ) (xs : List ℕ) → is_in k xs ≡ true → is_in k xs ≡ false → ⊥
not_both k xs e f = cc

-- The slots of all

unfoldable pub slots_of : {used taken : List ℕ} {xs : List Stood} {ms : List Mounted} → AreMountedBy used taken xs ms → List ℕ
slots_of (no_more f) = []
slots_of (one_more mine is apart rest) = mine ++ slots_of rest

all_used : {used taken : List ℕ} {xs : List Stood} {ms : List Mounted} → AreMountedBy used taken xs ms → (k : ℕ) → is_in k taken ≡ true → is_in k used ≡ true
all_used (no_more f) k e = f k e
all_used {taken = taken} (one_more mine is apart rest) k e = all_used rest k (in_right k mine taken e)

pub theirs_used : {used taken : List ℕ} {xs : List Stood} {ms : List Mounted} (s : AreMountedBy used taken xs ms) (k : ℕ) → is_in k (slots_of s) ≡ true →
    is_in k used ≡ true
unfolding slots_of
theirs_used (no_more f) k e = absurd (in_none k e)
theirs_used {used = used} {taken = taken} (one_more mine is apart rest) k e = by_place (in_either k mine (slots_of rest) e) (theirs_used rest k)
  where
    by_place : ((is_in k mine ≡ true) ⊎ (is_in k (slots_of rest) ≡ true)) → (is_in k (slots_of rest) ≡ true → is_in k used ≡ true) → is_in k used ≡ true
    by_place (inl own) f = all_used rest k (in_left k mine taken own)
    by_place (inr other) f = f other

pub theirs_apart : {used taken : List ℕ} {xs : List Stood} {ms : List Mounted} (s : AreMountedBy used taken xs ms) (k : ℕ) → is_in k (slots_of s) ≡ true →
    is_in k taken ≡ false
unfolding slots_of
theirs_apart (no_more f) k e = absurd (in_none k e)
theirs_apart {taken = taken} (one_more mine is apart rest) k e = by_place (in_either k mine (slots_of rest) e) (theirs_apart rest k)
  where
    by_place : ((is_in k mine ≡ true) ⊎ (is_in k (slots_of rest) ≡ true)) → (is_in k (slots_of rest) ≡ true → is_in k (mine ++ taken) ≡ false) →
        is_in k taken ≡ false
    by_place (inl own) f = apart k own
    by_place (inr other) f = out_right k mine taken (f other)

-- Others take other slots, and theirs are still in use

pub retaken : {used taken : List ℕ} {xs : List Stood} {ms : List Mounted} (s : AreMountedBy used taken xs ms) (now other : List ℕ) →
    ((k : ℕ) → is_in k (slots_of s) ≡ true → is_in k now ≡ true) → ((k : ℕ) → is_in k other ≡ true → is_in k now ≡ true) →
    ((k : ℕ) → is_in k (slots_of s) ≡ true → is_in k other ≡ false) → AreMountedBy now other xs ms
unfolding slots_of
retaken (no_more f) now other mine_used other_used off = no_more other_used
retaken {taken = taken} (one_more mine is apart rest) now other mine_used other_used off =
    one_more mine is (λ k e. off k (in_left k mine (slots_of rest) e))
    (retaken rest now (mine ++ other) (λ k e. mine_used k (in_right k mine (slots_of rest) e)) (λ k e. by_place k (in_either k mine other e))
    (λ k e. out_both k mine other (out_left k mine taken (theirs_apart rest k e)) (off k (in_right k mine (slots_of rest) e))))
  where
    by_place : (k : ℕ) → ((is_in k mine ≡ true) ⊎ (is_in k other ≡ true)) → is_in k now ≡ true
    by_place k (inl own) = mine_used k (in_left k mine (slots_of rest) own)
    by_place k (inr e) = other_used k e

-- The first one, and all others

module _ {used : List ℕ} {xs : List Stood} {ms : List Mounted} (taken mine : List ℕ) (apart : (k : ℕ) → is_in k mine ≡ true → is_in k taken ≡ false)
    (rest : AreMountedBy used (mine ++ taken) xs ms) where
  pub first_shared : AreShared used mine (slots_of rest ++ taken)
  first_shared = record {
    own = λ k e. all_used rest k (in_left k mine taken e);
    foreign = λ k e. by_place k (in_either k (slots_of rest) taken e);
    apart = λ k e. out_both k (slots_of rest) taken (out_by k (slots_of rest) (λ f. not_both k mine e (out_left k mine taken (theirs_apart rest k f))))
        (apart k e);
  }
    where
      by_place : (k : ℕ) → ((is_in k (slots_of rest) ≡ true) ⊎ (is_in k taken ≡ true)) → is_in k used ≡ true
      by_place k (inl e) = theirs_used rest k e
      by_place k (inr e) = all_used rest k (in_right k mine taken e)

  module _ (now own : List ℕ) (shared : AreShared now own (slots_of rest ++ taken)) where
    pub still_apart : (k : ℕ) → is_in k own ≡ true → is_in k taken ≡ false
    still_apart k e = out_right k (slots_of rest) taken (shared.apart k e)

    pub rest_now : AreMountedBy now (own ++ taken) xs ms
    rest_now =
        retaken rest now (own ++ taken) (λ k e. shared.foreign k (in_left k (slots_of rest) taken e)) (λ k e. by_place k (in_either k own taken e))
        (λ k e. out_both k own taken (out_by k own (λ f. not_both k (slots_of rest) e (out_left k (slots_of rest) taken (shared.apart k f))))
        (out_right k mine taken (theirs_apart rest k e)))
      where
        by_place : (k : ℕ) → ((is_in k own ≡ true) ⊎ (is_in k taken ≡ true)) → is_in k now ≡ true
        by_place k (inl e) = shared.own k e
        by_place k (inr e) = shared.foreign k (in_right k (slots_of rest) taken e)

-- One more device, which has no slot yet

pub one_mounted : {used taken : List ℕ} {xs : List Stood} {ms : List Mounted} {x : Stood} {m : Mounted} → AreMountedBy used taken xs ms →
    IsMounted [] x m → AreMountedBy used taken (xs ++ x ∷ []) (ms ++ m ∷ [])
one_mounted (no_more f) new = one_more [] new (λ k e. absurd (in_none k e)) (no_more f)
one_mounted (one_more mine is apart rest) new = one_more mine is apart (one_mounted rest new)
