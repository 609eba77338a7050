-- What slots given and given back leave: each device's slots are in use, and no two devices share one.
use Rattle.std.proofs.Common.{◌≡◌, ℕ, suc, ◌==◌, Bool, true, false, cond, List, [], ◌∷◌, length, refl, ap, subst, ◌∙◌, arith, zero, sym}
use Rattle.std.specs.Prelude.{replicate, nat_lt}
use Rattle.device_outside.specs.declared.port.SlotGrant.TheVariants.{Given, Denied, Down}
use Rattle.device_outside.specs.Lists as L
use Rattle.device_outside.specs.Lists.{is_in, with_number, less_one, less_all}
use Rattle.device_outside.specs.Pool as P
use Rattle.device_outside.specs.Pool.{
  Pool,
  Call,
  NextNotice,
  Touch,
  WantFrame,
  SetModified,
  SetClean,
  DropFrame,
  WantSlot,
  FreeSlot,
  TellWaiting,
  AnswerTo,
  IsAnswer,
  IsFree,
  answer,
  after,
  unnumbered,
  counted_slots,
}
use Rattle.device_outside.specs.Slots.{Owns, gives_back, slots_after, AreShared}

-- a number that was taken out of a list isn't there any more
in_less : (j k : ℕ) (xs : List ℕ) → is_in j (less_all k xs) ≡ true → is_in j xs ≡ true
unfolding L.is_in L.less_all
in_less j k [] e = e
in_less j k (x ∷ xs) e = go (k == x) (j == x) refl e (in_less j k xs)
  where
    go : (b c : Bool) → (j == x) ≡ c → is_in j (cond b (less_all k xs) (x ∷ less_all k xs)) ≡ true →
        (is_in j (less_all k xs) ≡ true → is_in j xs ≡ true) → cond c true (is_in j xs) ≡ true
    go b true p e f = refl
    go true false p e f = f e
    go false false p e f = f (subst (λ (v : Bool). cond v true (is_in j (less_all k xs)) ≡ true) p e)

not_in_less : (k : ℕ) (xs : List ℕ) → is_in k (less_all k xs) ≡ false
unfolding L.is_in L.less_all
not_in_less k [] = refl
not_in_less k (x ∷ xs) = go (k == x) refl (not_in_less k xs)
  where
    go : (b : Bool) → (k == x) ≡ b → is_in k (less_all k xs) ≡ false → is_in k (cond b (less_all k xs) (x ∷ less_all k xs)) ≡ false
    go true p e = e
    go false p e = ap (λ (v : Bool). cond v true (is_in k (less_all k xs))) p ∙ e

-- other numbers stay
others_stay : (j k : ℕ) (xs : List ℕ) → (j == k) ≡ false → is_in j xs ≡ true → is_in j (less_one k xs) ≡ true
unfolding L.is_in L.less_one
others_stay j k [] n e = e
others_stay j k (x ∷ xs) n e = go (k == x) (j == x) refl refl e (others_stay j k xs n)
  where
    go : (b c : Bool) → (k == x) ≡ b → (j == x) ≡ c → cond c true (is_in j xs) ≡ true →
        (is_in j xs ≡ true → is_in j (less_one k xs) ≡ true) → is_in j (cond b xs (x ∷ less_one k xs)) ≡ true
    go true true p r e f = let s : (j == k) ≡ true = grind arith in absurd cc
    go true false p r e f = e
    go false true p r e f = ap (λ (v : Bool). cond v true (is_in j (less_one k xs))) r
    go false false p r e f = ap (λ (v : Bool). cond v true (is_in j (less_one k xs))) r ∙ f e

-- and there is one fewer
one_fewer : (k : ℕ) (xs : List ℕ) → is_in k xs ≡ true → length xs ≡ suc (length (less_one k xs))
unfolding L.is_in L.less_one
one_fewer k [] e = absurd cc
one_fewer k (x ∷ xs) e = go (k == x) e (one_fewer k xs)
  where
    go : (b : Bool) → cond b true (is_in k xs) ≡ true → (is_in k xs ≡ true →
        length xs ≡ suc (length (less_one k xs))) → suc (length xs) ≡ suc (length (cond b xs (x ∷ less_one k xs)))
    go true e f = refl
    go false e f = ap suc (f e)

swapped : (b c d : Bool) → cond b true (cond c true d) ≡ cond c true (cond b true d)
swapped true true d = refl
swapped true false d = refl
swapped false true d = refl
swapped false false d = refl

-- a number that is put in is there beside the others
is_in_more : (j k : ℕ) (xs : List ℕ) → is_in j (with_number k xs) ≡ cond (j == k) true (is_in j xs)
unfolding L.is_in L.with_number
is_in_more j k [] = refl
is_in_more j k (x ∷ xs) = go (nat_lt x k) (is_in_more j k xs)
  where
    go : (b : Bool) → is_in j (with_number k xs) ≡ cond (j == k) true (is_in j xs) →
        is_in j (cond b (x ∷ with_number k xs) (k ∷ x ∷ xs)) ≡ cond (j == k) true (cond (j == x) true (is_in j xs))
    go true e = ap (λ (v : Bool). cond (j == x) true v) e ∙ swapped (j == x) (j == k) (is_in j xs)
    go false e = refl

one_more : (k : ℕ) (xs : List ℕ) → length (with_number k xs) ≡ suc (length xs)
unfolding L.with_number
one_more k [] = refl
one_more k (x ∷ xs) = go (nat_lt x k) (one_more k xs)
  where
    go : (b : Bool) → length (with_number k xs) ≡ suc (length xs) → length (cond b (x ∷ with_number k xs) (k ∷ x ∷ xs)) ≡ suc (suc (length xs))
    go true e = ap suc e
    go false e = refl

zeros_more : (n : ℕ) → with_number 0 (replicate n 0) ≡ replicate (suc n) 0
unfolding L.with_number
zeros_more zero = refl
zeros_more (suc n) = refl

-- a slot that is given is new to all
given_shared : (used mine others : List ℕ) (k : ℕ) → is_in k used ≡ false → AreShared used mine others → AreShared (with_number k used) (k ∷ mine) others
unfolding L.is_in
given_shared used mine others k free s = record { own = own; foreign = foreign; apart = apart }
  where
    own : (j : ℕ) → cond (j == k) true (is_in j mine) ≡ true → is_in j (with_number k used) ≡ true
    own j e = is_in_more j k used ∙ go (j == k) e
      where
        go : (b : Bool) → cond b true (is_in j mine) ≡ true → cond b true (is_in j used) ≡ true
        go true x = refl
        go false x = s.own j x

    foreign : (j : ℕ) → is_in j others ≡ true → is_in j (with_number k used) ≡ true
    foreign j e = is_in_more j k used ∙ go (j == k)
      where
        go : (b : Bool) → cond b true (is_in j used) ≡ true
        go true = refl
        go false = s.foreign j e

    apart : (j : ℕ) → cond (j == k) true (is_in j mine) ≡ true → is_in j others ≡ false
    apart j e = go (j == k) (is_in j others) refl refl e
      where
        go : (b c : Bool) → (j == k) ≡ b → is_in j others ≡ c → cond b true (is_in j mine) ≡ true → is_in j others ≡ false
        go b false p r x = r
        go true true p r x = let same : j ≡ k = grind arith in let in_use : is_in k used ≡ true =
            subst (λ (v : ℕ). is_in v used ≡ true) same (s.foreign j r) in absurd cc
        go false true p r x = s.apart j x

-- one that is given back is nobody's
freed_shared : (used mine others : List ℕ) (k : ℕ) → is_in k mine ≡ true → AreShared used mine others → AreShared (less_one k used) (less_all k mine) others
freed_shared used mine others k own s = record {
  own = λ j e. kept j e (j == k) refl;
  foreign =
      λ j e. foreign j e (j == k) refl;
  apart = λ j e. s.apart j (in_less j k mine e);
}
  where
    kept : (j : ℕ) → is_in j (less_all k mine) ≡ true → (b : Bool) → (j == k) ≡ b → is_in j (less_one k used) ≡ true
    kept j e true p = let same : j ≡ k = grind arith in let f : is_in k (less_all k mine) ≡ true =
        subst (λ (v : ℕ). is_in v (less_all k mine) ≡ true) same e in let n = not_in_less k mine in absurd cc
    kept j e false p = others_stay j k used p (s.own j (in_less j k mine e))

    foreign : (j : ℕ) → is_in j others ≡ true → (b : Bool) → (j == k) ≡ b → is_in j (less_one k used) ≡ true
    foreign j e true p = let same : j ≡ k = grind arith in let f : is_in k others ≡ true =
        subst (λ (v : ℕ). is_in v others ≡ true) same e in let n = s.apart k own in absurd cc
    foreign j e false p = others_stay j k used p (s.foreign j e)

pub shared_after : (p : Pool) (c : Call) (a : AnswerTo c) (mine others : List ℕ) → Owns mine c → IsFree p.used c a →
    AreShared p.used mine others → AreShared (after p c a).used (slots_after mine c a) others
unfolding P.after
shared_after p (NextNotice d) a mine others o f s = s
shared_after p (Touch d t) a mine others o f s = s
shared_after p (WantFrame d t) a mine others o f s = s
shared_after p (SetModified d t) a mine others o f s = s
shared_after p (SetClean d t) a mine others o f s = s
shared_after p (DropFrame d t) a mine others o f s = s
shared_after p WantSlot (Given k) mine others o f s = given_shared p.used mine others k f s
shared_after p WantSlot Denied mine others o f s = s
shared_after p WantSlot Down mine others o f s = s
shared_after p (FreeSlot k) a mine others o f s = freed_shared p.used mine others k o s
shared_after p (TellWaiting d n) a mine others o f s = s

-- what is free of all that is in use is free of a device's own
pub free_of_own : (p : Pool) (c : Call) (a : AnswerTo c) (mine others : List ℕ) → AreShared p.used mine others → IsFree p.used c a → IsFree mine c a
free_of_own p (NextNotice d) a mine others s f = f
free_of_own p (Touch d t) a mine others s f = f
free_of_own p (WantFrame d t) a mine others s f = f
free_of_own p (SetModified d t) a mine others s f = f
free_of_own p (SetClean d t) a mine others s f = f
free_of_own p (DropFrame d t) a mine others s f = f
free_of_own p WantSlot (Given k) mine others s f = go (is_in k mine) refl
  where
    go : (b : Bool) → is_in k mine ≡ b → is_in k mine ≡ false
    go true e = let i = s.own k e in absurd cc
    go false e = e
free_of_own p WantSlot Denied mine others s f = f
free_of_own p WantSlot Down mine others s f = f
free_of_own p (FreeSlot k) a mine others s f = f
free_of_own p (TellWaiting d n) a mine others s f = f

zeros : (xs : List ℕ) → length {A = ℕ} (replicate (length xs) 0) ≡ length xs
zeros [] = refl
zeros (x ∷ xs) = ap suc (zeros xs)

-- the pool with counted slots answers alike, and moves alike
pub counted_answer : (p : Pool) (c : Call) → answer (counted_slots p) c ≡ answer p c
unfolding P.answer
counted_answer p (NextNotice d) = refl
counted_answer p (Touch d t) = refl
counted_answer p (WantFrame d t) = refl
counted_answer p (SetModified d t) = refl
counted_answer p (SetClean d t) = refl
counted_answer p (DropFrame d t) = refl
counted_answer p WantSlot = rw (zeros p.used) refl
counted_answer p (FreeSlot k) = refl
counted_answer p (TellWaiting d n) = refl

pub counted_after : (p : Pool) (c : Call) (a : AnswerTo c) → gives_back c ≡ false → after (counted_slots p) c (unnumbered c a) ≡ counted_slots (after p c a)
unfolding P.after
counted_after p (NextNotice d) a o = refl
counted_after p (Touch d t) a o = refl
counted_after p (WantFrame d t) a o = refl
counted_after p (SetModified d t) a o = refl
counted_after p (SetClean d t) a o = refl
counted_after p (DropFrame d t) a o = refl
counted_after p WantSlot (Given k) o = ap (λ (v : List ℕ). record p { used = v })
    (zeros_more (length p.used) ∙ ap (λ (n : ℕ). replicate n 0) (sym (one_more k p.used)))
counted_after p WantSlot Denied o = refl
counted_after p WantSlot Down o = refl
counted_after p (FreeSlot k) a o = absurd cc
counted_after p (TellWaiting d n) a o = refl

-- one slot that is given back is one fewer
pub counted_free : (p : Pool) (k : ℕ) → is_in k p.used ≡ true → after (counted_slots p) (FreeSlot 0) tt ≡ counted_slots (after p (FreeSlot k) tt)
unfolding P.after L.less_one
counted_free p k e = ap (λ (n : ℕ). record p { used = less_one 0 (replicate n 0) }) (one_fewer k p.used e)

pub owns_others : (mine : List ℕ) (c : Call) → gives_back c ≡ false → Owns mine c
owns_others mine (NextNotice d) e = tt
owns_others mine (Touch d t) e = tt
owns_others mine (WantFrame d t) e = tt
owns_others mine (SetModified d t) e = tt
owns_others mine (SetClean d t) e = tt
owns_others mine (DropFrame d t) e = tt
owns_others mine WantSlot e = tt
owns_others mine (FreeSlot k) e = absurd cc
owns_others mine (TellWaiting d n) e = tt
