-- One line of a deck on.
use Rattle.std.proofs.Common.{
  ◌≡◌,
  ◌<◌,
  ◌≤◌,
  ◌+◌,
  ◌++◌,
  ◌∷◌,
  [],
  ℕ,
  List,
  Option,
  Some,
  Bool,
  true,
  false,
  length,
  drop,
  get_or,
  cond,
  map,
  refl,
  ap,
  subst,
  ◌∙◌,
  sym,
  arith,
  zero,
  suc,
  take,
  append_assoc,
}
use Rattle.std.specs.Prelude.{◌&&◌, ◌==◌, nat_lt}
use Rattle.std.specs.List.{flat_map}
use Rattle.std.proofs.lemmas.List.{append-nil, at_drop_more, at_drop_all, take_all, take_more}
use Rattle.deck_text.specs.declared.line.DeviceLine.{DeviceLine}
use Rattle.deck_text.specs.declared.line.FaultLine.{FaultLine}
use Rattle.subsystem_core.specs.Places.{are_rising, is_before}
use Rattle.subsystem_defs.specs.Decks.{failing_of, is_same}
use Rattle.deck_run.specs.Opening.{is_open_device, is_behind, are_open_behind, numbers_in}

module _ (fs : List FaultLine) (write : Bool) (n i : ℕ) (f : FaultLine) (inside : i < length fs) (is : f ≡ get_or fs i f) where
  pub failing_more : failing_of write n (drop i fs)
      ≡ cond ((f.device == n) && is_same f.write write) (f.call ∷ failing_of write n (drop (i + 1) fs)) (failing_of write n (drop (i + 1) fs))
  failing_more =
      at_drop_more (failing_of write n) fs i f inside
      ∙ ap (λ (x : FaultLine). cond ((x.device == n) && is_same x.write write) (x.call ∷ failing_of write n (drop (i + 1) fs))
      (failing_of write n (drop (i + 1) fs))) (sym is)

pub failing_none : (fs : List FaultLine) (write : Bool) (n i : ℕ) → length fs ≤ i → failing_of write n (drop i fs) ≡ []
failing_none fs write n i past = at_drop_all (failing_of write n) fs i past

-- What open devices are

and_left : (a b : Bool) → (a && b) ≡ true → a ≡ true
and_left true b is = refl
and_left false b is = is

and_right : (a b : Bool) → (a && b) ≡ true → b ≡ true
and_right true b is = is
and_right false b is = absurd (cc)

if_so : (b c : Bool) → cond b c false ≡ true → b ≡ true
if_so true c is = refl
if_so false c is = is

then_so : (b c : Bool) → cond b c false ≡ true → c ≡ true
then_so true c is = is
then_so false c is = absurd (cc)

pub open_at : (ds : List DeviceLine) (i : ℕ) (last : Option ℕ) (d : DeviceLine) → i < length ds → d ≡ get_or ds i d →
    are_open_behind last ds ≡ true → is_open_device d ≡ true
open_at [] i last d within is all = absurd (omega arith)
open_at (x ∷ ds) zero last d within is all =
    subst (λ (y : DeviceLine). is_open_device y ≡ true) (sym is) (and_right (is_behind last x.number) (is_open_device x) (if_so _ _ all))
open_at (x ∷ ds) (suc i) last d within is all = open_at ds i (Some x.number) d (omega arith) is (then_so _ _ all)

rising_behind : (n : ℕ) (ds : List DeviceLine) → are_open_behind (Some n) ds ≡ true → is_before n (numbers_in ds) ≡ true
rising_behind n [] all = refl
rising_behind n (d ∷ ds) all = and_left (nat_lt n d.number) (is_open_device d) (if_so _ _ all)

both : (a b : Bool) → a ≡ true → b ≡ true → (a && b) ≡ true
both a b x y = rw (x, y) refl

pub numbers_rise : (ds : List DeviceLine) (last : Option ℕ) → are_open_behind last ds ≡ true → are_rising (numbers_in ds) ≡ true
numbers_rise [] last all = refl
numbers_rise (d ∷ ds) last all =
    both _ _ (rising_behind d.number ds (then_so _ _ all)) (numbers_rise ds (Some d.number) (then_so _ _ all))

-- One device more

pub mapped_more : {A B : Type 0} (f : A → B) (xs : List A) (x : A) → map f (xs ++ x ∷ []) ≡ map f xs ++ f x ∷ []
mapped_more f [] x = refl
mapped_more f (y ∷ xs) x = ap (λ l. f y ∷ l) (mapped_more f xs x)

-- the items so far, and all of them
pub mapped_on : {A B : Type 0} (f : A → B) (xs : List A) (i : ℕ) (x : A) (olds news : List B) (y : B) → i < length xs → x ≡ get_or xs i x → y ≡ f x →
    olds ≡ map f (take i xs) → news ≡ olds ++ y ∷ [] → news ≡ map f (take (i + 1) xs)
mapped_on {A} {B} f xs i x olds news y within is made before now =
    now ∙ ap (λ (l : List B). l ++ y ∷ []) before ∙ ap (λ (z : B). map f (take i xs) ++ z ∷ []) made ∙ sym (mapped_more f (take i xs) x)
    ∙ ap (map f) (ap (λ (z : A). take i xs ++ z ∷ []) is ∙ sym (take_more xs i x within))

pub mapped_all : {A B : Type 0} (f : A → B) (xs : List A) (i : ℕ) (news : List B) → length xs ≤ i → news ≡ map f (take i xs) → news ≡ map f xs
mapped_all f xs i news past before = before ∙ ap (map f) (take_all i xs past)

flat_one : {A B : Type 0} (f : A → List B) (xs : List A) (x : A) → flat_map f (xs ++ x ∷ []) ≡ flat_map f xs ++ f x
flat_one f [] x = append-nil (f x)
flat_one {A} {B} f (y ∷ xs) x = ap (λ (l : List B). f y ++ l) (flat_one f xs x) ∙ sym (append_assoc (f y) (flat_map f xs) (f x))

pub flat_on : {A B : Type 0} (f : A → List B) (xs : List A) (i : ℕ) (x : A) (first olds news : List B) → i < length xs → x ≡ get_or xs i x →
    olds ≡ first ++ flat_map f (take i xs) → news ≡ olds ++ f x → news ≡ first ++ flat_map f (take (i + 1) xs)
flat_on {A} {B} f xs i x first olds news within is before now =
    now ∙ ap (λ (l : List B). l ++ f x) before ∙ append_assoc first (flat_map f (take i xs)) (f x)
    ∙ ap (λ (l : List B). first ++ l) (sym (flat_one f (take i xs) x)
    ∙ ap (flat_map f) (ap (λ (z : A). take i xs ++ z ∷ []) is ∙ sym (take_more xs i x within)))

pub flat_all : {A B : Type 0} (f : A → List B) (xs : List A) (i : ℕ) (first news : List B) → length xs ≤ i →
    news ≡ first ++ flat_map f (take i xs) → news ≡ first ++ flat_map f xs
flat_all {A} {B} f xs i first news past before = before ∙ ap (λ (l : List A). first ++ flat_map f l) (take_all i xs past)
