-- How a device's interaction and its twin on marks are walked together.
use Rattle.std.proofs.Common.{
  ◌≡◌,
  ◌<◌,
  ◌≤◌,
  ℕ,
  zero,
  suc,
  Bool,
  true,
  false,
  List,
  [],
  ◌∷◌,
  Option,
  Some,
  None,
  is_some,
  map,
  set,
  get_or,
  length,
  refl,
  ap,
  subst,
  ◌∙◌,
  arith,
}
use Rattle.std.proofs.lemmas.List.{length-set}
use Rattle.std.specs.Prelude.{option_map, if◌then◌else◌}
use Rattle.ckd_types.specs.declared.paths.Side.{Side}
use Rattle.ckd_types.specs.declared.paths.Side.TheVariants.{A, B}
use Rattle.ckd_types.specs.declared.record.Track.{Track}
use Rattle.track_image.specs.Image.{Image}
use Rattle.device_outside.specs.After.{Holdings, with_held}
use Rattle.device_outside.specs.Both.{Both, both_done, both_try, both_ask, both_free, both_read, both_write, both_tell}
use Rattle.device_outside.specs.Interaction.{Interaction, Done, and_then}
use Rattle.device_outside.proofs.BothRules.{first_then}
use Rattle.device_defs.specs.Losses as L
use Rattle.device_defs.specs.Losses.{over}
use Rattle.device_defs.specs.Marks.{MarksStore, marks_of}
use Rattle.device_defs.specs.Sound.{DeviceStore}
use Rattle.device_laws.specs.Agrees.{Held}
use Rattle.device_laws.specs.Twin.{Claim, Twins}
use Rattle.device_laws.proofs.Always as A
use Rattle.device_laws.proofs.Always.{Behind, Always}

-- Places of lists

pub get_map : {X Y : Type 0} (f : X → Y) (xs : List (Option X)) (t : ℕ) → get_or (map (option_map f) xs) t None ≡ option_map f (get_or xs t None)
get_map f [] t = refl
get_map f (x ∷ xs) zero = refl
get_map f (x ∷ xs) (suc t) = get_map f xs t

pub set_map : {X Y : Type 0} (f : X → Y) (xs : List (Option X)) (t : ℕ) (x : Option X) →
    map (option_map f) (set xs t x) ≡ set (map (option_map f) xs) t (option_map f x)
set_map f [] t x = refl
set_map f (y ∷ ys) zero x = refl
set_map f (y ∷ ys) (suc t) x = ap (λ (r : List (Option _)). option_map f y ∷ r) (set_map f ys t x)

pub get_plain : {X Y : Type 0} (f : X → Y) (xs : List X) (t : ℕ) (d : X) → get_or (map f xs) t (f d) ≡ f (get_or xs t d)
get_plain f [] t d = refl
get_plain f (x ∷ xs) zero d = refl
get_plain f (x ∷ xs) (suc t) d = get_plain f xs t d

pub set_plain : {X Y : Type 0} (f : X → Y) (xs : List X) (t : ℕ) (x : X) → map f (set xs t x) ≡ set (map f xs) t (f x)
set_plain f [] t x = refl
set_plain f (y ∷ ys) zero x = refl
set_plain f (y ∷ ys) (suc t) x = ap (λ (r : List _). f y ∷ r) (set_plain f ys t x)

pub some_map : {X Y : Type 0} (f : X → Y) (o : Option X) → is_some (option_map f o) ≡ is_some o
some_map f None = refl
some_map f (Some x) = refl

-- Two interactions

pub both_behind : {R O I S A T B : Type 0} {z : R} {g : O} {q : S → A → T → B → Holdings R → Type 0} {p : S → A → Type 0}
    (i : Interaction R I S A) (j : Interaction O I T B) (h : Holdings R) → Both z g q i j h → Behind i p →
    Both z g (λ s a m b k. q s a m b k × p s a) i j h
unfolding A.Behind
both_behind i j h (both_done x) c = both_done (x, c)
both_behind i j h (both_try x y) c = both_try (both_behind _ _ h x (c true)) (both_behind _ _ h y (c false))
both_behind i j h (both_ask e x) c = both_ask e (λ a m. both_behind _ _ _ (x a m) (c a))
both_behind i j h (both_free o x) c = both_free o (both_behind _ _ _ x (c tt))
both_behind i j h (both_read x y) c = both_read (both_behind _ _ h x (c None)) (both_behind _ _ h y (c (Some _)))
both_behind i j h (both_write x y) c = both_write (both_behind _ _ _ x (c true)) (λ v. both_behind _ _ _ (y v) (c false))
both_behind i j h (both_tell x) c = both_tell (λ r. both_behind _ _ h (x r) (c r))

-- volumes stay as long as they are
held_long : {R : Type 0} (h : Holdings R) (side : Side) (t : ℕ) (r : R) →
    (length (with_held h side t r).a ≡ length h.a) × (length (with_held h side t r).b ≡ length h.b)
held_long h A t r = (length-set h.a t r, refl)
held_long h B t r = (refl, length-set h.b t r)

pub both_long : {R O I S A T B : Type 0} {z : R} {g : O} {q : S → A → T → B → Holdings R → Type 0} (n m : ℕ)
    (i : Interaction R I S A) (j : Interaction O I T B) (h : Holdings R) → length h.a ≡ n → length h.b ≡ m → Both z g q i j h →
    Both z g (λ s a t b k. q s a t b k × ((length k.a ≡ n) × (length k.b ≡ m))) i j h
both_long n m i j h a b (both_done x) = both_done (x, (a, b))
both_long n m i j h a b (both_try x y) = both_try (both_long n m _ _ h a b x) (both_long n m _ _ h a b y)
both_long n m i j h a b (both_ask e x) = both_ask e (λ c may. both_long n m _ _ _ a b (x c may))
both_long n m i j h a b (both_free o x) = both_free o (both_long n m _ _ _ a b x)
both_long n m i j h a b (both_read x y) = both_read (both_long n m _ _ h a b x) (both_long n m _ _ h a b y)
both_long n m i j h a b (both_write {side} {t} {r} x y) =
    let l = held_long h side t in
    both_write (both_long n m _ _ _ ((l r).0 ∙ a) ((l r).1 ∙ b) x) (λ v. both_long n m _ _ _ ((l v).0 ∙ a) ((l v).1 ∙ b) (y v))
both_long n m i j h a b (both_tell x) = both_tell (λ r. both_long n m _ _ h a b (x r))

pub both_weaker : {R O I S A T B : Type 0} {z : R} {g : O} {p q : S → A → T → B → Holdings R → Type 0}
    (i : Interaction R I S A) (j : Interaction O I T B) (h : Holdings R) →
    ((s : S) (a : A) (m : T) (b : B) (k : Holdings R) → p s a m b k → q s a m b k) → Both z g p i j h → Both z g q i j h
both_weaker i j h f (both_done x) = both_done (f _ _ _ _ _ x)
both_weaker i j h f (both_try x y) = both_try (both_weaker _ _ h f x) (both_weaker _ _ h f y)
both_weaker i j h f (both_ask e x) = both_ask e (λ a m. both_weaker _ _ _ f (x a m))
both_weaker i j h f (both_free o x) = both_free o (both_weaker _ _ _ f x)
both_weaker i j h f (both_read x y) = both_read (both_weaker _ _ h f x) (both_weaker _ _ h f y)
both_weaker i j h f (both_write x y) = both_write (both_weaker _ _ _ f x) (λ v. both_weaker _ _ _ f (y v))
both_weaker i j h f (both_tell x) = both_tell (λ r. both_weaker _ _ h f (x r))

module _ {A B : Type 0} {q : Claim A B} {h : Held} where
  pub twin_done : {v w : List Track} {s : DeviceStore} {a : A} {b : B} → q v w s a b h → Twins q (Done s a) (Done (marks_of v w s) b) h
  twin_done {v} {w} x = both_done (record { plain = v; firm = w; marks = refl; is = x })

  pub twin_ends : {v w : List Track} {s : DeviceStore} {m : MarksStore} {a : A} {b : B} → marks_of v w s ≡ m → q v w s a b h → Twins q (Done s a) (Done m b) h
  twin_ends {v} {w} e x = both_done (record { plain = v; firm = w; marks = e; is = x })

  -- one, and then another over the twin that it left
  pub twin_then : {C D : Type 0} {p : Claim C D} {i : Interaction (List ℕ) Image DeviceStore C} {j : Interaction Bool Image MarksStore D}
      (f : DeviceStore → C → Interaction (List ℕ) Image DeviceStore A) (g : MarksStore → D → Interaction Bool Image MarksStore B) →
      Twins p i j h → ((v w : List Track) (s : DeviceStore) (c : C) (d : D) (k : Held) → p v w s c d k → Twins q (f s c) (g (marks_of v w s) d) k) →
      Twins q (and_then i f) (and_then j g) h
  twin_then f g x w = first_then f g x (λ s c m d k e. rw (← e.marks) (w e.plain e.firm s c d k e.is))

  -- what holds of the device's alone, whatever is answered, holds beside it
  pub twin_always : {i : Interaction (List ℕ) Image DeviceStore A} {j : Interaction Bool Image MarksStore B} {p : DeviceStore → A → Type 0} →
      Twins q i j h → Always i p → Twins (λ v w s a b k. q v w s a b k × p s a) i j h
  twin_always {i = i} {j = j} {p = p} x c =
      both_weaker i j h (λ s a m b k e. record { plain = e.0.plain; firm = e.0.firm; marks = e.0.marks; is = (e.0.is, e.1) })
      (both_behind i j h x c.holds)

  pub twin_weaker : {p : Claim A B} {i : Interaction (List ℕ) Image DeviceStore A} {j : Interaction Bool Image MarksStore B} → Twins p i j h →
      ((v w : List Track) (s : DeviceStore) (a : A) (b : B) (k : Held) → p v w s a b k → q v w s a b k) → Twins q i j h
  twin_weaker {i = i} {j = j} x f =
      both_weaker i j h (λ s a m b k e. record { plain = e.plain; firm = e.firm; marks = e.marks; is = f e.plain e.firm s a b k e.is }) x

-- Changes without a question

pub record Pair (q : List Track → List Track → DeviceStore → Type 0) (s : DeviceStore) (m : MarksStore) : Type 0 where
  pub plain : List Track
  pub firm : List Track
  pub marks : marks_of plain firm s ≡ m
  pub is : q plain firm s

module _ {q : List Track → List Track → DeviceStore → Type 0} where
  pub pair_is : {v w : List Track} {s : DeviceStore} → q v w s → Pair q s (marks_of v w s)
  pair_is {v} {w} x = record { plain = v; firm = w; marks = refl; is = x }

  pub pair_on : {p : List Track → List Track → DeviceStore → Type 0} {s : DeviceStore} {m : MarksStore} (f : DeviceStore → DeviceStore)
      (g : MarksStore → MarksStore) → Pair p s m → ((v w : List Track) → p v w s → Pair q (f s) (g (marks_of v w s))) → Pair q (f s) (g m)
  pair_on {s = s} f g x w = subst (λ (n : MarksStore). Pair q (f s) (g n)) x.marks (w x.plain x.firm x.is)

  pub pair_weaker : {p : List Track → List Track → DeviceStore → Type 0} {s : DeviceStore} {m : MarksStore} → Pair p s m →
      ((v w : List Track) → p v w s → q v w s) → Pair q s m
  pair_weaker x f = record { plain = x.plain; firm = x.firm; marks = x.marks; is = f x.plain x.firm x.is }

  pub pair_if : {s z : DeviceStore} {m n : MarksStore} (b : Bool) → (b ≡ true → Pair q s m) → (b ≡ false → Pair q z n) →
      Pair q (if b then s else z) (if b then m else n)
  pair_if true f g = f refl
  pair_if false f g = g refl

  -- each track in turn
  pub pair_over : (most : ℕ) (f : ℕ → DeviceStore → DeviceStore) (g : ℕ → MarksStore → MarksStore) →
      ((v w : List Track) (z : DeviceStore) (n : ℕ) → n < most → q v w z → Pair q (f n z) (g n (marks_of v w z))) →
      (v w : List Track) (s : DeviceStore) (n : ℕ) → n ≤ most → q v w s → Pair q (over n f s) (over n g (marks_of v w s))
  unfolding L.over
  pair_over most f g step v w s zero le x = pair_is x
  pair_over most f g step v w s (suc n) le x =
      pair_on (f n) (g n) (pair_over most f g step v w s n (omega arith) x) (λ y u e. step y u (over n f s) n (omega arith) e)
