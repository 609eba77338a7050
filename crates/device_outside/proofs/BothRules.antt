-- How two interactions are walked together, and what of it holds of the one alone.
use Rattle.std.proofs.Common.{◌≡◌, ℕ, Bool, true, false, cond, List, Option, Some, None, refl, sym, subst}
use Rattle.device_outside.specs.Pool.{Call}
use Rattle.device_outside.specs.Slots.{MayAsk, gives_back}
use Rattle.device_outside.specs.Interaction.{Interaction, and_then}
use Rattle.device_outside.specs.After as W
use Rattle.device_outside.specs.After.{Holdings, After, Surely}
use Rattle.device_outside.specs.Both.{Both, both_done, both_try, both_ask, both_free, both_read, both_write, both_tell}
use Rattle.device_outside.proofs.SharedSlots.{owns_others}

may_ask : (slots : Option (List ℕ)) (c : Call) → gives_back c ≡ false → MayAsk slots c
may_ask None c e = tt
may_ask (Some mine) c e = owns_others mine c e

-- the other one's end, of which q holds
pub record Other {R S A T B : Type 0} (q : S → A → T → B → Holdings R → Type 0) (s : S) (a : A) (h : Holdings R) : Type 0 where
  pub state : T
  pub answer : B
  pub is : q s a state answer h

module _ {R O I S A T B : Type 0} {z : R} {g : O} {q : S → A → T → B → Holdings R → Type 0} where
  pub on_test : (b : Bool) {x y : Interaction R I S A} {u v : Interaction O I T B} {h : Holdings R} →
      (b ≡ true → Both z g q x u h) → (b ≡ false → Both z g q y v h) → Both z g q (cond b x y) (cond b u v) h
  on_test true f k = f refl
  on_test false f k = k refl

  -- two tests that come out alike
  pub on_tests : (b c : Bool) {x y : Interaction R I S A} {u v : Interaction O I T B} {h : Holdings R} → c ≡ b →
      (b ≡ true → Both z g q x u h) → (b ≡ false → Both z g q y v h) → Both z g q (cond b x y) (cond c u v) h
  on_tests b c {x} {y} {u} {v} {h} e f k = subst (λ (d : Bool). Both z g q (cond b x y) (cond d u v) h) (sym e) (on_test b f k)

  pub first_then : {C D E F : Type 0} {r : C → E → D → F → Holdings R →
      Type 0} {i : Interaction R I S A} {j : Interaction O I T B} (f : S → A → Interaction R I C E) (k : T → B →
      Interaction O I D F) {h : Holdings R} → Both z g q i j h →
      ((s : S) (a : A) (m : T) (b : B) (n : Holdings R) → q s a m b n → Both z g r (f s a) (k m b) n) →
      Both z g r (and_then i f) (and_then j k) h
  first_then f k (both_done x) w = w _ _ _ _ _ x
  first_then f k (both_try x y) w = both_try (first_then f k x w) (first_then f k y w)
  first_then f k (both_ask e x) w = both_ask e (λ a m. first_then f k (x a m) w)
  first_then f k (both_free o x) w = both_free o (first_then f k x w)
  first_then f k (both_read x y) w = both_read (first_then f k x w) (first_then f k y w)
  first_then f k (both_write x y) w = both_write (first_then f k x w) (λ v. first_then f k (y v) w)
  first_then f k (both_tell x) w = both_tell (λ r. first_then f k (x r) w)

  other_after : (i : Interaction R I S A) (j : Interaction O I T B) (h : Holdings R) → Both z g q i j h → After z i h (Other q)
  unfolding W.After
  other_after i j h (both_done x) = record { state = _; answer = _; is = x }
  other_after i j h (both_try x y) = (other_after _ _ h x, other_after _ _ h y)
  other_after i j h (both_ask {call = call} e x) = (may_ask h.slots call e, λ a m. other_after _ _ _ (x a m))
  other_after i j h (both_free o x) = (o, λ a m. other_after _ _ _ x)
  other_after i j h (both_read x y) = (other_after _ _ h x, other_after _ _ h y)
  other_after i j h (both_write x y) = (other_after _ _ _ x, λ v. other_after _ _ _ (y v))
  other_after i j h (both_tell x) = λ r. other_after _ _ h (x r)

  -- what is walked together holds of the one alone
  pub surely_both : {i : Interaction R I S A} {j : Interaction O I T B} {h : Holdings R} → Both z g q i j h → Surely z i h (Other q)
  surely_both {i = i} {j = j} {h = h} x = record { holds = other_after i j h x }
