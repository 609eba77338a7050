-- A track is stale on one of two sides where one of them counts some.
use Rattle.std.proofs.Common.{◌≡◌, ◌+◌, ◌==◌, zero, suc, ℕ, Bool, true, false, not, Option, Some, None, is_some, refl, sym, ap, ◌∙◌, arith}
use Rattle.std.specs.Prelude.{◌||◌, if◌then◌else◌}
use Rattle.track_table.specs.Tracks as T
use Rattle.track_table.specs.Tracks.{count_below, least, or_else}

some_else : (l : Option ℕ) (n : ℕ) → is_some (or_else l (Some n)) ≡ true
some_else None n = refl
some_else (Some t) n = refl

none_else : (l : Option ℕ) → or_else l None ≡ l
none_else None = refl
none_else (Some t) = refl

one_more : (a : ℕ) → not ((a + 1) == 0) ≡ true
one_more a = let e : ((a + 1) == 0) ≡ false = grind arith in ap not e

or_true : (b : Bool) → (b || true) ≡ true
or_true true = refl
or_true false = refl

step : (a b : ℕ) (x y : Bool) (l : Option ℕ) (n : ℕ) → (not (a == 0) || not (b == 0)) ≡ is_some l →
    (not ((a + (if x then 1 else 0)) == 0) || not ((b + (if y then 1 else 0)) == 0)) ≡ is_some (or_else l (if x || y then Some n else None))
step a b true y l n e = ap (λ (z : Bool). z || not ((b + (if y then 1 else 0)) == 0)) (one_more a) ∙ sym (some_else l n)
step a b false true l n e = ap (λ (z : Bool). not ((a + 0) == 0) || z) (one_more b) ∙ or_true (not ((a + 0) == 0)) ∙ sym (some_else l n)
step a b false false l n e =
    let x : a + 0 ≡ a = omega arith in
    let y : b + 0 ≡ b = omega arith in
    ap (λ (k : ℕ). not (k == 0) || not ((b + 0) == 0)) x ∙ ap (λ (k : ℕ). not (a == 0) || not (k == 0)) y ∙ e ∙ ap is_some (sym (none_else l))

pub some_counted : (n : ℕ) (p q : ℕ → Bool) → (not (count_below n p == 0) || not (count_below n q == 0)) ≡ is_some (least n (λ t. p t || q t))
unfolding T.count_below T.least
some_counted zero p q = refl
some_counted (suc n) p q = step (count_below n p) (count_below n q) (p n) (q n) (least n (λ t. p t || q t)) n (some_counted n p q)
