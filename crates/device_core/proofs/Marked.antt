-- How many tracks are marked, counted over their numbers and in their list.
use Rattle.std.proofs.Common.{◌≡◌, ◌≤◌, ◌+◌, ◌∙◌, arith, ℕ, zero, suc, Bool, List, [], ◌∷◌, length, cond, refl, ap, sym, false}
use Rattle.std.specs.Prelude.{if◌then◌else◌, count_by, slice_index_or}
use Rattle.std.proofs.lemmas.List.Sums.{sum_by-cons}
use Rattle.track_table.specs.Tracks as tracks
use Rattle.track_table.specs.Tracks.{count_below}

sum_moved : (x a b c : ℕ) → x ≡ a + b → x + c ≡ a + (b + c)
sum_moved x a b c is = omega (arith, is)

no_more : (a : ℕ) → 0 + a ≡ a + 0
no_more a = omega arith

below_front : (n : ℕ) (f : ℕ → Bool) → count_below (suc n) f ≡ (if f 0 then 1 else 0) + count_below n (λ t. f (suc t))
unfolding tracks.count_below
below_front zero f = no_more (if f 0 then 1 else 0)
below_front (suc n) f =
    sum_moved (count_below (suc n) f) (if f 0 then 1 else 0) (count_below n (λ t. f (suc t))) (if f (suc n) then 1 else 0) (below_front n f)

below_none : (n : ℕ) → count_below n (λ t. slice_index_or [] t false) ≡ 0
unfolding tracks.count_below
below_none zero = refl
below_none (suc n) = ap (λ (k : ℕ). k + 0) (below_none n)

pub count_all : (l : List Bool) (n : ℕ) → length l ≤ n → count_below n (λ t. slice_index_or l t false) ≡ count_by (λ (b : Bool). b) l
count_all [] n few = below_none n
count_all (x ∷ l) zero few = absurd (omega (arith, few))
count_all (x ∷ l) (suc n) few =
    below_front n (λ t. slice_index_or (x ∷ l) t false)
    ∙ ap (λ (k : ℕ). (if x then 1 else 0) + k) (count_all l n (omega (arith, few)))
    ∙ sym (sum_by-cons (λ (b : Bool). cond b 1 0) x l)
