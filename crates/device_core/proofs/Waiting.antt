-- The paths whose resets wait, by what is kept of each path.
use Rattle.std.proofs.Common.{◌≡◌, ◌∙◌, ◌+◌, ◌<◌, ◌≤◌, ◌≢◌, ℕ, zero, suc, Bool, true, false, not, ◌&&◌, List, [], ◌∷◌, ◌++◌, length, map, refl, sym, ap}
use Rattle.std.proofs.Common.{arith, length-append, lit≤}
use Rattle.std.specs.Prelude.{nat_lt, slice_index_or, slice_set, if◌then◌else◌}
use Rattle.std.proofs.lemmas.Bool.{eq-eqb, ne_eqb, lt-ltb, le-ltb}
use Rattle.plain_defs.specs.declared.journal.Item.{Item}
use Rattle.plain_defs.specs.declared.journal.Item.TheVariants as items
use Rattle.plain_defs.specs.History.{put, resets_of}
use Rattle.plain_defs.specs.Legal.{is_used, used_by}
use Rattle.device_core.specs.declared.history.KeptPath.{KeptPath}
use Rattle.device_core.specs.Kept.{waiting_one, waiting_from, over_path, used_count, fresh_path}

pub resets_more : (xs ys : List ℕ) → resets_of (xs ++ ys) ≡ resets_of xs ++ resets_of ys
resets_more [] ys = refl
resets_more (x ∷ xs) ys = ap (λ (l : List Item). items.Reset x ∷ l) (resets_more xs ys)

-- Resets of paths, and what a path used

pub used_append : (i : ℕ) (used : Bool) (xs ys : List Item) → is_used i used (xs ++ ys) ≡ is_used i (is_used i used xs) ys
used_append i used [] ys = refl
used_append i used (x ∷ xs) ys = used_append i (used_by i used x) xs ys

one_after : (w : Bool) (n p : ℕ) (u : Bool) → n ≢ p → is_used p u (resets_of (waiting_one w n)) ≡ u
one_after true n p u differ = ap (λ (b : Bool). not b && u) (ne_eqb n p differ)
one_after false n p u differ = refl

one_here : (w : Bool) (p : ℕ) (u : Bool) → is_used p u (resets_of (waiting_one w p)) ≡ (u && not w)
one_here true p true = ap (λ (b : Bool). not b && true) (eq-eqb p p refl)
one_here true p false = ap (λ (b : Bool). not b && false) (eq-eqb p p refl)
one_here false p true = refl
one_here false p false = refl

used_cons : (k : KeptPath) (ks : List KeptPath) (n p : ℕ) (u : Bool) →
    is_used p u (resets_of (waiting_from n (k ∷ ks))) ≡ is_used p (is_used p u (resets_of (waiting_one k.waits n))) (resets_of (waiting_from (n + 1) ks))
used_cons k ks n p u =
    ap (λ (l : List Item). is_used p u l) (resets_more (waiting_one k.waits n) (waiting_from (n + 1) ks))
    ∙ used_append p u (resets_of (waiting_one k.waits n)) (resets_of (waiting_from (n + 1) ks))

used_below : (ks : List KeptPath) (n p : ℕ) (u : Bool) → p < n → is_used p u (resets_of (waiting_from n ks)) ≡ u
used_below [] n p u lt = refl
used_below (k ∷ ks) n p u lt =
    let differ : n ≢ p = λ e. omega (arith, e, lt) in
    let below : p < n + 1 = omega (arith, lt) in
    used_cons k ks n p u
    ∙ ap (λ (b : Bool). is_used p b (resets_of (waiting_from (n + 1) ks))) (one_after k.waits n p u differ)
    ∙ used_below ks (n + 1) p u below

-- of a path whose reset waited, nothing is used behind it
pub used_at : (ks : List KeptPath) (n j p : ℕ) (u : Bool) → p ≡ n + j → j < length ks →
    is_used p u (resets_of (waiting_from n ks)) ≡ (u && not (slice_index_or ks j fresh_path).waits)
used_at [] n j p u is lt = absurd (omega (arith, lt))
used_at (k ∷ ks) n zero p u is lt =
    let same : p ≡ n = omega (arith, is) in
    let below : p < n + 1 = omega (arith, is) in
    used_cons k ks n p u
    ∙ ap (λ (m : ℕ). is_used p (is_used p u (resets_of (waiting_one k.waits m))) (resets_of (waiting_from (n + 1) ks))) (sym same)
    ∙ used_below ks (n + 1) p (is_used p u (resets_of (waiting_one k.waits p))) below
    ∙ one_here k.waits p u
used_at (k ∷ ks) n (suc j) p u is lt =
    let differ : n ≢ p = λ e. omega (arith, e, is) in
    let there : p ≡ n + 1 + j = omega (arith, is) in
    let below : j < length ks = omega (arith, lt) in
    used_cons k ks n p u
    ∙ ap (λ (b : Bool). is_used p b (resets_of (waiting_from (n + 1) ks))) (one_after k.waits n p u differ)
    ∙ used_at ks (n + 1) j p u there below

-- a path that waits as before changes nothing of who waits
pub waiting_kept : (ks : List KeptPath) (n j : ℕ) (k : KeptPath) → j < length ks → k.waits ≡ (slice_index_or ks j fresh_path).waits →
    waiting_from n (slice_set ks j k) ≡ waiting_from n ks
waiting_kept [] n j k lt same = absurd (omega (arith, lt))
waiting_kept (x ∷ ks) n zero k lt same = ap (λ (w : Bool). waiting_one w n ++ waiting_from (n + 1) ks) same
waiting_kept (x ∷ ks) n (suc j) k lt same = ap (λ (l : List ℕ). waiting_one x.waits n ++ l) (waiting_kept ks (n + 1) j k (omega (arith, lt)) same)

-- A reset that waits from now on

before_one : (w : Bool) (p n : ℕ) (l : List ℕ) → p < n → put p l ≡ p ∷ l → put p (waiting_one w n ++ l) ≡ p ∷ waiting_one w n ++ l
before_one true p n l lt rest =
    ap (λ (b : Bool). if b then n ∷ l else if nat_lt p n then p ∷ n ∷ l else n ∷ put p l) (ne_eqb p n (λ e. omega (arith, e, lt)))
    ∙ ap (λ (b : Bool). if b then p ∷ n ∷ l else n ∷ put p l) (lt-ltb p n lt)
before_one false p n l lt rest = rest

-- a smaller number stands before all that wait
put_below : (ks : List KeptPath) (p n : ℕ) → p < n → put p (waiting_from n ks) ≡ p ∷ waiting_from n ks
put_below [] p n lt = refl
put_below (k ∷ ks) p n lt = before_one k.waits p n (waiting_from (n + 1) ks) lt (put_below ks p (n + 1) (omega (arith, lt)))

put_here : (w : Bool) (p : ℕ) (ks : List KeptPath) → put p (waiting_one w p ++ waiting_from (p + 1) ks) ≡ p ∷ waiting_from (p + 1) ks
put_here true p ks = ap (λ (b : Bool). if b then p ∷ waiting_from (p + 1) ks else if nat_lt p p then p ∷ p ∷ waiting_from (p + 1) ks
    else p ∷ put p (waiting_from (p + 1) ks)) (eq-eqb p p refl)
put_here false p ks = put_below ks p (p + 1) (omega arith)

put_later : (w : Bool) (p n : ℕ) (l : List ℕ) → n < p → put p (waiting_one w n ++ l) ≡ waiting_one w n ++ put p l
put_later true p n l lt =
    ap (λ (b : Bool). if b then n ∷ l else if nat_lt p n then p ∷ n ∷ l else n ∷ put p l) (ne_eqb p n (λ e. omega (arith, e, lt)))
    ∙ ap (λ (b : Bool). if b then p ∷ n ∷ l else n ∷ put p l) (le-ltb p n (omega (arith, lt)))
put_later false p n l lt = refl

-- a path whose reset waits from now on stands among them, in its place
pub put_waits : (ks : List KeptPath) (n j p : ℕ) (k : KeptPath) → p ≡ n + j → j < length ks → k.waits ≡ true →
    waiting_from n (slice_set ks j k) ≡ put p (waiting_from n ks)
put_waits [] n j p k is lt waits = absurd (omega (arith, lt))
put_waits (x ∷ ks) n zero p k is lt waits =
    let same : n ≡ p = omega (arith, is) in
    ap (λ (w : Bool). waiting_one w n ++ waiting_from (n + 1) ks) waits
    ∙ ap (λ (m : ℕ). m ∷ waiting_from (m + 1) ks) same
    ∙ sym (put_here x.waits p ks)
    ∙ ap (λ (m : ℕ). put p (waiting_one x.waits m ++ waiting_from (m + 1) ks)) (sym same)
put_waits (x ∷ ks) n (suc j) p k is lt waits =
    let there : p ≡ n + 1 + j = omega (arith, is) in
    ap (λ (l : List ℕ). waiting_one x.waits n ++ l) (put_waits ks (n + 1) j p k there (omega (arith, lt)) waits)
    ∙ sym (put_later x.waits p n (waiting_from (n + 1) ks) (omega (arith, is)))

-- How many paths used something, and how many wait

one_used : (u w : Bool) (n : ℕ) → (if (u && not w) then 1 else 0) + length (waiting_one w n) ≤ 1
one_used true true n = lit≤ tt
one_used true false n = lit≤ tt
one_used false true n = lit≤ tt
one_used false false n = lit≤ tt

-- behind the resets that waited, no more paths have used something than those that didn't wait
pub used_over : (ks : List KeptPath) (n : ℕ) → used_count (map over_path ks) + length (waiting_from n ks) ≤ length ks
used_over [] n = lit≤ tt
used_over (k ∷ ks) n =
    let one = one_used k.used k.waits n in
    let more = used_over ks (n + 1) in
    let both = length-append (waiting_one k.waits n) (waiting_from (n + 1) ks) in
    omega (arith, one, more, both)

-- of one path less
pub used_fewer : (ks : List KeptPath) (j : ℕ) (k : KeptPath) → j < length ks → (slice_index_or ks j fresh_path).used ≡ true → k.used ≡ false →
    used_count (slice_set ks j k) + 1 ≡ used_count ks
used_fewer [] j k lt was is = absurd (omega (arith, lt))
used_fewer (x ∷ ks) zero k lt was is =
    let count : Bool → ℕ = λ b. if b then 1 else 0 in
    let one : count x.used ≡ 1 = ap count was in
    let none : count k.used ≡ 0 = ap count is in
    omega (arith, one, none)
used_fewer (x ∷ ks) (suc j) k lt was is = let rest = used_fewer ks j k (omega (arith, lt)) was is in omega (arith, rest)

-- and then none waits
pub none_wait : (ks : List KeptPath) (n : ℕ) → waiting_from n (map over_path ks) ≡ []
none_wait [] n = refl
none_wait (k ∷ ks) n = none_wait ks (n + 1)

-- of which this is one
pub used_some : (ks : List KeptPath) (j : ℕ) → j < length ks → (slice_index_or ks j fresh_path).used ≡ true → 1 ≤ used_count ks
used_some [] j lt was = absurd (omega (arith, lt))
used_some (x ∷ ks) zero lt was =
    let count : Bool → ℕ = λ b. if b then 1 else 0 in
    let one : count x.used ≡ 1 = ap count was in
    omega (arith, one)
used_some (x ∷ ks) (suc j) lt was = let rest = used_some ks j (omega (arith, lt)) was in omega (arith, rest)
