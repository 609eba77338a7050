-- What was asked of volumes was asked of them as their plans tell which calls may still fail.
use Rattle.std.proofs.Common.{◌≡◌, ◌<◌, ◌≤◌, ◌+◌, ◌-◌, ◌^◌, ℕ, Bool, true, false, cond, List, [], ◌∷◌, Option, Some, None, refl, sym, ap, subst, arith, eqb-true}
use Rattle.std.proofs.lemmas.Bool.{and_parts}
use Rattle.std.proofs.lemmas.Bool.Decides.{nat_tests}
use Rattle.std.proofs.lemmas.List.Sums.{sum_by-cons}
use Rattle.std.specs.Prelude.{◌==◌, ◌&&◌, is_some, min, nat_lt, option_map, if◌then◌else◌}
use Rattle.ckd_outside.specs.Memory.{to_come}
use Rattle.ckd_outside.proofs.Calls.{to_come_kept}
use Rattle.ckd_types.specs.declared.paths.Side.{Side}
use Rattle.ckd_types.specs.declared.paths.Side.TheVariants.{A, B}
use Rattle.device_outside.specs.After.{Tells}
use Rattle.device_outside.specs.Interaction.{Interaction}
use Rattle.device_outside.specs.Keeper.{Hearing}
use Rattle.device_outside.specs.Lists as L
use Rattle.device_outside.specs.Lists.{is_in}
use Rattle.device_outside.specs.Outside.{Outside, Ran, asked, done, read, told, tried, view_of, with_view, wrote}
use Rattle.device_outside.specs.Volume as V
use Rattle.device_outside.specs.Volume.{Plan, Planned, ReadOf, Spent, VolumeView, WriteOf, counted}
use Rattle.path_workers.specs.Planned.{as_planned, come_once, still_failing, told_planned}

-- A call on, fewer calls of such numbers are to come

abbrev top : ℕ
top = 2 ^ 64 - 1

counted_next : (n : ℕ) → counted n < top → n < counted n
unfolding V.counted
counted_next n lt = least_of (n + 1) top n lt (omega arith) where
  least_of : (x y n : ℕ) → min x y < y → n < x → n < min x y
  least_of x y n lt less = omega (arith, lt, less)

counted_past : (n m : ℕ) → m < top → counted n < m → n < m
unfolding V.counted
counted_past n m few past = least_of (n + 1) top n m few past (omega arith) where
  least_of : (x y n m : ℕ) → m < y → min x y < m → n < x → n < m
  least_of x y n m few past less = omega (arith, few, past, less)

abbrev comes : ℕ → ℕ → ℕ
comes calls n = cond (nat_lt calls n) 1 0

fewer : (b c : Bool) → (b ≡ true → c ≡ true) → cond b 1 0 ≤ cond c 1 0
fewer true true h = omega arith
fewer true false h = absurd (let both : false ≡ true = h refl in cc)
fewer false c h = omega arith

is_below : (n m : ℕ) → nat_lt n m ≡ true → n < m
is_below n m e = grind (arith, nat_tests)

below_is : (n m : ℕ) → n < m → nat_lt n m ≡ true
below_is n m lt = grind (arith, nat_tests)

one_kept : (n x : ℕ) → nat_lt x top ≡ true → comes (counted n) x ≤ comes n x
one_kept n x few =
    fewer (nat_lt (counted n) x) (nat_lt n x) (λ e. below_is n x (counted_past n x (is_below x top few) (is_below (counted n) x e)))

still_kept : (n : ℕ) (xs : List ℕ) → come_once xs ≡ true → to_come (counted n) xs ≤ to_come n xs
still_kept n [] e = omega arith
still_kept n (x ∷ xs) e =
    let both = and_parts (nat_lt x top) (come_once xs) e in
    let a = sum_by-cons (comes (counted n)) x xs in
    let b = sum_by-cons (comes n) x xs in
    let one = one_kept n x both.0 in
    let more = still_kept n xs both.1 in
    omega (arith, a, b, one, more)

listed_once : (m : ℕ) (xs : List ℕ) → come_once xs ≡ true → is_in m xs ≡ true → m < top
unfolding L.is_in
listed_once m [] all e = absurd (cc)
listed_once m (x ∷ xs) all e = by_test (m == x) refl e (listed_once m xs both.1)
  where
    both : (nat_lt x top ≡ true) × (come_once xs ≡ true)
    both = and_parts (nat_lt x top) (come_once xs) all

    by_test : (b : Bool) → (m == x) ≡ b → cond b true (is_in m xs) ≡ true → (is_in m xs ≡ true → m < top) → m < top
    by_test true is e more = subst (λ (n : ℕ). n < top) (sym (eqb-true m x is)) (is_below x top both.0)
    by_test false is e more = more e

comes_lowered : (n m x : ℕ) → n < m → m ≡ x → comes m x < comes n x
comes_lowered n m x lt is = grind (arith, nat_tests)

comes_kept : (n m x : ℕ) → n < m → comes m x ≤ comes n x
comes_kept n m x lt = grind (arith, nat_tests)

lowered : (n m : ℕ) (xs : List ℕ) → n < m → is_in m xs ≡ true → to_come m xs < to_come n xs
unfolding L.is_in
lowered n m [] lt e = absurd (cc)
lowered n m (x ∷ xs) lt e = by_test (m == x) refl e (lowered n m xs lt)
  where
    by_test : (b : Bool) → (m == x) ≡ b → cond b true (is_in m xs) ≡ true → (is_in m xs ≡ true → to_come m xs < to_come n xs) →
        to_come m (x ∷ xs) < to_come n (x ∷ xs)
    by_test true is e more =
        let a = sum_by-cons (comes m) x xs in
        let b = sum_by-cons (comes n) x xs in
        let one = comes_lowered n m x lt (eqb-true m x is) in
        let rest = to_come_kept n m xs (omega (arith, lt)) in
        omega (arith, a, b, one, rest)
    by_test false is e more =
        let a = sum_by-cons (comes m) x xs in
        let b = sum_by-cons (comes n) x xs in
        let one = comes_kept n m x lt in
        let rest = more e in
        omega (arith, a, b, one, rest)

one_lowered : (n : ℕ) (xs : List ℕ) → come_once xs ≡ true → is_in (counted n) xs ≡ true → to_come (counted n) xs < to_come n xs
one_lowered n xs once listed = lowered n (counted n) xs (counted_next n (listed_once (counted n) xs once listed)) listed

is_listed : (b : Bool) → false ≡ (if b then false else true) → b ≡ true
is_listed true e = refl
is_listed false e = absurd (cc)

-- so a call that fails lowers how many may, and no call raises it

read_spent : (o : Option Plan) (reads writes : ℕ) (ok : Bool) (old new : Option ℕ) → Planned o (λ (p : Plan). p.reads) (counted reads) ok → Spent ok old new →
    Spent ok (still_failing o reads writes old) (still_failing o (counted reads) writes new)
read_spent None reads writes ok old new by spent = spent
read_spent (Some p) reads writes ok old new by spent = by_test (come_once p.reads && come_once p.writes) refl ok by spent where
  by_test : (b : Bool) → (come_once p.reads && come_once p.writes) ≡ b → (ok : Bool) → ok ≡ (if is_in (counted reads) p.reads then false else true) →
      Spent ok old new → Spent ok (if b then Some (to_come reads p.reads + to_come writes p.writes) else old)
      (if b then Some (to_come (counted reads) p.reads + to_come writes p.writes) else new)
  by_test false e ok by spent = spent
  by_test true e true by spent =
      let fewer = still_kept reads p.reads (and_parts (come_once p.reads) (come_once p.writes) e).0 in omega (arith, fewer)
  by_test true e false by spent =
      let fewer = one_lowered reads p.reads (and_parts (come_once p.reads) (come_once p.writes) e).0 (is_listed (is_in (counted reads) p.reads) by) in
      omega (arith, fewer)

write_spent : (o : Option Plan) (reads writes : ℕ) (ok : Bool) (old new : Option ℕ) → Planned o (λ (p : Plan). p.writes) (counted writes) ok → Spent ok old new →
    Spent ok (still_failing o reads writes old) (still_failing o reads (counted writes) new)
write_spent None reads writes ok old new by spent = spent
write_spent (Some p) reads writes ok old new by spent = by_test (come_once p.reads && come_once p.writes) refl ok by spent where
  by_test : (b : Bool) → (come_once p.reads && come_once p.writes) ≡ b → (ok : Bool) → ok ≡ (if is_in (counted writes) p.writes then false else true) →
      Spent ok old new → Spent ok (if b then Some (to_come reads p.reads + to_come writes p.writes) else old)
      (if b then Some (to_come reads p.reads + to_come (counted writes) p.writes) else new)
  by_test false e ok by spent = spent
  by_test true e true by spent =
      let fewer = still_kept writes p.writes (and_parts (come_once p.reads) (come_once p.writes) e).1 in omega (arith, fewer)
  by_test true e false by spent =
      let fewer = one_lowered writes p.writes (and_parts (come_once p.reads) (come_once p.writes) e).1 (is_listed (is_in (counted writes) p.writes) by) in
      omega (arith, fewer)

module _ {R : Type 0} where
  -- a read, a write
  read_planned : (v u : VolumeView R) (t : ℕ) (got : Option R) → ReadOf v t got u → ReadOf (as_planned v) t got (as_planned u)
  read_planned v u t got of = record {
    delivers = of.delivers;
    planned = of.planned;
    spent = subst (λ (x : VolumeView R). Spent (is_some got) (as_planned v).allowance (still_failing x.plan x.reads x.writes u.allowance)) (sym of.after)
        (read_spent v.plan v.reads v.writes (is_some got) v.allowance u.allowance of.planned of.spent);
    after = ap (λ (x : VolumeView R). record x { allowance = (as_planned u).allowance }) of.after;
  }

  write_planned : (v u : VolumeView R) (t : ℕ) (r : R) (ok : Bool) → WriteOf v t r ok u → WriteOf (as_planned v) t r ok (as_planned u)
  write_planned v u t r ok of = record {
    stores = of.stores;
    planned = of.planned;
    spent = subst (λ (x : VolumeView R). Spent ok (as_planned v).allowance (still_failing x.plan x.reads x.writes u.allowance)) (sym of.after)
        (write_spent v.plan v.reads v.writes ok v.allowance u.allowance of.planned of.spent);
    after = ap (λ (x : VolumeView R). record x { allowance = (as_planned u).allowance }) of.after;
  }

  pub with_planned : {K : Type 0} (w : Outside R K) (side : Side) (v : VolumeView R) → with_view (told_planned w) side (as_planned v) ≡ told_planned (with_view w side v)
  with_planned w A v = refl
  with_planned w B v = refl

  seen_planned : {K : Type 0} (w : Outside R K) (side : Side) (v : VolumeView R) → view_of w side ≡ Some v → view_of (told_planned w) side ≡ Some (as_planned v)
  seen_planned w A v seen = ap (option_map as_planned) seen
  seen_planned w B v seen = ap (option_map as_planned) seen

  -- and all of it
  pub ran_planned : {I K S X : Type 0} {had : Bool → Type 0} {hears : Hearing I K} {i : Interaction R I S X} {w z : Outside R K} {s : S} {a : X} →
      Ran had hears i w s a z → Ran had hears i (told_planned w) s a (told_planned z)
  ran_planned done = done
  ran_planned (tried ok m r) = tried ok m (ran_planned r)
  ran_planned (asked says r) = asked says (ran_planned r)
  ran_planned {had = had} {hears = hears} {w = w} {z = z} {s = s} {a = a} (read {side = side} {t = t} {k = k} {got = got} {v = v} {u = u} seen of r) =
      read (seen_planned w side v seen) (read_planned v u t got of)
      (subst (λ (x : Outside R _). Ran had hears (k got) x s a (told_planned z)) (sym (with_planned w side u)) (ran_planned r))
  ran_planned {had = had} {hears = hears} {w = w} {z = z} {s = s} {a = a} (wrote {side = side} {t = t} {r = bytes} {k = k} {ok = ok} {v = v} {u = u} seen of r) =
      wrote (seen_planned w side v seen) (write_planned v u t bytes ok of)
      (subst (λ (x : Outside R _). Ran had hears (k ok) x s a (told_planned z)) (sym (with_planned w side u)) (ran_planned r))
  ran_planned (told p hears had r) = told p hears had (ran_planned r)

  -- what they hold is told as before
  pub tells_planned : (o : Option (VolumeView R)) (l : List R) → Tells o l → Tells (option_map as_planned o) l
  tells_planned None l t = tt
  tells_planned (Some v) l t = t
