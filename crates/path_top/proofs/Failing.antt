-- How many calls of volumes fail by the FAULT lines of a deck.
use Rattle.std.proofs.Common.{◌≡◌, ◌≤◌, ◌+◌, ◌==◌, ◌&&◌, ◌∙◌, not, ℕ, suc, Bool, true, false, List, [], ◌∷◌, length, cond, Option, Some, None, refl, sym, ap, arith, eq-eqb}
use Rattle.std.proofs.lemmas.Option.{same_Some}
use Rattle.std.specs.Prelude.{count_by, if◌then◌else◌}
use Rattle.std.proofs.lemmas.List.Sums.{count_by-le-length, sum_by-cons}
use Rattle.deck_text.specs.declared.line.FaultLine.{FaultLine}
use Rattle.deck_text.specs.DeckLines.{DeckLines}
use Rattle.ckd_outside.specs.Memory.{to_come}
use Rattle.device_outside.specs.Volume.{Plan}
use Rattle.subsystem_defs.specs.Decks.{failing_of, plan_for}
use Rattle.subsystem_defs.specs.Happening.{is_lent_to}
use Rattle.subsystem_defs.specs.Subsystem.{Mounted, mounted_in, number_of, put_in}
use Rattle.path_workers.specs.Planned.{come_once}
use Rattle.path_top.specs.Excuses.{faults_of, lent_faults}

-- Of a plan

abbrev pub failing_in : Plan → ℕ
failing_in p = length p.reads + length p.writes

-- so many calls fail at most, each of which comes once
abbrev pub FailsFew : ℕ → Plan → Type 0
FailsFew n p = (failing_in p ≤ n) × ((come_once p.reads && come_once p.writes) ≡ true)

-- a call that is named twice fails once
pub few_to_come : (p : Plan) (reads writes : ℕ) → to_come reads p.reads + to_come writes p.writes ≤ failing_in p
few_to_come p reads writes =
    let a : to_come reads p.reads ≤ length p.reads = count_by-le-length _ p.reads in
    let b : to_come writes p.writes ≤ length p.writes = count_by-le-length _ p.writes in
    omega (arith, a, b)

module _ (d : ℕ) where
  one_read : (r w n k : ℕ) → r + w ≡ n → k ≡ 1 + n → suc r + w ≡ k
  one_read r w n k e f = omega (arith, e, f)

  one_write : (r w n k : ℕ) → r + w ≡ n → k ≡ 1 + n → r + suc w ≡ k
  one_write r w n k e f = omega (arith, e, f)

  none_more : (r w n k : ℕ) → r + w ≡ n → k ≡ 0 + n → r + w ≡ k
  none_more r w n k e f = omega (arith, e, f)

  pub planned : (faults : List FaultLine) → failing_in (plan_for faults d) ≡ count_by (λ (f : FaultLine). f.device == d) faults
  planned [] = refl
  planned (f ∷ fs) = by_test (f.device == d) f.write (planned fs) (sum_by-cons (λ (x : FaultLine). cond (x.device == d) 1 0) f fs) where
    by_test : (b w : Bool) → failing_in (plan_for fs d) ≡ count_by (λ (x : FaultLine). x.device == d) fs →
        count_by (λ (x : FaultLine). x.device == d) (f ∷ fs) ≡ cond b 1 0 + count_by (λ (x : FaultLine). x.device == d) fs →
        length (if b && (if w then false else not false) then f.call ∷ failing_of false d fs else failing_of false d fs)
        + length (if b && (if w then true else not true) then f.call ∷ failing_of true d fs else failing_of true d fs)
        ≡ count_by (λ (x : FaultLine). x.device == d) (f ∷ fs)
    by_test true true more all =
        one_write (length (failing_of false d fs)) (length (failing_of true d fs)) _ _ more all
    by_test true false more all =
        one_read (length (failing_of false d fs)) (length (failing_of true d fs)) _ _ more all
    by_test false w more all =
        none_more (length (failing_of false d fs)) (length (failing_of true d fs)) _ _ more all

-- Of the devices that are lent to one

module _ (deck : DeckLines) (n : ℕ) where
  abbrev pub lent_part : Mounted → ℕ
  lent_part m = if is_lent_to m.device.store.lent n then faults_of deck (number_of m) else 0

  part_of_none : (o : Option ℕ) (k : ℕ) → o ≡ None → (if is_lent_to o n then k else 0) ≡ 0
  part_of_none None k e = refl
  part_of_none (Some to) k e = absurd (cc)

  here : (part old rest : ℕ) → old ≡ 0 → part + rest ≡ old + rest + part
  here part old rest none = omega (arith, none)

  later : (part old rest more : ℕ) → more ≡ rest + part → old + more ≡ old + rest + part
  later part old rest more e = omega (arith, e)

  -- one that is lent now
  pub one_lent : (ms : List Mounted) (b : ℕ) (m k : Mounted) → mounted_in ms b ≡ Some m → m.device.store.lent ≡ None →
      lent_faults deck n (put_in ms b k) ≡ lent_faults deck n ms + lent_part k
  one_lent [] b m k at free = absurd (cc)
  one_lent (x ∷ ms) b m k at free = by_test (number_of x == b) at (one_lent ms b m k) where
    by_test : (c : Bool) → (if c then Some x else mounted_in ms b) ≡ Some m →
        (mounted_in ms b ≡ Some m → m.device.store.lent ≡ None → lent_faults deck n (put_in ms b k) ≡ lent_faults deck n ms + lent_part k) →
        lent_faults deck n (if c then k ∷ ms else x ∷ put_in ms b k) ≡ lent_part x + lent_faults deck n ms + lent_part k
    by_test true is more =
        here (lent_part k) (lent_part x) (lent_faults deck n ms)
        (part_of_none x.device.store.lent (faults_of deck (number_of x)) (ap (λ (y : Mounted). y.device.store.lent) (same_Some _ _ is) ∙ free))
    by_test false is more = later (lent_part k) (lent_part x) (lent_faults deck n ms) (lent_faults deck n (put_in ms b k)) (more is free)

  -- one that is lent as before
  pub same_lent : (ms : List Mounted) (a : ℕ) (m k : Mounted) → mounted_in ms a ≡ Some m → k.device.store.lent ≡ m.device.store.lent →
      number_of k ≡ number_of m → lent_faults deck n (put_in ms a k) ≡ lent_faults deck n ms
  same_lent [] a m k at lent number = absurd (cc)
  same_lent (x ∷ ms) a m k at lent number = by_test (number_of x == a) at (same_lent ms a m k) where
    by_test : (c : Bool) → (if c then Some x else mounted_in ms a) ≡ Some m →
        (mounted_in ms a ≡ Some m → k.device.store.lent ≡ m.device.store.lent → number_of k ≡ number_of m →
        lent_faults deck n (put_in ms a k) ≡ lent_faults deck n ms) →
        lent_faults deck n (if c then k ∷ ms else x ∷ put_in ms a k) ≡ lent_part x + lent_faults deck n ms
    by_test true is more =
        ap (λ (o : Option ℕ). (if is_lent_to o n then faults_of deck (number_of k) else 0) + lent_faults deck n ms) lent
        ∙ ap (λ (i : ℕ). (if is_lent_to m.device.store.lent n then faults_of deck i else 0) + lent_faults deck n ms) number
        ∙ ap (λ (y : Mounted). lent_part y + lent_faults deck n ms) (sym (same_Some _ _ is))
    by_test false is more = ap (λ (i : ℕ). lent_part x + i) (more is lent number)

pub lent_part_is : (deck : DeckLines) (n : ℕ) (k : Mounted) → k.device.store.lent ≡ Some n →
    (if is_lent_to k.device.store.lent n then faults_of deck (number_of k) else 0) ≡ faults_of deck (number_of k)
lent_part_is deck n k e =
    ap (λ (o : Option ℕ). if is_lent_to o n then faults_of deck (number_of k) else 0) e
    ∙ ap (λ (b : Bool). if b then faults_of deck (number_of k) else 0) (eq-eqb n n refl)
