-- An auditor's devices, and what a line makes of one of them.
use Rattle.std.proofs.Common.{◌≡◌, ◌<◌, ◌≤◌, ◌+◌, ℕ, suc, List, [], ◌∷◌, length, Option, Some, None, Bool, true, false, cond, refl, arith, sym, ap, subst, ◌∙◌}
use Rattle.std.proofs.Common.{eq-eqb}
use Rattle.std.specs.Prelude.{◌==◌, Ok, slice_get, slice_index_or, slice_set}
use Rattle.std.proofs.Common.{rules}
use Rattle.std.proofs.lemmas.Bool.Decides.{nat_tests}
use Rattle.std.proofs.lemmas.Option.{slice_get-get_or}
use Rattle.deck_plan.specs.Plans.{PlansByPath}
use Rattle.report_text.specs.declared.line.ReportLine.{ReportLine}
use Rattle.deck_audit.specs.declared.task.Task.{Task}
use Rattle.deck_audit.specs.Task.{IsInRange, task_kept, task_then}
use Rattle.deck_text.specs.declared.line.PlannedProgram.{PlannedProgram}
use Rattle.deck_text.specs.Plans.{plans_of}
use Rattle.report_audit.specs.Auditor.{AllKept, IsAt, IsJudgedAt, NoneRuns, OneKept, due_if, either, is_quiet, place_from}
use Rattle.deck_audit.specs.declared.kept.Kept.{Kept}
use Rattle.deck_audit.specs.declared.state.Due.{Due}
use Rattle.deck_audit.specs.declared.state.Due.TheVariants.{Next}
use Rattle.deck_audit.specs.Device.{AuditedDevice, device_in, with_device}
use Rattle.deck_audit.specs.History.{place_of}
use Rattle.deck_audit.specs.declared.kept.Then.{Then}
use Rattle.deck_audit.specs.Kept.{OnGood}
use Rattle.deck_audit.specs.Keeping.{IsDue, IsQuiet}

-- Where nothing is due of a device

pub quiet_of : (k : Kept) (a : AuditedDevice) (due : Due) → is_quiet due ≡ true → IsDue due k a → IsQuiet k
quiet_of k a due quiet is = grind arith

module _ (programs : List PlannedProgram) where
  one_tail : (b : Bool) (P Q : Type 0) → P → Q → either b P Q
  one_tail b P Q p q = grind arith

  pub one_of_all : (due : Due) → is_quiet due ≡ true → (d : ℕ) (ks : List Kept) (ds : List AuditedDevice) → AllKept programs ks ds
      → OneKept programs due d ks ds
  one_of_all due quiet d [] [] all = tt
  one_of_all due quiet d (k ∷ ks) (a ∷ ds) all = grind (arith, one_of_all due quiet d ks ds all.1, one_tail)
  one_of_all due quiet d ks ds all = absurd all

  all_head : (due : Due) (quiet : is_quiet due ≡ true) (k : Kept) (a : AuditedDevice) (b : Bool) → IsAt programs (due_if b due) k a
      → IsAt programs Next k a
  all_head due quiet k a b is = grind (arith, quiet_of)

  all_tail : (b : Bool) (P Q : Type 0) → (Q → P) → either b P Q → P
  all_tail b P Q go is = grind arith

  pub all_of_one : (due : Due) → is_quiet due ≡ true → (d : ℕ) (ks : List Kept) (ds : List AuditedDevice) → OneKept programs due d ks ds
      → AllKept programs ks ds
  all_of_one due quiet d [] [] one = tt
  all_of_one due quiet d (k ∷ ks) (a ∷ ds) one = (
    all_head due quiet k a (a.number == d) one.0,
    all_tail (a.number == d) (AllKept programs ks ds) (OneKept programs due d ks ds) (λ later. all_of_one due quiet d ks ds later) one.1,
  )
  all_of_one due quiet d ks ds one = absurd one

  -- The device of a number

  pub record Found (ks : List Kept) (ds : List AuditedDevice) (d : ℕ) (due : Due) (j : ℕ) : Type 0 where
    pub k : Kept
    pub a : AuditedDevice
    pub kept_is : slice_get ks j ≡ Some k
    pub device_is : device_in ds d ≡ Some a
    pub number_is : a.number ≡ d
    pub fits : IsAt programs due k a
    pub place_is : place_of ds d ≡ j
    pub short : suc j ≤ length ds
    pub set : (l : Kept) (b : AuditedDevice) (next : Due) → IsAt programs next l b → b.number ≡ d
        → OneKept programs next d (slice_set ks j l) (with_device ds b)
    pub same : with_device ds a ≡ ds

  equal_of : (a d : ℕ) → (a == d) ≡ true → a ≡ d
  equal_of a d is = search (nat_tests, rules)

  module _ (d : ℕ) (due : Due) where
    here : (k : Kept) (ks : List Kept) (a : AuditedDevice) (ds : List AuditedDevice) → (a.number == d) ≡ true → IsAt programs due k a
        → AllKept programs ks ds → Found (k ∷ ks) (a ∷ ds) d due 0
    here k ks a ds is fits later = record {
      k = k;
      a = a;
      kept_is = refl;
      device_is = ap (λ (b : Bool). cond b (Some a) (device_in ds d)) is;
      number_is = equal_of a.number d is;
      fits = fits;
      place_is = ap (λ (b : Bool). cond b 0 (place_of ds d + 1)) is;
      short = omega arith;
      set = λ l b next fits number. put l b next fits number;
      same = ap (λ (x : Bool). cond x (a ∷ ds) (a ∷ with_device ds a)) (eq-eqb a.number a.number refl);
    } where
      put : (l : Kept) (b : AuditedDevice) (next : Due) → IsAt programs next l b → b.number ≡ d
          → OneKept programs next d (l ∷ ks) (with_device (a ∷ ds) b)
      put l b next fits number =
          subst (λ (x : Bool). OneKept programs next d (l ∷ ks) (cond x (b ∷ ds) (a ∷ with_device ds b)))
          (sym (ap (λ (n : ℕ). a.number == n) number ∙ is))
          (subst (λ (x : Bool). IsAt programs (due_if x next) l b × either x (AllKept programs ks ds) (OneKept programs next d ks ds))
          (sym (eq-eqb b.number d number)) (fits, later))

    there : (k : Kept) (ks : List Kept) (a : AuditedDevice) (ds : List AuditedDevice) → (a.number == d) ≡ false → IsAt programs Next k a
        → (j : ℕ) → Found ks ds d due j → Found (k ∷ ks) (a ∷ ds) d due (suc j)
    there k ks a ds is fits j f = record {
      k = f.k;
      a = f.a;
      kept_is = f.kept_is;
      device_is = ap (λ (b : Bool). cond b (Some a) (device_in ds d)) is ∙ f.device_is;
      number_is = f.number_is;
      fits = f.fits;
      place_is = ap (λ (b : Bool). cond b 0 (place_of ds d + 1)) is ∙ ap (λ (n : ℕ). n + 1) f.place_is
          ∙ (let e : j + 1 ≡ suc j = omega arith in e);
      short = omega (arith, f.short);
      set = λ l b next fits number. put l b next fits number;
      same = ap (λ (x : Bool). cond x (f.a ∷ ds) (a ∷ with_device ds f.a)) (ap (λ (n : ℕ). a.number == n) f.number_is ∙ is)
          ∙ ap (λ (l : List AuditedDevice). a ∷ l) f.same;
    } where
      put : (l : Kept) (b : AuditedDevice) (next : Due) → IsAt programs next l b → b.number ≡ d
          → OneKept programs next d (k ∷ slice_set ks j l) (with_device (a ∷ ds) b)
      put l b next at number =
          subst (λ (x : Bool). OneKept programs next d (k ∷ slice_set ks j l) (cond x (b ∷ ds) (a ∷ with_device ds b)))
          (sym (ap (λ (n : ℕ). a.number == n) number ∙ is))
          (subst (λ (x : Bool). IsAt programs (due_if x next) k a
          × either x (AllKept programs (slice_set ks j l) (with_device ds b)) (OneKept programs next d (slice_set ks j l) (with_device ds b)))
          (sym is) (fits, f.set l b next at number))

    number_at : (k : Kept) (a : AuditedDevice) (b : Bool) → IsAt programs (due_if b due) k a → k.device.number ≡ a.number
    number_at k a b is = is.kept.follows.number_is

    pub record At (n i : ℕ) (ks : List Kept) (ds : List AuditedDevice) : Type 0 where
      pub j : ℕ
      pub place : i ≡ n + j
      pub found : Found ks ds d due j

    by_number : (n i : ℕ) (k : Kept) (ks : List Kept) (a : AuditedDevice) (ds : List AuditedDevice) (b : Bool) → (a.number == d) ≡ b
        → IsAt programs (due_if b due) k a → either b (AllKept programs ks ds) (OneKept programs due d ks ds)
        → cond b (Some n) (place_from (n + 1) ks d) ≡ Some i
        → (OneKept programs due d ks ds → place_from (n + 1) ks d ≡ Some i → At (n + 1) i ks ds) → At n i (k ∷ ks) (a ∷ ds)
    by_number n i k ks a ds true is fits later found go = grind (arith, here)
    by_number n i k ks a ds false is fits later found go =
        let f = go later found in
        record { j = suc f.j; place = omega (arith, f.place); found = there k ks a ds is fits f.j f.found }

    pub at : (n : ℕ) (ks : List Kept) (ds : List AuditedDevice) → OneKept programs due d ks ds → (i : ℕ) → place_from n ks d ≡ Some i
        → At n i ks ds
    at n [] [] one i is = absurd (cc)
    at n (k ∷ ks) (a ∷ ds) one i is =
        by_number n i k ks a ds (a.number == d) refl one.0 one.1
        (subst (λ (m : ℕ). cond (m == d) (Some n) (place_from (n + 1) ks d) ≡ Some i) (number_at k a (a.number == d) one.0) is)
        (λ later found. at (n + 1) ks ds later i found)
    at n ks ds one i is = absurd one

    none_by : (n : ℕ) (k : Kept) (ks : List Kept) (a : AuditedDevice) (ds : List AuditedDevice) (b : Bool)
        → either b (AllKept programs ks ds) (OneKept programs due d ks ds) → cond b (Some n) (place_from (n + 1) ks d) ≡ None
        → (OneKept programs due d ks ds → place_from (n + 1) ks d ≡ None → device_in ds d ≡ None)
        → cond b (Some a) (device_in ds d) ≡ None
    none_by n k ks a ds b later is go = grind arith

    pub none_at : (n : ℕ) (ks : List Kept) (ds : List AuditedDevice) → OneKept programs due d ks ds → place_from n ks d ≡ None
        → device_in ds d ≡ None
    none_at n [] [] one is = refl
    none_at n (k ∷ ks) (a ∷ ds) one is =
        none_by n k ks a ds (a.number == d) one.1
        (subst (λ (m : ℕ). cond (m == d) (Some n) (place_from (n + 1) ks d) ≡ None) (number_at k a (a.number == d) one.0) is)
        (λ later found. none_at (n + 1) ks ds later found)
    none_at n ks ds one is = absurd one

-- How many devices there are stays

pub same_length : (ds : List AuditedDevice) (b : AuditedDevice) → length (with_device ds b) ≡ length ds
same_length [] b = refl
same_length (a ∷ ds) b = grind (arith, same_length ds b)

-- the devices before the one that changes run no program still

pub none_before : (ds : List AuditedDevice) (b : AuditedDevice) (d : ℕ) → b.number ≡ d → NoneRuns (place_of ds d) ds
    → NoneRuns (place_of ds d) (with_device ds b)
none_before [] b d is none = none
none_before (a ∷ ds) b d is none =
    subst (λ (m : ℕ). NoneRuns (cond (a.number == d) 0 (place_of ds d + 1)) (cond (a.number == m) (b ∷ ds) (a ∷ with_device ds b))) (sym is)
    (by_same (a.number == d) none (λ later. none_before ds b d is later))
  where
    by_same : (x : Bool) → NoneRuns (cond x 0 (place_of ds d + 1)) (a ∷ ds)
        → (NoneRuns (place_of ds d) ds → NoneRuns (place_of ds d) (with_device ds b))
        → NoneRuns (cond x 0 (place_of ds d + 1)) (cond x (b ∷ ds) (a ∷ with_device ds b))
    by_same true none go = tt
    by_same false none go =
        let e : place_of ds d + 1 ≡ suc (place_of ds d) = omega arith in
        let more : NoneRuns (suc (place_of ds d)) (a ∷ ds) = subst (λ (m : ℕ). NoneRuns m (a ∷ ds)) e none in
        subst (λ (m : ℕ). NoneRuns m (a ∷ with_device ds b)) (sym e) (more.0, go more.1)

-- what is said where a line is judged well

pub judged_by : (E : Type 0) (programs : List PlannedProgram) (old : List Kept) (i d : ℕ) (line : ReportLine) (task : Task)
    (next : Option Then) (plans : PlansByPath) (after : Kept) (default : Kept) → i < length old → plans ≡ plans_of programs d
    → next ≡ task_then plans (slice_index_or old i default) i line task
    → OnGood {E = E} (Ok next) (after ≡ task_kept plans (slice_index_or old i default) line task) → IsInRange task
    → IsJudgedAt programs old (slice_set old i after) i d line task next
judged_by E programs old i d line task next plans after default short plans_are next_is kept range = grind (arith, slice_get-get_or)

pub place_is : (l m : List Kept) (d : ℕ) (x : Option ℕ) → l ≡ m → x ≡ place_from 0 l d → place_from 0 m d ≡ x
place_is l m d x same is = sym (is ∙ ap (λ (n : List Kept). place_from 0 n d) same)
