-- A legal journal started no more programs of a path than are planned; and where it ran a program since the power came, it was one of the four paths.
use Rattle.std.proofs.Common.{◌≡◌, ℕ, ◌+◌, ◌≤◌, inl, inr, Bool, true, cond, List, [], ◌∷◌, ◌++◌, length, refl, sym, ap, subst, arith}
use Rattle.std.specs.Prelude.{◌⊎◌, count_by}
use Rattle.std.proofs.lemmas.Bool.{cases_eq, eq-eqb, false≢true, ne_eqb}
use Rattle.std.proofs.lemmas.List.{append-nil, append_assoc}
use Rattle.std.proofs.lemmas.List.Sums.{sum_by-cons}
use Rattle.plain_defs.specs.declared.journal.Item.{Item}
use Rattle.plain_defs.specs.declared.journal.Item.TheVariants.{Program, Reset, Fresh, Act, Power}
use Rattle.plain_defs.specs.Entry.{ProgramEntry}
use Rattle.plain_defs.specs.Journal.{Plans, planned, replay_item}
use Rattle.plain_defs.specs.Legal.{IsLegalFrom, IsLegalItem, is_of_path, is_started, started_by}
use Rattle.plain_defs.specs.PlainState.{PlainState}
use Rattle.past_laws.proofs.Items.{count_behind}

abbrev one_if : Bool → ℕ
one_if b = cond b 1 0

counted : (p : ℕ) (x : Item) (xs : List Item) → count_by (is_of_path p) (x ∷ xs) ≡ one_if (is_of_path p x) + count_by (is_of_path p) xs
counted p x xs = sum_by-cons (λ (y : Item). cond (is_of_path p y) 1 0) x xs

pub within_plans : (plans : Plans) (state : PlainState) (earlier xs : List Item) → IsLegalFrom plans state earlier xs → (p : ℕ) →
    count_by (is_of_path p) earlier ≤ length (planned plans p) → count_by (is_of_path p) (earlier ++ xs) ≤ length (planned plans p)
within_plans plans state earlier [] legal p few = rw (append-nil earlier) few
within_plans plans state earlier (x ∷ xs) legal p few =
    subst (λ (ys : List Item). count_by (is_of_path p) ys ≤ length (planned plans p)) (append_assoc earlier (x ∷ []) xs)
    (within_plans plans (replay_item plans state x) (earlier ++ x ∷ []) xs legal.1 p (step x legal.0))
  where
    behind : (y : Item) → count_by (is_of_path p) (earlier ++ y ∷ []) ≡ count_by (is_of_path p) earlier + one_if (is_of_path p y)
    behind y = omega (arith, count_behind (is_of_path p) earlier (y ∷ []), counted p y [])

    program : (e : ProgramEntry) → IsLegalItem plans state earlier (Program e) xs → count_by (is_of_path p) (earlier ++ Program e ∷ []) ≤ length (planned plans p)
    program e is = elim (cases_eq e.path p) [
      | inl own ↦ (
          let ordinal = is.0.started.ordinal_is in
          let most = is.0.started.in_plan in
          let here : count_by (is_of_path p) earlier ≡ count_by (is_of_path e.path) earlier = ap (λ (q : ℕ). count_by (is_of_path q) earlier) (sym own) in
          let room : length (planned plans e.path) ≡ length (planned plans p) = ap (λ (q : ℕ). length (planned plans q)) own in
          let one : one_if (is_of_path p (Program e)) ≡ 1 = rw (eq-eqb e.path p own) refl in
          omega (arith, behind (Program e), one, here, room, ordinal, most)
          )
      | inr other ↦ (let one : one_if (is_of_path p (Program e)) ≡ 0 = rw (ne_eqb e.path p other) refl in omega (arith, behind (Program e), one, few))
    ]

    step : (y : Item) → IsLegalItem plans state earlier y xs → count_by (is_of_path p) (earlier ++ y ∷ []) ≤ length (planned plans p)
    step (Program e) is = program e is
    step (Reset q) is = omega (arith, behind (Reset q), few)
    step Fresh is = omega (arith, behind Fresh, few)
    step (Act act) is = omega (arith, behind (Act act), few)
    step Power is = omega (arith, behind Power, few)

-- a path of which some program is in a journal
pub record SomePath (xs : List Item) : Type 0 where
  pub path : ℕ
  pub least : 1 ≤ path
  pub most : path ≤ 4
  pub some : 1 ≤ count_by (is_of_path path) xs

pub ran_some : (plans : Plans) (state : PlainState) (earlier xs : List Item) → IsLegalFrom plans state earlier xs → (ran : Bool) → is_started ran xs ≡ true →
    (ran ≡ true) ⊎ SomePath xs
ran_some plans state earlier [] legal ran is = inl is
ran_some plans state earlier (x ∷ xs) legal ran is = elim (ran_some plans (replay_item plans state x) (earlier ++ x ∷ []) xs legal.1 (started_by ran x) is) [
  | inl now ↦ step x legal.0 now
  | inr s ↦ inr (record { path = s.path; least = s.least; most = s.most; some = omega (arith, counted s.path x xs, s.some) })
]
  where
    step : (y : Item) → IsLegalItem plans state earlier y xs → started_by ran y ≡ true → (ran ≡ true) ⊎ SomePath (y ∷ xs)
    step (Program e) is now =
        let one : one_if (is_of_path e.path (Program e)) ≡ 1 = rw (eq-eqb e.path e.path refl) refl in
        inr (record { path = e.path; least = is.0.started.least; most = is.0.started.most; some = omega (arith, counted e.path (Program e) xs, one) })
    step (Reset q) is now = inl now
    step Fresh is now = inl now
    step (Act act) is now = inl now
    step Power is now = absurd (false≢true now)
