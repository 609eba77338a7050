-- What a history tells of a device that finished.
use Rattle.std.proofs.Common.{◌≡◌, ◌⊎◌, inl, inr, ◌≤◌, ◌∙◌, ◌+◌, ◌-◌, ◌++◌, ℕ, zero, suc, Bool, true, false, List, [], ◌∷◌, length, map, cond, Option, Some, None, is_some, refl, sym, ap, subst, arith, append_assoc}
use Rattle.std.proofs.lemmas.Bool.{and_parts, not-true, or_cases}
use Rattle.std.specs.Prelude.{◌==◌, ◌&&◌, ◌||◌, not, count_by, if◌then◌else◌}
use Rattle.std.specs.List.{list_all}
use Rattle.std.proofs.lemmas.Bool.{eqb-true}
use Rattle.std.proofs.lemmas.List.{append-nil}
use Rattle.std.proofs.lemmas.List.Sums.{sum_by-append, sum_by-cons}
use Rattle.plain_defs.specs.declared.journal.Item.{Item}
use Rattle.plain_defs.specs.declared.journal.Item.TheVariants as items
use Rattle.plain_defs.specs.History.{OpenEntry, is_path_of, plain_of, state_by}
use Rattle.plain_defs.specs.Journal.{Plans, planned, program_of, replay, replay_item}
use Rattle.plain_defs.specs.Legal.{IsLegal, IsLegalFrom, IsLegalItem, is_of_path}
use Rattle.plain_defs.specs.PlainState.{PathsState, PlainState, is_admitted}
use Rattle.device_defs.specs.Device.{Device}
use Rattle.device_defs.specs.Pledge.{are_kept, ends_with_data_check}
use Rattle.device_defs.specs.Start.{has_none_or_is_out, is_finished, is_shut, keeps_out, left, next_program, started_count}
use Rattle.path_workers.proofs.Keeping.{none_of}
use Rattle.path_top.specs.Histories.{IsToldBy, next_of, ran}
use Rattle.path_top.specs.Told.{DeviceTold, left_of}

-- The programs of a legal journal are planned

one_counted : (p : Item → Bool) (xs : List Item) (x : Item) → count_by p (xs ++ x ∷ []) ≡ count_by p xs + cond (p x) 1 0
one_counted p xs x =
    let both : count_by p (xs ++ x ∷ []) ≡ count_by p xs + count_by p (x ∷ []) = sum_by-append (λ y. cond (p y) 1 0) xs (x ∷ []) in
    let one : count_by p (x ∷ []) ≡ cond (p x) 1 0 + count_by p [] = sum_by-cons (λ y. cond (p y) 1 0) x [] in
    let none : count_by p [] ≡ 0 = refl in
    omega (arith, both, one, none)

module _ (plans : Plans) (path : ℕ) where
  entry_most : (b : Bool) (p ordinal : ℕ) (earlier : List Item) → (p == path) ≡ b → ordinal ≤ length (planned plans p) →
      ordinal ≡ count_by (is_of_path p) earlier + 1 → count_by (is_of_path path) earlier ≤ length (planned plans path) →
      count_by (is_of_path path) earlier + cond b 1 0 ≤ length (planned plans path)
  entry_most true p ordinal earlier is within next most =
      let same : p ≡ path = eqb-true p path is in
      let less : ordinal ≤ length (planned plans path) = subst (λ (n : ℕ). ordinal ≤ length (planned plans n)) same within in
      let more : ordinal ≡ count_by (is_of_path path) earlier + 1 = subst (λ (n : ℕ). ordinal ≡ count_by (is_of_path n) earlier + 1) same next in
      omega (arith, less, more)
  entry_most false p ordinal earlier is within next most = omega (arith, most)

  item_most : (s : PlainState) (earlier : List Item) (x : Item) (later : List Item) → IsLegalItem plans s earlier x later →
      count_by (is_of_path path) earlier ≤ length (planned plans path) →
      count_by (is_of_path path) earlier + cond (is_of_path path x) 1 0 ≤ length (planned plans path)
  item_most s earlier (items.Program e) later legal most =
      entry_most (e.path == path) e.path e.ordinal earlier refl legal.0.started.in_plan legal.0.started.ordinal_is most
  item_most s earlier (items.Reset p) later legal most = omega (arith, most)
  item_most s earlier items.Fresh later legal most = omega (arith, most)
  item_most s earlier (items.Act act) later legal most = omega (arith, most)
  item_most s earlier items.Power later legal most = omega (arith, most)

  all_planned : (s : PlainState) (earlier xs : List Item) → count_by (is_of_path path) earlier ≤ length (planned plans path) →
      IsLegalFrom plans s earlier xs → count_by (is_of_path path) (earlier ++ xs) ≤ length (planned plans path)
  all_planned s earlier [] most legal =
      subst (λ (l : List Item). count_by (is_of_path path) l ≤ length (planned plans path)) (sym (append-nil earlier)) most
  all_planned s earlier (x ∷ xs) most legal =
      let counted = one_counted (is_of_path path) earlier x in
      let one = item_most s earlier x xs legal.0 most in
      subst (λ (l : List Item). count_by (is_of_path path) l ≤ length (planned plans path)) (append_assoc earlier (x ∷ []) xs)
      (all_planned (replay_item plans s x) (earlier ++ x ∷ []) xs (omega (arith, counted, one)) legal.1)

  pub legal_planned : (s : PlainState) (xs : List Item) → IsLegal plans s xs → count_by (is_of_path path) xs ≤ length (planned plans path)
  legal_planned s xs legal = all_planned s [] xs (let none : count_by (is_of_path path) [] ≡ 0 = refl in omega (arith, none)) legal

home_shut : {X : Type 0} (o : Option X) (b : Bool) → (is_some o || b) ≡ true → o ≡ None → b ≡ true
home_shut (Some x) b e none = absurd (cc)
home_shut None b e none = e

-- of four paths
module _ (test : ℕ → Bool) where
  of_four : (path : ℕ) → 1 ≤ path → path ≤ 4 → list_all test (1 ∷ 2 ∷ 3 ∷ 4 ∷ []) ≡ true → test path ≡ true
  of_four zero least most all = absurd (omega (arith, least))
  of_four (suc zero) least most all = (and_parts (test 1) _ all).0
  of_four (suc (suc zero)) least most all = (and_parts (test 2) _ (and_parts (test 1) _ all).1).0
  of_four (suc (suc (suc zero))) least most all = (and_parts (test 3) _ (and_parts (test 2) _ (and_parts (test 1) _ all).1).1).0
  of_four (suc (suc (suc (suc zero)))) least most all =
      (and_parts (test 4) _ (and_parts (test 3) _ (and_parts (test 2) _ (and_parts (test 1) _ all).1).1).1).0
  of_four (suc (suc (suc (suc (suc path))))) least most all = absurd (omega (arith, most))

module _ {F P H : Type 0} (d : Device F P H) (first : PlainState) (lost : List ℕ) where
  abbrev pub telling : DeviceTold
  telling = record {
    device = d.store.device;
    journal = d.history.items;
    left = map (left d) (1 ∷ 2 ∷ 3 ∷ 4 ∷ []);
    lent = d.store.lent;
    lost = lost;
  }

  left_is : (path : ℕ) → 1 ≤ path → path ≤ 4 → left_of telling path ≡ left d path
  left_is zero least most = absurd (omega (arith, least))
  left_is (suc zero) least most = refl
  left_is (suc (suc zero)) least most = refl
  left_is (suc (suc (suc zero))) least most = refl
  left_is (suc (suc (suc (suc zero)))) least most = refl
  left_is (suc (suc (suc (suc (suc path))))) least most = absurd (omega (arith, most))

  -- what is so of a device that finished
  pub record IsOver : Type 0 where
    pub over : is_finished d ≡ true
    pub kept : are_kept d.history.items ≡ true
    pub good : count_by ends_with_data_check d.history.items ≡ 0
    pub away : is_some d.store.lent ≡ true → d.history.items ≡ []
    pub legal : IsLegal d.plans first d.history.items
    pub paths : d.store.lent ≡ None → d.paths ≡ (plain_of d.plans first d.history).paths

  module _ (o : IsOver) where
    idle : d.history.running ≡ None
    idle = none_of d.history.running (not-true (is_some d.history.running) (and_parts (not (is_some d.history.running)) _ o.over).0)

    started_is : (path : ℕ) → started_count d.history path ≡ ran telling path
    started_is path =
        let e : started_count d.history path ≡ ran telling path + 0 =
        ap (λ (r : Option OpenEntry). count_by (is_of_path path) d.history.items + (if is_path_of r path then 1 else 0)) idle in
        omega (arith, e)

    rest_is : (path : ℕ) → 1 ≤ path → path ≤ 4 → ran telling path + left_of telling path ≡ length (planned d.plans path)
    rest_is path least most =
        let few = legal_planned d.plans path first d.history.items o.legal in
        let is = left_is path least most in
        let is_left : left d path ≡ length (planned d.plans path) - ran telling path =
        ap (λ (n : ℕ). length (planned d.plans path) - n) (started_is path) in
        omega (arith, few, is, is_left)

    paths_are : d.store.lent ≡ None → d.paths ≡ (replay d.plans first d.history.items).paths
    paths_are free =
        o.paths free ∙ ap (λ (r : Option OpenEntry). (state_by d.plans (replay d.plans first d.history.items) r).paths) idle

    out_is : (path : ℕ) → d.store.lent ≡ None → keeps_out d path ≡ true →
        is_admitted (replay d.plans first d.history.items).paths path (next_of d.plans telling path) ≡ false
    out_is path free out =
        ap (λ (p : PathsState). is_admitted p path (next_of d.plans telling path)) (sym (paths_are free))
        ∙ ap (λ (n : ℕ). is_admitted d.paths path (program_of d.plans path (n + 1))) (sym (started_is path))
        ∙ not-true (is_admitted d.paths path (next_program d path)) out

    by_test : (path : ℕ) → 1 ≤ path → path ≤ 4 → d.store.lent ≡ None → ((left d path == 0) ≡ true) ⊎ (keeps_out d path ≡ true) →
        (left_of telling path ≡ 0) ⊎ (is_admitted (replay d.plans first d.history.items).paths path (next_of d.plans telling path) ≡ false)
    by_test path least most free (inl none) = inl (left_is path least most ∙ eqb-true (left d path) 0 none)
    by_test path least most free (inr out) = inr (out_is path free out)

    shut : d.store.lent ≡ None → is_shut d ≡ true
    shut free = home_shut d.store.lent (is_shut d) (and_parts (not (is_some d.history.running)) _ o.over).1 free

    pub told_so : IsToldBy d.plans first telling
    told_so = record {
      legal = o.legal;
      kept = o.kept;
      good = o.good;
      all_ran = rest_is;
      away = o.away;
      kept_out = λ path least most free.
          by_test path least most free (or_cases (left d path == 0) (keeps_out d path) (of_four (has_none_or_is_out d) path least most (shut free)));
    }
