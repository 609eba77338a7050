-- A device that forgot is the one that it was with all of its past, where its journal is legal and no program runs.
use Rattle.std.proofs.Common.{◌≡◌, ℕ, ◌+◌, ◌-◌, ◌≤◌, inl, inr, true, false, List, [], ◌∷◌, ◌++◌, length, drop, map, min, Option, None, refl, sym, ap, ◌∙◌, arith}
use Rattle.std.specs.Prelude.{count_by, option_map}
use Rattle.std.proofs.Math.Seq.{drop-append-add, drop-length}
use Rattle.std.proofs.lemmas.Bool.{false≢true, ne_eqb}
use Rattle.std.proofs.lemmas.List.{append-nil, drop-drop, length-append, length-drop, length-take, take-append-drop}
use Rattle.ckd_types.specs.declared.channel.Ccw.{Ccw}
use Rattle.plain_defs.specs.declared.journal.Item.{Item}
use Rattle.plain_defs.specs.History.{OpenEntry}
use Rattle.plain_defs.specs.Journal.{Plans, planned}
use Rattle.plain_defs.specs.Legal.{IsLegal, is_of_path, is_started}
use Rattle.plain_defs.specs.PlainState.{PlainState}
use Rattle.device_defs.specs.Device.{Device}
use Rattle.device_defs.specs.Start.{started_count}
use Rattle.past_laws.specs.Forgotten.{forgotten, kept_of, left_of, plans_left, put_away, stubs_of, taken_of}
use Rattle.past_laws.specs.PutAway.{IsPutAway, PutAway, StandsFor, whole_entry, whole_item, whole_items, whole_plan, whole_plans}
use Rattle.past_laws.specs.WithPast.{with_past}
use Rattle.past_laws.proofs.Items.{count_kept, count_whole, started_whole, used_whole}
use Rattle.past_laws.proofs.Journals.{SomePath, ran_some, within_plans}
use Rattle.past_laws.proofs.Plans.{IsPath, first, fourth, path_is, planned_whole, second, third}
use Rattle.past_laws.proofs.Stubs.{four, started_is, started_powered}
use Rattle.past_laws.proofs.StubsTell.{count_told, paths, started_is_count, used_is_items, used_told}

four_at : (f : ℕ → List (List Ccw)) {path : ℕ} → IsPath path → planned (f 1 ∷ f 2 ∷ f 3 ∷ f 4 ∷ []) path ≡ f path
four_at f first = refl
four_at f second = refl
four_at f third = refl
four_at f fourth = refl

module _ {F P H : Type 0} (w : PutAway) (d : Device F P H) (away : IsPutAway w d.plans d.history) (idle : d.history.running ≡ None) (state : PlainState)
    (legal : IsLegal (whole_plans w d.plans) state (whole_items w d.history.items)) where
  abbrev items : List Item
  items = whole_items w d.history.items

  abbrev started : ℕ → ℕ
  started = started_count d.history

  abbrev taken : ℕ → List (List Ccw)
  taken = taken_of w d

  abbrev kept : ℕ → List (List Ccw)
  kept = kept_of d

  abbrev now : PutAway
  now = put_away w d

  abbrev started_count_is : (path : ℕ) → started path ≡ count_by (is_of_path path) d.history.items
  started_count_is = started_is_count d.history idle

  module _ (path : ℕ) (least : 1 ≤ path) (most : path ≤ 4) where
    abbrev later : ℕ
    later = count_by (is_of_path path) away.later

    here : started path ≡ length (planned w.kept path) + later
    here = omega (arith, started_count_is path, count_kept w d.plans d.history away path, (away.paths path least most).kept)

    all : count_by (is_of_path path) items ≡ length (planned w.programs path) + later
    all = omega (arith, count_whole w d.plans d.history away path, (away.paths path least most).away)

    long : length (whole_plan w d.plans path) ≡ length (planned w.programs path) + (length (planned d.plans path) - length (planned w.kept path))
    long =
        length-append (planned w.programs path) (drop (length (planned w.kept path)) (planned d.plans path))
        ∙ ap (λ (n : ℕ). length (planned w.programs path) + n) (length-drop (length (planned w.kept path)) (planned d.plans path))

    within : count_by (is_of_path path) items ≤ length (whole_plan w d.plans path)
    within =
        let none : count_by (is_of_path path) [] ≡ 0 = refl in
        let most' = within_plans (whole_plans w d.plans) state [] items legal path (omega (arith, none)) in
        let plan : length (planned (whole_plans w d.plans) path) ≡ length (whole_plan w d.plans path) = ap length (planned_whole w d.plans path least most) in
        omega (arith, most', plan)

    fits : started path ≤ length (planned d.plans path)
    fits = omega (arith, here, all, long, within, away.few path least most)

    long_left : length (left_of d.history d.plans path) ≡ length (planned d.plans path) - (started path - 1)
    long_left = length-drop (started path - 1) (planned d.plans path)

    long_kept : length (kept path) ≡ min (started path) 1
    long_kept = length-take (min (started path) 1) (left_of d.history d.plans path) ∙ omega (arith, long_left, fits)

    long_taken : length (taken path) ≡ count_by (is_of_path path) items
    long_taken = length-take (count_by (is_of_path path) items) (whole_plan w d.plans path) ∙ omega (arith, within)

    stands : StandsFor now path
    stands =
        let is = path_is path least most in record {
          used =
              used_told d.history idle path least most ∙ used_is_items d.history idle path ∙ sym (used_whole w d.plans d.history away path least most);
          away = sym (ap length (four_at taken is) ∙ long_taken);
          kept = count_told d.history idle path least most ∙ sym (ap length (four_at kept is) ∙ long_kept);
          some = λ none.
              let some = (away.paths path least most).some in
              let small : min (started path) 1 ≡ 0 = sym (ap length (four_at kept is) ∙ long_kept) ∙ none in
              let zeros : length (planned w.programs path) ≡ 0 = some (omega (arith, small, here)) in
              ap length (four_at taken is) ∙ long_taken ∙ omega (arith, all, zeros, small, here);
        }

    few : length (planned now.kept path) ≤ length (planned (plans_left d.history d.plans) path)
    few =
        let is = path_is path least most in
        omega (arith, ap length (four_at kept is), ap length (four_at (left_of d.history d.plans) is), long_kept, long_left, fits)

    -- its programs are in their places again
    joined : taken path ++ drop (length (kept path)) (left_of d.history d.plans path) ≡ whole_plan w d.plans path
    joined =
        let count = count_by (is_of_path path) items in
        let behind : drop (length (kept path)) (left_of d.history d.plans path) ≡ drop (started path) (planned d.plans path) =
        drop-drop (length (kept path)) (started path - 1) (planned d.plans path) ∙ ap (λ (n : ℕ). drop n (planned d.plans path)) (omega (arith, long_kept)) in
        let there : drop count (whole_plan w d.plans path) ≡ drop (started path) (planned d.plans path) =
        ap (λ (n : ℕ). drop n (whole_plan w d.plans path)) all
        ∙ drop-append-add (planned w.programs path) (drop (length (planned w.kept path)) (planned d.plans path)) later
        ∙ drop-drop later (length (planned w.kept path)) (planned d.plans path)
        ∙ ap (λ (n : ℕ). drop n (planned d.plans path)) (omega (arith, here)) in
        ap (λ (xs : List (List Ccw)). taken path ++ xs) (behind ∙ sym there) ∙ take-append-drop count (whole_plan w d.plans path)

  ran : is_started false d.history.items ≡ true → is_started false (four (paths d.history idle)) ≡ true
  ran is = elim (ran_some (whole_plans w d.plans) state [] items legal false (started_whole w d.plans d.history away ∙ is)) [
    | inl never ↦ absurd (false≢true never)
    | inr s ↦ started_is (paths d.history idle) (path_is s.path s.least s.most) (ne_eqb (started s.path) 0 (λ (e : started s.path ≡ 0). some s e))
  ]
    where
      some : (s : SomePath items) → started s.path ≡ 0 → ⊥
      some s e =
          let zeros : length (planned w.programs s.path) ≡ 0 = (away.paths s.path s.least s.most).some (omega (arith, e, here s.path s.least s.most)) in
          omega (arith, e, here s.path s.least s.most, all s.path s.least s.most, zeros, s.some)

  pub forgotten_away : IsPutAway (put_away w d) (forgotten d).plans (forgotten d).history
  forgotten_away = record {
    later = [];
    items = sym (append-nil (stubs_of d.history));
    paths = stands;
    started = started_powered (four (paths d.history idle)) (is_started false d.history.items) ran ∙ sym (started_whole w d.plans d.history away);
    few = few;
  }

  plans_again : whole_plans now (plans_left d.history d.plans) ≡ whole_plans w d.plans
  plans_again =
      ap (λ (xs : List (List Ccw)). xs ∷ whole_plan now left 2 ∷ whole_plan now left 3 ∷ whole_plan now left 4 ∷ []) (joined 1 (omega arith) (omega arith))
      ∙ ap (λ (xs : List (List Ccw)). whole_plan w d.plans 1 ∷ xs ∷ whole_plan now left 3 ∷ whole_plan now left 4 ∷ []) (joined 2 (omega arith) (omega arith))
      ∙ ap (λ (xs : List (List Ccw)). whole_plan w d.plans 1 ∷ whole_plan w d.plans 2 ∷ xs ∷ whole_plan now left 4 ∷ []) (joined 3 (omega arith) (omega arith))
      ∙ ap (λ (xs : List (List Ccw)). whole_plan w d.plans 1 ∷ whole_plan w d.plans 2 ∷ whole_plan w d.plans 3 ∷ xs ∷ []) (joined 4 (omega arith) (omega arith))
    where
      left : Plans
      left = plans_left d.history d.plans

  items_again : whole_items now (stubs_of d.history) ≡ items
  items_again = ap (λ (xs : List Item). items ++ map (whole_item now) xs) (drop-length (stubs_of d.history)) ∙ append-nil items

  pub forgotten_whole : with_past (put_away w d) (forgotten d) ≡ with_past w d
  forgotten_whole =
      ap (λ (plans : Plans). record (with_past now (forgotten d)) { plans = plans }) plans_again
      ∙ ap (λ (xs : List Item). record d {
        plans = whole_plans w d.plans;
        history = record { items = xs; running = option_map (whole_entry now) d.history.running; waiting = d.history.waiting };
      }) items_again
      ∙ ap (λ (o : Option OpenEntry). record d { plans = whole_plans w d.plans; history = record { items = items; running = o; waiting = d.history.waiting } })
      (ap (option_map (whole_entry now)) idle ∙ sym (ap (option_map (whole_entry w)) idle))
