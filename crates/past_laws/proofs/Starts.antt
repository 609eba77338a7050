-- What a path may start next is the same for a device whose past was put away and for the whole one, and so is the start.
use Rattle.std.proofs.Common.{◌≡◌, ℕ, ◌+◌, ◌-◌, ◌≤◌, List, length, Option, Some, None, refl, sym, ap, ◌∙◌, arith}
use Rattle.std.specs.Prelude.{count_by, if◌then◌else◌, option_map}
use Rattle.ckd_types.specs.declared.channel.Ccw.{Ccw}
use Rattle.ckd_types.specs.declared.paths.Owner.{Owner}
use Rattle.ckd_chain.specs.Steps.{begun_chain}
use Rattle.plain_defs.specs.History.{History, OpenEntry, is_path_of, started}
use Rattle.plain_defs.specs.Journal.{planned, program_of}
use Rattle.plain_defs.specs.Legal.{is_of_path}
use Rattle.plain_defs.specs.Program.{sense_begun}
use Rattle.device_defs.specs.Device.{Device}
use Rattle.device_defs.specs.Orders.{restore}
use Rattle.device_defs.specs.Start.{fault_by, has_none_or_is_out, idle_fault, is_shut, left, next_ordinal, next_program, reserved_fault, running_fault, start, start_fault, started_count}
use Rattle.device_defs.specs.Store.{store_fixed}
use Rattle.past_laws.specs.PutAway.{IsPutAway, PutAway, whole_entry, whole_history, whole_ordinal, whole_plans}
use Rattle.past_laws.specs.WithPast.{with_past}
use Rattle.past_laws.proofs.Items.{away_same, count_kept, count_whole}
use Rattle.past_laws.proofs.Histories.{emptied_away, emptied_whole, path_same}
use Rattle.past_laws.proofs.Plans.{left_whole, program_whole}

module _ {F P H : Type 0} (w : PutAway) (d : Device F P H) (away : IsPutAway w d.plans d.history) where
  abbrev whole : Device F P H
  whole = with_past w d

  -- how many of a path were started behind those that are kept
  abbrev behind : ℕ → ℕ
  behind path = count_by (is_of_path path) away.later + (if is_path_of d.history.running path then 1 else 0)

  module _ (path : ℕ) (least : 1 ≤ path) (most : path ≤ 4) where
    pub started_here : started_count d.history path ≡ length (planned w.kept path) + behind path
    started_here =
        let stubs = (away.paths path least most).kept in
        let count = count_kept w d.plans d.history away path in
        omega (arith, stubs, count)

    pub started_whole : started_count (whole_history w d.history) path ≡ length (planned w.programs path) + behind path
    started_whole =
        let put = (away.paths path least most).away in
        let count = count_whole w d.plans d.history away path in
        rw (path_same w d.history.running path) (omega (arith, put, count))

    pub left_same : left (with_past w d) path ≡ left d path
    left_same =
        ap (λ (n : ℕ). length (planned (whole_plans w d.plans) path) - n) started_whole
        ∙ left_whole w d.plans path least most (behind path) (away.few path least most)
        ∙ ap (λ (n : ℕ). length (planned d.plans path) - n) (sym started_here)

    next_place : whole_ordinal w path (next_ordinal d path) ≡ next_ordinal (with_past w d) path
    next_place = omega (arith, started_here, started_whole)

    pub next_same : next_program (with_past w d) path ≡ next_program d path
    next_same =
        ap (program_of (whole_plans w d.plans) path) (sym next_place)
        ∙ program_whole w d.plans path least most (next_ordinal d path) (omega (arith, started_here))

    out_same : has_none_or_is_out (with_past w d) path ≡ has_none_or_is_out d path
    out_same = rw (left_same, next_same) refl

  shut_same : is_shut (with_past w d) ≡ is_shut d
  shut_same =
      rw (out_same 1 (omega arith) (omega arith), out_same 2 (omega arith) (omega arith), out_same 3 (omega arith) (omega arith), out_same 4 (omega arith) (omega arith)) refl

  reserved_same : (o : Option Owner) → reserved_fault (with_past w d) o ≡ reserved_fault d o
  reserved_same (Some owner) = rw shut_same refl
  reserved_same None = refl

  module _ (path : ℕ) (least : 1 ≤ path) (most : path ≤ 4) where
    idle_same : idle_fault (with_past w d) path ≡ idle_fault d path
    idle_same = rw (left_same path least most, next_same path least most, reserved_same d.paths.owner) refl

    running_same : (o : Option OpenEntry) → running_fault (with_past w d) path (option_map (whole_entry w) o) ≡ running_fault d path o
    running_same (Some o) = refl
    running_same None = idle_same

    fault_by_same : (lent : Option ℕ) → fault_by (with_past w d) path lent ≡ fault_by d path lent
    fault_by_same (Some of) = refl
    fault_by_same None = running_same d.history.running

    pub fault_same : start_fault (with_past w d) path ≡ start_fault d path
    unfolding start_fault
    fault_same = fault_by_same d.store.lent

    abbrev begun : List Ccw → ℕ → Device F P H
    begun ccws ordinal = record (with_past w d) {
      paths = sense_begun d.paths path ccws;
      history = started (whole_history w d.history) path ordinal;
      chain = Some (begun_chain ccws (store_fixed d.store));
    }

    pub start_whole : with_past w (start d path) ≡ start (with_past w d) path
    unfolding start
    start_whole = ap (begun (next_program d path)) (next_place path least most) ∙ ap (λ (ccws : List Ccw). begun ccws (next_ordinal (with_past w d) path)) (sym (next_same path least most))

  pub start_away : (path : ℕ) → IsPutAway w (start d path).plans (start d path).history
  unfolding start
  start_away path = away_same w d.plans d.history away (started d.history path (next_ordinal d path)) refl

  -- ---- an empty volume

  pub restore_whole : with_past w (restore d) ≡ restore (with_past w d)
  restore_whole = ap (λ (h : History). record (restore (with_past w d)) { history = h }) (emptied_whole w d.plans d.history away)

  pub restore_away : IsPutAway w (restore d).plans (restore d).history
  restore_away = emptied_away w d.plans d.history away
