-- Where no line of a deck is a FAIL or a FAULT, its history has no equipment check and no lost track.
use Rattle.std.proofs.Common.{◌≡◌, ◌≤◌, ◌+◌, ◌*◌, ◌==◌, ◌∙◌, ℕ, Bool, true, false, List, [], ◌∷◌, length, get_or, cond, Option, Some, None, is_some, refl, sym, ap, arith, eqb-true}
use Rattle.std.proofs.lemmas.Bool.{and_parts, or_left, or_right}
use Rattle.std.specs.Prelude.{◌&&◌, ◌||◌, not, nat_le, All, count_by, if◌then◌else◌}
use Rattle.std.specs.List.{AllZip}
use Rattle.std.proofs.lemmas.List.Elements.{All-cons, All-nil}
use Rattle.std.proofs.lemmas.List.Sums.{sum_by-cons}
use Rattle.deck_plan.specs.declared.event.EventLine.{EventLine}
use Rattle.deck_text.specs.declared.line.DeviceLine.{DeviceLine}
use Rattle.deck_text.specs.declared.line.FaultLine.{FaultLine}
use Rattle.deck_text.specs.DeckLines.{DeckLines}
use Rattle.deck_text.specs.Plans.{plans_of}
use Rattle.plain_defs.specs.declared.journal.Acted.{Acted}
use Rattle.plain_defs.specs.declared.journal.Item.{Item}
use Rattle.plain_defs.specs.declared.journal.Item.TheVariants as items
use Rattle.plain_defs.specs.Entry.{ProgramEntry}
use Rattle.plain_defs.specs.Journal.{Plans, last_sense, replay_item}
use Rattle.plain_defs.specs.PlainState.{PlainState}
use Rattle.device_defs.specs.declared.counts.Counts.{Counts}
use Rattle.device_defs.specs.Command.{has_loss, is_loss}
use Rattle.device_defs.specs.Excused.{has_lost, is_checked, is_equipment_check, is_unexplained, last_command, loose_losses, losses_in, losses_of, may_lose, unexplained, unexplained_item}
use Rattle.device_laws.specs.NewDevice.{first_state}
use Rattle.device_laws.specs.Unharmed.{ends_with_equipment_check}
use Rattle.subsystem_defs.specs.Decks.{Firsts}
use Rattle.subsystem_defs.specs.Happening.{is_lent_to}
use Rattle.subsystem_defs.specs.Subsystem.{Mounted, number_of}
use Rattle.path_top.specs.Excuses.{excuses_on, faults_of, fails_nothing, is_cache_loss, is_device, is_fail, is_side_loss, is_store_loss, lent_faults, marks_by, side_loss}
use Rattle.path_top.specs.Histories.{AreToldOfOn, HasNoFailure, IsExcusedBy, IsToldOfOn}
use Rattle.path_top.specs.Pairs.{paired_on}
use Rattle.path_top.specs.Told.{DeviceTold}
use Rattle.path_top.proofs.Allowing.{counted_cons, one_if}
use Rattle.path_top.proofs.Marked.{none_marked, none_told}
use Rattle.path_top.proofs.MoreExcused.{none_less}

-- Nothing is counted

none_left : (x y : ℕ) → x + y ≡ 0 → (x ≡ 0) × (y ≡ 0)
none_left x y e = (omega (arith, e), omega (arith, e))

none_of : (b c : Bool) → (b ≡ true → c ≡ true) → one_if c ≡ 0 → one_if b ≡ 0
none_of true true h e = e
none_of true false h e = absurd (let both : false ≡ true = h refl in cc)
none_of false c h e = refl

none_counted : (p q : EventLine → Bool) → ((e : EventLine) → p e ≡ true → q e ≡ true) → (es : List EventLine) → count_by q es ≡ 0 → count_by p es ≡ 0
none_counted p q h [] none = refl
none_counted p q h (e ∷ es) none =
    let both = none_left (cond (q e) 1 0) (count_by q es) (sym (counted_cons q e es) ∙ none) in
    let first = none_of (p e) (q e) (h e) both.0 in
    let rest = none_counted p q h es both.1 in
    let all = counted_cons p e es in
    omega (arith, all, first, rest)

some_device : (o : Option ℕ) (n : ℕ) → is_device o n ≡ true → is_some o ≡ true
some_device (Some d) n e = refl
some_device None n e = absurd (cc)

module _ (firsts : Firsts) (deck : DeckLines) (none : fails_nothing deck ≡ true) where
  no_fault : length deck.faults ≡ 0
  no_fault = eqb-true (length deck.faults) 0 (and_parts (length deck.faults == 0) (count_by is_fail deck.events == 0) none).0

  no_fail : count_by is_fail deck.events ≡ 0
  no_fail = eqb-true (count_by is_fail deck.events) 0 (and_parts (length deck.faults == 0) (count_by is_fail deck.events == 0) none).1

  no_lines : (fs : List FaultLine) (n : ℕ) → length fs ≡ 0 → count_by (λ (f : FaultLine). f.device == n) fs ≡ 0
  no_lines [] n e = refl
  no_lines (f ∷ fs) n e = absurd (omega (arith, e))

  no_part : (b : Bool) (n : ℕ) → n ≡ 0 → (if b then n else 0) ≡ 0
  no_part true n e = e
  no_part false n e = refl

  none_lent : (n : ℕ) (ms : List Mounted) → lent_faults deck n ms ≡ 0
  none_lent n [] = refl
  none_lent n (m ∷ ms) =
      let part = no_part (is_lent_to m.device.store.lent n) (faults_of deck (number_of m)) (no_lines deck.faults (number_of m) no_fault) in
      let rest = none_lent n ms in
      omega (arith, part, rest)

  module _ (n : ℕ) where
    none_failed : (excuses_on firsts deck n).failed ≡ 0
    none_failed =
        let own = no_lines deck.faults n no_fault in
        let lent = none_lent n (paired_on firsts deck).mounted in
        omega (arith, own, lent)

    no_cache : (excuses_on firsts deck n).losses.cache ≡ 0
    no_cache =
        none_counted is_cache_loss is_fail (λ e is. or_left (is_cache_loss e) (is_store_loss e || is_some (side_loss e)) is) deck.events no_fail

    no_side : (excuses_on firsts deck n).losses.sides ≡ 0
    no_side =
        none_counted (is_side_loss n) is_fail
        (λ e is.
        or_right (is_cache_loss e) (is_store_loss e || is_some (side_loss e))
        (or_right (is_store_loss e) (is_some (side_loss e)) (some_device (side_loss e) n is))) deck.events no_fail

-- So nothing is excused

none_may : (c : Counts) → c.failed ≡ 0 → c.losses.sides ≡ 0 → c.losses.cache ≡ 0 → may_lose c ≡ false
none_may c failed sides cache = rw (failed, sides, cache) refl

none_lost_in : (lost : List Bool) → ((t : ℕ) → get_or lost t false ≡ false) → (ts : List ℕ) → has_lost lost ts ≡ false
none_lost_in lost h [] = refl
none_lost_in lost h (t ∷ ts) = ap (λ (b : Bool). b || has_lost lost ts) (h t) ∙ none_lost_in lost h ts

no_loss_in : (acts : List Acted) → losses_in acts ≡ 0 → has_loss acts ≡ false
no_loss_in [] none = refl
no_loss_in (a ∷ acts) none =
    by_test (is_loss a.act) (sym (sum_by-cons (λ (x : Acted). cond (is_loss x.act) 1 0) a acts) ∙ none) (no_loss_in acts)
  where
    by_test : (b : Bool) → cond b 1 0 + losses_in acts ≡ 0 → (losses_in acts ≡ 0 → has_loss acts ≡ false) → (if b then true else has_loss acts) ≡ false
    by_test true e more = absurd (omega (arith, e))
    by_test false e more = more (omega (arith, e))

module _ (plans : Plans) (lost : List Bool) (c : Counts) (failed : c.failed ≡ 0) (sides : c.losses.sides ≡ 0) (kept : (t : ℕ) → get_or lost t false ≡ false) where
  is_none_if : (b : Bool) → one_if b ≡ 0 → b ≡ false
  is_none_if true e = absurd (cc)
  is_none_if false e = refl

  plainly : (checked equipment write : Bool) → (checked && equipment && not false && (not false && (not write || (true && true)))) ≡ false →
      (checked && equipment) ≡ false
  plainly true true true e = absurd (cc)
  plainly true true false e = absurd (cc)
  plainly true false write e = refl
  plainly false equipment write e = refl

  as_plainly : (checked equipment gone out write none few : Bool) → gone ≡ false → out ≡ false → none ≡ true → few ≡ true →
      (checked && equipment && not gone && (not out && (not write || (none && few))))
      ≡ (checked && equipment && not false && (not false && (not write || (true && true))))
  as_plainly checked equipment gone out write none few a b d e = rw (a, b, d, e) refl

  entry_good : (state : PlainState) (e : ProgramEntry) → losses_in e.acts ≡ 0 → is_unexplained plans state lost c e ≡ false →
      (is_checked e.how && is_equipment_check (last_sense e.ends)) ≡ false
  entry_good state e none is =
      let l = last_command plans state e in
      plainly (is_checked e.how) (is_equipment_check (last_sense e.ends)) l.writes
      (sym (as_plainly (is_checked e.how) (is_equipment_check (last_sense e.ends)) (has_loss e.acts) (has_lost lost l.touched) l.writes
      (c.losses.sides == 0) (nat_le c.failed 1) (no_loss_in e.acts none) (none_lost_in lost kept l.touched) (ap (λ (n : ℕ). n == 0) sides)
      (ap (λ (n : ℕ). nat_le n 1) failed)) ∙ is)

  item_good : (state : PlainState) (x : Item) → losses_of x ≡ 0 → unexplained_item plans state lost c x ≡ 0 → ends_with_equipment_check x ≡ false
  item_good state (items.Program e) none few = entry_good state e none (is_none_if (is_unexplained plans state lost c e) few)
  item_good state (items.Act act) none few = refl
  item_good state (items.Reset path) none few = refl
  item_good state items.Fresh none few = refl
  item_good state items.Power none few = refl

  all_good : (state : PlainState) (xs : List Item) → loose_losses xs ≡ 0 → unexplained plans state lost c xs ≡ 0 →
      count_by ends_with_equipment_check xs ≡ 0
  all_good state [] none few = refl
  all_good state (x ∷ xs) none few =
      let losses = none_left (losses_of x) (loose_losses xs) none in
      let checks = none_left (unexplained_item plans state lost c x) (unexplained plans (replay_item plans state x) lost c xs) few in
      let here : one_if (ends_with_equipment_check x) ≡ 0 = ap one_if (item_good state x losses.0 checks.0) in
      let rest = all_good (replay_item plans state x) xs losses.1 checks.1 in
      let all = counted_cons ends_with_equipment_check x xs in
      omega (arith, all, here, rest)

-- Of a device of the history

module _ (firsts : Firsts) (deck : DeckLines) (none : fails_nothing deck ≡ true) where
  home_good : (line : DeviceLine) (x : DeviceTold) → (plans : Plans) (empty : PlainState) (many : ℕ) →
      IsExcusedBy plans empty many (excuses_on firsts deck line.number) x → (count_by ends_with_equipment_check x.journal ≡ 0) × (x.lost ≡ [])
  home_good line x plans empty many is =
      let n = line.number in
      let c = excuses_on firsts deck n in
      let failed = none_failed firsts deck none n in
      let marks = is.is.tracks (none_may c failed (no_side firsts deck none n) (no_cache firsts deck none n)) in (
        all_good plans (marks_by many x.lost) c failed (no_side firsts deck none n) (none_marked (marks_by many x.lost) marks) empty x.journal
            (none_less (loose_losses x.journal) c.losses.cache is.is.loose (no_cache firsts deck none n))
            (none_less (unexplained plans empty (marks_by many x.lost) c x.journal) c.failed is.is.checks failed),
        none_told many x.lost is.tracks marks,
      )

  one_good : (line : DeviceLine) (x : DeviceTold) → IsToldOfOn firsts deck line x → (o : Option ℕ) → x.lent ≡ o → HasNoFailure x
  one_good line x is None free =
      let both = home_good line x (plans_of deck.programs line.number) (first_state line.geometry line.cylinders (firsts line.number line.cylinders))
      (line.cylinders * 15) (is.excused free) in
      record { checks = both.0; lost = λ home. both.1 }
  one_good line x is (Some to) lent = record {
    checks = ap (λ (xs : List Item). count_by ends_with_equipment_check xs) (is.is.away (ap (λ (o : Option ℕ). is_some o) lent));
    lost = λ home. absurd (cc);
  }

  all_have_none : (ls : List DeviceLine) (xs : List DeviceTold) → AllZip (IsToldOfOn firsts deck) ls xs → All HasNoFailure xs
  all_have_none [] [] z = All-nil HasNoFailure
  all_have_none [] (x ∷ xs) z = absurd z
  all_have_none (line ∷ ls) [] z = absurd z
  all_have_none (line ∷ ls) (x ∷ xs) z = All-cons HasNoFailure x xs (one_good line x z.0 x.lent refl) (all_have_none ls xs z.1)

  pub none_failed_at_all : (xs : List DeviceTold) → AreToldOfOn firsts deck xs → All HasNoFailure xs
  none_failed_at_all xs are = all_have_none deck.devices xs are.each
