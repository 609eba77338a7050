-- POWER: what it does is told of one device after another.
use Rattle.std.proofs.Common.{◌≡◌, ◌≤◌, ◌+◌, ◌++◌, ℕ, Bool, true, false, List, [], ◌∷◌, map, length, drop, Option, Some, None, refl, ap, subst, suc, zero, append_assoc, if◌then◌else◌, arith, inl, inr}
use Rattle.std.specs.Prelude.{◌⊎◌, Ok}
use Rattle.std.proofs.lemmas.Bool.{eq-eqb, ne_eqb, and_from, or_right}
use Rattle.std.proofs.lemmas.List.{append-nil, map-append}
use Rattle.deck_plan.specs.declared.event.EventLine.{EventLine}
use Rattle.deck_plan.specs.declared.event.EventLine.TheVariants as wanted
use Rattle.plain_defs.specs.History.{OpenEntry}
use Rattle.device_outside.specs.Pool.{Pool, power_lost}
use Rattle.device_defs.specs.Contents.{by_plain}
use Rattle.device_defs.specs.Cutting.{power}
use Rattle.device_defs.specs.Marks.{MarksDevice}
use Rattle.device_laws.proofs.Had.{held}
use Rattle.device_laws.proofs.PlainEvents.{had_both}
use Rattle.device_laws.proofs.PlainPower.{power_follows}
use Rattle.report_text.specs.declared.answers.OrderAnswer.TheVariants as answers
use Rattle.report_text.specs.declared.line.ReportLine.{ReportLine}
use Rattle.report_text.specs.declared.line.ReportLine.TheVariants as lines
use Rattle.report_text.specs.declared.order.Order.TheVariants as orders
use Rattle.deck_audit.specs.declared.state.Due.{Due}
use Rattle.deck_audit.specs.declared.state.Due.TheVariants.{Next, Powers}
use Rattle.deck_audit.specs.Place.{in_power}
use Rattle.deck_audit.specs.Device as A
use Rattle.deck_audit.specs.Device.{AuditedDevice, is_next_legal, open_program, outline_of, state_of, with_device}
use Rattle.deck_audit.specs.History.{cut_by_power, loss_line, place_of, power_cut, power_made, without_power}
use Rattle.deck_audit.specs.State.{AuditState}
use Rattle.deck_audit.specs.Verdict.{judged}
use Rattle.run_report.specs.Beside.{loose_lines, of_each, over_lines, power_lines}
use Rattle.subsystem_defs.specs.declared.event.Event.TheVariants as events
use Rattle.subsystem_defs.specs.Deeds as E
use Rattle.subsystem_defs.specs.Happening as H
use Rattle.subsystem_defs.specs.Happening.{happens, held_with, sweep, told_to}
use Rattle.subsystem_defs.specs.Lines.{Once}
use Rattle.subsystem_defs.specs.Subsystem.{Mounted, Subsystem, devices_of}
use Rattle.subsystem_laws.proofs.PlainRuns.{ArePlain}
use Rattle.audit_laws.specs.Standing.{LeadsBy, audited}
use Rattle.audit_laws.proofs.own.CacheLines.{IsBelow, below_one, found_here, put_here}
use Rattle.audit_laws.proofs.own.DeckNumbers.{RisesFrom}
use Rattle.audit_laws.proofs.own.Found.{devices}
use Rattle.audit_laws.proofs.own.Leading.{EventLeads, leads_on, one_leads}
use Rattle.audit_laws.proofs.own.PowerDevices.{power_makes}
use Rattle.audit_laws.proofs.own.PowerTold.{IsCutNow, IsGone, IsKept, IsOffTold, IsUncut, cut_line, power_told_of}
use Rattle.audit_laws.proofs.own.Saying.{same_loose, same_number}

-- The devices, swept

abbrev AllOff : List MarksDevice → List MarksDevice → Type 0
AllOff [] [] = Unit {0}
AllOff (x ∷ xs) (y ∷ ys) = IsOffTold x y × AllOff xs ys
AllOff _ _ = ⊥

power_swept : (ms : List Mounted) (pool : Pool) → ArePlain ms → AllOff (devices ms) (devices (sweep (power by_plain) ms pool).mounted)
unfolding H.sweep
power_swept [] pool p = tt
power_swept (m ∷ ms) pool p =
    let d = m.device in
    let o = held_with pool m (power by_plain d) in
    let is = held true (had_both (power_makes p.0.number p.0.empty d p.0.follows) (power_follows p.0.number p.0.empty d p.0.follows)) (told_to pool m) in
    (power_told_of d o.state p.0 is.1 is.0, power_swept ms o.told.pool p.1)

-- Where the next line may stand

-- how many devices have told all
abbrev due_at : Option ℕ → Due
due_at None = Next
due_at (Some k) = Powers k

abbrev from : Option ℕ → ℕ
from None = 0
from (Some k) = k

-- a device that tells nothing is passed over
abbrev IsPassed : AuditedDevice → Type 0
IsPassed a = (a.history.running ≡ None) × (A.has_loose a ≡ false)

abbrev AllPassed : List AuditedDevice → Type 0
AllPassed [] = Unit {0}
AllPassed (a ∷ all) = IsPassed a × AllPassed all

-- those that have told all, and those that are passed over then
record Along (low : ℕ) (done : List AuditedDevice) (last : Option ℕ) : Type 0 where
  most : from last ≤ length done
  pass : AllPassed (drop (from last) done)
  below : IsBelow low done

none_left : (done : List AuditedDevice) → AllPassed (drop (length done) done)
none_left [] = tt
none_left (a ∷ done) = none_left done

passed_more : (k : ℕ) (done : List AuditedDevice) (a : AuditedDevice) → k ≤ length done → AllPassed (drop k done) → IsPassed a →
    AllPassed (drop k (done ++ a ∷ []))
passed_more zero [] a most p is = (is, tt)
passed_more zero (x ∷ done) a most p is = (p.0, passed_more zero done a (omega arith) p.1 is)
passed_more (suc k) [] a most p is = absurd (omega (arith, most))
passed_more (suc k) (x ∷ done) a most p is = passed_more k done a (omega (arith, most)) p is

passes : (line : ReportLine) (k : ℕ) (done tail : List AuditedDevice) → k ≤ length done → AllPassed (drop k done) →
    in_power line (map outline_of tail) ≡ true → in_power line (drop k (map outline_of (done ++ tail))) ≡ true
passes line zero [] tail most p is = is
passes line zero (m ∷ done) tail most p is = grind (arith, passes line zero done tail (omega arith) p.1 is, or_right)
passes line (suc k) [] tail most p is = absurd (omega (arith, most))
passes line (suc k) (m ∷ done) tail most p is = passes line k done tail (omega (arith, most)) p is

longer : (all : List AuditedDevice) (a : AuditedDevice) → length (all ++ a ∷ []) ≡ length all + 1
longer [] a = refl
longer (x ∷ all) a = let rest = longer all a in omega (arith, rest)

place_here : (low : ℕ) (a : AuditedDevice) → low ≤ a.number → (rest done : List AuditedDevice) → IsBelow low done →
    place_of (done ++ a ∷ rest) a.number ≡ length done
place_here low a le rest [] b = ap (λ (c : Bool). if c then 0 else place_of rest a.number + 1) (same_number a.number)
place_here low a le rest (x ∷ done) b = grind (arith, place_here low a le rest done b.1, ne_eqb)

module _ (later : List EventLine) where
  abbrev at : List AuditedDevice → Due → AuditState
  at all due = record { devices = all; events = wanted.Power ∷ later; due = due }

  module _ (low : ℕ) (done : List AuditedDevice) (last : Option ℕ) (g : Along low done last) where
    judged_so : (line : ReportLine) (tail : List AuditedDevice) (t : AuditState) → in_power line (map outline_of tail) ≡ true →
        power_made (at (done ++ tail) (due_at last)) line ≡ Some t → judged (at (done ++ tail) (due_at last)) line ≡ Ok t
    judged_so line tail t stands makes = grind (arith, passes line (from last) done tail g.most g.pass stands)

    ends_lead : LeadsBy (at (done ++ []) (due_at last)) (lines.Order orders.Power answers.Done ∷ [])
        (record { devices = map without_power done ++ []; events = later; due = Next })
    ends_lead = search (arith, append-nil, one_leads, judged_so)

    module _ (a : AuditedDevice) (least_is : low ≤ a.number) (rest : List AuditedDevice) where
      abbrev s : AuditState
      s = at (done ++ a ∷ rest) (due_at last)

      cut_by : (o : OpenEntry) (more : ℕ) → (more ≡ 0) ⊎ ((more ≡ 1) × (is_next_legal a a.history.running ≡ true)) →
          power_cut s a (length o.ends + more) o
          ≡ Some (record s { devices = with_device s.devices (cut_by_power a o more); due = Powers (place_of s.devices a.number) })
      cut_by o more x3 = grind (arith, eq-eqb, ne_eqb, and_from)

      -- its program is cut
      over_judged : (o : OpenEntry) → a.history.running ≡ Some o → (more : ℕ) →
          (more ≡ 0) ⊎ ((more ≡ 1) × (is_next_legal a a.history.running ≡ true)) →
          judged s (cut_line a o more) ≡ Ok (at (done ++ cut_by_power a o more ∷ rest) (Powers (length done)))
      over_judged o running more few =
          judged_so (cut_line a o more) (a ∷ rest) (at (done ++ cut_by_power a o more ∷ rest) (Powers (length done)))
          (grind (arith, and_from, same_number))
          (grind (arith, found_here low a least_is rest done g.below, cut_by o more few, put_here low a least_is rest done (cut_by_power a o more) refl g.below, place_here low a least_is rest done g.below))

      -- its data of cache fast write go
      gone_judged : a.history.running ≡ None → A.has_loose a ≡ true →
          judged s (loss_line a) ≡ Ok (at (done ++ a ∷ rest) (Powers (length done + 1)))
      gone_judged idle some =
          judged_so (loss_line a) (a ∷ rest) (at (done ++ a ∷ rest) (Powers (length done + 1)))
          (grind (arith, same_number))
          (grind (arith, found_here low a least_is rest done g.below, place_here low a least_is rest done g.below, and_from, same_number, same_loose))

  -- One device, line by line

  record OnTo (s : AuditState) (ls : List ReportLine) (low : ℕ) (done rest : List AuditedDevice) : Type 0 where
    last : Option ℕ
    along : Along low done last
    leads : LeadsBy s ls (at (done ++ rest) (due_at last))

  over_step : (low : ℕ) (done : List AuditedDevice) (last : Option ℕ) → Along low done last → (x y : MarksDevice) → low ≤ x.store.device →
      (middle : AuditedDevice) (rest : List AuditedDevice) → IsUncut x y middle ⊎ IsCutNow x y middle →
      OnTo (at (done ++ audited x ∷ rest) (due_at last)) (over_lines x y) low done (middle ∷ rest)
  over_step low done last g x y le middle rest (inl k) = search arith
  over_step low done last g x y le middle rest (inr k) = record {
    last = Some (length done);
    along = record { most = omega arith; pass = none_left done; below = g.below };
    leads = rw (k.line_is, k.middle_is) (_, over_judged low done last g (audited x) le rest k.o k.running k.more k.few, refl);
  }

  loose_step : (low : ℕ) (done : List AuditedDevice) (last : Option ℕ) → Along low done last → (x y : MarksDevice) → (middle : AuditedDevice) →
      low ≤ middle.number → (rest : List AuditedDevice) → middle.history.running ≡ None → IsKept x y middle ⊎ IsGone x y middle →
      OnTo (at (done ++ middle ∷ rest) (due_at last)) (loose_lines x y) (middle.number + 1) (done ++ middle ∷ []) rest
  loose_step low done last g x y middle le rest idle (inl k) = record {
    last = last;
    along = record {
      most = omega (arith, longer done middle, g.most);
      pass = passed_more (from last) done middle g.most g.pass (idle, k.none);
      below = below_one low done middle g.below le;
    };
    leads = rw (k.line_is, append_assoc done (middle ∷ []) rest) refl;
  }
  loose_step low done last g x y middle le rest idle (inr k) = record {
    last = Some (length (done ++ middle ∷ []));
    along = record { most = omega arith; pass = none_left (done ++ middle ∷ []); below = below_one low done middle g.below le };
    leads = rw (k.line_is, append_assoc done (middle ∷ []) rest, longer done middle)
        (_, gone_judged low done last g middle le rest idle k.some, refl);
  }

  each_leads : (low : ℕ) (done : List AuditedDevice) (last : Option ℕ) → Along low done last → (xs ys : List MarksDevice) →
      RisesFrom low (map (λ (d : MarksDevice). d.store.device) xs) → AllOff xs ys →
      LeadsBy (at (done ++ map audited xs) (due_at last)) (of_each power_lines xs ys ++ lines.Order orders.Power answers.Done ∷ [])
      (record { devices = map without_power done ++ map audited ys; events = later; due = Next })
  each_leads low done last g [] [] rises told = ends_lead low done last g
  each_leads low done last g (x ∷ xs) (y ∷ ys) rises told =
      let t = told.0 in
      let one = over_step low done last g x y rises.0 t.middle (map audited xs) t.over in
      let two = loose_step low done one.last one.along x y t.middle (rw t.number rises.0) (map audited xs) t.idle t.loose in
      let more = each_leads (x.store.device + 1) (done ++ t.middle ∷ []) two.last
      (subst (λ (n : ℕ). Along (n + 1) (done ++ t.middle ∷ []) two.last) t.number two.along) xs ys rises.1 told.1 in
      let devices_are : map without_power (done ++ t.middle ∷ []) ++ map audited ys ≡ map without_power done ++ audited y ∷ map audited ys =
      grind (arith, map-append, append_assoc, t.behind) in
      rw (append_assoc (over_lines x y ++ loose_lines x y) (of_each power_lines xs ys) (lines.Order orders.Power answers.Done ∷ []), ← devices_are)
      (leads_on _ _ _ _ _ (leads_on _ _ _ _ _ one.leads two.leads) more)
  each_leads low done last g xs ys rises told = absurd told

module _ (s : Subsystem) (plain : ArePlain s.mounted) (rises : RisesFrom 0 (map (λ (d : MarksDevice). d.store.device) (devices_of s))) where
  pub power_leads : EventLeads s wanted.Power (Once events.Power) (happens s events.Power)
  unfolding H.happens E.deed
  power_leads later =
      each_leads later 0 [] None (record { most = omega arith; pass = tt; below = tt }) (devices_of s)
      (devices (sweep (power by_plain) s.mounted (power_lost s.pool)).mounted) rises (power_swept s.mounted (power_lost s.pool) plain)
