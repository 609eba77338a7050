-- FAIL CACHE: that the data of cache fast write of a device are lost is told of one device after another.
use Rattle.std.proofs.Common.{◌≡◌, ◌≤◌, ◌<◌, ◌+◌, ◌/◌, ◌%◌, ◌++◌, ℕ, Bool, true, List, [], ◌∷◌, map, length, Option, Some, None, refl, sym, ap, subst, ◌∙◌, append_assoc, if◌then◌else◌, arith, inl, inr}
use Rattle.std.specs.Prelude.{◌⊎◌, Ok}
use Rattle.std.proofs.lemmas.Bool.{eq-eqb, lt-ltb, and_from}
use Rattle.deck_plan.specs.declared.event.EventLine.{EventLine}
use Rattle.deck_plan.specs.declared.event.EventLine.TheVariants as wanted
use Rattle.loss_model.specs.declared.Loss.TheVariants as losses
use Rattle.plain_defs.specs.declared.journal.Act.{Act}
use Rattle.plain_defs.specs.declared.journal.Act.TheVariants.{CfwLost}
use Rattle.plain_defs.specs.History.{acted}
use Rattle.plain_defs.specs.Loose.{next_number}
use Rattle.device_outside.specs.Pool.{Pool, cache_failed}
use Rattle.device_defs.specs.Contents.{by_plain}
use Rattle.device_defs.specs.Device.{all_acted}
use Rattle.device_defs.specs.Events.{lose}
use Rattle.device_defs.specs.Marks.{MarksDevice}
use Rattle.device_defs.specs.Store.{has_loose}
use Rattle.device_laws.proofs.Had.{held}
use Rattle.report_text.specs.declared.answers.LooseAnswer.TheVariants as loose
use Rattle.report_text.specs.declared.answers.OrderAnswer.TheVariants as answers
use Rattle.report_text.specs.declared.line.ReportLine.{ReportLine}
use Rattle.report_text.specs.declared.line.ReportLine.TheVariants as lines
use Rattle.report_text.specs.declared.order.Order.TheVariants as orders
use Rattle.report_text.specs.Events.{loosed_line}
use Rattle.deck_audit.specs.declared.state.Due.{Due}
use Rattle.deck_audit.specs.declared.state.Due.TheVariants.{Next, Losses}
use Rattle.deck_audit.specs.Place.{outline_in}
use Rattle.deck_audit.specs.Device as A
use Rattle.deck_audit.specs.Device.{AuditedDevice, outline_of, state_of, with_device}
use Rattle.deck_audit.specs.History.{loss_line}
use Rattle.deck_audit.specs.State.{AuditState}
use Rattle.deck_audit.specs.Verdict.{judged}
use Rattle.run_report.specs.Beside.{id_of, loose_lines, loosed, of_each, over_lines}
use Rattle.subsystem_defs.specs.Beside.{loose_count, told_act}
use Rattle.subsystem_defs.specs.declared.end.EventEnd.TheVariants as ends
use Rattle.subsystem_defs.specs.declared.event.Event.TheVariants as events
use Rattle.subsystem_defs.specs.Deeds as E
use Rattle.subsystem_defs.specs.Deeds.{Each}
use Rattle.subsystem_defs.specs.Happening as H
use Rattle.subsystem_defs.specs.Happening.{happens, held_with, quietly, sweep, swept, told_to}
use Rattle.subsystem_defs.specs.Lines.{Once}
use Rattle.subsystem_defs.specs.Subsystem.{Mounted, Subsystem, devices_of}
use Rattle.subsystem_laws.proofs.PlainRuns.{ArePlain, Plainly}
use Rattle.audit_laws.specs.Standing.{LeadsBy, audited, half_by}
use Rattle.audit_laws.proofs.own.ActLines.{acts_over, acts_told}
use Rattle.audit_laws.proofs.own.DeckNumbers.{RisesFrom}
use Rattle.audit_laws.proofs.own.Found.{devices, outlined}
use Rattle.audit_laws.proofs.own.KnownDevices.{count_is, has_is, known}
use Rattle.audit_laws.proofs.own.Leading.{EventLeads, leads_on, one_leads}
use Rattle.audit_laws.proofs.own.LossDevices.{IsLoss, cache_acts, lost_acts, number_behind}
use Rattle.audit_laws.proofs.own.Orders.{IsOrder, down_or}
use Rattle.audit_laws.proofs.own.ResetDevices.{audited_by}
use Rattle.audit_laws.proofs.own.Saying.{same_loose, same_number}
use Rattle.audit_laws.proofs.own.Ties.{Tie, ties}

-- What is told of a device

record IsQuiet (x y : MarksDevice) : Type 0 where
  lines_are : loose_lines x y ≡ []
  audits : audited y ≡ audited x

record IsLostNow (x y : MarksDevice) : Type 0 where
  lines_are : loose_lines x y ≡ loss_line (audited x) ∷ []
  some : A.has_loose (audited x) ≡ true
  audits : audited y ≡ record (audited x) { history = acted x.history CfwLost }

abbrev IsTold : MarksDevice → MarksDevice → Type 0
IsTold x y = (over_lines x y ≡ []) × (IsQuiet x y ⊎ IsLostNow x y)

pub loss_told : (n c k m : ℕ) → c ≡ k → m ≡ next_number n → (d : ℕ) →
    lines.Loose d (loose.Lost c (id_of m)) ≡ (let id = next_number n in lines.Loose d (loose.Lost k (id / 256 ∷ id % 256 ∷ [])))
loss_told n c k m count number d = grind arith

module _ (x y : MarksDevice) (p : Plainly x) (g : IsLoss p.empty x y) where
  lost_device : y.store.acts ≡ CfwLost ∷ [] → y.store.number ≡ next_number x.store.number → has_loose x.store ≡ true → IsLostNow x y
  lost_device one number some =
      let k = known x p in
      record {
        lines_are = acts_told x y y.store.acts g.history
            ∙ ap (λ (l : List Act). map loosed_line (map (loosed x.store.device) (map (told_act x.store y.store) l))) one
            ∙ ap (λ (l : ReportLine). l ∷ [])
            (loss_told (state_of (audited x)).number (loose_count x.store) (length (state_of (audited x)).loose) y.store.number (count_is (audited x) x.store k)
            (number ∙ ap next_number (sym k.number_is)) x.store.device);
        some = sym (has_is (audited x) x.store k) ∙ some;
        audits = audited_by x y (half_by x.store.half) (acted x.history CfwLost) g.parts
            (g.history ∙ ap (λ (l : List Act). all_acted x.history l) one);
      }

  cache_told : (b : Bool) → has_loose x.store ≡ b → y.store.acts ≡ lost_acts b → y.store.number ≡ number_behind b x.store.number → IsTold x y
  cache_told b some acts number = grind (arith, acts_over, lost_device, acts_told, audited_by)

abbrev AllTold : List MarksDevice → List MarksDevice → Type 0
AllTold [] [] = Unit {0}
AllTold (x ∷ xs) (y ∷ ys) = IsTold x y × AllTold xs ys
AllTold _ _ = ⊥

cache_swept : (ms : List Mounted) (pool : Pool) → ArePlain ms →
    AllTold (devices ms) (devices (sweep (λ x. lose by_plain x losses.Cache) ms pool).mounted)
unfolding H.sweep
cache_swept [] pool p = tt
cache_swept (m ∷ ms) pool p =
    let d = m.device in
    let o = held_with pool m (lose by_plain d losses.Cache) in
    let is = held true (cache_acts p.0.number p.0.empty d p.0.follows) (told_to pool m) in
    (cache_told d o.state p.0 is.0 (has_loose d.store) refl is.1.0 is.1.1, cache_swept ms o.told.pool p.1)

none_over : (xs ys : List MarksDevice) → AllTold xs ys → of_each over_lines xs ys ≡ []
none_over (x ∷ xs) (y ∷ ys) told = ap (λ (l : List ReportLine). l ++ of_each over_lines xs ys) told.0.0 ∙ none_over xs ys told.1
none_over xs ys told = refl

-- A device behind others of lower numbers

abbrev pub IsBelow : ℕ → List AuditedDevice → Type 0
IsBelow low [] = Unit {0}
IsBelow low (a ∷ all) = (a.number < low) × IsBelow low all

pub below_one : (low : ℕ) (all : List AuditedDevice) (a : AuditedDevice) → IsBelow low all → low ≤ a.number → IsBelow (a.number + 1) (all ++ a ∷ [])
below_one low [] a b le = (omega arith, tt)
below_one low (x ∷ all) a b le = let lt = b.0 in (omega (arith, lt, le), below_one low all a b.1 le)

module _ (low : ℕ) (a : AuditedDevice) (least_is : low ≤ a.number) (rest : List AuditedDevice) where
  pub found_here : (done : List AuditedDevice) → IsBelow low done → A.device_in (done ++ a ∷ rest) a.number ≡ Some a
  found_here [] b = ap (λ (c : Bool). if c then Some a else A.device_in rest a.number) (same_number a.number)
  found_here (x ∷ done) b = grind (arith, found_here done b.1, same_number)

  pub put_here : (done : List AuditedDevice) (b : AuditedDevice) → b.number ≡ a.number → IsBelow low done →
      with_device (done ++ a ∷ rest) b ≡ done ++ b ∷ rest
  put_here [] b same low_done = ap (λ (c : Bool). if c then b ∷ rest else a ∷ with_device rest b) (eq-eqb a.number b.number (sym same))
  put_here (x ∷ done) b same low_done = grind (arith, put_here done b same low_done.1, eq-eqb)

  pub outline_here : (done : List AuditedDevice) → IsBelow low done → outline_in (map outline_of (done ++ a ∷ rest)) a.number ≡ Some (outline_of a)
  outline_here done b = grind (arith, outlined, found_here)

-- The lines, one device after another

abbrev due_by : Option ℕ → Due
due_by None = Next
due_by (Some d) = Losses d

abbrev LastBelow : Option ℕ → ℕ → Type 0
LastBelow None low = Unit {0}
LastBelow (Some d) low = d < low

last_more : (last : Option ℕ) (low more : ℕ) → low ≤ more → LastBelow last low → LastBelow last more
last_more last low more le b = grind arith

module _ (later : List EventLine) where
  abbrev at : List AuditedDevice → Due → AuditState
  at all due = record { devices = all; events = wanted.FailCache ∷ later; due = due }

  loss_judged : (low : ℕ) (done rest : List AuditedDevice) (a : AuditedDevice) (last : Option ℕ) → IsBelow low done → LastBelow last low →
      low ≤ a.number → A.has_loose a ≡ true →
      judged (at (done ++ a ∷ rest) (due_by last)) (loss_line a)
      ≡ Ok (at (done ++ record a { history = acted a.history CfwLost } ∷ rest) (Losses a.number))
  loss_judged low done rest a last b l le some =
      grind (arith, outline_here low a le rest done b, found_here low a le rest done b, put_here low a le rest done (record a { history = acted a.history CfwLost }) refl b, and_from, same_number, same_loose, lt-ltb)

  last_leads : (all : List AuditedDevice) (last : Option ℕ) →
      LeadsBy (at all (due_by last)) (lines.Order orders.FailCache answers.Done ∷ []) (record { devices = all; events = later; due = Next })
  last_leads all last = search (arith, one_leads)

  -- where the audit is behind a device
  record OnTo (low : ℕ) (done rest : List AuditedDevice) (last : Option ℕ) (x y : MarksDevice) : Type 0 where
    next : Option ℕ
    below : LastBelow next (x.store.device + 1)
    number : (audited y).number ≡ x.store.device
    leads : LeadsBy (at (done ++ audited x ∷ rest) (due_by last)) (loose_lines x y) (at (done ++ audited y ∷ rest) (due_by next))

  one_step : (low : ℕ) (done rest : List AuditedDevice) (last : Option ℕ) (x y : MarksDevice) → IsBelow low done → LastBelow last low →
      low ≤ x.store.device → IsQuiet x y ⊎ IsLostNow x y → OnTo low done rest last x y
  one_step low done rest last x y b l le (inl quiet) = grind (arith, last_more last low (x.store.device + 1) (omega (arith, le)) l)
  one_step low done rest last x y b l le (inr lost) = record {
    next = Some x.store.device;
    below = omega arith;
    number = ap (λ (a : AuditedDevice). a.number) lost.audits;
    leads = rw (lost.lines_are, lost.audits) (_, loss_judged low done rest (audited x) last b l le lost.some, refl);
  }

  each_leads : (low : ℕ) (done : List AuditedDevice) (last : Option ℕ) (xs ys : List MarksDevice) → IsBelow low done → LastBelow last low →
      RisesFrom low (map (λ (d : MarksDevice). d.store.device) xs) → AllTold xs ys →
      LeadsBy (at (done ++ map audited xs) (due_by last)) (of_each loose_lines xs ys ++ lines.Order orders.FailCache answers.Done ∷ [])
      (record { devices = done ++ map audited ys; events = later; due = Next })
  each_leads low done last [] [] b l rises told = last_leads (done ++ []) last
  each_leads low done last (x ∷ xs) (y ∷ ys) b l rises told =
      let o = one_step low done (map audited xs) last x y b l rises.0 told.0.1 in
      let below = subst (λ (n : ℕ). IsBelow (n + 1) (done ++ audited y ∷ [])) o.number (below_one low done (audited y) b (rw o.number rises.0)) in
      let more = each_leads (x.store.device + 1) (done ++ audited y ∷ []) o.next xs ys below o.below rises.1 told.1 in
      rw (append_assoc (loose_lines x y) (of_each loose_lines xs ys) (lines.Order orders.FailCache answers.Done ∷ [])) (leads_on _ _ _ _ _ o.leads (rw
      (← (append_assoc done (audited y ∷ []) (map audited xs)), ← (append_assoc done (audited y ∷ []) (map audited ys))) more))
  each_leads low done last xs ys b l rises told = absurd told

-- The event

fails_cache : IsOrder wanted.FailCache orders.FailCache (Once events.FailCache)
fails_cache = record { stands = λ outs answer. refl; refused = λ z fault. refl; pending = λ z n. refl; lines_are = λ end reads writes ds ks. refl }

pub numbers_same : (ms : List Mounted) → map (λ (d : MarksDevice). d.store.device) (devices ms) ≡ map (λ (t : Tie). t.number) (ties ms)
numbers_same [] = refl
numbers_same (m ∷ ms) = ap (λ (l : List ℕ). m.device.store.device ∷ l) (numbers_same ms)

module _ (s : Subsystem) (plain : ArePlain s.mounted) (rises : RisesFrom 0 (map (λ (d : MarksDevice). d.store.device) (devices_of s))) where
  cache_leads : EventLeads s wanted.FailCache (Once events.FailCache)
      (quietly s (swept (sweep (λ x. lose by_plain x losses.Cache) s.mounted (cache_failed s.pool))) ends.Done)
  cache_leads later =
      let behind = swept (sweep (λ x. lose by_plain x losses.Cache) s.mounted (cache_failed s.pool)) in
      let told = cache_swept s.mounted (cache_failed s.pool) plain in
      rw (none_over (devices_of s) (devices_of behind) told) (each_leads later 0 [] None (devices_of s) (devices_of behind) tt tt rises told)

  pub fail_cache_leads : EventLeads s wanted.FailCache (Once events.FailCache) (happens s events.FailCache)
  unfolding H.happens E.deed
  fail_cache_leads = search (arith, down_or, fails_cache, cache_leads)
