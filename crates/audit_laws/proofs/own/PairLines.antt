-- PAIR and UNPAIR: a device is lent, or comes back empty.
use Rattle.std.proofs.Common.{◌≡◌, ◌≤◌, ◌==◌, ℕ, Bool, true, false, List, [], ◌∷◌, map, Option, Some, None, refl, sym, ap, subst, ◌∙◌, if◌then◌else◌, arith}
use Rattle.std.specs.List.{list_any}
use Rattle.deck_plan.specs.declared.event.EventLine.TheVariants as wanted
use Rattle.device_outside.specs.Told.{Calls}
use Rattle.device_defs.specs.Contents.{by_plain}
use Rattle.device_defs.specs.Marks.{MarksDevice}
use Rattle.device_defs.specs.Orders.{join, lend, split}
use Rattle.device_laws.proofs.Had.{held}
use Rattle.report_text.specs.declared.answers.OrderAnswer.TheVariants as answers
use Rattle.report_text.specs.declared.event.Happened.TheVariants as did
use Rattle.report_text.specs.declared.line.ReportLine.TheVariants as lines
use Rattle.report_text.specs.declared.order.Order.{Order}
use Rattle.report_text.specs.declared.order.Order.TheVariants as orders
use Rattle.deck_audit.specs.Device as A
use Rattle.deck_audit.specs.Device.{AuditedDevice, runs, with_device}
use Rattle.deck_audit.specs.History as M
use Rattle.deck_audit.specs.History.{given_back, runs_lent}
use Rattle.deck_audit.specs.State.{passed, then_of}
use Rattle.run_report.specs.Events.{work_lines}
use Rattle.subsystem_defs.specs.declared.end.EventEnd.TheVariants as ends
use Rattle.subsystem_defs.specs.declared.end.OrderFault.{OrderFault}
use Rattle.subsystem_defs.specs.declared.event.Event.TheVariants as events
use Rattle.subsystem_defs.specs.Deeds as E
use Rattle.subsystem_defs.specs.Deeds.{Lends, device_in, on_device, order}
use Rattle.subsystem_defs.specs.Happening as H
use Rattle.subsystem_defs.specs.Happening.{
  behind_outcome,
  happens,
  happens_by,
  held_with,
  is_lent_to,
  joined,
  lends,
  mounted_behind,
  quietly,
  restored_in,
  told_to,
  unpaired,
  unpaired_at,
  unpaired_behind,
  unpaired_by,
}
use Rattle.subsystem_defs.specs.Lines.{Once, Unpair}
use Rattle.subsystem_defs.specs.Refusals.{pair_fault, unpair_fault}
use Rattle.subsystem_defs.specs.Subsystem.{Mounted, Subsystem, devices_of, mounted_in, number_of, put_in, unfailing, with_mounted}
use Rattle.subsystem_laws.proofs.FoundDevices.{number_found}
use Rattle.subsystem_laws.proofs.PlainRuns.{ArePlain}
use Rattle.subsystem_laws.proofs.Walks.{mounted_number}
use Rattle.audit_laws.specs.Standing.{audited, stand}
use Rattle.audit_laws.proofs.own.ActLines.{AllSilent, all_same, history_of, nothing_loose, nothing_over}
use Rattle.audit_laws.proofs.own.Found.{devices, found_one, mounted_too, put_at, put_same}
use Rattle.audit_laws.proofs.own.Leading.{EventLeads, then_some}
use Rattle.audit_laws.proofs.own.LentDevices.{IsLent, lend_makes}
use Rattle.audit_laws.proofs.own.Orders.{IsOrder, ordered, refused_leads, told_leads}
use Rattle.audit_laws.proofs.own.Ties.{lent_count, lent_stays, may_pair, one_if, others_stay, ties, turned}

-- Where no device tells anything

pub silent_lines : (o : Order) (answer : _) (xs ys : List MarksDevice) → AllSilent (map history_of xs) (map history_of ys) →
    work_lines (did.Ordered o answer) 0 0 xs ys ≡ lines.Order o answer ∷ []
silent_lines o answer xs ys so = grind (arith, nothing_loose, nothing_over)

pub history_put : (ms : List Mounted) (n : ℕ) (x m : Mounted) → mounted_in ms n ≡ Some m → x.device.history ≡ m.device.history →
    map history_of (devices (put_in ms n x)) ≡ map history_of (devices ms)
history_put [] n x m there same = refl
history_put (k ∷ ms) n x m there same = grind (arith, history_put ms n x m)

-- PAIR

audited_lent : (to : ℕ) (x y : MarksDevice) → IsLent to x y → audited y ≡ record (audited x) { lent = Some to }
audited_lent to x y g = grind arith

pairs : (a b : ℕ) → IsOrder (wanted.Pair a b) (orders.Pair a b) (Once (events.Pair a b))
pairs a b = search arith

module _ (s : Subsystem) (a b : ℕ) (x y : MarksDevice) (at_a : device_in (devices_of s) a ≡ Some x) (at_b : device_in (devices_of s) b ≡ Some y) where
  module _ (far : (b == a) ≡ false) (apart : (a == b) ≡ false) where
    -- a device that is lent, and the one that it is lent to
    both_lead : (w m : Mounted) (volume : Calls) (z : Subsystem) → IsLent a y w.device → z.mounted ≡ put_in s.mounted b w →
        mounted_in s.mounted a ≡ Some m →
        EventLeads s (wanted.Pair a b) (Once (events.Pair a b))
        (quietly s (with_mounted z a (record m { device = join m.device; b = volume })) ends.Done)
    both_lead w m volume z g are there later =
        let e = wanted.Pair a b in
        let here = mounted_too s.mounted b y at_b in
        let behind = with_mounted z a (record m { device = join m.device; b = volume }) in
        let number : number_of w ≡ b = g.number ∙ number_found s.mounted b y at_b in
        let still : mounted_in z.mounted a ≡ Some m = ap (λ (l : List Mounted). mounted_in l a) are ∙ others_stay s.mounted a b w number far ∙ there in
        told_leads s e (orders.Pair a b) (Once (events.Pair a b)) (pairs a b) behind ends.Done later (silent_lines (orders.Pair a b) answers.Done
        (devices_of s) (devices_of behind) (rw (history_put z.mounted a (record m { device = join m.device; b = volume }) m still refl ∙ ap
        (λ (l : List Mounted). map history_of (devices l)) are ∙ history_put s.mounted b w here.0 here.1 (g.history ∙ ap (λ (d : MarksDevice). d.history)
        (sym here.2))) (all_same (map history_of (devices_of s))))) (ap (λ (t : Bool). if t then Some (passed (stand s (e ∷ later))) else then_of
        (A.device_in (stand s (e ∷ later)).devices b) (M.lent_to (stand s (e ∷ later)) a)) apart ∙ then_some (A.device_in (map audited (devices_of s)) b)
        (audited y) (M.lent_to (stand s (e ∷ later)) a) (found_one (devices_of s) b y at_b) ∙ ap (λ (l : List AuditedDevice). Some
        (record { devices = l; events = later; due = (stand s later).due })) (ap (with_device (map audited (devices_of s))) (sym
        (audited_lent a y w.device g)) ∙ put_at s.mounted b w number ∙ ap (λ (l : List Mounted). map audited (devices l)) (sym are) ∙ sym
        (put_same z.mounted a (record m { device = join m.device; b = volume }) (λ k found. let both_are : Some m ≡ Some k = sym still
        ∙ found in let it : m ≡ k = cc in ap (λ (i : Mounted). audited i.device) it))))

    lend_leads : (k l : ℕ) → k ≡ a → l ≡ b →
        EventLeads s (wanted.Pair a b) (Once (events.Pair a b)) (quietly s (lends s k l (mounted_in s.mounted l)) ends.Done)
    lend_leads k l same_a same_b =
        let e = wanted.Pair a b in
        let asked = Once (events.Pair a b) in
        let here = mounted_too s.mounted b y at_b in
        let there = mounted_too s.mounted a x at_a in
        let o = held_with s.pool here.0 (lend by_plain here.0.device a) in
        let z = behind_outcome s b o in
        let w = mounted_behind o in
        let g : IsLent a y w.device = subst (λ (d : MarksDevice). IsLent a d w.device) here.2 (held true (lend_makes here.0.device a)
        (told_to s.pool here.0)) in
        subst (λ (i : ℕ). EventLeads s e asked (quietly s (lends s i l (mounted_in s.mounted l)) ends.Done)) (sym same_a) (subst
        (λ (i : ℕ). EventLeads s e asked (quietly s (lends s a i (mounted_in s.mounted i)) ends.Done)) (sym same_b) (subst
        (λ (q : Option Mounted). EventLeads s e asked (quietly s (lends s a b q) ends.Done)) (sym here.1) (subst
        (λ (q : Option Mounted). EventLeads s e asked (quietly s (joined z a o.told.a q) ends.Done)) (sym (others_stay s.mounted a b w (g.number
        ∙ number_found s.mounted b y at_b) far ∙ there.1)) (both_lead w there.0 o.told.a z g refl there.1))))

  pub pair_leads : EventLeads s (wanted.Pair a b) (Once (events.Pair a b)) (happens s (events.Pair a b))
  unfolding H.happens E.deed
  pair_leads =
      let is_a = number_found s.mounted a x at_a in
      let is_b = number_found s.mounted b y at_b in
      rw (at_a, at_b) (ordered s (wanted.Pair a b) (orders.Pair a b) (Once (events.Pair a b)) (pairs a b) (pair_fault x y) (Lends x y)
      (λ free. let may = may_pair x y free in let far : (b == a) ≡ false = ap (λ (i : ℕ). i == a) (sym is_b) ∙ ap (λ (i : ℕ). y.store.device == i)
      (sym is_a) ∙ may.other in lend_leads far (turned b a far) x.store.device y.store.device is_a is_b))

-- UNPAIR

unpairs : (a : ℕ) → IsOrder (wanted.Unpair a) (orders.Unpair a) (Unpair a)
unpairs a = search arith

none_runs : (a : ℕ) (ms : List Mounted) → ArePlain ms → list_any (runs_lent a) (map audited (devices ms)) ≡ false
none_runs a [] p = refl
none_runs a (m ∷ ms) p = grind (arith, none_runs a ms p.1)

none_given : (a : ℕ) (ms : List Mounted) → lent_count a (ties ms) ≡ 0 → map (given_back a) (map audited (devices ms)) ≡ map audited (devices ms)
none_given a [] none = refl
none_given a (m ∷ ms) none = grind (arith, none_given a ms)

given : (a : ℕ) (volume : Calls) (ms : List Mounted) → lent_count a (ties ms) ≤ 1 →
    map (given_back a) (map audited (devices ms)) ≡ map audited (devices (restored_in ms a volume))
given a volume [] most = refl
given a volume (m ∷ ms) most = grind (arith, given a volume ms, lent_count, ties, one_if, none_given)

silent_restored : (a : ℕ) (volume : Calls) (ms : List Mounted) → AllSilent (map history_of (devices ms)) (map history_of (devices (restored_in ms a volume)))
silent_restored a volume [] = tt
silent_restored a volume (m ∷ ms) = grind (arith, silent_restored a volume ms, all_same)

module _ (s : Subsystem) (plain : ArePlain s.mounted) (a : ℕ) (single : lent_count a (ties s.mounted) ≤ 1) where
  parted_leads : (m : Mounted) → mounted_in s.mounted a ≡ Some m →
      EventLeads s (wanted.Unpair a) (Unpair a) (quietly s (unpaired_behind s a unfailing m) ends.Done)
  parted_leads m there later =
      grind (arith, lent_count a (ties (put_in s.mounted a (record m { device = split m.device }))), ties (put_in s.mounted a (record m { device = split m.device })), lent_stays s.mounted a (record m { device = split m.device }) m there (mounted_number s.mounted a m there) refl a, mounted_number s.mounted a m there, told_leads, unpairs a, silent_lines, history_put s.mounted a (record m { device = split m.device }) m there refl, silent_restored a unfailing (put_in s.mounted a (record m { device = split m.device })), none_runs a s.mounted plain, put_same, given)

  unpaired_leads : (m : Mounted) → mounted_in s.mounted a ≡ Some m → (f : Option OrderFault) →
      EventLeads s (wanted.Unpair a) (Unpair a) (unpaired_by s a unfailing m f)
  unpaired_leads m there (Some fault) = refused_leads s (wanted.Unpair a) (orders.Unpair a) (Unpair a) (unpairs a) fault
  unpaired_leads m there None = parted_leads m there

  pub unpair_leads : (x : MarksDevice) → device_in (devices_of s) a ≡ Some x → EventLeads s (wanted.Unpair a) (Unpair a) (unpaired s a unfailing)
  unfolding H.unpaired
  unpair_leads x at = let m = mounted_too s.mounted a x at in rw m.1 (unpaired_leads m.0 m.1 (unpair_fault m.0.device))
