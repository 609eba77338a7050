-- Every line makes of states of an audit whose devices are alike states whose devices are alike, or of both none.
use Rattle.std.proofs.Common.{arith, ◌≡◌, ℕ, Bool, true, false, List, [], ◌∷◌, map, drop, Option, Some, None, refl, sym, ap, subst, ◌∙◌, if◌then◌else◌}
use Rattle.std.specs.Prelude.{◌&&◌, Ok, Err}
use Rattle.std.specs.List.{list_any}
use Rattle.std.proofs.lemmas.Bool.{or_parts}
use Rattle.deck_plan.specs.declared.event.EventLine.{EventLine}
use Rattle.plain_defs.specs.declared.journal.Act.{Act}
use Rattle.plain_defs.specs.declared.journal.Act.TheVariants.{CfwLost, Harden}
use Rattle.plain_defs.specs.History.{OpenEntry, reset_in_history}
use Rattle.plain_defs.specs.Journal.{replay}
use Rattle.report_text.specs.declared.answers.BackAnswer.{BackAnswer}
use Rattle.report_text.specs.declared.answers.HowOver.TheVariants as how
use Rattle.report_text.specs.declared.answers.LooseAnswer.TheVariants as loose
use Rattle.report_text.specs.declared.answers.OrderAnswer.TheVariants as order_answers
use Rattle.report_text.specs.declared.line.ReportLine.{ReportLine}
use Rattle.report_text.specs.declared.line.ReportLine.TheVariants as lines
use Rattle.deck_audit.specs.declared.state.Did.{Did}
use Rattle.deck_audit.specs.declared.state.Did.TheVariants.{Ended, Halved, Worked}
use Rattle.deck_audit.specs.declared.state.Due.{Due}
use Rattle.deck_audit.specs.declared.state.Due.TheVariants.{Behind, Losses, Next, Powers, ResetOf}
use Rattle.deck_audit.specs.declared.state.HalfWrite.{HalfWrite}
use Rattle.deck_audit.specs.declared.state.HalfWrite.TheVariants.{Closed, OfCommand}
use Rattle.deck_audit.specs.Place.{first_event, holds, is_of_work, worker_of}
use Rattle.deck_audit.specs.Same.{says}
use Rattle.deck_audit.specs.Device.{AuditedDevice, device_in, has_loose, outline_of, with_device}
use Rattle.deck_audit.specs.History.{act_made, back_half, behind_made, changed, cut_by_power, cut_half, done_order, due_made, end_made, given_back, harden_made, is_last, is_legal, loosen_made, loss_line, loss_made, made, made_in, next_made, order_made, place_of, power_cut, power_loss, power_made, reset_made, runs_lent, shown, start_made, without_power, work_made}
use Rattle.deck_audit.specs.Stands.{in_state, stands, stands_in}
use Rattle.deck_audit.specs.State.{AuditState, behind_work, passed, settled, settled_in, then_of, worker, worker_number}
use Rattle.deck_audit.specs.declared.status.AuditWhy.TheVariants.{Place}
use Rattle.deck_audit.specs.Verdict.{judged, or_history}
use Rattle.audit_laws.specs.Standing.{LeadsBy}
use Rattle.audit_laws.proofs.own.AlikeDevices.{Alike, alike_self, alike_then, back_alike, both, dark_alike, end_same, event_over_same, half_alike, half_same, history_alike, legal_same, loose_same, loss_same, may_loosen_same, number_same, over_same, start_same, state_same, with_alike, worked_alike}
use Rattle.audit_laws.proofs.own.Pasts.{IsFew, act_is_read, cut, cut_in, cut_is_read, going_of, reset_is_read}

abbrev pub AreAlike : List AuditedDevice → List AuditedDevice → Type 0
AreAlike [] [] = Unit {0}
AreAlike (a ∷ xs) (b ∷ ys) = Alike a b × AreAlike xs ys
AreAlike xs ys = ⊥

pub record AlikeStates (s u : AuditState) : Type 0 where
  pub events_are : s.events ≡ u.events
  pub due_is : s.due ≡ u.due
  pub devices_are : AreAlike s.devices u.devices

abbrev pub AlikeFound : Option AuditedDevice → Option AuditedDevice → Type 0
AlikeFound (Some a) (Some b) = Alike a b
AlikeFound None None = Unit {0}
AlikeFound x y = ⊥

abbrev pub AlikeMade : Option AuditState → Option AuditState → Type 0
AlikeMade (Some s) (Some u) = AlikeStates s u
AlikeMade None None = Unit {0}
AlikeMade x y = ⊥

-- Tests and devices

if_alike : (c d : Bool) → c ≡ d → (s t u v : Option AuditState) → AlikeMade s u → AlikeMade t v → AlikeMade (if c then s else t) (if d then u else v)
if_alike c d same s t u v one two = grind arith

then_alike : (x y : Option AuditedDevice) → AlikeFound x y → (f g : AuditedDevice → Option AuditState) →
    ((a b : AuditedDevice) → Alike a b → AlikeMade (f a) (g b)) → AlikeMade (then_of x f) (then_of y g)
then_alike x y is f g go = grind arith

holds_same : (x y : Option AuditedDevice) → AlikeFound x y → (f : AuditedDevice → Bool) → ((a b : AuditedDevice) → Alike a b → f a ≡ f b) →
    holds x f ≡ holds y f
holds_same x y is f go = grind arith

pub found_alike : (xs ys : List AuditedDevice) → AreAlike xs ys → (n : ℕ) → AlikeFound (device_in xs n) (device_in ys n)
found_alike [] [] all n = tt
found_alike (a ∷ xs) (b ∷ ys) all n = grind (arith, found_alike xs ys all.1 n, number_same)
found_alike xs ys all n = absurd all

pub put_alike : (xs ys : List AuditedDevice) → AreAlike xs ys → (a b : AuditedDevice) → Alike a b → AreAlike (with_device xs a) (with_device ys b)
put_alike [] [] all a b is = tt
put_alike (x ∷ xs) (y ∷ ys) all a b is = grind (arith, put_alike xs ys all.1 a b is, number_same)
put_alike xs ys all a b is = absurd all

place_same : (xs ys : List AuditedDevice) → AreAlike xs ys → (n : ℕ) → place_of xs n ≡ place_of ys n
place_same [] [] all n = refl
place_same (a ∷ xs) (b ∷ ys) all n = grind (arith, place_same xs ys all.1 n, number_same)
place_same xs ys all n = absurd all

outlines_same : (xs ys : List AuditedDevice) → AreAlike xs ys → map outline_of xs ≡ map outline_of ys
outlines_same [] [] all = refl
outlines_same (a ∷ xs) (b ∷ ys) all = grind (arith, outlines_same xs ys all.1)
outlines_same xs ys all = absurd all

dark_all : (xs ys : List AuditedDevice) → AreAlike xs ys → AreAlike (map without_power xs) (map without_power ys)
dark_all [] [] all = tt
dark_all (a ∷ xs) (b ∷ ys) all = (dark_alike a b all.0, dark_all xs ys all.1)
dark_all xs ys all = absurd all

module _ (n : ℕ) where
  any_lent_same : (xs ys : List AuditedDevice) → AreAlike xs ys → list_any (runs_lent n) xs ≡ list_any (runs_lent n) ys
  any_lent_same [] [] all = refl
  any_lent_same (a ∷ xs) (b ∷ ys) all = grind (arith, any_lent_same xs ys all.1)
  any_lent_same xs ys all = absurd all

  back_all : (xs ys : List AuditedDevice) → AreAlike xs ys → list_any (runs_lent n) xs ≡ false → AreAlike (map (given_back n) xs) (map (given_back n) ys)
  back_all [] [] all none = tt
  back_all (a ∷ xs) (b ∷ ys) all none = grind (arith, back_all xs ys all.1, or_parts, back_alike)
  back_all xs ys all none = absurd all

pub all_then : (xs ys zs : List AuditedDevice) → AreAlike xs ys → AreAlike ys zs → AreAlike xs zs
all_then [] [] [] one two = tt
all_then (a ∷ xs) (b ∷ ys) (c ∷ zs) one two = (alike_then a b c one.0 two.0, all_then xs ys zs one.1 two.1)
all_then [] (b ∷ ys) zs one two = absurd one
all_then (a ∷ xs) [] zs one two = absurd one
all_then xs ys zs one two = absurd two

-- the second of two devices that are alike is so with itself
pub second_self : (xs ys : List AuditedDevice) → AreAlike xs ys → AreAlike ys ys
second_self [] [] all = tt
second_self (a ∷ xs) (b ∷ ys) all = (alike_self b all.0.tidy_too, second_self xs ys all.1)
second_self xs ys all = absurd all

pub states_then : (s t u : AuditState) → AlikeStates s t → AlikeStates t u → AlikeStates s u
states_then s t u one two = search (arith, all_then)

-- States

changed_alike : (s u : AuditState) → AlikeStates s u → (a b : AuditedDevice) → Alike a b → AlikeStates (changed s a) (changed u b)
changed_alike s u all a b is = search (arith, put_alike)

passed_alike : (s u : AuditState) → AlikeStates s u → AlikeStates (passed s) (passed u)
passed_alike s u all = record { events_are = ap (drop 1) all.events_are; due_is = refl; devices_are = all.devices_are }

due_alike : (s u : AuditState) → AlikeStates s u → (d e : Due) → d ≡ e → AlikeStates (record s { due = d }) (record u { due = e })
due_alike s u all d e same = record { events_are = all.events_are; due_is = same; devices_are = all.devices_are }

module _ (s u : AuditState) (all : AlikeStates s u) (line : ReportLine) where
  shown_alike : (w v : ReportLine) → w ≡ v → (t x : AuditState) → AlikeStates t x → AlikeMade (shown w line t) (shown v line x)
  shown_alike w v same t x is = if_alike (says w line) (says v line) (ap (λ (l : ReportLine). says l line) same) (Some t) None (Some x) None is tt

  in_device : (n : ℕ) (f g : AuditedDevice → Option AuditState) → ((a b : AuditedDevice) → Alike a b → AlikeMade (f a) (g b)) →
      AlikeMade (then_of (device_in s.devices n) f) (then_of (device_in u.devices n) g)
  in_device n f g go = then_alike (device_in s.devices n) (device_in u.devices n) (found_alike s.devices u.devices all.devices_are n) f g go

  -- One device

  module _ (a b : AuditedDevice) (is : Alike a b) where
    -- START
    start_made_alike : (path : ℕ) → AlikeMade (start_made s line path a) (start_made u line path b)
    start_made_alike path = grind (arith, shown_alike, number_same, start_same, passed_alike, changed_alike, history_alike)

    -- the command's end
    module _ (o p : OpenEntry) (going : going_of a.plans (replay a.plans a.empty a.history.items) o
        ≡ going_of b.plans (replay b.plans b.empty b.history.items) p) where
      shut : AlikeStates (changed s (record a { half = Closed })) (changed u (record b { half = Closed }))
      shut = changed_alike s u all (record a { half = Closed }) (record b { half = Closed }) (half_alike a b is Closed Closed refl)

      -- a program that is cut
      cuts : (more : ℕ) → IsFew more → AlikeStates
          (record (changed s (record a { history = reset_in_history a.history o.path more; half = cut_half a.half })) { due = ResetOf })
          (record (changed u (record b { history = reset_in_history b.history p.path more; half = cut_half b.half })) { due = ResetOf })
      cuts more few = grind (arith, due_alike, changed_alike, with_alike, reset_is_read o.path more few, half_same a b is)

      power_cuts : a.history.running ≡ Some o → b.history.running ≡ Some p → (more : ℕ) → IsFew more → AlikeStates
          (record (changed s (cut_by_power a o more)) { due = Powers (place_of s.devices a.number) })
          (record (changed u (cut_by_power b p more)) { due = Powers (place_of u.devices b.number) })
      power_cuts one two more few = grind (arith, due_alike, changed_alike, cut_in, cut, history_alike, cut_is_read, number_same, place_same)

      power_cut_alike : a.history.running ≡ Some o → b.history.running ≡ Some p → (k : ℕ) → AlikeMade (power_cut s a k o) (power_cut u b k p)
      power_cut_alike one two k = grind (arith, if_alike, power_cuts)

    end_made_alike : AlikeMade (end_made s line a a.history.running) (end_made u line b b.history.running)
    end_made_alike = grind (arith, both, end_same, if_alike, due_alike, shut, number_same)

    -- acts
    act_alike : (act : Act) (due : Due) → AlikeStates (act_made s a act due) (act_made u b act due)
    act_alike act due = grind (arith, due_alike, changed_alike, history_alike, act_is_read act)

    harden_alike : (t : ℕ) (due : Due) → AlikeMade (harden_made s a t due) (harden_made u b t due)
    harden_alike t due = grind (arith, if_alike, state_same a b is, act_alike (Harden t) due)

    loosen_alike : (t : ℕ) (did : Did) → AlikeMade (loosen_made s a t did) (loosen_made u b t did)
    loosen_alike t (Ended e) = search (arith, if_alike, may_loosen_same, act_alike)
    loosen_alike t did = tt

    loss_alike : AlikeMade (loss_made s line a) (loss_made u line b)
    loss_alike =
        if_alike (has_loose a && says (loss_line a) line) (has_loose b && says (loss_line b) line)
        (ap (λ (l : Bool). l && says (loss_line a) line) (loose_same a b is) ∙ ap (λ (l : ReportLine). has_loose b && says l line) (loss_same a b is)) _ _ _ _
        (subst (λ (n : ℕ). AlikeStates (act_made s a CfwLost (Losses a.number)) (act_made u b CfwLost (Losses n))) (number_same a b is)
        (act_alike CfwLost (Losses a.number))) tt

    power_loss_alike : AlikeMade (power_loss s line a) (power_loss u line b)
    power_loss_alike = grind (arith, if_alike, loose_same, loss_same, due_alike, number_same, place_same)

    reset_alike : (path : ℕ) → AlikeMade (Some (passed (changed s (record a { history = reset_in_history a.history path 0 }))))
        (Some (passed (changed u (record b { history = reset_in_history b.history path 0 }))))
    reset_alike path = grind (arith, passed_alike, changed_alike, history_alike, reset_is_read path 0 tt)

    half_made_alike : (h k : HalfWrite) → h ≡ k → (due : Due) → AlikeMade (Some (record (changed s (record a { half = h })) { due = due }))
        (Some (record (changed u (record b { half = k })) { due = due }))
    half_made_alike h k same due = due_alike _ _ (changed_alike s u all (record a { half = h }) (record b { half = k }) (half_alike a b is h k same)) due due refl

-- Lines of work

back_half_same : (a b : AuditedDevice) → Alike a b → (answer : BackAnswer) → back_half a answer ≡ back_half b answer
back_half_same a b is answer = grind (arith, half_same)

module _ (s u : AuditState) (all : AlikeStates s u) where
  work_alike : (line : ReportLine) (a b : AuditedDevice) → Alike a b → AlikeMade (work_made s line a) (work_made u line b)
  work_alike (lines.End e) a b is = end_made_alike s u all (lines.End e) a b is
  work_alike (lines.Half path d t) a b is = half_made_alike s u all (lines.Half path d t) a b is OfCommand OfCommand refl (Behind true Halved)
  work_alike (lines.Back d answer) a b is =
      half_made_alike s u all (lines.Back d answer) a b is (back_half a answer) (back_half b answer) (back_half_same a b is answer)
      (Behind true (Worked (is_last answer)))
  work_alike line a b is = passed_alike s u all

  resets_alike : (line : ReportLine) (path : ℕ) (a b : AuditedDevice) → Alike a b → AlikeMade (reset_made s line path a) (reset_made u line path b)
  resets_alike line path a b is = grind (arith, both, reset_alike, if_alike, cuts)

  -- Orders

  done_alike : (line : ReportLine) (e : EventLine) → AlikeMade (done_order s e) (done_order u e)
  done_alike line e = grind (arith, if_alike, passed_alike, in_device, any_lent_same, back_all, changed_alike)

  order_alike : (line : ReportLine) (e : EventLine) → AlikeMade (order_made s line e) (order_made u line e)
  order_alike (lines.Order order order_answers.Done) e = done_alike (lines.Order order order_answers.Done) e
  order_alike (lines.Loose d (loose.Harden t)) e =
      let line = lines.Loose d (loose.Harden t) in
      in_device s u all line d (λ a. harden_made s a t Next) (λ a. harden_made u a t Next) (λ a b is. harden_alike s u all line a b is t Next)
  order_alike (lines.Loose d (loose.Lost count id)) e =
      let line = lines.Loose d (loose.Lost count id) in
      in_device s u all line d (loss_made s line) (loss_made u line) (λ a b is. loss_alike s u all line a b is)
  order_alike line e = passed_alike s u all

  powers_alike : (line : ReportLine) → AlikeMade (power_made s line) (power_made u line)
  powers_alike (lines.Over p d n (how.Cut k)) =
      let line = lines.Over p d n (how.Cut k) in
      in_device s u all line d (λ a. then_of a.history.running (power_cut s a k)) (λ a. then_of a.history.running (power_cut u a k))
      (λ a b is. both a b is (λ r q. AlikeMade (then_of r (power_cut s a k)) (then_of q (power_cut u b k))) tt
      (λ o q one two going. power_cut_alike s u all line a b is o q going one two k))
  powers_alike (lines.Loose d answer) =
      let line = lines.Loose d answer in
      in_device s u all line d (power_loss s line) (power_loss u line) (λ a b is. power_loss_alike s u all line a b is)
  powers_alike line = record { events_are = ap (drop 1) all.events_are; due_is = refl; devices_are = dark_all s.devices u.devices all.devices_are }

  -- An event's line

  next_alike : (line : ReportLine) (events : List EventLine) → AlikeMade (next_made s line events) (next_made u line events)
  next_alike line events = grind (arith, due_alike, in_device, start_made_alike, work_alike, resets_alike, powers_alike, order_alike)

  -- The device at whose work the report is

  number_at_work : worker_number s ≡ worker_number u
  number_at_work = ap (λ (l : List EventLine). then_of (first_event l) worker_of) all.events_are

  pub worker_alike : AlikeFound (worker s) (worker u)
  worker_alike = grind (arith, number_at_work, found_alike)

behind_alike : (s u : AuditState) → AlikeStates s u → (a b : AuditedDevice) → Alike a b → (did : Did) → AlikeStates (behind_work s a did) (behind_work u b did)
behind_alike s u all a b is did = grind (arith, event_over_same, passed_alike, due_alike)

module _ (s u : AuditState) (all : AlikeStates s u) where
  settled_at : (x y : Option AuditedDevice) → AlikeFound x y → (did : Did) → AlikeStates (settled_in s did x) (settled_in u did y)
  settled_at x y is did = grind (arith, over_same, due_alike, changed_alike, worked_alike, behind_alike)

  pub settled_alike : (did : Did) → AlikeStates (settled s did) (settled u did)
  settled_alike did = settled_at (worker s) (worker u) (worker_alike s u all) did

  over_wanted : (line wanted : ReportLine) (a b : AuditedDevice) → Alike a b →
      AlikeMade (shown wanted line (behind_work s a Halved)) (shown wanted line (behind_work u b Halved))
  over_wanted line wanted a b is = shown_alike s u all line wanted wanted refl _ _ (behind_alike s u all a b is Halved)

  first_order : (line : ReportLine) (e : Option EventLine) → AlikeMade (then_of e (order_made s line)) (then_of e (order_made u line))
  first_order line e = grind (arith, order_alike)

  due_made_alike : (line : ReportLine) (due : Due) → AlikeMade (due_made s line due) (due_made u line due)
  due_made_alike line due =
      grind (arith, next_alike, shown_alike, due_alike, then_alike, worker_alike, over_wanted, first_order, passed_alike, powers_alike, if_alike, both)

placed_same : (t v : AuditState) → AlikeStates t v → (line : ReportLine) → in_state t line ≡ in_state v line
placed_same t v all line = grind (arith, outlines_same)

module _ (s u : AuditState) (all : AlikeStates s u) (line : ReportLine) where
  of_work_same : (more : Bool) → is_of_work more (worker_number s) line ≡ is_of_work more (worker_number u) line
  of_work_same more = ap (λ (w : Option ℕ). is_of_work more w line) (number_at_work s u all)

  legal_at_work : (did : Did) → holds (worker s) (is_legal did) ≡ holds (worker u) (is_legal did)
  legal_at_work did = holds_same (worker s) (worker u) (worker_alike s u all) (is_legal did) (λ a b is. legal_same a b is did)

  behind_made_alike : (more : Bool) (did : Did) → AlikeMade (behind_made s line more did) (behind_made u line more did)
  behind_made_alike more did = grind (arith, settled_alike, if_alike, of_work_same, then_alike, worker_alike, legal_at_work, harden_alike, loosen_alike, due_made_alike)

  made_in_alike : (due : Due) → AlikeMade (made_in s line due) (made_in u line due)
  made_in_alike (Behind more did) = behind_made_alike more did
  made_in_alike due = due_made_alike s u all line due

  stands_same : (due : Due) → s.due ≡ due → u.due ≡ due → stands_in s line due ≡ stands_in u line due
  stands_same (Behind more did) one two = grind (arith, of_work_same, placed_same, settled_alike)
  stands_same due one two = grind (arith, outlines_same)

  made_alike : AlikeMade (made s line) (made u line)
  made_alike = subst (λ (d : Due). AlikeMade (made_in s line s.due) (made_in u line d)) all.due_is (made_in_alike s.due)

  stand_same : stands s line ≡ stands u line
  stand_same = stands_same s.due refl (sym all.due_is) ∙ ap (stands_in u line) all.due_is

  by_verdict : (c d : Bool) → c ≡ d → (x y : Option AuditState) → AlikeMade x y → (v : AuditState) → (if d then or_history y else Err Place) ≡ Ok v →
      (t : AuditState) × ((if c then or_history x else Err Place) ≡ Ok t) × AlikeStates t v
  by_verdict c d same x y is v so = grind arith

  -- so of both it is judged well or of none
  pub judged_alike : (v : AuditState) → judged u line ≡ Ok v → (t : AuditState) × (judged s line ≡ Ok t) × AlikeStates t v
  judged_alike v so = by_verdict (stands s line) (stands u line) stand_same (made s line) (made u line) made_alike v so

-- and lines that lead on from the one lead on from the other
pub leads_alike : (lines : List ReportLine) (s u v : AuditState) → AlikeStates s u → LeadsBy u lines v → (t : AuditState) × LeadsBy s lines t × AlikeStates t v
leads_alike [] s u v all leads = (s, refl, subst (AlikeStates s) (sym leads) all)
leads_alike (line ∷ lines) s u v all leads = grind (arith, leads_alike lines, judged_alike)
